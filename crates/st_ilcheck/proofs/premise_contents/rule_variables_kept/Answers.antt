use Rattle.std.proofs.Common.{◌∙◌}
use Rattle.st_ilcheck.specs.Variables.{all_occurrences}
use Rattle.st_ilcheck.proofs.ContentsLemmas.{all-occurrences}
use Rattle.st_ilcheck.proofs.KindLemmas.{listed-kept}
use Rattle.st_ilcheck.proofs.premise_contents.rule_variables_kept.Goals as goal

pub returns : goal.returns
returns c =
    listed-kept c.as_slice-listed.result.now c.args.rule.now.variables c.as_slice.result.now (all_occurrences c.args.rule.now.conclusion c.args.rule.now.premises) c.are_listed.result
    c.as_slice-listed.ensures (c.as_slice.ensures ∙ all-occurrences c.args.rule.now.conclusion c.args.rule.now.premises c.in_ok-found.found c.in_ok-found.ensures) c.are_listed.ensures
