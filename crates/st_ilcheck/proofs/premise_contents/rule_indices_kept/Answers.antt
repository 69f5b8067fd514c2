use Rattle.std.proofs.Common.{◌∙◌}
use Rattle.st_ilcheck.specs.Variables.{all_occurrences, all_indices}
use Rattle.st_ilcheck.proofs.ContentsLemmas.{all-occurrences, all-indices}
use Rattle.st_ilcheck.proofs.KindLemmas.{inside-kept}
use Rattle.st_ilcheck.proofs.premise_contents.rule_indices_kept.Goals as goal

pub returns : goal.returns
returns c =
    inside-kept c.as_slice-indices.result.now (all_indices c.args.rule.now.conclusion c.args.rule.now.premises) c.as_slice.result.now (all_occurrences c.args.rule.now.conclusion c.args.rule.now.premises) c.stay_inside.result
    (c.as_slice-indices.ensures ∙ all-indices c.args.rule.now.conclusion c.args.rule.now.premises c.in_ok-found.found c.in_ok-found.ensures)
    (c.as_slice.ensures ∙ all-occurrences c.args.rule.now.conclusion c.args.rule.now.premises c.in_ok-found.found c.in_ok-found.ensures) c.stay_inside.ensures
