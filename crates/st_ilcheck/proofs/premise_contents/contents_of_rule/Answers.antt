use Rattle.st_ilcheck.proofs.ContentsLemmas.{rule-contents}
use Rattle.st_ilcheck.proofs.premise_contents.contents_of_rule.Goals as goal

pub returns : goal.returns
returns c =
    rule-contents c.as_slice.result.now c.args.rule.now.conclusion c.as_slice-2.result.now c.args.rule.now.premises c.in_ok-conclusion.conclusion c.in_ok-premises.premises c.in_ok-all.all
    c.as_slice.ensures c.as_slice-2.ensures c.in_ok-conclusion.ensures c.in_ok-premises.ensures c.in_ok-all.ensures
