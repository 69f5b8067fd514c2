use Rattle.st_ilcheck.proofs.ContentsLemmas.{clause-contents}
use Rattle.st_ilcheck.proofs.premise_contents.contents_of_clause.Goals as goal

pub returns : goal.returns
returns c =
    clause-contents c.as_slice.result.now c.args.clause.now.args c.args.clause.now.result c.as_slice-2.result.now c.args.clause.now.premises c.in_ok-arguments.arguments c.in_ok-given.given c.in_ok-premises.premises c.in_ok-expressions.expressions c.in_ok-all.all
    c.as_slice.ensures c.as_slice-2.ensures c.in_ok-arguments.ensures c.in_ok-given.ensures c.in_ok-premises.ensures c.in_ok-expressions.ensures c.in_ok-all.ensures
