use Rattle.std.proofs.Common.{ap, ◌∙◌, Err}
use Rattle.std.proofs.lemmas.Result.{err_from_is_err_and}
use Rattle.st_ilread.proofs.Passed.{passed}
use Rattle.st_ilread.proofs.PremTrees.{goal_none, goal_is}
use Rattle.st_ilread.proofs.premise.read_goal.Goals as goal

pub returns-in_err-relation : goal.returns-in_err-relation
returns-in_err-relation c =
    let failed = err_from_is_err_and c.from_residual.result c.from_residual.ensures.1 in
    passed _ _ _ _ _ _ c.in_err-relation.ensures (λ n. goal_none _ n) (failed.1 ∙ ap Err failed.2)

pub returns : goal.returns
returns c = goal_is _ _ _ c.in_ok-relation.ensures
