use Rattle.std.proofs.Common.{ap, ◌∙◌, Err}
use Rattle.std.proofs.lemmas.Result.{err_from_is_err_and}
use Rattle.st_ilread.proofs.Passed.{passed}
use Rattle.st_ilread.proofs.PremTrees.{if_none, if_is}
use Rattle.st_ilread.proofs.premise.read_condition.Goals as goal

pub returns-in_err-exp : goal.returns-in_err-exp
returns-in_err-exp c =
    let failed = err_from_is_err_and c.from_residual.result c.from_residual.ensures.1 in
    passed _ _ _ _ _ _ c.in_err-exp.ensures (λ n. if_none _ n) (failed.1 ∙ ap Err failed.2)

pub returns : goal.returns
returns c = if_is _ _ c.in_ok-exp.ensures
