use Rattle.std.proofs.Common.{ap, ◌∙◌, Err}
use Rattle.std.proofs.lemmas.Result.{err_from_is_err_and}
use Rattle.st_ilread.proofs.Passed.{passed}
use Rattle.st_ilread.proofs.BodyTrees.{record_none, record_is}
use Rattle.st_ilread.proofs.syntax.read_record.Goals as goal

pub returns-in_err-fields : goal.returns-in_err-fields
returns-in_err-fields c =
    let failed = err_from_is_err_and c.from_residual.result c.from_residual.ensures.1 in
    passed _ _ _ _ _ _ c.in_err-fields.ensures (λ n. record_none _ n) (failed.1 ∙ ap Err failed.2)

pub returns : goal.returns
returns c = record_is _ _ c.in_ok-fields.ensures
