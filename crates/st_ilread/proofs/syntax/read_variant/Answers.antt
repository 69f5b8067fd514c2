use Rattle.std.proofs.Common.{refl, ap, ◌∙◌, Err}
use Rattle.std.proofs.lemmas.Result.{err_from_is_err_and}
use Rattle.st_ilread.proofs.Passed.{passed, no_true}
use Rattle.st_ilread.proofs.BodyTrees.{variant_none, variant_empty, variant_is}
use Rattle.st_ilread.proofs.syntax.read_variant.Goals as goal

pub returns-in_err-alternatives : goal.returns-in_err-alternatives
returns-in_err-alternatives c =
    let failed = err_from_is_err_and c.from_residual.result c.from_residual.ensures.1 in
    passed _ _ _ _ _ _ c.in_err-alternatives.ensures (λ n. variant_none _ n) (failed.1 ∙ ap Err failed.2)

pub returns-then-is_empty : goal.returns-then-is_empty
returns-then-is_empty c = (refl, variant_empty _ _ c.in_ok-alternatives.ensures (c.is_empty.ensures.0 c.if-is_empty.true))

pub returns : goal.returns
returns c = variant_is _ _ c.in_ok-alternatives.ensures (λ e. no_true c.if-is_empty.false (c.is_empty.ensures.1 e))
