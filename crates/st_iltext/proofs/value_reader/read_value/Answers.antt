use Rattle.std.proofs.Common.{refl, ap, ◌∙◌, Err}
use Rattle.std.proofs.lemmas.Result.{err_from_is_err_and}
use Rattle.st_iltext.proofs.ValueTexts.{text_no_value, text_too_high, passed_text}
use Rattle.st_iltext.proofs.value_reader.read_value.Goals as goal

pub returns-in_err-value : goal.returns-in_err-value
returns-in_err-value c =
    let failed = err_from_is_err_and c.from_residual-in_err-value.result c.from_residual-in_err-value.ensures.1 in
    passed_text _ _ _ _ _ (text_no_value _ _ c.in_ok-tree.ensures) c.in_err-value.ensures (failed.1 ∙ ap Err failed.2)

pub returns-then-not-is_within_height : goal.returns-then-not-is_within_height
returns-then-not-is_within_height c =
    (refl, text_too_high _ _ _ _ c.in_ok-tree.ensures c.in_ok-value.ensures c.is_within_height.ensures c.if-not-is_within_height.true)
