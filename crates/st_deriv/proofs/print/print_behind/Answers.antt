use Rattle.std.proofs.Common.{[], ◌∷◌, refl, arith}
use Rattle.st_text.specs.Text.{text}
use Rattle.st_text.proofs.CutOff.{OnErr-any, cut_off_rest, written_cut}
use Rattle.st_deriv.specs.LineText.{value_tree}
use Rattle.st_deriv.proofs.Printing.{behind_drop}
use Rattle.st_deriv.proofs.print.print_behind.Goals as goal

pub returns-in_err-print_value-clause-err : goal.returns-in_err-print_value-clause-err
returns-in_err-print_value-clause-err c =
    let here = cut_off_rest _ _ _ (32 ∷ text (value_tree c.value-item.result)) (32 ∷ []) _ c.in_ok-push.ensures.items refl c.in_err-print_value.ensures.err in
    let next = behind_drop c.args.values.now c.loop-value.value-index _ (omega arith) c.value-item.is in
    OnErr-any _ _ (written_cut _ _ _ _ _ _ _ c.loop-value.invariant next here)
