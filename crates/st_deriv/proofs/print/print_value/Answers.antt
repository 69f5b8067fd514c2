use Rattle.st_text.proofs.CutOff.{OnErr-any, cut_off_behind}
use Rattle.st_deriv.proofs.Printing.{value_text}
use Rattle.st_deriv.proofs.print.print_value.Goals as goal

pub returns-in_err-print_quoted-clause-err : goal.returns-in_err-print_quoted-clause-err
returns-in_err-print_quoted-clause-err c =
    OnErr-any _ _ (cut_off_behind _ _ _ _ _ _ _ c.in_ok-extend_from_slice.ensures.items (value_text c.args.value.now c.tag_of.result.now c.tag_of.ensures) c.in_err-print_quoted.ensures.err)
