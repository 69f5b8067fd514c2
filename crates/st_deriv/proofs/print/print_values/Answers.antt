use Rattle.st_text.proofs.CutOff.{OnErr-any, cut_off_first, cut_off_rest}
use Rattle.st_deriv.proofs.Printing.{OnErr-map, values_first}
use Rattle.st_deriv.proofs.print.print_values.Goals as goal

pub returns-in_err-print_value-clause-err : goal.returns-in_err-print_value-clause-err
returns-in_err-print_value-clause-err c =
    OnErr-any _ _ (cut_off_first _ _ _ _ _ (values_first _ _ _ c.in-Some.ensures.cases.0) c.in_err-print_value.ensures.err)

pub returns-clause-err : goal.returns-clause-err
returns-clause-err c =
    OnErr-map c.print_behind.result _ _ (λ cut. cut_off_rest _ _ _ _ _ _ c.in_ok-print_value.ensures.ok (values_first _ _ _ c.in-Some.ensures.cases.0) cut) c.print_behind.ensures.err
