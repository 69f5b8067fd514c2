use Rattle.std.proofs.Common.{arith}
use Rattle.st_text.proofs.CutOff.{OnErr-any, written_step, written_cut, written_none}
use Rattle.st_deriv.proofs.Printing.{lines_drop}
use Rattle.st_deriv.proofs.print.print_lines.Goals as goal

pub returns-in_err-print_line-clause-err : goal.returns-in_err-print_line-clause-err
returns-in_err-print_line-clause-err c =
    let next = lines_drop c.args.lines.now c.loop-line.line-index _ (omega arith) c.line-item.is in
    OnErr-any _ _ (written_cut _ _ _ _ _ _ _ c.loop-line.invariant next c.in_err-print_line.ensures.err)

pub returns-in_err-push-clause-err : goal.returns-in_err-push-clause-err
returns-in_err-push-clause-err c =
    let next = lines_drop c.args.lines.now c.loop-line.line-index _ (omega arith) c.line-item.is in
    OnErr-any _ _ (written_none _ _ _ _ _ (written_step _ _ _ _ _ _ _ c.loop-line.invariant next c.in_ok-print_line.ensures.ok) c.in_err-push.ensures.items)
