use Rattle.std.proofs.Common.{arith}
use Rattle.st_text.proofs.CutOff.{OnErr-any, content-drop, written_cut}
use Rattle.st_text.proofs.print.print_content.Goals as goal

pub returns-in_err-print_byte-clause-err : goal.returns-in_err-print_byte-clause-err
returns-in_err-print_byte-clause-err c =
    OnErr-any _ _ (written_cut _ _ _ _ _ _ _ c.loop-byte.invariant (content-drop c.args.text.now c.loop-byte.byte-index (omega arith)) c.in_err-print_byte.ensures.err)
