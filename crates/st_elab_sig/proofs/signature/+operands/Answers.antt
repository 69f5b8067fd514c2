use Rattle.std.proofs.Common.{rules, arith}
use Rattle.std.proofs.lemmas.Grind.{common_steps}
use Rattle.st_elab_sig.proofs.SignaturesLemmas.{holes_of-Seq, holes_of-Infix}
use Rattle.st_elab_sig.proofs.signature.+operands.Goals as goal

pub push_operands-returns-in-Seq : goal.push_operands-returns-in-Seq
push_operands-returns-in-Seq t c =
    rw (holes_of-Seq c.args.notation.now c.in-Seq.parts c.in-Seq.is) (search rules)

pub push_operands-returns-in_ok-push_operands-in-Infix : goal.push_operands-returns-in_ok-push_operands-in-Infix
push_operands-returns-in_ok-push_operands-in-Infix t c =
    rw (holes_of-Infix c.args.notation.now c.in-Infix.left c.in-Infix.field-1 c.in-Infix.right c.in-Infix.is)
    (grind (arith, common_steps))
