use Rattle.std.proofs.Common.{sym, ap, ap₂, ◌∙◌, ◌+◌, ◌++◌, replicate}
use Rattle.st_il.specs.Template.{holes}
use Rattle.st_semantics.proofs.HoleSums.{holes_joined, holes_divided, holes_step}
use Rattle.st_semantics.proofs.holes.+push_holes.Goals as goal

pub push_all_holes-loop-part-preserved : goal.push_all_holes-loop-part-preserved
push_all_holes-loop-part-preserved t c =
    holes_step c.args.parts.now c.loop-part.part-index c.part-item.result c.args.input c.loop-part.mask c.push_holes.new.mask _ c.loop-part-test.true c.part-item.is
    c.loop-part.invariant c.in_ok-push_holes.ensures

pub push_holes-returns-in_ok-push_holes-in-Infix-2 : goal.push_holes-returns-in_ok-push_holes-in-Infix-2
push_holes-returns-in_ok-push_holes-in-Infix-2 t c =
    c.in_ok-push_holes-in-Infix-2.ensures ∙ ap (λ z. z ++ replicate (holes c.get-in-Infix.result.now) c.args.input) c.in_ok-push_holes-in-Infix.ensures
    ∙ holes_joined c.args.mask.now (holes c.get.result.now) (holes c.get-in-Infix.result.now) c.args.input
    ∙ ap (λ n. c.args.mask.now ++ replicate n c.args.input)
    (ap₂ (λ left right. holes left + holes right) c.get.ensures c.get-in-Infix.ensures
    ∙ sym (holes_divided c.args.template.now c.in-Infix.left c.in-Infix.right c.in-Infix.field-1 c.in-Infix.is))
