use Rattle.std.proofs.Common.{ap, ◌∙◌}
use Rattle.st_el.specs.declared.definition.DefNode.TheVariants.{Syntax}
use Rattle.st_elab_def.proofs.Knows.{whole-first, whole-again, content-new}
use Rattle.st_elab_def.proofs.declarations.declare.Goals as goal

pub returns-then-new-clause-new : goal.returns-then-new-clause-new
returns-then-new-clause-new c = λ before knows.
    let arm = c.in-Syntax in
    whole-first before c.args.declared.now knows arm.name arm.body c.args.node.now (arm.is ∙ ap (λ f. Syntax arm.name f arm.body) c.in-None.is)
    c.in_ok-new-in-None.new c.has-in_part.result c.in_ok-new-in-None.ensures.added c.has-in_part.ensures c.if-new.true

pub returns-else-new-clause-new : goal.returns-else-new-clause-new
returns-else-new-clause-new c = λ before knows.
    let arm = c.in-Syntax in
    whole-again before c.args.declared.now knows arm.name arm.body c.args.node.now (arm.is ∙ ap (λ f. Syntax arm.name f arm.body) c.in-None.is)
    c.in_ok-new-in-None.new c.in_ok-new-in-None.ensures.added c.if-new.false

pub returns-in-Rule-clause-new : goal.returns-in-Rule-clause-new
returns-in-Rule-clause-new c = λ before knows. content-new before c.args.node.now c.in-Rule.is

pub returns-in-Rule-2-clause-new : goal.returns-in-Rule-2-clause-new
returns-in-Rule-2-clause-new c = λ before knows. content-new before c.args.node.now c.in-Rule.is
