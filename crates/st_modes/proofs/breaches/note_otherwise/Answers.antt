use Rattle.std.proofs.Common.{sym, subst, ap, ◌∙◌, ◌∷◌}
use Rattle.st_il.specs.declared.definition.IlDef.{IlDef}
use Rattle.st_semantics.specs.Variables.{have_otherwise}
use Rattle.st_order.specs.inner.Index.{names_in}
use Rattle.st_modes.specs.inner.Breaches.{AreDecided}
use Rattle.st_modes.proofs.BreachParts.{decided_more, decided_same}
use Rattle.st_modes.proofs.breaches.note_otherwise.Goals as goal

pub returns-then-not-has : goal.returns-then-not-has
returns-then-not-has c after are =
    subst (λ (d : IlDef). AreDecided (names_in c.args.decided.now.keys) (d ∷ after)) (sym c.in-Rule.is)
    (decided_same c.in-Rule.rule after (names_in c.args.decided.now.keys) (ap have_otherwise (sym c.as_slice.ensures) ∙ sym c.have_otherwise-has.ensures ∙ c.if-not-has.true) are)

pub returns-in_ok-add-in-Rule : goal.returns-in_ok-add-in-Rule
returns-in_ok-add-in-Rule c after are =
    subst (λ (d : IlDef). AreDecided (names_in c.add.new.names.keys) (d ∷ after)) (sym c.in-Rule.is)
    (decided_more c.in-Rule.rule after (names_in c.args.decided.now.keys) (names_in c.add.new.names.keys) (ap have_otherwise (sym c.as_slice.ensures) ∙ sym c.have_otherwise-has.ensures ∙ c.if-not-has.false) c.in_ok-add-in-Rule.ensures are)
