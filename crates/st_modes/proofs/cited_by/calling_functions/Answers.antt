use Rattle.std.proofs.Common.{ap, sym, ◌∙◌, subst, take, ◌++◌, ◌∷◌, []}
use Rattle.std.proofs.lemmas.List.{take_more, take_all}
use Rattle.st_modes.specs.inner.CitedBy.{AreCalling}
use Rattle.st_modes.proofs.cited_by.calling_functions.Goals as goal

pub loop-definition-preserved : goal.loop-definition-preserved
loop-definition-preserved c =
    let defs = c.args.defs.now in
    let i = c.loop-definition.definition-index in
    let d = c.definition-item.result in
    subst (λ z. AreCalling z c.add_calling.new.found.entries) (sym (take_more defs i d c.loop-definition-test.true ∙ ap (λ z. take i defs ++ z ∷ []) (sym c.definition-item.is)))
    (c.in_ok-add_calling.ensures (take i defs) c.loop-definition.invariant)

pub returns : goal.returns
returns c =
    subst (λ z. AreCalling z c.loop-definition.found.entries) (take_all c.loop-definition.definition-index c.args.defs.now c.loop-definition-test.false) c.loop-definition.invariant
