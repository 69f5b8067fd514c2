use Rattle.std.proofs.Common.{ap, sym, ◌∙◌, subst, take, ◌++◌, ◌∷◌, []}
use Rattle.std.proofs.lemmas.List.{take_more, take_all}
use Rattle.st_modes.specs.inner.Citations.{HasRead}
use Rattle.st_modes.proofs.citations.citations_of.Goals as goal

pub loop-definition-preserved : goal.loop-definition-preserved
loop-definition-preserved c =
    let defs = c.as_slice-defs.result.now in
    let i = c.loop-definition.definition-index in
    let d = c.definition-item.result in
    subst (λ z. HasRead z c.read.new.citations) (sym (take_more defs i d c.loop-definition-test.true ∙ ap (λ z. take i defs ++ z ∷ []) (sym c.definition-item.is)))
    (c.in_ok-read.ensures (take i defs) c.loop-definition.invariant)

pub returns : goal.returns
returns c =
    subst (λ z. HasRead z c.loop-definition.citations) (take_all c.loop-definition.definition-index c.as_slice-defs.result.now c.loop-definition-test.false ∙ c.as_slice-defs.ensures) c.loop-definition.invariant
