use Rattle.std.proofs.Common.{List, sym, ap, ◌∙◌, subst, length}
use Rattle.std.specs.Prelude.{MatchOption}
use Rattle.st_il.specs.declared.ty.Ty.{Ty}
use Rattle.st_type_table.specs.Cases.{HasCases, operands_of}
use Rattle.st_type_table.specs.inner.TypedLevels.{HasOperands}
use Rattle.st_any_table.specs.inner.Flats.{cases_at, AreFlats, AreFilled}
use Rattle.st_any_table.proofs.PairsLemmas.{operands-exact}
use Rattle.st_type_table.specs.inner.Graph.{AreRanks}
use Rattle.st_any_table.specs.inner.Heads.{head_graph}
use Rattle.st_any_table.proofs.table.AnyTable.operands.Goals as goal

pub flat_of_type-requires-clause-heads : goal.flat_of_type-requires-clause-heads
flat_of_type-requires-clause-heads c = subst (AreRanks (head_graph c.self.inside.survey.defs)) (sym c.as_slice-heads.ensures) c.self.invariant.heads

pub flat_of_type-requires-clause-size : goal.flat_of_type-requires-clause-size
flat_of_type-requires-clause-size c = ap length c.as_slice-flats.ensures ∙ c.self.invariant.flats.size

pub flat_of_type-requires-clause-filled : goal.flat_of_type-requires-clause-filled
flat_of_type-requires-clause-filled c = subst (AreFilled c.self.inside.survey.defs) (sym c.as_slice-flats.ensures) c.self.invariant.filled

pub returns-in-Some : goal.returns-in-Some
returns-in-Some c =
    let defs = c.self.inside.survey.defs in
    let cases = c.self.inside.survey.cases in
    subst (λ d. MatchOption c.first_operands.result ((operands : List Ty) → HasOperands d c.args.ty.now c.args.tag.now operands → ⊥) (λ operands. HasOperands d c.args.ty.now c.args.tag.now operands.now)) c.self.view_is
    (operands-exact defs cases c.args.ty.now c.args.tag.now c.in-Some.numbers.now c.first_operands.result
    (c.in-Some.ensures cases (subst (λ f. AreFlats defs f cases) (sym c.as_slice-flats.ensures) c.self.invariant.flats))
    (c.first_operands.ensures ∙ (λ i. operands_of (cases_at (c.as_slice-cases.ensures i) (c.as_slice.ensures i)) c.args.tag.now)))

pub returns-in-None : goal.returns-in-None
returns-in-None c = λ operands h. c.in-None.ensures h.cases (subst (λ d. HasCases d c.args.ty.now h.cases) (sym c.self.view_is) h.has)
