use Rattle.std.proofs.Common.{◌≡◌, ◌↔◌, ap, ◌∙◌, sym, subst, ℕ, List, Some, length, arith}
use Rattle.std.specs.Prelude.{slice_get}
use Rattle.std.proofs.lemmas.List.{length-map}
use Rattle.std.proofs.lemmas.Option.{slice_get_within}
use Rattle.st_type_table.specs.inner.Graph.{Graph, LeadsAt, node_of}
use Rattle.st_type_table.proofs.PositionLemmas.{placed}
use Rattle.st_type_table.proofs.PartLemmas.{item-at, Returns-other}
use Rattle.st_type_table.proofs.parts.check_again.Goals as goal

pub leading_to-requires : goal.leading_to-requires
leading_to-requires c =
    let d = item-at c.args.defs.now c.args.at c.requires.within in
    let r = placed c.args.defs.now d.0.name c.args.first (c.requires.first d.0 d.2) in
    let h = slice_get_within c.args.defs.now c.args.first r.definition r.there in
    let l = ap length (c.as_slice.ensures ∙ c.requires.survey.graph) in
    let m = length-map c.args.defs.now (node_of c.args.defs.now) in
    omega (arith, h, l, m)

pub check_numbered-requires-clause-numbers : goal.check_numbered-requires-clause-numbers
check_numbered-requires-clause-numbers c =
    λ d there. Returns-other c.args.defs.now c.as_slice-2.result.now 1 c.args.first d (c.requires.first d there)
    (subst (λ (g : Graph). (i : ℕ) → (slice_get c.as_slice-2.result.now i ≡ Some 1) ↔ LeadsAt g i c.args.first) (c.as_slice.ensures ∙ c.requires.survey.graph)
    (subst (λ (ns : List ℕ). (i : ℕ) → (slice_get ns i ≡ Some 1) ↔ LeadsAt c.as_slice.result.now i c.args.first) (sym c.as_slice-2.ensures) c.in_ok-numbers.ensures))
