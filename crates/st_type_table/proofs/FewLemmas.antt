-- Lists that can be counted.
use Rattle.std.proofs.Common.{◌≡◌, ◌≢◌, ◌<◌, ◌+◌, sym, ap, ◌∙◌, subst, Some, arith, inl, inr, ◌⊎◌, ℕ, List}
use Rattle.std.specs.Prelude.{slice_get}
use Rattle.st_il.specs.declared.definition.SyntaxDef.{SyntaxDef}
use Rattle.st_type_table.specs.Breach.{HasFewParts}
use Rattle.st_type_table.proofs.GraphLemmas.{same_position}
use Rattle.st_type_table.proofs.PartLemmas.{same-item}

pub few-next : (defs : List SyntaxDef) (at : ℕ) (d : SyntaxDef) → slice_get defs at ≡ Some d → HasFewParts d.body
    → ((i : ℕ) → i < at → (x : SyntaxDef) → slice_get defs i ≡ Some x → HasFewParts x.body) → (i : ℕ) → i < at + 1 → (x : SyntaxDef) → slice_get defs i ≡ Some x → HasFewParts x.body
few-next defs at d e few before i h x g = by (same_position i at)
  where
    by : (i ≡ at) ⊎ (i ≢ at) → HasFewParts x.body
    by (inl q) = subst (λ z. HasFewParts z.body) (same-item defs at d x e (ap (slice_get defs) (sym q) ∙ g)) few
    by (inr n) = before i (omega (arith, h, n)) x g
