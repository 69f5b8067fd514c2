-- Atoms as values: their names and their order.
use Rattle.std.proofs.Common.{◌≡◌, ℕ, List, [], ap, ◌∙◌, sym, refl}
use Rattle.std.specs.Ordering.{nat_cmp, ordering_then}
use Rattle.std.specs.Cmp.Lexicographic.{slice_cmp}
use Rattle.std.specs.declared.cmp.Ordering.{Ordering}
use Rattle.std.specs.declared.cmp.Ordering.TheVariants.{Less, Equal, Greater}
use Rattle.st_il.specs.declared.value.Value.{Value, out-Value, fold_out-Value, map-Value}
use Rattle.st_il.specs.declared.value.Value.TheOpen.{Value-F}
use Rattle.st_il.specs.declared.value.Value.TheVariants.{Case, outs-Case}
use Rattle.st_il.specs.Order.{Compares, compare_at, level_cmp, value_cmp, values_cmp}
use Rattle.st_runs.specs.Transcript.{atom_term}

-- an atom has one name
pub atom_name : (one other : List ℕ) → Case one [] ≡ Case other [] → one ≡ other
atom_name one other e =
    let layers : ◌≡◌ {A = Value-F Value} (Value-F.Case one []) (Value-F.Case other []) = sym (outs-Case one []) ∙ ap out-Value e ∙ outs-Case other [] in
    cc

then_equal : (o : Ordering) → ordering_then o Equal ≡ o
then_equal Less = refl
then_equal Equal = refl
then_equal Greater = refl

-- atoms compare as their names do
pub value_cmp-atoms : (one other : List ℕ) → value_cmp (Case one []) (Case other []) ≡ slice_cmp nat_cmp one other
value_cmp-atoms one other =
    ap (λ f. f (Case other [])) (fold_out-Value Compares compare_at (Case one []))
    ∙ ap (λ level. compare_at (map-Value Value Compares value_cmp level) (Case other [])) (outs-Case one [])
    ∙ ap (λ level. level_cmp (λ (part : Compares). part) (Value-F.Case one []) level) (outs-Case other [])
    ∙ then_equal (slice_cmp nat_cmp one other)

pub values_cmp-atoms : (one other : List ℕ) → values_cmp (atom_term one) (atom_term other) ≡ slice_cmp nat_cmp one other
values_cmp-atoms one other = then_equal (value_cmp (Case one []) (Case other [])) ∙ value_cmp-atoms one other
