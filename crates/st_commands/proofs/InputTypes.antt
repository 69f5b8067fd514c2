-- The types of the inputs of a relation that is found by its number.
use Rattle.std.proofs.Common.{◌≡◌, sym, ◌∙◌, ap, ℕ, Bool, List, get_or, Some, None}
use Rattle.std.specs.Prelude.{find}
use Rattle.std.specs.Borrow.{Bor}
use Rattle.st_il.specs.declared.definition.Il.{Il}
use Rattle.st_il.specs.declared.definition.RelationDef.{RelationDef}
use Rattle.st_il.specs.declared.ty.Ty.{Ty}
use Rattle.st_order.specs.Known.{all_now}
use Rattle.st_il.specs.Names.{Name}
use Rattle.st_il.specs.Definitions.{relations, relation_named}
use Rattle.st_semantics.specs.Directions.{mask, inputs_by}
use Rattle.st_commands.specs.Searches.{AreInputTypes}
use Rattle.st_commands.specs.inner.Asking.{IsDeclared}
use Rattle.st_answers.specs.inner.Marking.{IsFirstNamed}
use Rattle.st_answers.proofs.MarkLemmas.{named_test, is_relation}

-- where there is none, no relation of the name is declared
pub not_declared : (il : Il) (refs : List (Bor RelationDef)) (name : Name) → all_now refs ≡ relations il → IsFirstNamed refs name None → IsDeclared il name → ⊥
not_declared il refs name all first (declared, found) =
    let none : relation_named il name ≡ None = ap (find (named_test name)) (sym all) ∙ first in
    absurd (cc)

-- the types at its inputs
pub are_types : (il : Il) (refs : List (Bor RelationDef)) (name : Name) (n : ℕ) (r : Bor RelationDef) (inputs : List Bool) (holes types : List Ty) → all_now refs ≡ relations il
    → IsFirstNamed refs name (Some n) → r ≡ get_or refs n r → inputs ≡ mask il name → holes ≡ r.now.holes → types ≡ inputs_by inputs holes → AreInputTypes il name types
are_types il refs name n r inputs holes types all first is mask_is holes_are types_are =
    (r.now, (is_relation il refs name n r all first is).0, types_are ∙ ap (λ m. inputs_by m holes) mask_is ∙ ap (inputs_by (mask il name)) holes_are)
