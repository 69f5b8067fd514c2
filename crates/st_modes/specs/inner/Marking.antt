-- What is told of some relations, one after another.
use Rattle.std.specs.Prelude.{◌≡◌, List, map, Option, Some, None, All}
use Rattle.st_il.specs.declared.definition.Il.{Il}
use Rattle.st_il.specs.declared.definition.RelationDef.{RelationDef}
use Rattle.st_semantics.specs.declared.unfit.Unfit.{Unfit}
use Rattle.st_semantics.specs.Marks.{HasOwn, IsUnfit}
use Rattle.st_modes.specs.declared.marking.Own.{Own}
use Rattle.st_modes.specs.declared.marking.Told.{Told}
use Rattle.st_order.specs.Modes.{orders_in}
use Rattle.st_order.specs.Known.{all_now}
use Rattle.st_modes.specs.inner.Sifted.{Sifted}

-- the mark that a relation has of its own, or it has none
abbrev pub IsOwn : Il → RelationDef → Option Unfit → Type 0
IsOwn il relation None = IsUnfit il relation → ⊥
IsOwn il relation (Some mark) = HasOwn il relation mark

-- the mark that stands beside a relation is its own
abbrev pub HasItsOwn : Il → Own → Type 0
HasItsOwn il own = IsOwn il own.relation.now own.mark

-- the relations beside which marks stand
abbrev pub relations_told : List Own → List RelationDef
relations_told owns = map (λ (own : Own). own.relation.now) owns

-- the orders of the rules of these relations, their own marks, and those that have one
pub record HasTold (il : Il) (rs : List RelationDef) (told : Told) : Type 0 where
  pub orders : told.orders ≡ map (orders_in il) rs
  pub relations : relations_told told.own ≡ rs
  pub own : All (HasItsOwn il) told.own
  pub unfit : Sifted (IsUnfit il) rs (all_now told.unfit)
