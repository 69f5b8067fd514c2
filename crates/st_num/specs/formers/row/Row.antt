-- How a row holds its elements, so that a type may reach itself through a row.
use mathlib.Core.Path.{◌≡◌, refl, sym}
use mathlib.Core.List.{List, []}
use mathlib.Core.Former.{Former, this, list, via, children}
use base.Stored.{code_map}
use denote.RattleType.{RattleType}
use denote.HoleLaws.{Alike}
use denote.HolePlaces.{Recodes, struct_places, laid}
use denote.Hole.Carrier.{listed, list-listed}
use denote.Hole.Fix.{over}
use denote.Param.Weighed.{Weighed, w_list}
use denote.Model.Placed.{view_places}
use Rattle.std.specs.formers.vec.Vec as vectors
use Rattle.std.specs.declared.alloc.Global.{Global}
use Rattle.std.specs.contracts.alloc.Global as heap
use Rattle.std.specs.contracts.impls.GlobalAllocator.TheImpl.{ghosts}
use Rattle.st_num.specs.declared.row.Row.TheInside.{Inside}
use Rattle.st_num.specs.declared.row.Row.TheView.{view, invariant}
use Rattle.st_num.specs.contracts.row.Row as contract
use Rattle.st_num.specs.contracts.row.Row.TheInside as inside

-- what a row holds: a list of values of another type
abbrev pub the_former : Former {0} → Former {0}
the_former held = list held

-- a row weighs as the list of what it holds
abbrev pub the_weighed : {held : Former {0}} → Weighed held → Weighed (the_former held)
the_weighed weight = w_list weight

-- the row that holds nothing
pub the_empty : List ⊥
the_empty = []

-- the elements of a row, as a list
abbrev pub the_items : (X : Type 0) → List X → List X
the_items X elements = elements

-- the elements of a row are the list of what it holds
pub the_items_listed : (X : Type 0) (elements : List X) → listed _ (children (the_former this) X elements) ≡ the_items X elements
the_items_listed X elements = list-listed X elements

-- the one field, a vector
abbrev vector_field : Former {0}
vector_field = via (vectors.the_former this Global) Inside (λ X row. row.items) (λ X items. record { items = items }) (λ X row. refl) (λ X items. refl)

module _ (R S : RattleType) (h : R.Denot → S.Denot) where
  -- where a map makes two types alike, it makes rows of them alike
  pub the_places : Alike R S h → Alike (contract.the_row R) (contract.the_row S) ((the_former this).map R.Denot S.Denot h)
  the_places alike = view_places vector_field (list this) view (λ X Y k u. refl) (λ X u. refl) R.Denot S.Denot h
      (contract.the_row R).coded (contract.the_row S).coded
      (invariant R.Denot) (invariant S.Denot) (λ u p q. refl) (λ u p q. refl) (λ u e. tt) (λ u e. tt)
      (over (inside.the_row R)) (over (inside.the_row S))
      (struct_places (inside.the_type R) (inside.the_type S) (vectors.mapped h, tt) _ (λ d. refl) refl
      (laid _ _ _ (vectors.the_places heap.the_row ghosts R S h alike), tt))

  -- where a map keeps the codes of values, it keeps those of their rows
  pub the_codes_placed : Recodes R S h → Recodes (contract.the_row R) (contract.the_row S) ((the_former this).map R.Denot S.Denot h)
  the_codes_placed same elements = sym (code_map R.coded.code S.coded.code h (λ x. sym (same x)) elements)
