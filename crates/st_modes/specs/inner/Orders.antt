-- The orders of several rules, and the first rule that has none.
use Rattle.std.specs.Prelude.{◌≡◌, ◌≢◌, ℕ, Bool, true, false, List, map, Option, Some, None, Err, All}
use Rattle.std.specs.Result.{result_ok}
use Rattle.st_il.specs.declared.definition.Il.{Il}
use Rattle.st_il.specs.declared.definition.RelationDef.{RelationDef}
use Rattle.st_il.specs.declared.definition.RuleDef.{RuleDef}
use Rattle.st_semantics.specs.declared.unfit.Unfit.{Unfit}
use Rattle.st_semantics.specs.declared.unfit.Unfit.TheVariants as unfit
use Rattle.st_semantics.specs.declared.unfit.Unordered.{Unordered}
use Rattle.st_il.specs.Definitions.{IsFirst}
use Rattle.st_semantics.specs.Directions.{direction}
use Rattle.st_semantics.specs.OrderOf.{order_of}
use Rattle.st_semantics.specs.Marks.{full_name, IsUnordered, AllOrdered, HasOwn}
use Rattle.st_modes.specs.declared.all_orders.Ordered.{Ordered}
use Rattle.st_order.specs.Modes.{orders_in}

-- the mark that was there, or else another one
abbrev pub first_mark : Option Unfit → Unfit → Option Unfit
first_mark None mark = Some mark
first_mark (Some before) mark = Some before

-- no order, whatever the rule
abbrev pub no_order : RuleDef → Option (List ℕ)
no_order rule = None

-- the mark by the first of some rules that has no order, or none
abbrev pub IsUnorderedMark : Il → List RuleDef → Option Unfit → Type 0
IsUnorderedMark il rules None = All (λ rule. IsUnordered il rule → ⊥) rules
IsUnorderedMark il rules (Some mark) =
    (rule : RuleDef) × (fault : Unordered) × IsFirst (IsUnordered il) rules rule
    × (order_of il rule ≡ Err fault)
    × (mark ≡ unfit.U2 (full_name rule) fault.premise fault.variable)

-- the orders of some rules, and the mark by the first that has none
pub record AreOrders (il : Il) (rules : List RuleDef) (found : Ordered) : Type 0 where
  pub orders : found.orders ≡ map (λ (rule : RuleDef). result_ok (order_of il rule)) rules
  pub mark : IsUnorderedMark il rules found.mark

-- without a direction there is no order
abbrev pub IsOrdered : Il → Bool → List RuleDef → Ordered → Type 0
IsOrdered il true rules found = AreOrders il rules found
IsOrdered il false rules found =
    (found.orders ≡ map no_order rules) × (found.mark ≡ Some unfit.U1)

-- U1 or U2, or else the relation is directed and all its rules have orders
abbrev pub HasOrderMark : Il → RelationDef → Option Unfit → Type 0
HasOrderMark il relation None = (direction relation ≢ None) × AllOrdered il relation.name
HasOrderMark il relation (Some mark) = HasOwn il relation mark

-- the orders of the rules of a relation
pub record HasOrders (il : Il) (relation : RelationDef) (found : Ordered) : Type 0 where
  pub orders : found.orders ≡ orders_in il relation
  pub mark : HasOrderMark il relation found.mark
