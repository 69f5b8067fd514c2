-- What is kept of the orders and the marks of an internal language.
use Rattle.std.specs.Prelude.{◌≡◌, ◌<◌, ◌^◌, ℕ, Bool, List, map, length, All, Option, option_and_then}
use Rattle.std.specs.List.{AllZip}
use Rattle.std.specs.Result.{result_ok}
use Rattle.st_il.specs.declared.definition.Il.{Il}
use Rattle.st_il.specs.declared.definition.RelationDef.{RelationDef}
use Rattle.st_il.specs.declared.definition.RuleDef.{RuleDef}
use Rattle.st_il.specs.Definitions.{relations, rules_in, rules_of}
use Rattle.st_semantics.specs.Directions.{direction}
use Rattle.st_semantics.specs.OrderOf.{order_of}
use Rattle.st_semantics.specs.Marks.{HasUnfit}
use Rattle.st_order.specs.declared.relation_modes.Modes.{Modes}

-- fewer than 2^32 definitions, and fewer than 2^32 premises in each rule
abbrev pub HasFew : Il → Type 0
HasFew il =
    (length il.defs < 2 ^ 32) × All (λ (r : RuleDef). length r.premises < 2 ^ 32) (rules_in il.defs)

-- the order of a rule, where its relation has a direction and the rule an order
abbrev pub order_in : Il → RelationDef → RuleDef → Option (List ℕ)
order_in il relation rule =
    option_and_then (λ (inputs : List Bool). result_ok (order_of il rule)) (direction relation)

-- the orders of the rules of a relation
abbrev pub orders_in : Il → RelationDef → List (Option (List ℕ))
orders_in il relation = map (order_in il relation) (rules_of il relation.name)

-- each relation has its mark, the first of U1 to U4, or none, and each of its rules its order
pub record AreModes (il : Il) (modes : Modes) : Type 0 where
  pub marks : AllZip (HasUnfit il) (relations il) modes.marks
  pub orders : modes.orders ≡ map (orders_in il) (relations il)
