-- What the call that orders the premises of a rule answers.
use Rattle.std.specs.Prelude.{◌≡◌, ◌<◌, ◌^◌, ℕ, true, List, length, Option, Some, None, Result, Ok, Err, slice_get, option_and_then}
use Rattle.st_il.specs.declared.definition.Il.{Il}
use Rattle.st_il.specs.declared.definition.RelationDef.{RelationDef}
use Rattle.st_il.specs.declared.definition.RuleDef.{RuleDef}
use Rattle.st_semantics.specs.declared.unfit.Unordered.{Unordered}
use Rattle.st_il.specs.Definitions.{relations, rules_of}
use Rattle.st_semantics.specs.Orders.{is_order}
use Rattle.st_order.specs.declared.fault.OrderFault.{OrderFault}
use Rattle.st_order.specs.declared.fault.OrderFault.TheVariants as fault

-- the rule of a number of the relation of a number, both counted from 0
abbrev pub rule_at : Il → ℕ → ℕ → Option RuleDef
rule_at il relation rule =
    option_and_then (λ (r : RelationDef). slice_get (rules_of il r.name) rule)
    (slice_get (relations il) relation)

-- there is a rule, of fewer than 2^32 premises
abbrev pub IsRule : Option RuleDef → Type 0
IsRule None = ⊥
IsRule (Some rule) = length rule.premises < 2 ^ 32

-- the answer is this order, or the premise and the variable that are in the way, unless memory ran
-- out
abbrev pub IsAnswer : Result (List ℕ) Unordered → Result (List ℕ) OrderFault → Type 0
IsAnswer order (Ok numbers) = order ≡ Ok numbers
IsAnswer order (Err (fault.Unordered premise variable)) =
    order ≡ Err (record { premise = premise; variable = variable })
IsAnswer order (Err fault.Memory) = Unit {0}

-- What is answered is an executable order of the rule, and there is none where it is refused.
abbrev pub IsExact : Il → RuleDef → Result (List ℕ) OrderFault → Type 0
IsExact il rule (Ok numbers) = is_order il rule numbers ≡ true
IsExact il rule (Err (fault.Unordered premise variable)) =
    (numbers : List ℕ) → is_order il rule numbers ≡ true → ⊥
IsExact il rule (Err fault.Memory) = Unit {0}
