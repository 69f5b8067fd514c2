-- The rules of relations, under the names of these, and their orders.
use Rattle.std.specs.Prelude.{◌≡◌, ◌<◌, ◌^◌, ℕ, List, length, All, Option}
use Rattle.std.specs.Borrow.{Bor}
use Rattle.std.specs.Result.{result_ok}
use Rattle.st_il.specs.declared.definition.Il.{Il}
use Rattle.st_il.specs.declared.definition.RuleDef.{RuleDef}
use Rattle.st_modes.specs.inner.Citations.{rules_under}
use Rattle.st_il.specs.Names.{Name}
use Rattle.st_il.specs.Definitions.{rules_of}
use Rattle.st_semantics.specs.OrderOf.{order_of}

-- under each name stand the rules of the relation of that name
abbrev pub AreRules : Il → List (Bor (List ℕ) × List (Bor RuleDef)) → Type 0
AreRules il entries = (name : Name) → rules_under entries name ≡ rules_of il name

-- each rule has fewer than 2^32 premises
abbrev pub HaveFew : List RuleDef → Type 0
HaveFew rules = All (λ (rule : RuleDef). length rule.premises < 2 ^ 32) rules

-- the order of a rule, if it has one
abbrev pub order_of_rule : Il → RuleDef → Option (List ℕ)
order_of_rule il rule = result_ok (order_of il rule)
