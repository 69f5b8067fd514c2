-- The printed text of the orders in which the premises of rules are run.
use Rattle.std.specs.Prelude.{ℕ, Bool, List, ◌++◌, Option, Some, None, Result, Ok, Err, codes, decimal}
use Rattle.std.specs.List.{flat_map}
use Rattle.st_il.specs.declared.definition.Il.{Il}
use Rattle.st_il.specs.declared.definition.RelationDef.{RelationDef}
use Rattle.st_il.specs.declared.definition.RuleDef.{RuleDef}
use Rattle.st_semantics.specs.declared.unfit.Unordered.{Unordered}
use Rattle.st_il.specs.Names.{Name}
use Rattle.st_il.specs.Definitions.{relations, rules_of}
use Rattle.st_semantics.specs.Directions.{direction}
use Rattle.st_semantics.specs.Marks.{full_name}
use Rattle.st_semantics.specs.OrderOf.{order_of}

-- the numbers of premises, with a space in front of each
abbrev pub numbers_text : List ℕ → List ℕ
numbers_text numbers = flat_map (λ (number : ℕ). codes " " ++ decimal number) numbers

-- the variable that is in the way, or a dash where there is none
abbrev pub variable_text : Option Name → List ℕ
variable_text None = codes "-"
variable_text (Some name) = name

-- an order, by the numbers of the premises; or the mark of a rule without one, with the premise and
-- the variable that are in the way
abbrev pub order_text : Result (List ℕ) Unordered → List ℕ
order_text (Ok numbers) = numbers_text numbers
order_text (Err fault) =
    codes " U2 " ++ decimal fault.premise ++ codes " " ++ variable_text fault.variable

-- the line of a rule: its full name, and the order of its premises
abbrev pub rule_line : Il → RuleDef → List ℕ
rule_line il rule =
    codes "  " ++ full_name rule ++ codes ":" ++ order_text (order_of il rule) ++ codes "\n"

-- the lines of a relation, by its direction: it has none, or the lines of its rules are behind it
abbrev pub lines_by : Il → RelationDef → Option (List Bool) → List ℕ
lines_by il relation None = relation.name ++ codes " U1\n"
lines_by il relation (Some inputs) =
    relation.name ++ codes " directed\n" ++ flat_map (rule_line il) (rules_of il relation.name)

-- the lines of a relation
abbrev pub relation_lines : Il → RelationDef → List ℕ
relation_lines il relation = lines_by il relation (direction relation)

-- the lines of all relations, in the order of their declarations
abbrev pub orders_text : Il → List ℕ
orders_text il = flat_map (relation_lines il) (relations il)
