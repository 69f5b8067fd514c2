-- The order of a rule that has no premises.
use Rattle.std.proofs.Common.{◌≡◌, Bool, true, false, ℕ, List, [], ◌∷◌, length, Option, None, Result, Ok, if◌then◌else◌}
use Rattle.std.specs.List.{list_all, enumerate_from}
use Rattle.st_il.specs.declared.definition.Il.{Il}
use Rattle.st_il.specs.declared.definition.RuleDef.{RuleDef}
use Rattle.st_il.specs.declared.expression.IlExp.{IlExp}
use Rattle.st_il.specs.declared.expression.IlPrem.{IlPrem}
use Rattle.st_semantics.specs.declared.unfit.Unordered.{Unordered}
use Rattle.st_il.specs.Names.{Name, all_known, without, least}
use Rattle.st_semantics.specs.Variables.{vars_of}
use Rattle.st_semantics.specs.Patterns.{bound_by}
use Rattle.st_semantics.specs.Orders.{is_input, are_inputs, inputs_of_rule, outputs_of_rule}
use Rattle.st_semantics.specs.OrderOf.{order_of, ended, select, fault_of_inputs, unordered}

-- no refusal is an order
no_refusal : (premise : ℕ) (variable : Option Name) (order : List ℕ) → unordered premise variable ≡ Ok order → ⊥
no_refusal premise variable order e = cc

nothing_ended : (outs : List IlExp) (bound : List Name) (is : Bool) (order : List ℕ) → (if is then Ok [] else unordered 0 (least (without bound (vars_of outs)))) ≡ Ok order → order ≡ []
nothing_ended outs bound true order e = cc
nothing_ended outs bound false order e = absurd (no_refusal 0 (least (without bound (vars_of outs))) order e)

nothing_left : (il : Il) (outs : List IlExp) (bound : List Name) (ps : List IlPrem) (order : List ℕ) → ps ≡ [] → ended outs (select il (length ps) bound (enumerate_from 1 ps)) (select il (length ps) bound (enumerate_from 1 ps)).left ≡ Ok order → order ≡ []
nothing_left il outs bound [] order none e = nothing_ended outs bound (all_known bound (vars_of outs)) order e
nothing_left il outs bound (p ∷ ps) order none e = cc

by_inputs : (heads : List IlExp) (are : Bool) (r : Result (List ℕ) Unordered) (order : List ℕ) → (if are then r else fault_of_inputs heads) ≡ Ok order → r ≡ Ok order
by_inputs heads true r order e = e
by_inputs heads false r order e = absurd (no_refusal 0 (if list_all is_input heads then least (without (bound_by heads) (vars_of heads)) else None) order e)

-- it is empty
pub no_premises : (il : Il) (rule : RuleDef) (order : List ℕ) → rule.premises ≡ [] → order_of il rule ≡ Ok order → order ≡ []
no_premises il rule order none e =
    nothing_left il (outputs_of_rule il rule) (vars_of (inputs_of_rule il rule)) rule.premises order none
    (by_inputs (inputs_of_rule il rule) (are_inputs (inputs_of_rule il rule)) (ended (outputs_of_rule il rule) (select il (length rule.premises) (vars_of (inputs_of_rule il rule)) (enumerate_from 1 rule.premises)) (select il (length rule.premises) (vars_of (inputs_of_rule il rule)) (enumerate_from 1 rule.premises)).left) order e)
