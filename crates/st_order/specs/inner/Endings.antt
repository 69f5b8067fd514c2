-- Whether the inputs of a rule are such, and what is said where premises cannot be taken any more.
use Rattle.std.specs.Prelude.{◌≡◌, true, false, List, Option, Some, None, Ok, Err}
use Rattle.st_il.specs.declared.expression.IlExp.{IlExp}
use Rattle.st_semantics.specs.declared.unfit.Unordered.{Unordered}
use Rattle.st_semantics.specs.Orders.{are_inputs}
use Rattle.st_semantics.specs.OrderOf as told
use Rattle.st_semantics.specs.OrderOf.{fault_of_inputs, ended}
use Rattle.st_order.specs.declared.selection.Selection.{Selection}
use Rattle.st_order.specs.inner.Index.{names_in}
use Rattle.st_order.specs.inner.Selections.{all_numbered}

-- what is in the way at the inputs, or nothing
abbrev pub AreInputs : List IlExp → Option Unordered → Type 0
AreInputs ins None = are_inputs ins ≡ true
AreInputs ins (Some fault) = (are_inputs ins ≡ false) × (fault_of_inputs ins ≡ Err fault)

-- what was taken, as it is told
abbrev pub told_of : Selection → told.Selection
told_of s = record {
  order = s.order;
  left = all_numbered s.left;
  bound = names_in s.bound.keys;
}

-- what is in the way at the end, or nothing
abbrev pub Ends : List IlExp → told.Selection → Option Unordered → Type 0
Ends outs t None = ended outs t t.left ≡ Ok t.order
Ends outs t (Some fault) = ended outs t t.left ≡ Err fault
