-- The classes of premises, without the pattern of an equation, and what is bound inside an iteration.
use Rattle.std.specs.Prelude.{◌≡◌, Bool, true, false, ◌&&◌, List, Option, Some, None}
use Rattle.std.specs.List.{list_all}
use Rattle.st_il.specs.declared.expression.IlPrem.{IlPrem}
use Rattle.st_il.specs.declared.expression.Iteration.{Iteration}
use Rattle.st_il.specs.Names.{Name, all_known, without}
use Rattle.st_semantics.specs.Iterations.{count_of, index_of}
use Rattle.st_semantics.specs.Variables.{prem_vars}
use Rattle.st_semantics.specs.Executable as run
use Rattle.st_semantics.specs.Executable.{Test, Equation, Judgement, is_anchored, is_countable, bound_inside}
use Rattle.st_order.specs.declared.class.Class.{Class}
use Rattle.st_order.specs.declared.class.Class.TheVariants as made
use Rattle.st_order.specs.inner.Index.{SameNames}

-- the class, without the pattern of an equation
abbrev pub kind : Option run.Class → Option Class
kind None = None
kind (Some Test) = Some made.Test
kind (Some (Equation pattern)) = Some made.Equation
kind (Some Judgement) = Some made.Goal

-- whether a class is this one
abbrev pub is_kind : Class → Option Class → Bool
is_kind made.Test (Some made.Test) = true
is_kind made.Equation (Some made.Equation) = true
is_kind made.Goal (Some made.Goal) = true
is_kind wanted class = false

-- the variables of what is iterated that are neither iterated nor the index
abbrev pub others : Iteration → List Name → IlPrem → List Name
others how xs body = without xs (without (index_of how) (prem_vars body))

-- an iterated premise can be run if what it repeats can
abbrev pub can_enter : List Name → Iteration → List Name → IlPrem → Bool
can_enter bound how xs body =
    is_anchored bound how xs && list_all (is_countable bound) (count_of how)
    && all_known bound (others how xs body)

-- What is bound inside an iterated premise, or nothing where it cannot be entered.
abbrev pub IsInside : List Name → Iteration → List Name → IlPrem → Option (List Name) → Type 0
IsInside bound how xs body None = can_enter bound how xs body ≡ false
IsInside bound how xs body (Some inside) =
    (can_enter bound how xs body ≡ true)
    × SameNames inside (bound_inside bound how xs (others how xs body))
