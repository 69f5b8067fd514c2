-- What is told of the parts of an expression that are none themselves: iterations, parts of lists
-- and steps of paths.
use Rattle.std.specs.Prelude.{List, map}
use Rattle.std.specs.Borrow.{Bor}
use Rattle.st_il.specs.declared.expression.IlExp.{IlExp, fold-IlExp}
use Rattle.st_il.specs.declared.expression.Iteration.{Iteration, fold-Iteration}
use Rattle.st_il.specs.declared.expression.ListItem.{ListItem, fold-ListItem}
use Rattle.st_il.specs.declared.expression.PathSeg.{PathSeg, fold-PathSeg}
use Rattle.st_il.specs.Names.{Name, flattened}
use Rattle.st_semantics.specs.Operands.{item_at, segment_at}
use Rattle.st_semantics.specs.Variables.{Counted, counted_at, vars_at, called_at}
use Rattle.st_semantics.specs.Patterns.{Bound, BoundCount, bound_at, bound_count_at}

-- the variables of the count of an iteration, and its index
abbrev pub counted : Iteration → Counted
counted =
    fold-Iteration (List Name) Counted (List Name) (List (List Name)) vars_at counted_at item_at
    segment_at

-- the variables of a part of a list
abbrev pub item_vars : ListItem → List Name
item_vars =
    fold-ListItem (List Name) Counted (List Name) (List (List Name)) vars_at counted_at item_at
    segment_at

-- the variables of each expression in a step of a path
abbrev pub segment_vars : PathSeg → List (List Name)
segment_vars =
    fold-PathSeg (List Name) Counted (List Name) (List (List Name)) vars_at counted_at item_at
    segment_at

-- ---- functions

-- the functions in the count of an iteration, and its index
abbrev pub called_count : Iteration → Counted
called_count =
    fold-Iteration (List Name) Counted (List Name) (List (List Name)) called_at counted_at item_at
    segment_at

-- the functions in a part of a list
abbrev pub called_item : ListItem → List Name
called_item =
    fold-ListItem (List Name) Counted (List Name) (List (List Name)) called_at counted_at item_at
    segment_at

-- the functions in each expression in a step of a path
abbrev pub called_segment : PathSeg → List (List Name)
called_segment =
    fold-PathSeg (List Name) Counted (List Name) (List (List Name)) called_at counted_at item_at
    segment_at

-- ---- what patterns bind

-- what is told of an expression: what it binds, and its own name where it is a variable
abbrev pub bound_in : IlExp → Bound
bound_in = fold-IlExp Bound BoundCount Bound (List Bound) bound_at bound_count_at item_at segment_at

-- the count of an iteration, where that is a variable, and its index
abbrev pub bound_count : Iteration → BoundCount
bound_count =
    fold-Iteration Bound BoundCount Bound (List Bound) bound_at bound_count_at item_at segment_at

-- what is told of the expression in a part of a list
abbrev pub bound_item : ListItem → Bound
bound_item =
    fold-ListItem Bound BoundCount Bound (List Bound) bound_at bound_count_at item_at segment_at

-- what is told of each expression in a step of a path
abbrev pub bound_segment : PathSeg → List Bound
bound_segment =
    fold-PathSeg Bound BoundCount Bound (List Bound) bound_at bound_count_at item_at segment_at

-- the names that several expressions bind
abbrev pub names_bound : List Bound → List Name
names_bound bs = flattened (map (λ (b : Bound). b.names) bs)

-- the expressions that are referred to
abbrev pub exps_in : List (Bor IlExp) → List IlExp
exps_in refs = map (λ (e : Bor IlExp). e.now) refs
