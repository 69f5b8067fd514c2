-- What is told of the lengths of expressions, of parts of lists and of steps of paths.
use Rattle.std.specs.Prelude.{Bool, List}
use Rattle.std.specs.List.{list_any}
use Rattle.st_il.specs.declared.expression.IlExp.{IlExp, fold-IlExp}
use Rattle.st_il.specs.declared.expression.Iteration.{Iteration, fold-Iteration}
use Rattle.st_il.specs.declared.expression.ListItem.{ListItem, fold-ListItem}
use Rattle.st_il.specs.declared.expression.PathSeg.{PathSeg, fold-PathSeg}
use Rattle.st_semantics.specs.Operands.{segment_at}
use Rattle.st_semantics.specs.OpenParts.{Lengths, lengths_at, literal_count_at, part_at, any_doubly_open}

-- what is told of an expression
abbrev pub lengths : IlExp → Lengths
lengths =
    fold-IlExp Lengths Bool Lengths (List Lengths) lengths_at literal_count_at part_at segment_at

-- an iteration is by `^` with a number as its count
abbrev pub has_literal_count : Iteration → Bool
has_literal_count =
    fold-Iteration Lengths Bool Lengths (List Lengths) lengths_at literal_count_at part_at
    segment_at

-- what is told of a part of a list
abbrev pub item_lengths : ListItem → Lengths
item_lengths =
    fold-ListItem Lengths Bool Lengths (List Lengths) lengths_at literal_count_at part_at
    segment_at

-- what is told of each expression in a step of a path
abbrev pub segment_lengths : PathSeg → List Lengths
segment_lengths =
    fold-PathSeg Lengths Bool Lengths (List Lengths) lengths_at literal_count_at part_at segment_at

-- a list in one of the steps of a path has two parts of open length
abbrev pub any_step_doubly_open : List PathSeg → Bool
any_step_doubly_open path =
    list_any (λ (s : PathSeg). any_doubly_open (segment_lengths s)) path
