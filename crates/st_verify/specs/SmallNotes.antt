-- What the code notes of a line: it is so on a small specification, whose relation has one input
-- and one output.
use Rattle.std.specs.Prelude.{◌+◌, true, List, [], ◌∷◌, ◌++◌, drop, Some, None}
use Rattle.std.specs.Option.{option_map}
use Rattle.st_deriv.specs.declared.line.Line.{Line}
use Rattle.st_deriv.specs.declared.line.Line.TheVariants.{Head, From, Node, Step, End}
use Rattle.st_il.specs.declared.value.Value.{Value}
use Rattle.st_semantics.specs.declared.notes.Judgement.{Judgement}
use Rattle.st_semantics.specs.declared.notes.Notes.{Notes}
use Rattle.st_semantics.specs.Notes.{judgement_on}

-- the values of all holes behind the first
abbrev pub small_outputs : List Value → List Value
small_outputs values = drop 1 values

-- what is noted of one line more
abbrev pub small_noted : Notes → Line → Notes
small_noted notes (Head format relation) =
    record notes { lines = notes.lines ++ None ∷ []; relation = Some relation }
small_noted notes (From values) =
    record notes { lines = notes.lines ++ None ∷ []; term = Some values }
small_noted notes (Node node) =
    record notes
    { lines = notes.lines ++ Some (record { relation = node.relation; values = node.values }) ∷ [] }
small_noted notes (Step line) = record notes {
  lines = notes.lines ++ None ∷ [];
  term = option_map (λ (judgement : Judgement). small_outputs judgement.values)
      (judgement_on notes line);
  steps = notes.steps + 1;
}
small_noted notes (End ending) = record notes { lines = notes.lines ++ None ∷ []; ended = true }
