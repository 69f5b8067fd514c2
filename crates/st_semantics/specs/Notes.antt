-- What is noted of the lines of a derivation, from the first on.
use Rattle.std.specs.Prelude.{ℕ, zero, suc, ◌+◌, false, true, [], ◌∷◌, ◌++◌, Option, Some, None, slice_get, option_map, option_and_then}
use Rattle.st_deriv.specs.declared.line.Line.{Line}
use Rattle.st_deriv.specs.declared.line.Line.TheVariants.{Head, From, Node, Step, End}
use Rattle.st_il.specs.declared.definition.Il.{Il}
use Rattle.st_semantics.specs.declared.notes.Judgement.{Judgement}
use Rattle.st_semantics.specs.declared.notes.Notes.{Notes}
use Rattle.st_semantics.specs.Directions.{outputs_of}

-- before the first line
abbrev pub nothing_noted : Notes
nothing_noted = record { lines = []; relation = None; term = None; steps = 0; ended = false }

-- the judgement of the node on that line, counted from 1
abbrev pub judgement_on : Notes → ℕ → Option Judgement
judgement_on notes zero = None
judgement_on notes (suc before) =
    option_and_then (λ (noted : Option Judgement). noted) (slice_get notes.lines before)

-- a line that is no node
abbrev pub with_line : Notes → Notes
with_line notes = record notes { lines = notes.lines ++ None ∷ [] }

-- what is noted of one line more
abbrev pub noted : Il → Notes → Line → Notes
noted il notes (Head format relation) = record (with_line notes) { relation = Some relation }
noted il notes (From values) = record (with_line notes) { term = Some values }
noted il notes (Node node) = record notes {
  lines = notes.lines ++ Some (record { relation = node.relation; values = node.values }) ∷ [];
}
noted il notes (Step line) = record (with_line notes) {
  term = option_map (λ (j : Judgement). outputs_of il j.relation j.values)
      (judgement_on notes line);
  steps = notes.steps + 1;
}
noted il notes (End ending) = record (with_line notes) { ended = true }
