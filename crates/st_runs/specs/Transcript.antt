-- The transcript of a run, as it is told: all its terms, and how it ended.
use Rattle.std.specs.Prelude.{◌≡◌, ℕ, List, [], ◌∷◌}
use Rattle.st_il.specs.declared.definition.Il.{Il}
use Rattle.st_il.specs.declared.value.Value.TheVariants.{Case}
use Rattle.st_il.specs.Names.{Name}
use Rattle.st_semantics.specs.Transcript as run
use Rattle.st_semantics.specs.Transcript.{Term, Transcript}
use Rattle.st_answers.specs.declared.status.Status.{Status}
use Rattle.st_answers.specs.declared.status.Status.TheVariants as answer
use Rattle.st_runs.specs.declared.transcript.Ending.{Ending}
use Rattle.st_runs.specs.declared.transcript.Ending.TheVariants.{Stuck, Fuel}

-- the term of an atom
abbrev pub atom_term : List ℕ → Term
atom_term atom = Case atom [] ∷ []

-- the ending of a run that is told
abbrev pub ending_of : Ending → run.Ending
ending_of Stuck = run.Stuck
ending_of Fuel = run.Fuel

-- the status of a run that ended so
abbrev pub status_of : Ending → Status
status_of Stuck = answer.Done
status_of Fuel = answer.Fuel

-- the terms of a run from this term with this much fuel, itself in front, and its ending
pub record IsTranscript (il : Il) (relation : Name) (fuel : ℕ) (start : Term) (terms : List Term)
    (ending : Ending) : Type 0 where
  pub after : List Term
  pub terms_are : terms ≡ start ∷ after
  pub transcript : Transcript il relation fuel start after (ending_of ending)
