-- What the readers of the table's rows share.
use Rattle.std.specs.Prelude.{◌≡◌, ◌≢◌, ℕ, List, [], ◌∷◌}
use Rattle.st_words.specs.declared.table.Goal.{Goal}

-- the words are a relation, the file of a term and files
abbrev pub IsGoal : List (List ℕ) → Goal → Type 0
IsGoal words goal = (words ≡ goal.relation ∷ goal.term ∷ goal.files) × (goal.files ≢ [])
