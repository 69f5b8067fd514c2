-- Outputs in the order of their values.
use Rattle.std.specs.Prelude.{◌≤◌, ℕ, List, [], ◌∷◌, ◌++◌, length, take, drop, Contains, Option, Some, None}
use Rattle.st_il.specs.declared.value.Value.{Value}
use Rattle.st_search.specs.declared.answer.Output.{Output}
use Rattle.st_search.specs.Answers.{AreSorted, values_in}

-- Outputs to which others are added: none but these, in order, and with the values of all.
pub record AreAdded (others found more : List Output) : Type 0 where
  pub sorted : AreSorted found → AreSorted more
  pub among : (o : Output) → Contains more o → Contains (others ++ found) o
  pub kept : (vs : List Value) → Contains (values_in (others ++ found)) vs
      → Contains (values_in more) vs

-- an output with these values is among some, or one comes in at a position
abbrev pub StandsAt : Output → List Output → Option ℕ → Type 0
StandsAt o found None = AreAdded (o ∷ []) found found
StandsAt o found (Some at) =
    (at ≤ length found) × AreAdded (o ∷ []) found (take at found ++ o ∷ drop at found)
