-- The words that are copied out of matches.
use Rattle.std.specs.Prelude.{ℕ, List, [], map, Option, Some, None}
use Rattle.std.specs.Borrow.{Bor}

-- the texts of words, of which there may be none
abbrev pub texts_given : Option (Bor (List (Bor (List ℕ)))) → List (List ℕ)
texts_given None = []
texts_given (Some words) = map (λ word. word.now) words.now
