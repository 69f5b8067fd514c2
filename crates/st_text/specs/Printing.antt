-- What a printer that finds no memory leaves behind.
use Rattle.std.specs.Prelude.{◌≡◌, List, ◌++◌, ℕ}

-- a front of the text, and nothing else, is written behind what was there
pub record IsCutOff (old text new : List ℕ) : Type 0 where
  pub done : List ℕ
  pub left : List ℕ
  pub split : text ≡ done ++ left
  pub is : new ≡ old ++ done
