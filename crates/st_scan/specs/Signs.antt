-- The sign at the front of some bytes.
use Rattle.std.specs.Prelude.{◌≡◌, ◌≢◌, ℕ, ◌≤◌, List, ◌++◌, length}
use Rattle.st_num.specs.Signs.{spelling}
use Rattle.st_num.specs.declared.mark.Mark.{Mark}

-- no sign stands at the front of the bytes
pub record NoSign (bytes : List ℕ) : Type 0 where
  pub never : (mark : Mark) (rest : List ℕ) → bytes ≢ spelling mark ++ rest

-- the sign stands at the front of the bytes, and no sign that stands there is longer
pub record LongestSign (bytes : List ℕ) (mark : Mark) : Type 0 where
  pub rest : List ℕ
  pub split : bytes ≡ spelling mark ++ rest
  pub longest : (other : Mark) (more : List ℕ) → bytes ≡ spelling other ++ more
      → length (spelling other) ≤ length (spelling mark)
