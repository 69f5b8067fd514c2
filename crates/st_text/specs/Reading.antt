-- What the readers answer: what was read, or that the bytes are no text.
use Rattle.std.specs.Prelude.{◌≡◌, ℕ, List, Result, Ok, Err}
use Rattle.st_text.specs.declared.fault.TextFault.{TextFault}
use Rattle.st_text.specs.declared.fault.TextFault.TheVariants.{Malformed, Memory}
use Rattle.st_text.specs.Text.{TextTree, TextTrees, TreeText, RowText, FrontText}

-- what is read is so; bytes that are malformed are so, at line 1; want of memory says nothing
abbrev pub Answers : {T : Type 0} → Result T TextFault → (T → Type 0) → Type 0 → Type 0
Answers (Ok x) IsRead IsRefused = IsRead x
Answers (Err (Malformed line)) IsRead IsRefused = (line ≡ 1) × IsRefused
Answers (Err Memory) IsRead IsRefused = Unit {0}

-- the bytes are the text of no tree
pub record IsNoTree (bytes : List ℕ) : Type 0 where
  pub never : (t : TextTree) → TreeText t bytes → ⊥

-- the bytes are the text of no row of trees
pub record IsNoRow (bytes : List ℕ) : Type 0 where
  pub never : (ts : TextTrees) → RowText ts bytes → ⊥

-- no tree has its text at the front of the bytes
pub record IsNoFront (bytes : List ℕ) : Type 0 where
  pub never : (t : TextTree) (rest : List ℕ) → FrontText t bytes rest → ⊥
