-- Where there is no term from which a run begins.
use Rattle.std.specs.Prelude.{List, ℕ}
use Rattle.st_il.specs.declared.small.Small.{Small}
use Rattle.st_commands.specs.Derived.{IsTerm, IsStart}

-- the bytes of a term file are no atom of the specification
abbrev pub HasNoTerm : Small → List ℕ → Type 0
HasNoTerm small bytes = (atom : List ℕ) → ¬ (IsTerm small bytes atom)

-- the bytes are no such atom, or the relation has another name
abbrev pub HasNoStart : Small → List ℕ → List ℕ → Type 0
HasNoStart small relation bytes = (atom : List ℕ) → ¬ (IsStart small relation bytes atom)
