-- What `derive` gives of a specification in a file, and of a term.
use Rattle.std.specs.Prelude.{◌≡◌, ℕ, List, [], ◌∷◌, ◌++◌, Contains, ◌⊎◌}
use Rattle.st_deriv.specs.declared.line.Line.{Line}
use Rattle.st_deriv.specs.LineText.{LinesText}
use Rattle.st_il.specs.declared.small.Small.{Small}
use Rattle.st_il.specs.Small.{il_of, IsSmallIl}
use Rattle.st_answers.specs.declared.status.Status.{Status}
use Rattle.st_answers.specs.Unbuilt.{IsUnbuilt}
use Rattle.st_runs.specs.declared.transcript.Ending.{Ending}
use Rattle.st_runs.specs.Transcript.{atom_term, status_of}
use Rattle.st_commands.specs.Derivation.{IsDerivation}
use Rattle.st_small.specs.SmallText.{IsTextOf}
use Rattle.st_semantics.specs.Accepts.{Accepts}

-- the steps of a derivation
abbrev pub default_fuel : ℕ
default_fuel = 1000

-- the bytes are an atom, perhaps with a line feed behind it
abbrev pub IsAtomText : List ℕ → List ℕ → Type 0
IsAtomText bytes atom = (bytes ≡ atom) ⊎ (bytes ≡ atom ++ 10 ∷ [])

-- the bytes of a term file are an atom of the specification
pub record IsTerm (small : Small) (bytes atom : List ℕ) : Type 0 where
  pub text : IsAtomText bytes atom
  pub known : Contains small.atoms atom

-- the bytes of a term file are such an atom, and the relation has this name
pub record IsStart (small : Small) (relation bytes atom : List ℕ) : Type 0 where
  pub relation_is : small.relation ≡ relation
  pub term : IsTerm small bytes atom

-- these files are a specification of that relation, and a term of its atoms
pub record IsRunnable (relation term_bytes file_bytes : List ℕ) (small : Small)
    (atom : List ℕ) : Type 0 where
  pub source : IsTextOf small file_bytes
  pub start : IsStart small relation term_bytes atom

-- the status and the text of the derivation of a run from this atom;
-- its lines are accepted by the checker of derivations
pub record IsDerivationText (small : Small) (atom : List ℕ) (status : Status)
    (bytes : List ℕ) : Type 0 where
  pub ending : Ending
  pub lines : List Line
  pub derivation : IsDerivation (il_of small) small.relation default_fuel (atom_term atom)
      ending lines
  pub accepted : Accepts IsSmallIl (il_of small) lines
  pub status_is : status ≡ status_of ending
  pub text : LinesText lines bytes

-- Where the files are such a specification and term, they give a derivation; others are not built.
abbrev pub DeriveGives : List ℕ → List ℕ → List ℕ → Status → List ℕ → Type 0
DeriveGives relation term file status bytes =
    ((small : Small) × (atom : List ℕ) × IsRunnable relation term file small atom
    × IsDerivationText small atom status bytes)
    ⊎ (((small : Small) (atom : List ℕ) → IsRunnable relation term file small atom → ⊥)
    × IsUnbuilt status bytes)
