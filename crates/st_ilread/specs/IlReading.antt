-- What the reader of an internal language answers.
use Rattle.std.specs.Prelude.{◌≡◌, ℕ, ◌+◌, List, [], ◌++◌, length, flat_map, Result, Ok, Err}
use Rattle.std.specs.List.{All}
use Rattle.st_il.specs.declared.definition.Il.{Il}
use Rattle.st_il.specs.declared.definition.IlDef.{IlDef}
use Rattle.st_text.specs.declared.fault.TextFault.{TextFault}
use Rattle.st_text.specs.declared.fault.TextFault.TheVariants.{Malformed, Memory}
use Rattle.st_text.specs.Text.{text}
use Rattle.st_iltext.specs.Definitions.{definition_tree}
use Rattle.st_iltext.specs.IlText.{HasDefinitionText, definition_line, IlText}

-- the line, without its line feed, is that of this definition
pub record IsLineOf (line : List ℕ) (d : IlDef) : Type 0 where
  pub has : HasDefinitionText d
  pub is : line ≡ text (definition_tree d)

-- the line is that of no definition
pub record IsNoLine (line : List ℕ) : Type 0 where
  pub never : (d : IlDef) → IsLineOf line d → ⊥

-- the bytes are the text of no internal language
pub record IsNoIl (bytes : List ℕ) : Type 0 where
  pub never : (il : Il) → IlText il bytes → ⊥

-- No definition's line stands at the front of the bytes, though they go on.
pub record BeginWithNone (bytes : List ℕ) : Type 0 where
  pub some : bytes ≡ [] → ⊥
  pub never : (d : IlDef) (rest : List ℕ) → HasDefinitionText d
      → bytes ≡ definition_line d ++ rest → ⊥

-- The line is the first that is none: before it stand the lines of definitions, and what goes on
-- there begins with the line of no definition. Lines count from 1.
pub record IsFirstNoLine (bytes : List ℕ) (line : ℕ) : Type 0 where
  pub before : List IlDef
  pub rest : List ℕ
  pub have : All HasDefinitionText before
  pub is : bytes ≡ flat_map definition_line before ++ rest
  pub stops : BeginWithNone rest
  pub behind : line ≡ length before + 1

-- the internal language whose text the bytes are, or the first line that is none
abbrev pub ReadsIl : List ℕ → Result Il TextFault → Type 0
ReadsIl bytes (Ok il) = IlText il bytes
ReadsIl bytes (Err (Malformed line)) = IsNoIl bytes × IsFirstNoLine bytes line
ReadsIl bytes (Err Memory) = Unit {0}
