-- The text of an internal language.
use Rattle.std.specs.Prelude.{◌≡◌, ℕ, List, [], ◌∷◌, ◌++◌, flat_map, true}
use Rattle.std.specs.List.{All}
use Rattle.st_il.specs.declared.definition.Il.{Il}
use Rattle.st_il.specs.declared.definition.IlDef.{IlDef}
use Rattle.st_text.specs.Text.{text, HasText}
use Rattle.st_iltext.specs.Definitions.{definition_tree}
use Rattle.st_iltext.specs.Written.{written}

-- a definition has a text: it is written in the one spelling, and its tree has a text
pub record HasDefinitionText (d : IlDef) : Type 0 where
  pub fits : written d ≡ true
  pub tree : HasText (definition_tree d)

-- the line of a definition, with its line feed
abbrev pub definition_line : IlDef → List ℕ
definition_line d = text (definition_tree d) ++ 10 ∷ []

-- the text of an internal language: a line for each definition
abbrev pub il_text : Il → List ℕ
il_text il = flat_map definition_line il.defs

-- an internal language has a text: each of its definitions has one
abbrev pub HasIlText : Il → Type 0
HasIlText il = All HasDefinitionText il.defs

-- the bytes are the text of this internal language
pub record IlText (il : Il) (bytes : List ℕ) : Type 0 where
  pub has : HasIlText il
  pub is : bytes ≡ il_text il
