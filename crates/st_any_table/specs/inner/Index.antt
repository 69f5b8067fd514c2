-- An index of names: the number of the first definition of each.
use Rattle.std.specs.Prelude.{◌≡◌, ℕ, List}
use Rattle.st_il.specs.declared.definition.SyntaxDef.{SyntaxDef}
use Rattle.st_type_table.specs.inner.Forms.{Numbers, number_of}
use Rattle.st_type_table.specs.inner.Graph.{position_of}

-- under each name stands the number of its first definition
abbrev pub IsIndex : List SyntaxDef → Numbers → Type 0
IsIndex defs index = (name : List ℕ) → number_of index name ≡ position_of defs name
