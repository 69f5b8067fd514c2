-- The definitions of a source, each between those before it and those behind it.
use Rattle.std.specs.Prelude.{ℕ, List, [], ◌∷◌, ◌++◌, length}
use Rattle.st_el.specs.declared.definition.Def.{Def}

-- a definition where it stands
pub record Definition : Type 0 where
  pub before : List Def
  pub def : Def
  pub behind : List Def

-- the number of a definition, from 0
abbrev pub number_of : Definition → ℕ
number_of d = length d.before

-- these definitions where they stand, behind those before them
abbrev pub definitions_from : List Def → List Def → List Definition
definitions_from before [] = []
definitions_from before (def ∷ behind) =
    record { before = before; def = def; behind = behind }
    ∷ definitions_from (before ++ def ∷ []) behind

-- the definitions of a source, in its order
abbrev pub definitions : List Def → List Definition
definitions defs = definitions_from [] defs
