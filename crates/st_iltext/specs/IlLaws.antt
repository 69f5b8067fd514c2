-- What holds of the texts of all internal languages.
use Rattle.std.specs.Prelude.{◌≡◌, ℕ, List}
use Rattle.st_il.specs.declared.definition.Il.{Il}
use Rattle.st_iltext.specs.IlText.{IlText}

-- an internal language has at most one text
abbrev pub OneIlText : Type 0
OneIlText = (il : Il) (bytes others : List ℕ) → IlText il bytes → IlText il others → bytes ≡ others

-- a text has at most one internal language
abbrev pub OneIl : Type 0
OneIl = (il other : Il) (bytes : List ℕ) → IlText il bytes → IlText other bytes → il ≡ other
