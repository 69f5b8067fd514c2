-- The internal language of a source is erased to it.
use Rattle.std.specs.Prelude.{◌≡◌, List}
use Rattle.st_el.specs.Erasure.{plain_defs}
use Rattle.st_el.specs.declared.definition.Def.{Def}
use Rattle.st_erase.specs.Definitions.{erased_defs}
use Rattle.st_elab_def.specs.declared.elaborated.Elaborated.{Elaborated}

-- What is elaborated is erased to the source, once both are plain and their fragments are joined.
abbrev pub ErasesTo : List Def → Elaborated → Type 0
ErasesTo defs e = plain_defs (erased_defs e.il) ≡ plain_defs defs
