-- The files of a specification: its definitions, and what they are elaborated to.
use Rattle.std.specs.Prelude.{◌≢◌, ℕ, List, []}
use Rattle.st_el.specs.declared.definition.Def.{Def}
use Rattle.st_elab_def.specs.Elaboration.{IsElaborated}
use Rattle.st_elab_def.specs.Erasing.{ErasesTo}
use Rattle.st_elab_def.specs.declared.elaborated.Elaborated.{Elaborated}
use Rattle.st_ilcheck.specs.Typed.{Typed}
use Rattle.st_num.specs.declared.token.Token.{Token}
use Rattle.st_parse.specs.Source.{IsSource}
use Rattle.st_semantics.specs.Breaches.{KeepModes}
use Rattle.st_source.specs.Faults.{AllTokens}

-- what no definitions are elaborated to
abbrev pub nothing : Elaborated
nothing = record { il = record { defs = [] }; sources = [] }

-- The files are a specification of these definitions, which have no fault and break no rule, and
-- are elaborated to this.
pub data IsSpecification (files : List (List ℕ)) : List Def → Elaborated → Type 0 where
  -- the files have no token, so no definition
  empty : AllTokens 0 files [] → IsSpecification files [] nothing
  -- the tokens of the files are those of a source, and what its definitions are elaborated to is
  -- erased to them, is typed and keeps the rules on modes
  source : {defs : List Def} {e : Elaborated} (tokens : List Token) → AllTokens 0 files tokens
      → tokens ≢ [] → IsSource tokens defs → IsElaborated defs e → ErasesTo defs e → Typed e.il
      → KeepModes e.il → IsSpecification files defs e
