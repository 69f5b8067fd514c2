-- What is known of a specification that was read, from its definitions and from its files.
use Rattle.std.specs.Prelude.{◌≡◌, ℕ, List}
use Rattle.st_el.specs.declared.definition.Def.{Def}
use Rattle.st_il.specs.declared.definition.Il.{Il}
use Rattle.st_elab_def.specs.Elaboration.{IsElaborated}
use Rattle.st_elab_def.specs.Erasing.{ErasesTo}
use Rattle.st_elab_def.specs.declared.elaborated.Elaborated.{Elaborated}
use Rattle.st_ilcheck.specs.Typed.{Typed}
use Rattle.st_order.specs.Modes.{HasFew, AreModes}
use Rattle.st_order.specs.declared.relation_modes.Modes.{Modes}
use Rattle.st_semantics.specs.Breaches.{KeepModes}
use Rattle.st_source.specs.Refused.{IsRefused, AreRefused}
use Rattle.st_source.specs.Specification.{IsSpecification}
use Rattle.st_answers.specs.declared.answer.Answer.{Answer}
use Rattle.st_source.specs.declared.specification.Specification.{Specification}
use Rattle.st_source.specs.declared.specification.Specification.TheVariants.{Accepted, Refused}
use Rattle.st_answers.specs.declared.status.Status.TheVariants as answer

-- an internal language that breaks no rule, and its modes
pub record IsAccepted (il : Il) (modes : Modes) : Type 0 where
  pub typed : Typed il
  pub keeps : KeepModes il
  pub few : HasFew il
  pub modes_are : AreModes il modes

-- definitions that are elaborated to a sound language
pub record AreSound (defs : List Def) (e : Elaborated) (modes : Modes) : Type 0 where
  pub elaborated : IsElaborated defs e
  pub erased : ErasesTo defs e
  pub sound : IsAccepted e.il modes

-- the answer refuses these definitions
pub record RefusesSource (names : List (List ℕ)) (defs : List Def) (given : Answer)
    : Type 0 where
  pub status : given.status ≡ answer.Specification
  pub refused : IsRefused names defs given.bytes.items

-- what is known of the definitions of a source in files of these names
abbrev pub SpecifiesSource : List (List ℕ) → List Def → Specification → Type 0
SpecifiesSource names defs (Accepted given e modes) = (given ≡ defs) × AreSound defs e modes
SpecifiesSource names defs (Refused given) = RefusesSource names defs given

-- the files have these definitions, which are elaborated to a sound language
pub record AreSpecified (files : List (List ℕ)) (defs : List Def) (e : Elaborated) (modes : Modes)
    : Type 0 where
  pub specification : IsSpecification files defs e
  pub sound : IsAccepted e.il modes

-- the answer refuses these files
pub record RefusesFiles (names files : List (List ℕ)) (given : Answer) : Type 0 where
  pub status : given.status ≡ answer.Specification
  pub refused : AreRefused names files given.bytes.items

-- what is known of the files of these names
abbrev pub Specifies : List (List ℕ) → List (List ℕ) → Specification → Type 0
Specifies names files (Accepted defs e modes) = AreSpecified files defs e modes
Specifies names files (Refused given) = RefusesFiles names files given
