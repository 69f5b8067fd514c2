-- What is printed of the files of a specification, where they are not refused.
use Rattle.std.specs.Prelude.{◌≡◌, ℕ, List, [], ◌∷◌, ◌++◌, length, codes, decimal, ◌⊎◌}
use Rattle.st_el.specs.declared.definition.Def.{Def}
use Rattle.st_elab_def.specs.declared.elaborated.Elaborated.{Elaborated}
use Rattle.st_deps.specs.Cited.{Name}
use Rattle.st_deps.specs.Definitions.{Cites, declared}
use Rattle.st_deps.specs.Groups.{AreGroups}
use Rattle.st_commands.specs.declared.check.Printed.{Printed}
use Rattle.st_commands.specs.declared.check.Printed.TheVariants.{Count, Language, Groups, Orders, Latex, Prose}
use Rattle.st_answers.specs.declared.status.Status.{Status}
use Rattle.st_answers.specs.declared.status.Status.TheVariants as answer
use Rattle.st_il.specs.declared.small.Small.{Small}
use Rattle.st_il.specs.Small.{il_of}
use Rattle.st_iltext.specs.IlText.{IlText, il_text}
use Rattle.st_algo.specs.Lowered.{AreLowered}
use Rattle.st_algo.specs.declared.algorithm.Algos.{Algos}
use Rattle.st_il.specs.declared.definition.Il.{Il}
use Rattle.st_latex.specs.LatexText.{latex_text}
use Rattle.st_order.specs.Modes.{AreModes}
use Rattle.st_order.specs.declared.relation_modes.Modes.{Modes}
use Rattle.st_prose.specs.ProseText.{prose_text}
use Rattle.st_answers.specs.OrderTexts.{orders_text}
use Rattle.st_small.specs.SmallText.{IsTextOf}
use Rattle.st_source.specs.Refused.{AreRefused}
use Rattle.st_source.specs.Specification.{IsSpecification}
use Rattle.st_answers.specs.GroupTexts.{groups_text}

-- ---- what is printed

-- a specification with so many definitions is accepted
abbrev pub definitions_text : ℕ → List ℕ
definitions_text count = codes "accepted " ++ decimal count ++ codes " definitions\n"

-- the prose of an internal language: by the algorithms to which it is lowered with its modes
abbrev pub IsProse : Il → List ℕ → Type 0
IsProse il bytes =
    (modes : Modes) × (algos : Algos) × AreModes il modes × AreLowered il modes algos
    × (bytes ≡ prose_text il algos)

-- The text that is asked for, of definitions without a breach and of what they are elaborated to:
-- how many they are, their internal language, its groups, the orders of its rules, the definitions in
-- LaTeX, or the prose of the language.
abbrev pub Prints : Printed → List Def → Elaborated → List ℕ → Type 0
Prints Count defs e bytes = bytes ≡ definitions_text (length defs)
Prints Language defs e bytes = bytes ≡ il_text e.il
Prints Groups defs e bytes =
    (groups : List (List Name)) × AreGroups (Cites e.il) (declared e.il) groups
    × (bytes ≡ groups_text groups)
Prints Orders defs e bytes = bytes ≡ orders_text e.il
Prints Latex defs e bytes = bytes ≡ latex_text defs
Prints Prose defs e bytes = IsProse e.il bytes

-- ---- files

-- What is said of the files of these names: the first fault or breach, or what is printed of them.
pub data FilesGive (printed : Printed) (names files : List (List ℕ)) : Status → List ℕ → Type 0 where
  -- they are refused, and this text tells why
  refused : {bytes : List ℕ} → AreRefused names files bytes
      → FilesGive printed names files answer.Specification bytes
  -- they are a specification, of which this is printed
  accepted : {bytes : List ℕ} (defs : List Def) (e : Elaborated) → IsSpecification files defs e
      → Prints printed defs e bytes → FilesGive printed names files answer.Done bytes

-- what a check says of files: their first fault or breach, or how many definitions they have
abbrev pub CheckGives : List (List ℕ) → List (List ℕ) → Status → List ℕ → Type 0
CheckGives = FilesGive Count

-- the files are one file, which is the text of this small specification
abbrev pub IsOneSmall : List (List ℕ) → Small → Type 0
IsOneSmall files small = (file : List ℕ) × (files ≡ file ∷ []) × IsTextOf small file

-- Of a small specification its internal language is printed, as runs and derivations have it. Of
-- other files it is the one that they are elaborated to, or their first fault or breach.
abbrev pub IlGives : List (List ℕ) → List (List ℕ) → Status → List ℕ → Type 0
IlGives names files status bytes =
    ((small : Small) × IsOneSmall files small × (status ≡ answer.Done)
    × IlText (il_of small) bytes)
    ⊎ (((small : Small) → IsOneSmall files small → ⊥)
    × FilesGive Language names files status bytes)

-- what is said of files whose groups are asked for: their first fault or breach, or the groups
abbrev pub GroupsGive : List (List ℕ) → List (List ℕ) → Status → List ℕ → Type 0
GroupsGive = FilesGive Groups

-- what is said of files whose orders are asked for: their first fault or breach, or the orders
abbrev pub OrdersGive : List (List ℕ) → List (List ℕ) → Status → List ℕ → Type 0
OrdersGive = FilesGive Orders

-- what is said of files whose LaTeX is asked for: their first fault or breach, or their definitions
abbrev pub LatexGives : List (List ℕ) → List (List ℕ) → Status → List ℕ → Type 0
LatexGives = FilesGive Latex

-- what is said of files whose prose is asked for: their first fault or breach, or the prose
abbrev pub ProseGives : List (List ℕ) → List (List ℕ) → Status → List ℕ → Type 0
ProseGives = FilesGive Prose
