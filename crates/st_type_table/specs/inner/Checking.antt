-- What is known while the conditions on a definition are checked.
use Rattle.std.specs.Prelude.{◌≡◌, ◌⊎◌, ◌↔◌, ◌<◌, ℕ, suc, List, length, take, slice_get, Option, Some, None, IfNone}
use Rattle.st_num.specs.declared.rule.RuleId.{RuleId}
use Rattle.st_num.specs.declared.rule.RuleId.TheVariants.{B2, B4}
use Rattle.st_type_table.specs.declared.fault.Broken.{Broken}
use Rattle.st_type_table.specs.Breach.{Holds, declared, no_return, Finds, on_alternative, conditions_on}
use Rattle.st_il.specs.declared.ty.Ty.{Ty}
use Rattle.st_il.specs.declared.definition.SyntaxDef.{SyntaxDef}
use Rattle.st_il.specs.declared.definition.SyntaxBody.{SyntaxBody}
use Rattle.st_il.specs.declared.definition.SyntaxBody.TheVariants as body
use Rattle.st_il.specs.declared.definition.Alternative.{Alternative}
use Rattle.st_type_table.specs.Meaning.{alternatives_of}
use Rattle.st_type_table.specs.Leads.{Among, Leads, Ends, leads_to}
use Rattle.st_type_table.specs.inner.Graph.{position_of}

-- of these names, those that lead back to the target have this number, and the others do not
abbrev pub Returns : List SyntaxDef → List ℕ → List ℕ → ℕ → List (List ℕ) → Type 0
Returns defs target numbers own names =
    (name : List ℕ) (position : ℕ) → Among names name → position_of defs name ≡ Some position
    → (slice_get numbers position ≡ Some own) ↔ Leads defs name target

-- the same of the names that the definition at this position leads to
abbrev pub AreReturning : List SyntaxDef → ℕ → List ℕ → ℕ → Type 0
AreReturning defs at numbers own =
    (d : SyntaxDef) → slice_get defs at ≡ Some d → Returns defs d.name numbers own (leads_to d.body)

-- the first definition with the name of the one at this position is that of this number
abbrev pub IsFirst : List SyntaxDef → ℕ → ℕ → Type 0
IsFirst defs at first =
    (d : SyntaxDef) → slice_get defs at ≡ Some d → position_of defs d.name ≡ Some first

-- how many parts a body has
abbrev pub part_count : SyntaxBody → ℕ
part_count (body.Alias t) = 1
part_count (body.Variant alternatives) = length alternatives
part_count (body.Fields fields) = length fields

-- the rule that a name in the alias of this name breaks first, or that it breaks none
abbrev pub NameBreaks : List SyntaxDef → List ℕ → List ℕ → Option RuleId → Type 0
NameBreaks defs target name None =
    Holds defs (declared name) × Holds defs (no_return name target)
NameBreaks defs target name (Some rule) =
    ((Holds defs (declared name) → ⊥) × (rule ≡ B2))
    ⊎ (Holds defs (declared name)
    × ((Holds defs (no_return name target) → ⊥) × (rule ≡ B4)))

-- the type is the name of a variant, whose alternatives are known
abbrev pub IsListed : List SyntaxDef → Ty → Type 0
IsListed defs t = (alternatives : List Alternative) × (alternatives_of defs t ≡ Some alternatives)

-- the name is declared, and each way from it ends
pub record IsEnding (defs : List SyntaxDef) (name : List ℕ) : Type 0 where
  pub position : ℕ
  pub there : position_of defs name ≡ Some position
  pub ends : Ends defs name

-- what is found at the alternative of this number; where nothing is, more alternatives than that
-- have cases with different keys
abbrev pub ChecksAt : List SyntaxDef → List ℕ → List Alternative → ℕ → ℕ → Option Broken → Type 0
ChecksAt defs target parts reach at found =
    ((a : Alternative) → slice_get parts at ≡ Some a
    → Finds defs (on_alternative target at (take (suc at) parts) a) found)
    × IfNone found (at < reach)

-- what is found at the definition of this number
abbrev pub CheckedAt : List SyntaxDef → ℕ → Option Broken → Type 0
CheckedAt defs at found =
    (d : SyntaxDef) → slice_get defs at ≡ Some d → Finds defs (conditions_on (take at defs) d) found
