-- What a change and a part ask of the draft before them, so that all trees and variables of a draft
-- are those of the definition that it becomes.
use Rattle.std.specs.Prelude.{◌≡◌, ◌≤◌, List, [], ◌++◌, flat_map, false, Option, Some, None}
use Rattle.st_el.specs.declared.definition.Prem.{Prem}
use Rattle.st_el.specs.declared.definition.DefNode.{DefNode}
use Rattle.st_parse_builder.specs.Variables.{Occurrence, variables, prem_variables, def_node_variables}
use Rattle.st_parse_builder.specs.DefHeights.{def_node_height}
use Rattle.st_parse_automaton.specs.declared.position.Slot.{Slot}
use Rattle.st_parse_automaton.specs.declared.position.Slot.TheVariants as slot
use Rattle.st_parse.specs.declared.change.Change.{Change}
use Rattle.st_parse.specs.declared.change.Change.TheVariants as change
use Rattle.st_parse.specs.declared.change.DefinitionEnd.{DefinitionEnd}
use Rattle.st_parse.specs.declared.change.DefinitionEnd.TheVariants as ending
use Rattle.st_parse.specs.declared.draft.Draft.{Draft}
use Rattle.st_parse.specs.inner.Drafts.{node_of}
use Rattle.st_parse.specs.inner.Heights.{IsLow}

-- ---- variables

-- the variables of what there is
abbrev pub in_some : {A : Type 0} → (A → List Occurrence) → Option A → List Occurrence
in_some f None = []
in_some f (Some a) = f a

-- the variables of a draft but for those of the open premise, in the order of the text
abbrev pub told : Draft → List Occurrence
told d =
    flat_map variables d.sides.args
    ++ (in_some variables d.sides.exp ++ flat_map prem_variables d.premises.whole)

-- the variables of the open premise
abbrev pub asked : Draft → List Occurrence
asked d = in_some prem_variables d.premises.prem

-- ---- ends

-- The open definition is whole where it ends so: it has the variables of the draft, and where it is
-- not too high, no tree of the draft is.
pub record Ends (e : DefinitionEnd) (d : Draft) : Type 0 where
  pub node : DefNode
  pub is : node_of e d.head d.members d.sides d.premises ≡ Some node
  pub same : def_node_variables node ≡ told d ++ asked d
  pub low : def_node_height node ≤ 100 → IsLow d

-- No definition is open.
pub record IsClear (d : Draft) : Type 0 where
  pub none : told d ++ asked d ≡ []
  pub low : IsLow d

-- What ends so is whole, or nothing is open.
abbrev pub MayEnd : DefinitionEnd → Draft → Type 0
MayEnd ending.Nothing d = IsClear d
MayEnd e d = Ends e d

-- ---- changes

-- What the change puts into the draft, or takes from it, is not there.
abbrev pub Ready : Change → Draft → Type 0
Ready (change.Begin e) d = MayEnd e d
Ready (change.End e) d = MayEnd e d
Ready change.Params d = d.sides.params ≡ []
Ready change.Args d = (d.sides.args ≡ []) × (d.sides.exp ≡ None) × (d.premises.whole ≡ [])
Ready (change.Premise false) d = d.premises.prem ≡ None
Ready change.Otherwise d = d.premises.prem ≡ None
Ready c d = Unit {0}

-- ---- parts

-- The part that ends so is not in the draft, and a count iterates a premise.
abbrev pub Awaits : Slot → Draft → Type 0
Awaits slot.Var d = d.sides.typ ≡ None
Awaits slot.Fun d = d.sides.typ ≡ None
Awaits slot.Rule d = (d.sides.exp ≡ None) × (d.premises.whole ≡ [])
Awaits slot.Condition d = d.premises.prem ≡ None
Awaits slot.Count d = (p : Prem) × (d.premises.prem ≡ Some p)
Awaits s d = Unit {0}
