-- What is known of a work where it is cut off.
use Rattle.std.specs.Prelude.{◌≡◌, List, [], ◌++◌, length, Bool, true, false, Option, Some, None, if◌then◌else◌}
use Rattle.std.specs.Option.{option_or}
use Rattle.st_num.specs.declared.limit.TheConstants.{MOST_PREMISES}
use Rattle.st_num.specs.declared.span.Span.{Span}
use Rattle.st_grammar.specs.declared.sort.Bracket.{Bracket}
use Rattle.st_parse_automaton.specs.declared.part_automaton.Part.{Part}
use Rattle.st_parse_automaton.specs.declared.position.Slot.{Slot}
use Rattle.st_parse_automaton.specs.declared.position.Slot.TheVariants as slot
use Rattle.st_parse_automaton.specs.inner.PartAutomaton as parts
use Rattle.st_parse_automaton.specs.inner.DefinitionAutomaton as definitions
use Rattle.st_el.specs.declared.definition.Def.{Def}
use Rattle.st_parse_builder.specs.inner.Building.{Stack, run}
use Rattle.st_parse_builder.specs.Variables.{Occurrence, occurrences}
use Rattle.st_parse_builder.specs.Limits.{place_past}
use Rattle.st_parse_builder.specs.inner.PieceVariables.{stack_variables}
use Rattle.st_parse.specs.declared.draft.Draft.{Draft}
use Rattle.st_parse.specs.inner.Ready.{told, asked, Awaits}
use Rattle.st_parse.specs.inner.Work.{Work, filled_work}
use Rattle.st_parse.specs.declared.variables.Variables.{Variables}
use Rattle.st_parse.specs.Limits.{variable_past, first_that}

-- the part belongs to a rule or clause
abbrev pub in_rule : Slot → Bool
in_rule slot.Rule = true
in_rule slot.Condition = true
in_rule slot.Count = true
in_rule s = false

-- the variables of pieces that are cut off, where the part belongs to a rule or clause
abbrev pub cut : Slot → Stack → List Occurrence
cut s u = if in_rule s then stack_variables u else []

-- the variables of the open definition
abbrev pub of_open : Draft → List Occurrence
of_open d = told d ++ asked d

-- the first variable past the limit, in these definitions or among these variables
abbrev pub past_in : List Def → List Occurrence → Option Span
past_in defs vs = option_or (first_that variable_past defs) (place_past MOST_PREMISES vs)

-- the variables past the limit are known of these definitions, and all of the open one are noted
pub record Counts (v : Variables) (defs : List Def) (vs : List Occurrence) : Type 0 where
  pub past : v.past ≡ first_that variable_past defs
  pub all : occurrences v.before ++ occurrences v.inside ≡ vs

-- The open definition has these variables, where the part ends or is cut off.
abbrev pub Parted : Slot → parts.State → List Bracket → Work → List Occurrence → Option Part
    → Type 0
Parted s st ks w vs None =
    (u : Stack) × (run w.actions [] ≡ Some u) × (of_open w.draft ++ cut s u ≡ vs)
Parted s st ks w vs (Some p) =
    Awaits s w.draft
    × ((mid : Work) × (filled_work s (length ks) st w ≡ Some mid)
    × (mid.draft.defs ≡ w.draft.defs) × (of_open mid.draft ≡ vs))

-- The open definition has these variables where the tokens are cut off in this state.
abbrev pub Opens : definitions.State → Work → List Occurrence → Type 0
Opens (definitions.at p ks) w vs = of_open w.draft ≡ vs
Opens (definitions.inside s st ks) w vs = Parted s st ks w vs (parts.finish st)
