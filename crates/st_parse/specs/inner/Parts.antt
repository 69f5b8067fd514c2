-- What the actions of parts build, and what that changes of a draft.
use Rattle.std.specs.Prelude.{ℕ, List, [], ◌∷◌, Option, Some, None, option_and_then, if◌then◌else◌}
use Rattle.std.specs.Option.{option_map}
use Rattle.st_num.specs.declared.token.Token.{Token}
use Rattle.st_parse_automaton.specs.declared.part_automaton.Shape.{Shape}
use Rattle.st_parse_automaton.specs.declared.position.TokenClass.{TokenClass}
use Rattle.st_parse_automaton.specs.declared.position.Slot.{Slot}
use Rattle.st_parse_automaton.specs.declared.position.Slot.TheVariants as slot
use Rattle.st_parse_automaton.specs.inner.DefinitionAutomaton.{opens_round}
use Rattle.st_el.specs.declared.expression.Exp.{Exp}
use Rattle.st_el.specs.declared.expression.Count.{Count}
use Rattle.st_el.specs.declared.expression.Count.TheVariants as count
use Rattle.st_grammar.specs.declared.action.Action.{Action}
use Rattle.st_parse_builder.specs.declared.piece.Piece.{Piece}
use Rattle.st_parse_builder.specs.declared.piece.Piece.TheVariants.{Done}
use Rattle.st_parse_builder.specs.Names.{name_of}
use Rattle.st_parse_builder.specs.inner.Building.{run}
use Rattle.st_parse_builder.specs.inner.NotationBuilding.{typ_built, notation_built}
use Rattle.st_parse.specs.declared.change.Change.{Change}
use Rattle.st_parse.specs.declared.change.Change.TheVariants as change
use Rattle.st_parse.specs.declared.parts.PartToken.{PartToken}
use Rattle.st_parse.specs.declared.parts.PartTree.{PartTree}
use Rattle.st_parse.specs.declared.parts.PartTree.TheVariants as tree
use Rattle.st_parse.specs.declared.draft.Draft.{Draft}
use Rattle.st_parse.specs.inner.Drafts.{params_put, args_put, with_sides, applied, typ_filled, notation_filled, condition_filled, exp_filled, count_filled}

-- ---- what is built

-- the one finished expression on the stack
abbrev pub the_exp : List Piece → Option Exp
the_exp (Done e ∷ []) = Some e
the_exp s = None

-- the expression that actions build
abbrev pub exp_built : List Action → Option Exp
exp_built actions = option_and_then the_exp (run actions [])

-- what several lists of actions build
abbrev pub all_built : {A : Type 0} → (List Action → Option A) → List (List Action)
    → Option (List A)
all_built f [] = Some []
all_built f (actions ∷ later) =
    option_and_then (λ a. option_map (λ more. a ∷ more) (all_built f later)) (f actions)

-- ---- changes

-- a draft behind the arguments that these actions build, as types of parameters
abbrev pub redrafted_params : List (List Action) → Draft → Option Draft
redrafted_params arguments d =
    option_map (λ ts. with_sides (params_put ts d.sides) d) (all_built typ_built arguments)

-- a draft behind the arguments that these actions build, as patterns of a clause
abbrev pub redrafted_args : List (List Action) → Draft → Option Draft
redrafted_args arguments d =
    option_map (λ es. with_sides (args_put es d.sides) d) (all_built exp_built arguments)

-- a draft behind a change, where the arguments have these actions
abbrev pub redrafted : Change → Shape → Token → List (List Action) → Draft → Option Draft
redrafted change.Params sh x arguments d = redrafted_params arguments d
redrafted change.Args sh x arguments d = redrafted_args arguments d
redrafted c sh x arguments d = Some (applied c sh x [] [] d)

-- ---- parts that end

-- a token of a count, as the parser sees it and as it stands in the text
abbrev pub word_of : PartToken → TokenClass × Token
word_of w = (w.class, w.token)

-- the index of a count that begins with these tokens
abbrev pub index_in : List (TokenClass × Token) → Option (List ℕ)
index_in ((o, x) ∷ (l, i) ∷ words) = if opens_round o then Some (name_of i.kind) else None
index_in words = None

-- a count of so many, with an index that runs below it where there is one
abbrev pub count_with : Option (List ℕ) → Exp → Count
count_with None e = count.Times e
count_with (Some name) e = count.Below name e

-- A draft behind a part with these actions, and these tokens where it is a count, with so many
-- parentheses open round it.
abbrev pub refilled : Slot → ℕ → List Action → List (TokenClass × Token) → Draft → Option Draft
refilled slot.Field n acts words d =
    option_map (λ t. typ_filled slot.Field t d) (typ_built acts)
refilled (slot.Case c) n acts words d = option_map (λ k. notation_filled k d) (notation_built acts)
refilled slot.Var n acts words d = option_map (λ t. typ_filled slot.Var t d) (typ_built acts)
refilled slot.Notation n acts words d =
    option_map (λ k. notation_filled k d) (notation_built acts)
refilled slot.Fun n acts words d = option_map (λ t. typ_filled slot.Fun t d) (typ_built acts)
refilled (slot.Argument e t) n acts words d = Some d
refilled slot.Rule n acts words d = option_map (λ e. exp_filled e d) (exp_built acts)
refilled slot.Condition n acts words d = option_map (λ e. condition_filled e d) (exp_built acts)
refilled slot.Count n acts words d =
    option_map (λ e. count_filled n (count_with (index_in words) e) d) (exp_built acts)

-- ---- the trees of parts

-- a draft behind an expression, and these tokens where it is a count
abbrev pub exp_put : Slot → ℕ → Exp → List (TokenClass × Token) → Draft → Draft
exp_put slot.Condition n e words d = condition_filled e d
exp_put slot.Count n e words d = count_filled n (count_with (index_in words) e) d
exp_put s n e words d = exp_filled e d

-- a draft behind a part with this tree
abbrev pub tree_put : Slot → ℕ → PartTree → List (TokenClass × Token) → Draft → Draft
tree_put s n (tree.Typ t) words d = typ_filled s t d
tree_put s n (tree.Notation k) words d = notation_filled k d
tree_put s n (tree.Exp e) words d = exp_put s n e words d
tree_put s n tree.Argument words d = d
