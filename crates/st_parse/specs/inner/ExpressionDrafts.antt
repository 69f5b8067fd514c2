-- What is built of expressions while their tokens are read.
use Rattle.std.specs.Prelude.{◌≡◌, ◌≤◌, ◌<◌, List, [], ◌∷◌, ◌++◌, map, Bool, true, false, Option, Some, None}
use Rattle.st_num.specs.declared.limit.TheConstants.{HIGHEST_TREE}
use Rattle.st_num.specs.declared.token.Token.{Token}
use Rattle.st_grammar.specs.declared.sort.Sort.TheVariants.{Expression as expression}
use Rattle.st_grammar.specs.Trees.{Tree}
use Rattle.st_grammar.specs.Grammar.{Fits}
use Rattle.st_el.specs.declared.expression.Exp.{Exp}
use Rattle.st_grammar.specs.declared.action.Action.{Action}
use Rattle.st_parse_builder.specs.Meaning.{meaning}
use Rattle.st_parse_builder.specs.Heights.{highest, height}
use Rattle.st_grammar.specs.inner.Actions.{acts}
use Rattle.st_parse_automaton.specs.declared.part_automaton.Shape.{Shape}
use Rattle.st_parse_automaton.specs.declared.position.Advance.{Advance}
use Rattle.st_parse_automaton.specs.declared.position.Advance.TheVariants as advance
use Rattle.st_parse_automaton.specs.declared.position.Progress.{Progress}
use Rattle.st_parse_automaton.specs.declared.position.TokenClass.{TokenClass}
use Rattle.st_parse_automaton.specs.inner.PartAutomaton as parts
use Rattle.st_parse.specs.declared.expression_draft.ExpressionReader.{ExpressionReader as Draft}

-- the expression that is built of one that means this, where it is not too high
abbrev pub IsBuilt : Exp → Option Exp → Type 0
IsBuilt e (Some built) = (built ≡ e) × (height e ≤ HIGHEST_TREE)
IsBuilt e None = HIGHEST_TREE < height e

-- the same of several
abbrev pub AreBuilt : List Exp → Option (List Exp) → Type 0
AreBuilt es (Some built) = (built ≡ es) × (highest (map height es) ≤ HIGHEST_TREE)
AreBuilt es None = HIGHEST_TREE < highest (map height es)

-- the expressions with one more, where all are built
abbrev pub with_exp : Option (List Exp) → Option Exp → Option (List Exp)
with_exp (Some es) (Some e) = Some (es ++ e ∷ [])
with_exp es e = None

-- a draft of these expressions and actions
abbrev pub draft : Option (List Exp) → List Action → Draft
draft es done = record { exps = es; actions = done }

-- the draft with these actions behind those of the next expression
abbrev pub with_actions : List Action → Draft → Draft
with_actions acts d = draft d.exps (d.actions ++ acts)

-- An expression ends whose actions are all there.
pub record Completes (old new : Draft) : Type 0 where
  pub actions : new.actions ≡ []
  -- The expression that the actions build is one more of those that are built.
  pub exps : (t : Tree) (es : List Exp) → Fits (expression false) t → acts t ≡ old.actions
      → AreBuilt es old.exps → AreBuilt (es ++ meaning t ∷ []) new.exps

-- A token that stands behind an expression ends it, and another changes nothing else.
abbrev pub Turns : Advance → Draft → Draft → Type 0
Turns (advance.On s) old new = new ≡ old
Turns (advance.At p) old new = new ≡ old
Turns (advance.Behind s n p) old new = Completes old new

-- A token that stands so, leads there and adds these actions makes the latter of what was kept.
abbrev pub TakesToken : Advance → Progress → TokenClass → Token → List Action → Draft → Draft
    → Type 0
TakesToken a next l x acts old new = Turns a (with_actions acts old) new

-- An expression ends, whose actions are all there with those of its end.
abbrev pub Ends : parts.State → Draft → Draft → Type 0
Ends st old new = Completes (with_actions (parts.finishing st) old) new

-- what a token makes of a draft: a comma behind a whole expression, or another
abbrev pub Takes : Bool → parts.State → Shape → Token → Draft → Draft → Type 0
Takes true st s x old new = Ends st old new
Takes false st s x old new = new ≡ with_actions (parts.emits (expression false) st s x) old
