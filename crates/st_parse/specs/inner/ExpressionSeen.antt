-- The verdicts on tokens of expressions, told of what the parser keeps: an expression is read as
-- the conclusion of a rule, behind which nothing but a comma stands.
use Rattle.std.specs.Prelude.{◌≡◌, List, [], Bool, true, false, Some, ◌&&◌, if◌then◌else◌}
use Rattle.st_num.specs.declared.token.Token.{Token}
use Rattle.st_num.specs.declared.rule.RuleId.TheVariants.{S1}
use Rattle.st_num.specs.declared.token.TokenKind.{TokenKind}
use Rattle.st_grammar.specs.Levels.{is_comma}
use Rattle.st_grammar.specs.declared.action.Action.{Action}
use Rattle.st_parse_automaton.specs.declared.position.Advance.{Advance}
use Rattle.st_parse_automaton.specs.declared.position.Advance.TheVariants as advance
use Rattle.st_parse_automaton.specs.declared.position.Position.TheVariants as position
use Rattle.st_parse_automaton.specs.declared.position.TokenClass.{TokenClass}
use Rattle.st_parse_automaton.specs.declared.position.Slot.TheVariants as slot
use Rattle.st_parse_automaton.specs.inner.PartAutomaton as parts
use Rattle.st_parse_automaton.specs.inner.DefinitionAutomaton as definitions
use Rattle.st_parse_automaton.specs.inner.Readings.{progress_of}
use Rattle.st_parse_faults.specs.declared.judge.Seen.{Seen}
use Rattle.st_parse_faults.specs.declared.judge.TokenVerdict.{TokenVerdict as Code}
use Rattle.st_parse_faults.specs.declared.judge.TokenVerdict.TheVariants as code
use Rattle.st_parse_faults.specs.inner.Seen as seen
use Rattle.st_parse_faults.specs.inner.Seen.{Summary, TokenVerdict, passed, broken}

-- A comma stands behind a whole expression.
abbrev pub separates : definitions.State → TokenClass → Bool
separates st l = definitions.signed is_comma l && definitions.may_end st

-- what is known where a next expression begins, with as many brackets open as before
abbrev pub begun : Summary → Summary
begun v = seen.nothing_counted (definitions.start_of slot.Rule []) v.nesting

-- The reading is in a part, and not at a position between parts.
abbrev pub is_inside : definitions.State → Bool
is_inside (definitions.inside s st ks) = true
is_inside (definitions.at p ks) = false

-- Behind an expression no rule goes on.
abbrev pub alone : TokenVerdict → TokenVerdict
alone (passed v) = if is_inside v.state then passed v else broken S1
alone (broken r) = broken r

-- the verdict on a token: a comma begins a next expression, and another goes on with the open one
abbrev pub judge : Summary → TokenKind → TokenClass → TokenVerdict
judge v k l = if separates v.state l then passed (begun v) else alone (seen.judge v k l)

-- A token that passes goes on with the expression, and tells how it stands and what it adds.
abbrev pub Steps : definitions.State → TokenClass → Token → Code → Type 0
Steps st l x (code.Passed s a acts) =
    (definitions.advanced x (definitions.advance st l) ≡ Some (a, progress_of s.progress, acts))
    × (is_inside (progress_of s.progress) ≡ true)
Steps st l x (code.Broken r p) = Unit {0}

-- how a comma stands that begins a next expression: behind the open one, which it ends
abbrev pub behind : Advance
behind = advance.Behind slot.Rule 0 position.Premised

-- the actions of the end of the open expression
abbrev pub end_actions : definitions.State → List Action
end_actions (definitions.inside s st ks) = parts.finishing st
end_actions (definitions.at p ks) = []

-- A token that passes ends the open expression, and adds the actions of its end.
abbrev pub EndsOne : definitions.State → Code → Type 0
EndsOne st (code.Passed s a acts) = (a ≡ behind) × (acts ≡ end_actions st)
EndsOne st (code.Broken r p) = Unit {0}

-- how a token stands and what it adds: a comma that begins a next expression ends the open one
abbrev pub Adds : Bool → definitions.State → TokenClass → Token → Code → Type 0
Adds true st l x v = EndsOne st v
Adds false st l x v = Steps st l x v

-- This is the verdict on a token of this class, where this is known before it.
pub record JudgesToken (known : Seen) (l : TokenClass) (x : Token) (v : Code) : Type 0 where
  pub value : seen.verdict_of v ≡ judge (seen.summary_of known) x.kind l
  pub step : Adds (separates (progress_of known.progress) l) (progress_of known.progress) l x v
