-- The tokens of expressions judged one after another, by how those before them are read: a fold
-- that finds the first token that breaks a rule, and the rule.
use Rattle.std.specs.Prelude.{ℕ, ◌+◌, List, Bool, ◌&&◌, Option, Some, None, nat_lt, if◌then◌else◌}
use Rattle.std.specs.List.{list_any}
use Rattle.st_num.specs.declared.rule.RuleId.{RuleId}
use Rattle.st_num.specs.declared.rule.RuleId.TheVariants.{S1, S4}
use Rattle.st_num.specs.declared.token.Token.{Token}
use Rattle.st_grammar.specs.Terminals.{Terminal, terminal}
use Rattle.st_grammar.specs.Trees.{Trees}
use Rattle.st_parse_faults.specs.declared.before.Before.TheVariants as before
use Rattle.st_parse_faults.specs.inner.Judging.{TokenVerdict, broken, limited, verdict_on, Pass, BreaksAt}
use Rattle.st_parse_faults.specs.inner.LeftOut.{left_out}
use Rattle.st_parse_faults.specs.Nesting.{nesting_after}
use Rattle.st_parse_faults.specs.inner.Bars.{part_bars, may_open}
use Rattle.st_parse_faults.specs.inner.Limits.{tally_passes, part_tallies}
use Rattle.st_num.specs.declared.limit.TheConstants.{HIGHEST_TREE}
use Rattle.st_parse.specs.inner.ExpressionReading.{State, start, step, finish}

-- what is known behind some tokens: how they are read, and how many brackets are open
pub record Seen : Type 0 where
  pub state : State
  pub nesting : ℕ

-- The token is a bracket or bar behind which more are open than may be.
abbrev pub opens_too_many : Seen → Terminal → Bool
opens_too_many seen l =
    may_open l && nat_lt HIGHEST_TREE (seen.nesting + part_bars seen.state.here)

-- Between some brackets of the open expression, or outside all, there are too many parts or signs.
abbrev pub passes_limit : Seen → Bool
passes_limit seen = list_any tally_passes (part_tallies 0 seen.state.here)

-- The rule that a refused token breaks. No syntax, premise or type stands before it.
abbrev pub refusal : Seen → Token → RuleId
refusal seen x = if left_out before.Other seen.nesting x.kind then S4 else S1

-- what is known behind a token that is read, or the limit that is passed there
abbrev pub kept : Seen → Terminal → TokenVerdict Seen
kept seen l = limited (opens_too_many seen l) (passes_limit seen) seen

-- what is known behind a token that is read
abbrev pub seen_after : Seen → Terminal → State → Seen
seen_after seen l next = record { state = next; nesting = nesting_after seen.nesting l }

-- the verdict on a token: it breaks a rule, or leads on to this state of the reading
abbrev pub judged : Seen → Token → Terminal → Option State → TokenVerdict Seen
judged seen x l None = broken (refusal seen x)
judged seen x l (Some next) = kept (seen_after seen l next) l

-- the verdict on one token behind what is seen, where these names are declared by `var`
abbrev pub judge : List (List ℕ) → Seen → Token → TokenVerdict Seen
judge names seen x = judged seen x (terminal names x) (step seen.state (terminal names x))

-- Before the first token nothing is read, and no bracket is open.
abbrev pub nothing_seen : Seen
nothing_seen = record { state = start; nesting = 0 }

-- the verdict on the first k tokens
abbrev pub verdict : List (List ℕ) → List Token → ℕ → TokenVerdict Seen
verdict names tokens k = verdict_on (judge names) nothing_seen tokens k

-- the expressions that are read, where they may end here
abbrev pub ended : Seen → Option Trees
ended seen = finish seen.state

-- Each token passes, and the tokens may end.
abbrev pub AllPass : List (List ℕ) → List Token → Type 0
AllPass names tokens = Pass (judge names) ended nothing_seen tokens

-- The first fault breaks this rule at token k, or at the end where the tokens end too early.
abbrev pub FirstBreak : List (List ℕ) → List Token → ℕ → RuleId → Type 0
FirstBreak names tokens k r = BreaksAt (judge names) ended nothing_seen tokens k r
