-- The tokens judged one after another, by how those before them are read: a fold that finds the
-- first token that breaks a rule, and the rule.
use Rattle.std.specs.Prelude.{ℕ, ◌+◌, List, Bool, ◌&&◌, ◌||◌, Option, Some, None, nat_lt, if◌then◌else◌}
use Rattle.st_num.specs.declared.rule.RuleId.{RuleId}
use Rattle.st_num.specs.declared.rule.RuleId.TheVariants.{S1, S4}
use Rattle.st_num.specs.declared.limit.TheConstants.{HIGHEST_TREE}
use Rattle.st_num.specs.declared.token.Token.{Token}
use Rattle.st_grammar.specs.Terminals.{Terminal, terminal, declared_names}
use Rattle.st_grammar.specs.Definitions.{Defs}
use Rattle.st_grammar.specs.Positions.{State, start, step, finish}
use Rattle.st_parse_faults.specs.inner.Judging.{TokenVerdict, broken, limited, verdict_on, Pass, BreaksAt}
use Rattle.st_parse_faults.specs.inner.LeftOut.{before_next, left_out}
use Rattle.st_parse_faults.specs.Nesting.{nesting_after}
use Rattle.st_parse_faults.specs.inner.Bars.{bars, may_open}
use Rattle.st_parse_faults.specs.declared.counts.Counts.{Counts}
use Rattle.st_parse_faults.specs.inner.Limits.{part_passes}
use Rattle.st_parse_faults.specs.inner.Counts.{event, member_due, counts_after, counts_pass, no_counts}

-- what is known behind some tokens: how they are read, how many brackets are open, and what is
-- counted
pub record Seen : Type 0 where
  pub state : State
  pub nesting : ℕ
  pub counts : Counts

-- The token is a bracket or bar behind which more are open than may be.
abbrev pub opens_too_many : Seen → Terminal → Bool
opens_too_many seen l = may_open l && nat_lt HIGHEST_TREE (seen.nesting + bars seen.state)

-- the rule that a refused token breaks
abbrev pub refusal : Seen → Token → RuleId
refusal seen x = if left_out (before_next seen.state) seen.nesting x.kind then S4 else S1

-- Something that is counted passes its limit.
abbrev pub passes_limit : Seen → Bool
passes_limit seen = counts_pass seen.counts || part_passes seen.state

-- the verdict where a token is read: too many brackets, too much of something else, or no fault
abbrev pub kept : Seen → Terminal → TokenVerdict Seen
kept seen l = limited (opens_too_many seen l) (passes_limit seen) seen

-- what is known behind a token that is read
abbrev pub seen_after : Seen → Terminal → State → Seen
seen_after seen l next =
    record {
      state = next;
      nesting = nesting_after seen.nesting l;
      counts = counts_after seen.counts (event (member_due seen.state) next);
    }

-- the verdict on a token, by the state behind it: with none, the grammar refuses it there
abbrev pub judged : Seen → Token → Terminal → Option State → TokenVerdict Seen
judged seen x l None = broken (refusal seen x)
judged seen x l (Some next) = kept (seen_after seen l next) l

-- the verdict on one token behind what is seen, where these names are declared by `var`
abbrev pub judge : List (List ℕ) → Seen → Token → TokenVerdict Seen
judge names seen x = judged seen x (terminal names x) (step seen.state (terminal names x))

-- what is known before the first token
abbrev pub nothing_seen : Seen
nothing_seen = record { state = start; nesting = 0; counts = no_counts }

-- the verdict on the first k of these tokens
abbrev pub verdict : List Token → ℕ → TokenVerdict Seen
verdict tokens k = verdict_on (judge (declared_names tokens)) nothing_seen tokens k

-- the definitions that are read, where they may end
abbrev pub ended : Seen → Option Defs
ended seen = finish seen.state

-- Each token passes, and the tokens may end.
abbrev pub AllPass : List Token → Type 0
AllPass tokens = Pass (judge (declared_names tokens)) ended nothing_seen tokens

-- The first fault breaks this rule at token k, or at the end where the tokens end too early.
abbrev pub FirstBreak : List Token → ℕ → RuleId → Type 0
FirstBreak tokens k r = BreaksAt (judge (declared_names tokens)) ended nothing_seen tokens k r
