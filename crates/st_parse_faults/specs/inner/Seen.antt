-- What is known behind some tokens and how one more is judged, of what the parser keeps of them.
use Rattle.std.specs.Prelude.{◌≡◌, ℕ, ◌+◌, ◌-◌, ◌≤◌, List, [], ◌∷◌, reverse, Bool, true, false, ◌&&◌, ◌||◌, Option, Some, None, nat_lt, if◌then◌else◌}
use Rattle.std.specs.List.{AllByRecursion, list_any}
use Rattle.st_num.specs.declared.rule.RuleId.{RuleId}
use Rattle.st_num.specs.declared.rule.RuleId.TheVariants.{S1, S2, S3, S4}
use Rattle.st_num.specs.declared.limit.TheConstants.{HIGHEST_TREE, MOST_DEFINITIONS, MOST_PREMISES, MOST_PARTS, MOST_SIGNS}
use Rattle.st_num.specs.declared.token.Token.{Token}
use Rattle.st_num.specs.declared.token.TokenKind.{TokenKind}
use Rattle.st_grammar.specs.declared.sort.Closing.TheVariants as closing
use Rattle.st_grammar.specs.declared.sort.Bracket.{Bracket}
use Rattle.st_grammar.specs.declared.sort.Sort.{Sort}
use Rattle.st_grammar.specs.declared.sort.Sort.TheVariants as sort
use Rattle.st_parse_automaton.specs.declared.part_automaton.Shape.{Shape}
use Rattle.st_parse_automaton.specs.declared.part_automaton.Shape.TheVariants.{Open, Close}
use Rattle.st_parse_automaton.specs.declared.part_automaton.Part.{Part}
use Rattle.st_parse_automaton.specs.declared.part_automaton.PartKind.{PartKind}
use Rattle.st_parse_automaton.specs.declared.part_automaton.PartKind.TheVariants.{Length}
use Rattle.st_parse_automaton.specs.declared.part_automaton.Frame.{Frame}
use Rattle.st_parse_automaton.specs.declared.part_automaton.Frame.TheVariants.{Within}
use Rattle.st_parse_automaton.specs.declared.part_automaton.Expected.TheVariants.{Next}
use Rattle.st_parse_automaton.specs.declared.position.Position.{Position}
use Rattle.st_parse_automaton.specs.declared.position.Position.TheVariants as position
use Rattle.st_parse_automaton.specs.declared.position.Host.TheVariants as host
use Rattle.st_parse_automaton.specs.declared.position.Slot.{Slot}
use Rattle.st_parse_automaton.specs.declared.position.Slot.TheVariants as slot
use Rattle.st_parse_automaton.specs.declared.position.IterationState.TheVariants as iterations
use Rattle.st_parse_automaton.specs.declared.position.TokenClass.{TokenClass}
use Rattle.st_parse_automaton.specs.declared.position.Step.{Step}
use Rattle.st_parse_automaton.specs.inner.Readings.{progress_of}
use Rattle.st_parse_automaton.specs.inner.PartAutomaton as parts
use Rattle.st_parse_automaton.specs.inner.DefinitionAutomaton as definitions
use Rattle.st_parse_faults.specs.declared.before.Before.{Before}
use Rattle.st_parse_faults.specs.declared.before.Before.TheVariants as before
use Rattle.st_parse_faults.specs.declared.judge.Seen.{Seen as CodeSeen}
use Rattle.st_parse_faults.specs.declared.judge.TokenVerdict.{TokenVerdict as Code}
use Rattle.st_parse_faults.specs.declared.tally.Tally.{Tally}
use Rattle.st_parse_faults.specs.declared.judge.TokenVerdict.TheVariants as variant
use Rattle.st_parse_faults.specs.inner.LeftOut.{type_or_other, left_out}
use Rattle.st_parse_faults.specs.declared.counts.Counts.{Counts}
use Rattle.st_parse_faults.specs.declared.counts.Event.{Event}
use Rattle.st_parse_faults.specs.declared.counts.Event.TheVariants.{Definition, Premise, Iteration, Closed, Nothing}
use Rattle.st_parse_faults.specs.inner.Counts.{member_event, counts_after, counts_pass, no_counts}
use Rattle.st_parse_faults.specs.inner.Limits.{fresh, tally_passes}
use Rattle.st_parse_faults.specs.inner.Roles.{none_open, attachment_of, tallies_after, TallyKept}

-- whether the part that ends so is a type
abbrev pub ends_type : Sort → Part → Bool
ends_type sort.Typ p = true
ends_type sort.Notation p = parts.is_type p
ends_type σ p = false

-- what ends directly before a position
abbrev pub before_at : Position → List Bracket → Before
before_at (position.Hinted host.Syntax true) ks = before.SyntaxName
before_at position.PremiseOpen [] = before.Dashes
before_at p ks = before.Other

-- what ends directly before the next token of a part
abbrev pub before_inside : Slot → parts.State → Before
before_inside s (Next p, fs) = type_or_other (ends_type (parts.top (definitions.slot_sort s) fs) p)
before_inside s st = before.Other

-- what ends directly before the next token
abbrev pub stands_before : definitions.State → Before
stands_before (definitions.at p ks) = before_at p ks
stands_before (definitions.inside s st ks) = before_inside s st

-- how many brackets are open behind such a token, where so many are open before it
abbrev pub nesting_after : ℕ → Shape → ℕ
nesting_after n (Open k t) = n + 1
nesting_after n (Close closing.ByBar) = n
nesting_after n (Close c) = n - 1
nesting_after n s = n

-- one for the bars of a length, and none for another bracket
abbrev pub kind_bars : PartKind → ℕ
kind_bars Length = 1
kind_bars k = 0

-- one for a length that is open in this frame, and else none
abbrev pub bars_in : Frame → ℕ
bars_in (Within k f t σ) = kind_bars k
bars_in f = 0

-- the lengths that are open in these frames
abbrev pub frame_bars : List Frame → ℕ
frame_bars [] = 0
frame_bars (f ∷ fs) = bars_in f + frame_bars fs

-- the lengths that are open where definitions are read so far
abbrev pub bars : definitions.State → ℕ
bars (definitions.at p ks) = 0
bars (definitions.inside s st ks) = frame_bars st.1

-- such a token is a bracket that opens, or a bar
abbrev pub may_open : Shape → Bool
may_open (Open k t) = true
may_open (Close closing.ByBar) = true
may_open s = false

-- ---- counts

-- an argument of a definition is due, where a part begins
abbrev pub argument_due : Slot → Bool → Bool
argument_due (slot.Argument e t) b = b
argument_due s b = false

-- an alternative, a field or an argument is due at this position
abbrev pub position_due : Position → Bool
position_due (position.Entering s) = true
position_due (position.FieldName b) = true
position_due p = false

-- a part that the next token begins is an alternative, a field of a body or an argument
abbrev pub member_due : definitions.State → Bool
member_due (definitions.at p ks) = position_due p
member_due (definitions.inside s st ks) = argument_due s (none_open st)

-- what a token begins that leads to this position
abbrev pub event_at : Position → List Bracket → Event
event_at position.SyntaxName ks = Definition
event_at position.RelationName ks = Definition
event_at position.RuleName ks = Definition
event_at position.VarName ks = Definition
event_at position.FunName ks = Definition
event_at position.PremiseOpen [] = Premise
event_at (position.Iterated iterations.Complete) ks = Iteration
event_at (position.Iterated iterations.Wanted) ks = Closed
event_at p ks = Nothing

-- an iteration, where a count behind `^` begins, and else this
abbrev pub count_event : Bool → Event → Event
count_event true e = Iteration
count_event false e = e

-- what a token begins that leads into a part, where a member was due or not
abbrev pub event_inside : Bool → Slot → parts.State → Event
event_inside b slot.Count st = count_event (none_open st) (member_event b)
event_inside b s st = member_event b

-- what a token begins behind which this is the state, where a member was due or not
abbrev pub event : Bool → definitions.State → Event
event b (definitions.at p ks) = event_at p ks
event b (definitions.inside s st ks) = event_inside b s st

-- ---- verdicts

-- what the code keeps, as the definitions see it
pub record Summary : Type 0 where
  pub state : definitions.State
  pub nesting : ℕ
  pub counts : Counts
  pub tallies : List Tally

-- what is known behind some tokens, or the rule that one of them breaks
pub data TokenVerdict : Type 0 where
  passed : Summary → TokenVerdict
  broken : RuleId → TokenVerdict

-- the token is a bracket or bar behind which more are open than may be
abbrev pub opens_too_many : definitions.State → ℕ → Shape → Bool
opens_too_many st n s = may_open s && nat_lt HIGHEST_TREE (n + bars st)

-- the verdict where too many brackets are open, or else too much is counted, or neither
abbrev pub limited : Bool → Bool → Summary → TokenVerdict
limited true b v = broken S2
limited false true v = broken S3
limited false false v = passed v

-- something that is counted passes its limit
abbrev pub passes_limit : Summary → Bool
passes_limit v = counts_pass v.counts || list_any tally_passes v.tallies

-- the verdict where a token is read: too many brackets, too much of something else, or no fault
abbrev pub kept : Summary → Shape → TokenVerdict
kept v s = limited (opens_too_many v.state v.nesting s) (passes_limit v) v

-- the rule that a refused token breaks
abbrev pub refusal : Before → ℕ → TokenKind → RuleId
refusal b n k = if left_out b n k then S4 else S1

-- what is known behind a token that is read
abbrev pub summary_after : Summary → Shape → definitions.State → Summary
summary_after v s next =
    record {
      state = next;
      nesting = nesting_after v.nesting s;
      counts = counts_after v.counts (event (member_due v.state) next);
      tallies = tallies_after (attachment_of v.state s) s next v.tallies;
    }

-- the verdict on a token, by the state behind it: with none, the grammar refuses it there
abbrev pub judged : Summary → TokenKind → Shape → Option definitions.State → TokenVerdict
judged v k s None = broken (refusal (stands_before v.state) v.nesting k)
judged v k s (Some next) = kept (summary_after v s next) s

-- the verdict on one more token
abbrev pub judge : Summary → TokenKind → TokenClass → TokenVerdict
judge v k l = judged v k l.shape (definitions.step v.state l)

-- a part begins, and nothing else is counted
abbrev pub nothing_counted : definitions.State → ℕ → Summary
nothing_counted st n =
    record { state = st; nesting = n; counts = no_counts; tallies = fresh 0 ∷ [] }

-- what is known before the first token
abbrev pub nothing_summarized : Summary
nothing_summarized = nothing_counted (definitions.at position.Between []) 0

-- what the code keeps, with the innermost first
abbrev pub summary_of : CodeSeen → Summary
summary_of s =
    record {
      state = progress_of s.progress;
      nesting = s.nesting;
      counts = s.counts;
      tallies = reverse s.tallies;
    }

-- the verdict of the code
abbrev pub verdict_of : Code → TokenVerdict
verdict_of (variant.Passed s a acts) = passed (summary_of s)
verdict_of (variant.Broken r p) = broken r

-- the state behind a step of the code, where it makes one
abbrev pub state_behind : Option Step → Option definitions.State
state_behind None = None
state_behind (Some s) = Some (progress_of s.progress)

-- The code tells how the token stands, where it leads and what it adds; where it breaks a rule, how
-- far the tokens before it are read.
abbrev pub Stands : definitions.State → TokenClass → Token → Code → Type 0
Stands st l x (variant.Passed s a acts) =
    definitions.advanced x (definitions.advance st l) ≡ Some (a, progress_of s.progress, acts)
Stands st l x (variant.Broken r p) = progress_of p ≡ st

-- Nothing that is counted between parts passes a limit.
abbrev pub Kept : Counts → Type 0
Kept c =
    (c.definitions ≤ MOST_DEFINITIONS) × (c.premises ≤ MOST_PREMISES) × (c.members ≤ MOST_PARTS)
    × (c.iterations ≤ MOST_SIGNS)

-- nothing that the code keeps passes a limit
abbrev pub SeenKept : CodeSeen → Type 0
SeenKept s =
    (s.nesting ≤ HIGHEST_TREE) × Kept s.counts × AllByRecursion TallyKept (reverse s.tallies)

-- nothing that the code keeps in its verdict passes a limit
abbrev pub IsBounded : Code → Type 0
IsBounded (variant.Passed s a acts) = SeenKept s
IsBounded (variant.Broken r p) = Unit {0}
