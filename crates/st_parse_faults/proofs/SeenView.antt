-- What the parser keeps gives the verdict of the reading.
use Rattle.std.proofs.Common.{◌≡◌, ℕ, ◌+◌, List, [], ◌∷◌, Bool, true, false, ◌&&◌, Option, Some, None, option_map, nat_lt, refl, sym, ap, ◌∙◌, arith}
use Rattle.st_num.specs.declared.limit.TheConstants.{HIGHEST_TREE}
use Rattle.st_num.specs.declared.token.Token.{Token}
use Rattle.st_grammar.specs.declared.sort.Sort.{Sort}
use Rattle.st_grammar.specs.declared.sort.Sort.TheVariants as sort
use Rattle.st_grammar.specs.declared.sort.Closing.TheVariants as closings
use Rattle.st_grammar.specs.Terminals.{Terminal, terminal, leaf, dot, sign, opening, closing, other}
use Rattle.st_grammar.specs.Trees as tree
use Rattle.st_grammar.specs.Trees.{Tree, Heading}
use Rattle.st_grammar.specs.Definitions.{no_hints, more_hints, no_iterations, closed, marked, counted}
use Rattle.st_grammar.specs.Reading as part
use Rattle.st_grammar.specs.Positions as spec
use Rattle.st_grammar.specs.Positions.{field_slot, case_slot, var_slot, notation_slot, fun_slot, arg_slot, rule_slot, cond_slot, count_slot, of_syntax, of_field, of_case, of_var, of_relation, of_notation, of_fun, between, syntax_name, var_name, var_colon, relation_name, rule_name, rule_colon, fun_name, fun_named, argued, args_closed, syntax_id, rule_id, hinted, hint_open, hint_name, hint_words, entering, dotted, field_name, premised, premise_open, goal_colon, iterated}
use Rattle.st_grammar.proofs.PositionTexts as texts
use Rattle.st_parse_automaton.specs.inner.PartAutomaton as parts
use Rattle.st_parse_automaton.specs.inner.DefinitionAutomaton as definitions
use Rattle.st_parse_automaton.specs.inner.Shapes.{shape, class_of}
use Rattle.st_parse_automaton.proofs.View.{part_of, kind_of, frames_of, part_type, top_sort}
use Rattle.st_parse_automaton.proofs.DefinitionView.{definitions_of, slot_sort_is}
use Rattle.st_parse_automaton.proofs.DefinitionSimulation.{step_is}
use Rattle.st_parse_faults.specs.inner.LeftOut.{is_type_in, type_or_other, before_next}
use Rattle.st_parse_faults.specs.Nesting as nest
use Rattle.st_parse_faults.specs.inner.Bars as length_bars
use Rattle.st_parse_faults.specs.inner.Counts as counts
use Rattle.st_parse_faults.specs.inner.Judging as verdicts
use Rattle.st_parse_faults.specs.inner.Folding as faults
use Rattle.st_parse_faults.specs.inner.Seen as seen
use Rattle.st_parse_faults.specs.declared.counts.Counts.{Counts}
use Rattle.st_parse_faults.specs.declared.tally.Tally.{Tally}
use Rattle.st_parse_faults.specs.inner.Limits.{tallies}
use Rattle.st_parse_faults.specs.inner.Roles.{attachment_of, tallies_after}
use Rattle.st_parse_faults.proofs.PositionTallies.{After, tallies_are}

-- ---- what stands before

pub type_is : (σ : Sort) (t : Tree) → seen.ends_type σ (part_of t) ≡ is_type_in σ t
type_is (sort.Expression b) t = refl
type_is sort.Arithmetic t = refl
type_is sort.Notation t = part_type t
type_is sort.Typ t = refl
type_is sort.Count t = refl
type_is sort.Bound t = refl

pub inside_is : (s : spec.Slot) (st : part.State) → texts.Holds (spec.inside s st) → seen.stands_before (definitions_of (spec.inside s st)) ≡ before_next (spec.inside s st)
inside_is s (part.got t fs) h =
    ap (λ σ. type_or_other (seen.ends_type (parts.top σ (frames_of fs)) (part_of t))) (slot_sort_is s ∙ sym h.2)
    ∙ ap (λ σ. type_or_other (seen.ends_type σ (part_of t))) (top_sort fs)
    ∙ ap type_or_other (type_is (part.sort fs) t)
inside_is s (part.want fs) h = refl
inside_is s (part.naming k ts pre fs) h = refl
inside_is s (part.pathed p fs) h = refl
inside_is s (part.indexing o fs) h = refl
inside_is s (part.comparing o i fs) h = refl

pub before_is : (st : spec.State) → texts.Holds st → seen.stands_before (definitions_of st) ≡ before_next st
before_is (spec.inside s st) h = inside_is s st h
before_is (spec.at (between ds)) h = refl
before_is (spec.at (hinted (of_syntax ds w x []) no_hints)) h = refl
before_is (spec.at (hinted (of_syntax ds w x []) (more_hints hs k))) h = refl
before_is (spec.at (hinted (of_syntax ds w x (l ∷ ls)) hs)) h = refl
before_is (spec.at (hinted (of_field k o ms pre t) hs)) h = refl
before_is (spec.at (hinted (of_case k ms pre t) hs)) h = refl
before_is (spec.at (hinted (of_var ds w x c t) hs)) h = refl
before_is (spec.at (hinted (of_relation ds w r) hs)) h = refl
before_is (spec.at (hinted (of_notation ds w r hs c t) ks)) h = refl
before_is (spec.at (hinted (of_fun ds w f a c t) hs)) h = refl
before_is (spec.at (premised r t ps)) h = refl
before_is (spec.at (iterated r t ps d os ls u i)) h = refl
before_is (spec.at (syntax_name ds w)) h = refl
before_is (spec.at (var_name ds w)) h = refl
before_is (spec.at (var_colon ds w x)) h = refl
before_is (spec.at (relation_name ds w)) h = refl
before_is (spec.at (rule_name ds w)) h = refl
before_is (spec.at (rule_colon ds w r)) h = refl
before_is (spec.at (fun_name ds w)) h = refl
before_is (spec.at (fun_named ds w f)) h = refl
before_is (spec.at (argued ds w f o ts)) h = refl
before_is (spec.at (args_closed ds w f o ts c)) h = refl
before_is (spec.at (syntax_id ds w x ls d)) h = refl
before_is (spec.at (rule_id ds w r ls d)) h = refl
before_is (spec.at (hint_open k hs w)) h = refl
before_is (spec.at (hint_name k hs w o)) h = refl
before_is (spec.at (hint_words k hs w o n ws ks)) h = refl
before_is (spec.at (entering s)) h = refl
before_is (spec.at (dotted k d)) h = refl
before_is (spec.at (field_name k o ms pre)) h = refl
before_is (spec.at (premise_open r t ps d [])) h = refl
before_is (spec.at (premise_open r t ps d (o ∷ os))) h = refl
before_is (spec.at (goal_colon r t ps d os n)) h = refl

-- ---- what is open

pub nesting_after_is : (n : ℕ) (l : Terminal) → seen.nesting_after n (shape l) ≡ nest.nesting_after n l
nesting_after_is n (leaf k x) = refl
nesting_after_is n (dot x) = refl
nesting_after_is n (sign m x) = refl
nesting_after_is n (opening k x) = refl
nesting_after_is n (closing closings.ByRound x) = refl
nesting_after_is n (closing closings.BySquare x) = refl
nesting_after_is n (closing closings.ByBrace x) = refl
nesting_after_is n (closing closings.ByBar x) = refl
nesting_after_is n (other x) = refl

pub may_open_is : (l : Terminal) → seen.may_open (shape l) ≡ length_bars.may_open l
may_open_is (leaf k x) = refl
may_open_is (dot x) = refl
may_open_is (sign m x) = refl
may_open_is (opening k x) = refl
may_open_is (closing closings.ByRound x) = refl
may_open_is (closing closings.BySquare x) = refl
may_open_is (closing closings.ByBrace x) = refl
may_open_is (closing closings.ByBar x) = refl
may_open_is (other x) = refl

pub heading_is : (h : Heading) → seen.kind_bars (kind_of h) ≡ length_bars.heading_bars h
heading_is (tree.plain b o) = refl
heading_is (tree.length o) = refl
heading_is (tree.arguments f o) = refl
heading_is (tree.index t o) = refl
heading_is (tree.segment p o) = refl
heading_is (tree.update p m x) = refl
heading_is (tree.below o i m x) = refl

pub frame_bars_is : (fs : part.Frames) → seen.frame_bars (frames_of fs) ≡ length_bars.frame_bars fs
frame_bars_is (part.bottom σ) = refl
frame_bars_is (part.within h ts pre fs) = ap (λ n. n + seen.frame_bars (frames_of fs)) (heading_is h) ∙ ap (λ n. length_bars.heading_bars h + n) (frame_bars_is fs)
frame_bars_is (part.over g fs) = omega (arith, frame_bars_is fs)
frame_bars_is (part.timing t m x fs) = omega (arith, frame_bars_is fs)

pub bars_is : (st : spec.State) → seen.bars (definitions_of st) ≡ length_bars.bars st
bars_is (spec.at p) = refl
bars_is (spec.inside s (part.want fs)) = frame_bars_is fs
bars_is (spec.inside s (part.got t fs)) = frame_bars_is fs
bars_is (spec.inside s (part.naming h ts pre fs)) = frame_bars_is (part.within h ts pre fs)
bars_is (spec.inside s (part.pathed p fs)) = frame_bars_is fs
bars_is (spec.inside s (part.indexing o fs)) = frame_bars_is fs
bars_is (spec.inside s (part.comparing o i fs)) = frame_bars_is fs

-- ---- counts

pub due_is : (st : spec.State) → seen.member_due (definitions_of st) ≡ counts.member_due st
due_is (spec.at (between ds)) = refl
due_is (spec.at (hinted k hs)) = refl
due_is (spec.at (premised r t ps)) = refl
due_is (spec.at (iterated r t ps d os ls u i)) = refl
due_is (spec.at (syntax_name ds w)) = refl
due_is (spec.at (var_name ds w)) = refl
due_is (spec.at (var_colon ds w x)) = refl
due_is (spec.at (relation_name ds w)) = refl
due_is (spec.at (rule_name ds w)) = refl
due_is (spec.at (rule_colon ds w r)) = refl
due_is (spec.at (fun_name ds w)) = refl
due_is (spec.at (fun_named ds w f)) = refl
due_is (spec.at (argued ds w f o ts)) = refl
due_is (spec.at (args_closed ds w f o ts c)) = refl
due_is (spec.at (syntax_id ds w x ls d)) = refl
due_is (spec.at (rule_id ds w r ls d)) = refl
due_is (spec.at (hint_open k hs w)) = refl
due_is (spec.at (hint_name k hs w o)) = refl
due_is (spec.at (hint_words k hs w o n ws ks)) = refl
due_is (spec.at (entering s)) = refl
due_is (spec.at (dotted k d)) = refl
due_is (spec.at (field_name k o ms pre)) = refl
due_is (spec.at (premise_open r t ps d os)) = refl
due_is (spec.at (goal_colon r t ps d os n)) = refl
due_is (spec.inside (field_slot k o ms pre) st) = refl
due_is (spec.inside (case_slot k ms pre) st) = refl
due_is (spec.inside (var_slot ds w x c) st) = refl
due_is (spec.inside (notation_slot ds w r hs c) st) = refl
due_is (spec.inside (fun_slot ds w f a c) st) = refl
due_is (spec.inside (rule_slot r) st) = refl
due_is (spec.inside (cond_slot r t ps d os ls) st) = refl
due_is (spec.inside (count_slot r t ps d os ls u i l) st) = refl
due_is (spec.inside (arg_slot ds w f o ts pre) (part.want (part.bottom σ))) = refl
due_is (spec.inside (arg_slot ds w f o ts pre) (part.want (part.within k us q fs))) = refl
due_is (spec.inside (arg_slot ds w f o ts pre) (part.want (part.over g fs))) = refl
due_is (spec.inside (arg_slot ds w f o ts pre) (part.want (part.timing v m y fs))) = refl
due_is (spec.inside (arg_slot ds w f o ts pre) (part.got v fs)) = refl
due_is (spec.inside (arg_slot ds w f o ts pre) (part.naming k us q fs)) = refl
due_is (spec.inside (arg_slot ds w f o ts pre) (part.pathed p fs)) = refl
due_is (spec.inside (arg_slot ds w f o ts pre) (part.indexing a fs)) = refl
due_is (spec.inside (arg_slot ds w f o ts pre) (part.comparing a j fs)) = refl

pub event_is : (b : Bool) (st : spec.State) → seen.event b (definitions_of st) ≡ counts.event b st
event_is b (spec.at (between ds)) = refl
event_is b (spec.at (hinted k hs)) = refl
event_is b (spec.at (premised r t ps)) = refl
event_is b (spec.at (iterated r t ps d os ls u no_iterations)) = refl
event_is b (spec.at (iterated r t ps d os ls u (closed i l))) = refl
event_is b (spec.at (iterated r t ps d os ls u (marked i l))) = refl
event_is b (spec.at (iterated r t ps d os ls u (counted i l v))) = refl
event_is b (spec.at (syntax_name ds w)) = refl
event_is b (spec.at (var_name ds w)) = refl
event_is b (spec.at (var_colon ds w x)) = refl
event_is b (spec.at (relation_name ds w)) = refl
event_is b (spec.at (rule_name ds w)) = refl
event_is b (spec.at (rule_colon ds w r)) = refl
event_is b (spec.at (fun_name ds w)) = refl
event_is b (spec.at (fun_named ds w f)) = refl
event_is b (spec.at (argued ds w f o ts)) = refl
event_is b (spec.at (args_closed ds w f o ts c)) = refl
event_is b (spec.at (syntax_id ds w x ls d)) = refl
event_is b (spec.at (rule_id ds w r ls d)) = refl
event_is b (spec.at (hint_open k hs w)) = refl
event_is b (spec.at (hint_name k hs w o)) = refl
event_is b (spec.at (hint_words k hs w o n ws ks)) = refl
event_is b (spec.at (entering s)) = refl
event_is b (spec.at (dotted k d)) = refl
event_is b (spec.at (field_name k o ms pre)) = refl
event_is b (spec.at (premise_open r t ps d [])) = refl
event_is b (spec.at (premise_open r t ps d (o ∷ os))) = refl
event_is b (spec.at (goal_colon r t ps d os n)) = refl
event_is b (spec.inside (field_slot k o ms pre) st) = refl
event_is b (spec.inside (case_slot k ms pre) st) = refl
event_is b (spec.inside (var_slot ds w x c) st) = refl
event_is b (spec.inside (notation_slot ds w r hs c) st) = refl
event_is b (spec.inside (fun_slot ds w f a c) st) = refl
event_is b (spec.inside (rule_slot r) st) = refl
event_is b (spec.inside (cond_slot r t ps d os ls) st) = refl
event_is b (spec.inside (arg_slot ds w f o ts pre) st) = refl
event_is b (spec.inside (count_slot r t ps d os ls u i l) (part.want (part.bottom σ))) = refl
event_is b (spec.inside (count_slot r t ps d os ls u i l) (part.want (part.within k us q fs))) = refl
event_is b (spec.inside (count_slot r t ps d os ls u i l) (part.want (part.over g fs))) = refl
event_is b (spec.inside (count_slot r t ps d os ls u i l) (part.want (part.timing v m y fs))) = refl
event_is b (spec.inside (count_slot r t ps d os ls u i l) (part.got v fs)) = refl
event_is b (spec.inside (count_slot r t ps d os ls u i l) (part.naming k us q fs)) = refl
event_is b (spec.inside (count_slot r t ps d os ls u i l) (part.pathed p fs)) = refl
event_is b (spec.inside (count_slot r t ps d os ls u i l) (part.indexing a fs)) = refl
event_is b (spec.inside (count_slot r t ps d os ls u i l) (part.comparing a j fs)) = refl

-- ---- verdicts

abbrev pub summary : faults.Seen → seen.Summary
summary s =
    record {
      state = definitions_of s.state;
      nesting = s.nesting;
      counts = s.counts;
      tallies = tallies s.state;
    }

abbrev pub view : verdicts.TokenVerdict faults.Seen → seen.TokenVerdict
view (verdicts.passed s) = seen.passed (summary s)
view (verdicts.broken r) = seen.broken r

pub too_many_is : (s : faults.Seen) (l : Terminal) → seen.opens_too_many (definitions_of s.state) s.nesting (shape l) ≡ faults.opens_too_many s l
too_many_is s l =
    ap (λ b. b && nat_lt HIGHEST_TREE (s.nesting + seen.bars (definitions_of s.state))) (may_open_is l)
    ∙ ap (λ n. length_bars.may_open l && nat_lt HIGHEST_TREE (s.nesting + n)) (bars_is s.state)

pub kept_is : (s : faults.Seen) (l : Terminal) → seen.kept (summary s) (shape l) ≡ view (faults.kept s l)
kept_is s l = ap (λ b. seen.limited b (faults.passes_limit s) (summary s)) (too_many_is s l) ∙ go (faults.opens_too_many s l) (faults.passes_limit s)
  where
    go : (b c : Bool) → seen.limited b c (summary s) ≡ view (verdicts.limited b c s)
    go true c = refl
    go false true = refl
    go false false = refl

abbrev pub known : definitions.State → ℕ → Counts → List Tally → seen.Summary
known st n c ys = record { state = st; nesting = n; counts = c; tallies = ys }

pub after_is : (s : faults.Seen) (l : Terminal) (next : spec.State) → tallies next ≡ tallies_after (attachment_of (definitions_of s.state) (shape l)) (shape l) (definitions_of next) (tallies s.state)
    → seen.summary_after (summary s) (shape l) (definitions_of next) ≡ summary (faults.seen_after s l next)
after_is s l next e =
    ap (λ n. known (definitions_of next) n (counts.counts_after s.counts (seen.event (seen.member_due (definitions_of s.state)) (definitions_of next))) (tallies_after (attachment_of (definitions_of s.state) (shape l)) (shape l) (definitions_of next) (tallies s.state))) (nesting_after_is s.nesting l)
    ∙ ap (λ b. known (definitions_of next) (nest.nesting_after s.nesting l) (counts.counts_after s.counts (seen.event b (definitions_of next))) (tallies_after (attachment_of (definitions_of s.state) (shape l)) (shape l) (definitions_of next) (tallies s.state))) (due_is s.state)
    ∙ ap (λ f. known (definitions_of next) (nest.nesting_after s.nesting l) (counts.counts_after s.counts f) (tallies_after (attachment_of (definitions_of s.state) (shape l)) (shape l) (definitions_of next) (tallies s.state))) (event_is (counts.member_due s.state) next)
    ∙ ap (λ ys. known (definitions_of next) (nest.nesting_after s.nesting l) (counts.counts_after s.counts (counts.event (counts.member_due s.state) next)) ys) (sym e)

pub judged_is : (s : faults.Seen) (x : Token) (l : Terminal) (o : Option spec.State) → texts.Holds s.state → After (attachment_of (definitions_of s.state) (shape l)) l (tallies s.state) o
    → seen.judged (summary s) x.kind (shape l) (option_map definitions_of o) ≡ view (faults.judged s x l o)
judged_is s x l None h a = ap (λ b. seen.broken (seen.refusal b s.nesting x.kind)) (before_is s.state h)
judged_is s x l (Some next) h a = ap (λ v. seen.kept v (shape l)) (after_is s l next a) ∙ kept_is (faults.seen_after s l next) l

pub judge_is : (names : List (List ℕ)) (s : faults.Seen) (x : Token) → texts.Holds s.state
    → seen.judge (summary s) x.kind (class_of (terminal names x)) ≡ view (faults.judge names s x)
judge_is names s x h =
    let l = terminal names x in
    ap (seen.judged (summary s) x.kind (shape l)) (step_is s.state l h)
    ∙ judged_is s x l (spec.step s.state l) h (tallies_are s.state l h)
