-- The loop that builds expressions.
use Rattle.std.proofs.Common.{◌≡◌, ℕ, ◌+◌, ◌≤◌, ◌<◌, inl, inr, List, [], ◌∷◌, ◌++◌, length, take, get_or, map, Bool, true, false, ◌&&◌, if◌then◌else◌, Option, Some, None, Result, Ok, Err, refl, sym, ap, subst, ◌∙◌, arith}
use Rattle.std.proofs.lemmas.Option.{slice_get_within, get_or_from_slice_get}
use Rattle.st_num.specs.declared.rule.RuleId.{RuleId}
use Rattle.st_num.specs.declared.token.Token.{Token}
use Rattle.st_grammar.specs.declared.sort.Bracket.{Bracket}
use Rattle.st_grammar.specs.declared.sort.Sort.TheVariants.{Expression as expression}
use Rattle.st_grammar.specs.Terminals.{terminal}
use Rattle.st_grammar.specs.Levels.{is_comma}
use Rattle.st_grammar.specs.Trees.{Tree, more}
use Rattle.st_grammar.specs.Grammar.{Fits}
use Rattle.st_grammar.specs.Definitions.{signed}
use Rattle.st_grammar.specs.Reading as part
use Rattle.st_grammar.specs.Positions as positions
use Rattle.st_grammar.proofs.Steps as steps
use Rattle.st_el.specs.declared.expression.Exp.{Exp}
use Rattle.st_parse_builder.specs.Meaning.{meaning, meanings}
use Rattle.st_parse_builder.specs.Heights.{highest, height}
use Rattle.st_grammar.specs.inner.Actions.{acts}
use Rattle.st_parse_automaton.specs.declared.position.TokenClass.{TokenClass}
use Rattle.st_parse_automaton.specs.declared.position.Slot.{Slot}
use Rattle.st_parse_automaton.specs.declared.position.Advance.{Advance}
use Rattle.st_parse_automaton.specs.declared.position.Progress.{Progress}
use Rattle.st_grammar.specs.declared.action.Action.{Action}
use Rattle.st_parse_automaton.specs.inner.PartAutomaton as parts
use Rattle.st_parse_automaton.specs.inner.DefinitionAutomaton as definitions
use Rattle.st_parse_automaton.specs.inner.Shapes.{class_of}
use Rattle.st_parse_automaton.specs.inner.Readings.{progress_of}
use Rattle.st_parse_automaton.proofs.View.{state_of}
use Rattle.st_parse_automaton.proofs.DefinitionView.{definitions_of, slot_of, slot_open}
use Rattle.st_parse_automaton.proofs.DefinitionSimulation.{is_some}
use Rattle.st_parse_faults.specs.declared.judge.Seen.{Seen as CodeSeen}
use Rattle.st_parse_faults.specs.declared.fault.TokenFault.{TokenFault}
use Rattle.st_parse_faults.specs.declared.judge.TokenVerdict.TheVariants as code
use Rattle.st_parse_faults.specs.Place.{place_at}
use Rattle.st_parse_faults.specs.inner.Seen as seen
use Rattle.st_parse_automaton.specs.inner.PartAutomaton.{finishing}
use Rattle.st_num.specs.declared.fault.Fault.{Fault as SyntaxFault}
use Rattle.st_num.specs.declared.fault.Fault.TheVariants.{Refused, Memory}
use Rattle.st_parse.specs.Expressions.{ParseExpressions, terminals_of}
use Rattle.st_parse.specs.inner.ExpressionReading.{finish, whole}
use Rattle.st_parse_faults.specs.inner.Judging.{passed}
use Rattle.st_parse.specs.inner.ExpressionFolding.{Seen, judge, verdict, nothing_seen, FirstBreak}
use Rattle.st_parse.specs.inner.ExpressionSeen as spec
use Rattle.st_parse.specs.inner.ExpressionSeen.{JudgesToken}
use Rattle.st_parse.specs.inner.ExpressionDrafts.{AreBuilt, Takes, TakesToken}
use Rattle.st_parse.specs.declared.expression_draft.ExpressionReader.{ExpressionReader as Draft}
use Rattle.st_parse.specs.inner.Readers.{early_end, Runs, none, more as later, Stops, at_end, at_token, Ends}
use Rattle.st_parse.specs.ExpressionSource.{ParseExps, IsFile, AreWhole, Answers}
use Rattle.st_parse.proofs.ExpressionReadings.{one_list, sound}
use Rattle.st_parse.proofs.ExpressionSeenView.{slot, summary_of, separates_is, may_end_as}
use Rattle.st_parse_faults.proofs.JudgingLemmas.{judge_next, verdict_more, all_tokens}
use Rattle.st_parse.proofs.ExpressionVerdicts.{verdict_reads}
use Rattle.st_parse.proofs.ExpressionExact.{whole_list}
use Rattle.st_parse.proofs.ExpressionLoop.{Passes, passes_holds, token_passes, token_breaks, ends_early}
use Rattle.st_parse.proofs.ExpressionBroken.{all_kept, first_broken}
use Rattle.st_parse.proofs.ExpressionDrafted.{DraftOf, takes, drafted, end_acts}

-- these tokens passed up to here, and this is built of them
abbrev pub Drafting : List (List ℕ) → List Token → ℕ → CodeSeen → Draft → Type 0
Drafting names tokens k p d = (s : Seen) × (verdict names tokens k ≡ passed s) × (summary_of s ≡ seen.summary_of p) × DraftOf s.state d

passing : (names : List (List ℕ)) (tokens : List Token) (k : ℕ) (p : CodeSeen) (d : Draft) → Drafting names tokens k p d → Passes names tokens k p
passing names tokens k p d (s, e, o, r) = (s, e, o)

inside_is : (s : Seen) (p : CodeSeen) → summary_of s ≡ seen.summary_of p → progress_of p.progress ≡ definitions.inside (slot_of slot) (state_of s.state.here) (slot_open slot)
inside_is s p o = sym (ap (λ v. v.state) o)

token_drafts : (tokens : List Token) (names : List (List ℕ)) (i : ℕ) (x : Token) (l : TokenClass) (p q : CodeSeen) (ad : Advance) (added : List Action) (d e : Draft) → i < length tokens → Drafting names tokens i p d
    → x ≡ get_or tokens i x → l ≡ class_of (terminal names x) → JudgesToken p l x (code.Passed q ad added) → TakesToken ad q.progress l x added d e
    → Drafting names tokens (i + 1) q e
token_drafts tokens names i x l p q ad added d e h (s, f, o, r) t k j n =
    let next = token_passes tokens names i x l p (code.Passed q ad added) q ad added h (s, f, o) t k j.value refl in
    let lx = terminal names x in
    let inside = inside_is s p o in
    let apart : spec.separates (progress_of p.progress) l ≡ (signed is_comma lx && is_some (part.finish s.state.here)) =
    ap (λ st. spec.separates st l) inside
    ∙ ap (spec.separates (definitions_of (positions.inside slot s.state.here))) k
    ∙ separates_is s lx (passes_holds names tokens i s f) in
    let one : judge names s x ≡ passed next.0 =
    ap (judge names s) t
    ∙ ap (λ w. judge_next Seen (judge names) w (get_or tokens i x)) (sym f)
    ∙ sym (verdict_more Seen (judge names) nothing_seen tokens i x h)
    ∙ next.1 in
    let adds = subst (λ st. spec.Adds (spec.separates (progress_of p.progress) l) st l x (code.Passed q ad added)) inside j.step in
    let taken : Takes (spec.separates (progress_of p.progress) l) (state_of s.state.here) l.shape x d e =
    takes (spec.separates (progress_of p.progress) l) (state_of s.state.here) (slot_open slot) l x q ad added d e adds n in (
      next.0,
      next.1,
      next.2,
      drafted names s next.0 x d e r one
          (subst (λ y. Takes (signed is_comma lx && is_some (part.finish s.state.here)) (state_of s.state.here) y.shape x d e) k
          (subst (λ b. Takes b (state_of s.state.here) l.shape x d e) apart taken)),
    )

-- the tokens that one after another passed and were taken
drafts_all : (tokens : List Token) (names : List (List ℕ)) (start : CodeSeen) (old : Draft) → Drafting names tokens 0 start old
    → (k : ℕ) (known : CodeSeen) (new : Draft) → Runs JudgesToken TakesToken names tokens start old k known new → Drafting names tokens k known new
drafts_all tokens names start old r k known new (none i e f) =
    subst (Drafting names tokens k known) (sym f) (subst (λ s. Drafting names tokens k s old) (sym e) (subst (λ n. Drafting names tokens n start old) (sym i) r))
drafts_all tokens names start old r k known new (later {k = j} {known = here} {kept = kept} x run i s n) =
    subst (λ m. Drafting names tokens m known new) (sym i)
    (token_drafts tokens names j x (class_of (terminal names x)) here known n.advance n.added kept new
    (slice_get_within tokens j x s) (drafts_all tokens names start old r j here kept run) (sym (get_or_from_slice_get tokens j x x s)) refl n.judged n.taken)

-- ---- where no more is read

same_fault : (f g : TokenFault) → Some f ≡ Some g → f ≡ g
same_fault f g e = cc

-- the fault where the tokens stop
stop_breaks : (names : List (List ℕ)) (tokens : List Token) (k : ℕ) (p : CodeSeen) (last : Progress) (found : Option TokenFault) → Passes names tokens k p → Stops JudgesToken names tokens k p last found
    → (f : TokenFault) → found ≡ Some f → FirstBreak names tokens f.token f.rule
stop_breaks names tokens k p last found r (at_end l q e) f is = go (definitions.may_end (progress_of last)) refl
  where
    go : (b : Bool) → definitions.may_end (progress_of last) ≡ b → FirstBreak names tokens f.token f.rule
    go true g =
        let never : Some f ≡ None = sym is ∙ e ∙ ap (λ b. if b then None else Some (early_end tokens)) g in
        absurd (cc)
    go false g =
        let early : Some (early_end tokens) ≡ Some f = sym (ap (λ b. if b then None else Some (early_end tokens)) g) ∙ sym e ∙ is in
        subst (λ (h : TokenFault). FirstBreak names tokens h.token h.rule) (same_fault (early_end tokens) f early)
        (ends_early names tokens k p (definitions.may_end (progress_of last)) (omega (arith, l)) r (ap (λ w. definitions.may_end (progress_of w)) q) g)
stop_breaks names tokens k p last found r (at_token x rule s e j) f is =
    let broken : TokenFault = record { token = k; rule = rule } in
    subst (λ (h : TokenFault). FirstBreak names tokens h.token h.rule) (same_fault broken f (sym e ∙ is))
    (token_breaks tokens names k x (class_of (terminal names x)) p (code.Broken rule last) rule last
    (slice_get_within tokens k x s) r (sym (get_or_from_slice_get tokens k x x s)) refl j.value refl)

-- where the tokens stop without a fault
record Whole (tokens : List Token) (k : ℕ) (p : CodeSeen) (last : Progress) : Type 0 where
  all : length tokens ≤ k
  same : last ≡ p.progress
  ends : definitions.may_end (progress_of last) ≡ true

stop_whole : (names : List (List ℕ)) (tokens : List Token) (k : ℕ) (p : CodeSeen) (last : Progress) (found : Option TokenFault) → Stops JudgesToken names tokens k p last found → found ≡ None → Whole tokens k p last
stop_whole names tokens k p last found (at_end l q e) is = record { all = omega (arith, l); same = q; ends = go (definitions.may_end (progress_of last)) refl }
  where
    go : (b : Bool) → definitions.may_end (progress_of last) ≡ b → b ≡ true
    go true g = refl
    go false g =
        let never : Some (early_end tokens) ≡ None = sym (ap (λ b. if b then None else Some (early_end tokens)) g) ∙ sym e ∙ is in
        absurd (cc)
stop_whole names tokens k p last found (at_token x rule s e j) is =
    let broken : TokenFault = record { token = k; rule = rule } in
    let never : Some broken ≡ None = sym e ∙ is in
    absurd (cc)

-- what is answered where a token breaks a rule, and where the tokens end too early
breaks : (names : List (List ℕ)) (tokens : List Token) (k : ℕ) (r : RuleId) (f : SyntaxFault) → FirstBreak names tokens k r → f ≡ Refused (place_at tokens k) r → Answers names tokens (Err f)
breaks names tokens k r f h e = subst (λ g. Answers names tokens (Err g)) (sym e) (inl (k, first_broken names tokens k r h, refl))

whole_answers : (names : List (List ℕ)) (tokens : List Token) (es : List Exp) (result : Result (List Exp) SyntaxFault) → IsFile names tokens es → AreWhole tokens es result → Answers names tokens result
whole_answers names tokens es (Ok built) f w = (subst (IsFile names tokens) (sym w.0) f, subst (λ l. highest (map height l) ≤ 100) (sym w.0) w.1)
whole_answers names tokens es (Err (Refused at rule)) f w = inr (es, f, w.0, w.1, w.2)
whole_answers names tokens es (Err Memory) f w = tt

-- what is said of the last expression
abbrev pub Last : List Token → Progress → Draft → Result (List Exp) SyntaxFault → Type 0
Last tokens last d result =
    (k : Slot) (st : parts.State) (ks : List Bracket) (t : Tree) (es : List Exp) → progress_of last ≡ definitions.inside k st ks → Fits (expression false) t → acts t ≡ d.actions ++ finishing st → AreBuilt es d.exps
    → AreWhole tokens (es ++ meaning t ∷ []) result

found : (q : Option Tree) → is_some q ≡ true → (t : Tree) × (q ≡ Some t)
found None e = absurd (cc)
found (Some t) e = (t, refl)

answers : (names : List (List ℕ)) (tokens : List Token) (i : ℕ) (p : CodeSeen) (d : Draft) (b : Bool) (result : Result (List Exp) SyntaxFault) → length tokens ≤ i → Drafting names tokens i p d
    → b ≡ definitions.may_end (progress_of p.progress) → b ≡ true → Last tokens p.progress d result → Answers names tokens result
answers names tokens i p d b result h (s, e, o, r) f t n =
    let yes : is_some (part.finish s.state.here) ≡ true = sym (may_end_as s (passes_holds names tokens i s e)) ∙ ap (λ v. definitions.may_end v.state) o ∙ sym f ∙ t in
    let u = found (part.finish s.state.here) yes in
    let fits = (steps.sound (expression false) r.now s.state.here u.0 r.read u.1).fits in
    let ts = more s.state.before s.state.apart u.0 in
    let last : verdict names tokens (length tokens) ≡ passed s = sym (all_tokens Seen (judge names) nothing_seen tokens i h) ∙ e in
    let trees : finish s.state ≡ Some ts = ap (whole s.state) u.1 in
    let grammar = sound (take (length tokens) (terminals_of names tokens)) s.state ts (verdict_reads names tokens (length tokens) s last) trees in
    whole_answers names tokens (meanings s.state.before ++ meaning u.0 ∷ []) result
    (all_kept names tokens (s, ts, last, trees), record { trees = ts; grammar = subst (λ us. ParseExpressions us ts) (whole_list names tokens (length tokens) (omega arith)) grammar; meant = refl })
    (n (slot_of slot) (state_of s.state.here) (slot_open slot) u.0 (meanings s.state.before) (inside_is s p o) fits (end_acts s.state d u.0 r u.1) r.built)

-- ---- what is read

pub read_breaks : (names : List (List ℕ)) (tokens : List Token) (start : CodeSeen) (old : Draft) (last : Progress) (found : Option TokenFault) (new : Draft) → Drafting names tokens 0 start old
    → Ends JudgesToken TakesToken names tokens start old last found new → (f : TokenFault) (fault : SyntaxFault) → found ≡ Some f → fault ≡ Refused (place_at tokens f.token) f.rule → Answers names tokens (Err fault)
read_breaks names tokens start old last found new r ends f fault is e =
    let reads = drafts_all tokens names start old r ends.count ends.known new ends.run in
    breaks names tokens f.token f.rule fault
    (stop_breaks names tokens ends.count ends.known last found (passing names tokens ends.count ends.known new reads) ends.stops f is) e

pub read_answers : (names : List (List ℕ)) (tokens : List Token) (start : CodeSeen) (old : Draft) (last : Progress) (found : Option TokenFault) (new : Draft) (result : Result (List Exp) SyntaxFault) → Drafting names tokens 0 start old
    → Ends JudgesToken TakesToken names tokens start old last found new → found ≡ None → Last tokens last new result → Answers names tokens result
read_answers names tokens start old last found new result r ends is whole =
    let reads = drafts_all tokens names start old r ends.count ends.known new ends.run in
    let stops = stop_whole names tokens ends.count ends.known last found ends.stops is in
    answers names tokens ends.count ends.known new (definitions.may_end (progress_of last)) result stops.all reads
    (ap (λ w. definitions.may_end (progress_of w)) stops.same) stops.ends (subst (λ w. Last tokens w new result) stops.same whole)

-- ---- one meaning

pub one_meaning : (names : List (List ℕ)) (tokens : List Token) (a b : List Exp) → ParseExps names tokens a → ParseExps names tokens b → a ≡ b
one_meaning names tokens a b p q = sym p.meant ∙ ap meanings (one_list (terminals_of names tokens) p.trees q.trees p.grammar q.grammar) ∙ q.meant
