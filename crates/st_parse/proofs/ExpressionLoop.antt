-- The loop over the tokens of expressions.
use Rattle.std.proofs.Common.{◌≡◌, ℕ, ◌+◌, ◌≤◌, ◌<◌, inl, inr, List, length, take, get_or, Bool, false, Option, Some, None, refl, sym, ap, ◌∙◌}
use Rattle.st_num.specs.declared.rule.RuleId.{RuleId}
use Rattle.st_num.specs.declared.rule.RuleId.TheVariants.{S1}
use Rattle.st_num.specs.declared.token.Token.{Token}
use Rattle.st_grammar.specs.Terminals.{terminal}
use Rattle.st_grammar.specs.Trees.{Tree}
use Rattle.st_grammar.specs.Reading as part
use Rattle.st_grammar.specs.Positions as positions
use Rattle.st_grammar.proofs.PositionTexts as texts
use Rattle.st_grammar.specs.declared.action.Action.{Action}
use Rattle.st_parse_automaton.specs.declared.position.TokenClass.{TokenClass}
use Rattle.st_parse_automaton.specs.declared.position.Advance.{Advance}
use Rattle.st_parse_automaton.specs.declared.position.Progress.{Progress}
use Rattle.st_parse_automaton.specs.inner.DefinitionAutomaton as definitions
use Rattle.st_parse_automaton.specs.inner.Shapes.{class_of}
use Rattle.st_parse_automaton.specs.inner.Readings.{progress_of}
use Rattle.st_parse_automaton.proofs.DefinitionSimulation.{is_some}
use Rattle.st_parse_faults.specs.declared.judge.Seen.{Seen as CodeSeen}
use Rattle.st_parse_faults.specs.declared.judge.TokenVerdict.{TokenVerdict as Code}
use Rattle.st_parse_faults.specs.declared.judge.TokenVerdict.TheVariants as code
use Rattle.st_parse_faults.specs.inner.Seen as seen
use Rattle.st_parse.specs.Expressions.{terminals_of}
use Rattle.st_parse.specs.inner.ExpressionReading.{whole}
use Rattle.st_parse_faults.specs.inner.Judging.{TokenVerdict, passed, broken}
use Rattle.st_parse.specs.inner.ExpressionFolding.{Seen, judge, verdict, nothing_seen, FirstBreak}
use Rattle.st_parse.specs.inner.ExpressionSeen as spec
use Rattle.st_parse.proofs.ExpressionReadings.{reached}
use Rattle.st_parse.proofs.ExpressionSeenView.{slot, rule_holds, summary_of, verdict_view, judge_is, may_end_as}
use Rattle.st_parse_faults.proofs.JudgingLemmas as judging
use Rattle.st_parse.proofs.ExpressionVerdicts.{verdict_reads}

-- these tokens passed up to here
abbrev pub Passes : List (List ℕ) → List Token → ℕ → CodeSeen → Type 0
Passes names tokens k p = (s : Seen) × (verdict names tokens k ≡ passed s) × (summary_of s ≡ seen.summary_of p)

pub passes_holds : (names : List (List ℕ)) (tokens : List Token) (k : ℕ) (s : Seen) → verdict names tokens k ≡ passed s → texts.Holds (positions.inside slot s.state.here)
passes_holds names tokens k s e =
    let r = reached (take k (terminals_of names tokens)) s.state (verdict_reads names tokens k s e) in
    rule_holds s.state.here r.now r.read

pub view_passes : (v : TokenVerdict Seen) (w : seen.Summary) → verdict_view v ≡ seen.passed w → (s : Seen) × (v ≡ passed s) × (summary_of s ≡ w)
view_passes (passed s) w e = (s, refl, cc)
view_passes (broken r) w e = absurd (cc)

pub view_breaks : (v : TokenVerdict Seen) (r : RuleId) → verdict_view v ≡ seen.broken r → v ≡ broken r
view_breaks (passed s) r e = absurd (cc)
view_breaks (broken q) r e = let f : q ≡ r = cc in ap broken f

-- the verdict on the token of the list
pub at_token : (tokens : List Token) (names : List (List ℕ)) (i : ℕ) (x : Token) (l : TokenClass) (p : CodeSeen) (w : seen.TokenVerdict) → i < length tokens → Passes names tokens i p
    → x ≡ get_or tokens i x → l ≡ class_of (terminal names x) → w ≡ spec.judge (seen.summary_of p) x.kind l
    → w ≡ verdict_view (verdict names tokens (i + 1))
at_token tokens names i x l p w h (s, e, o) t k f =
    f
    ∙ ap (spec.judge (seen.summary_of p) x.kind) k
    ∙ ap (λ v. spec.judge v x.kind (class_of (terminal names x))) (sym o)
    ∙ judge_is names s x (passes_holds names tokens i s e)
    ∙ ap (λ y. verdict_view (judge names s y)) t
    ∙ ap (λ v. verdict_view (judging.judge_next Seen (judge names) v (get_or tokens i x))) (sym e)
    ∙ ap verdict_view (sym (judging.verdict_more Seen (judge names) nothing_seen tokens i x h))

pub token_passes : (tokens : List Token) (names : List (List ℕ)) (i : ℕ) (x : Token) (l : TokenClass) (p : CodeSeen) (v : Code) (q : CodeSeen) (ad : Advance) (added : List Action) → i < length tokens → Passes names tokens i p
    → x ≡ get_or tokens i x → l ≡ class_of (terminal names x) → seen.verdict_of v ≡ spec.judge (seen.summary_of p) x.kind l → v ≡ code.Passed q ad added
    → Passes names tokens (i + 1) q
token_passes tokens names i x l p v q ad added h a t k f e =
    view_passes (verdict names tokens (i + 1)) (seen.summary_of q)
    (sym (at_token tokens names i x l p (seen.verdict_of v) h a t k f) ∙ ap seen.verdict_of e)

pub token_breaks : (tokens : List Token) (names : List (List ℕ)) (i : ℕ) (x : Token) (l : TokenClass) (p : CodeSeen) (v : Code) (r : RuleId) (last : Progress) → i < length tokens → Passes names tokens i p
    → x ≡ get_or tokens i x → l ≡ class_of (terminal names x) → seen.verdict_of v ≡ spec.judge (seen.summary_of p) x.kind l → v ≡ code.Broken r last
    → FirstBreak names tokens i r
token_breaks tokens names i x l p v r last h a t k f e =
    inl (
      h,
      (a.0, a.1),
      view_breaks (verdict names tokens (i + 1)) r
          (sym (at_token tokens names i x l p (seen.verdict_of v) h a t k f) ∙ ap seen.verdict_of e),
    )

whole_none : (s : Seen) (q : Option Tree) → is_some q ≡ false → whole s.state q ≡ None
whole_none s None e = refl
whole_none s (Some t) e = absurd (cc)

pub ends_early : (names : List (List ℕ)) (tokens : List Token) (i : ℕ) (p : CodeSeen) (b : Bool) → length tokens ≤ i → Passes names tokens i p → b ≡ definitions.may_end (progress_of p.progress) → b ≡ false
    → FirstBreak names tokens (length tokens) S1
ends_early names tokens i p b h (s, e, o) f t =
    let no : is_some (part.finish s.state.here) ≡ false = sym (may_end_as s (passes_holds names tokens i s e)) ∙ ap (λ v. definitions.may_end v.state) o ∙ sym f ∙ t in
    inr (refl, refl, (s, sym (judging.all_tokens Seen (judge names) nothing_seen tokens i h) ∙ e, whole_none s (part.finish s.state.here) no))
