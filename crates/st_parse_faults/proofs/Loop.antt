-- The loop over the tokens.
use Rattle.std.proofs.Common.{◌≡◌, ℕ, ◌+◌, ◌≤◌, ◌<◌, inl, inr, List, length, take, get_or, Bool, true, false, refl, sym, ap, subst, ◌∙◌}
use Rattle.st_num.specs.declared.rule.RuleId.{RuleId}
use Rattle.st_num.specs.declared.rule.RuleId.TheVariants.{S1}
use Rattle.st_num.specs.declared.token.Token.{Token}
use Rattle.st_grammar.specs.Terminals.{terminal, declared_names}
use Rattle.st_grammar.specs.Positions.{finish}
use Rattle.st_grammar.proofs.PositionTexts.{Holds}
use Rattle.st_grammar.specs.declared.action.Action.{Action}
use Rattle.st_parse_automaton.specs.declared.position.TokenClass.{TokenClass}
use Rattle.st_parse_automaton.specs.declared.position.Advance.{Advance}
use Rattle.st_parse_automaton.specs.declared.position.Progress.{Progress}
use Rattle.st_parse_automaton.specs.inner.DefinitionAutomaton as definitions
use Rattle.st_parse_automaton.specs.inner.Shapes.{class_of}
use Rattle.st_parse_automaton.specs.inner.Readings.{progress_of}
use Rattle.st_parse_automaton.specs.Refusal.{terminals_of}
use Rattle.st_parse_automaton.proofs.DefinitionSimulation.{may_end_is, is_some}
use Rattle.st_parse_automaton.proofs.Loop.{holds, found, not_found}
use Rattle.st_parse_faults.specs.declared.judge.Seen.{Seen as CodeSeen}
use Rattle.st_parse_faults.specs.declared.judge.TokenVerdict.{TokenVerdict as Code}
use Rattle.st_parse_faults.specs.declared.judge.TokenVerdict.TheVariants as code
use Rattle.st_parse_faults.specs.inner.Judging.{TokenVerdict, passed, broken}
use Rattle.st_parse_faults.specs.inner.Folding.{Seen, judge, verdict, nothing_seen, AllPass, FirstBreak}
use Rattle.st_parse_faults.specs.inner.Seen as seen
use Rattle.st_parse_faults.proofs.SeenView.{summary, view, judge_is}
use Rattle.st_parse_faults.proofs.JudgingLemmas as judging
use Rattle.st_parse_faults.proofs.Verdicts.{verdict_reads}

-- these tokens passed up to here
abbrev pub Passes : List Token → ℕ → CodeSeen → Type 0
Passes tokens k p = (s : Seen) × (verdict tokens k ≡ passed s) × (summary s ≡ seen.summary_of p)

pub passes_holds : (tokens : List Token) (k : ℕ) (s : Seen) → verdict tokens k ≡ passed s → Holds s.state
passes_holds tokens k s e = holds (take k (terminals_of tokens)) s.state (verdict_reads tokens k s e)

pub view_passes : (v : TokenVerdict Seen) (w : seen.Summary) → view v ≡ seen.passed w → (s : Seen) × (v ≡ passed s) × (summary s ≡ w)
view_passes (passed s) w e = (s, refl, cc)
view_passes (broken r) w e = absurd (cc)

pub view_breaks : (v : TokenVerdict Seen) (r : RuleId) → view v ≡ seen.broken r → v ≡ broken r
view_breaks (passed s) r e = absurd (cc)
view_breaks (broken q) r e = let f : q ≡ r = cc in ap broken f

-- the verdict on the token of the list
pub at_token : (tokens : List Token) (names : List (List ℕ)) (i : ℕ) (x : Token) (l : TokenClass) (p : CodeSeen) (w : seen.TokenVerdict) → i < length tokens → Passes tokens i p
    → x ≡ get_or tokens i x → names ≡ declared_names tokens → l ≡ class_of (terminal names x) → w ≡ seen.judge (seen.summary_of p) x.kind l
    → w ≡ view (verdict tokens (i + 1))
at_token tokens names i x l p w h (s, e, o) t g k f =
    f
    ∙ ap (seen.judge (seen.summary_of p) x.kind) k
    ∙ ap (λ v. seen.judge v x.kind (class_of (terminal names x))) (sym o)
    ∙ judge_is names s x (passes_holds tokens i s e)
    ∙ ap (λ y. view (judge names s y)) t
    ∙ ap (λ ns. view (judge ns s (get_or tokens i x))) g
    ∙ ap (λ v. view (judging.judge_next Seen (judge (declared_names tokens)) v (get_or tokens i x))) (sym e)
    ∙ ap view (sym (judging.verdict_more Seen (judge (declared_names tokens)) nothing_seen tokens i x h))

pub token_passes : (tokens : List Token) (names : List (List ℕ)) (i : ℕ) (x : Token) (l : TokenClass) (p : CodeSeen) (v : Code) (q : CodeSeen) (a : Advance) (acts : List Action) → i < length tokens → Passes tokens i p
    → x ≡ get_or tokens i x → names ≡ declared_names tokens → l ≡ class_of (terminal names x) → seen.verdict_of v ≡ seen.judge (seen.summary_of p) x.kind l → v ≡ code.Passed q a acts
    → Passes tokens (i + 1) q
token_passes tokens names i x l p v q ad acts h a t g k f e =
    view_passes (verdict tokens (i + 1)) (seen.summary_of q)
    (sym (at_token tokens names i x l p (seen.verdict_of v) h a t g k f) ∙ ap seen.verdict_of e)

pub token_breaks : (tokens : List Token) (names : List (List ℕ)) (i : ℕ) (x : Token) (l : TokenClass) (p : CodeSeen) (v : Code) (r : RuleId) (last : Progress) → i < length tokens → Passes tokens i p
    → x ≡ get_or tokens i x → names ≡ declared_names tokens → l ≡ class_of (terminal names x) → seen.verdict_of v ≡ seen.judge (seen.summary_of p) x.kind l → v ≡ code.Broken r last
    → FirstBreak tokens i r
token_breaks tokens names i x l p v r last h a t g k f e =
    inl (
      h,
      (a.0, a.1),
      view_breaks (verdict tokens (i + 1)) r
          (sym (at_token tokens names i x l p (seen.verdict_of v) h a t g k f) ∙ ap seen.verdict_of e),
    )

pub ends_well : (tokens : List Token) (i : ℕ) (p : CodeSeen) (b : Bool) → length tokens ≤ i → Passes tokens i p → b ≡ definitions.may_end (progress_of p.progress) → b ≡ true → AllPass tokens
ends_well tokens i p b h (s, e, o) f t =
    let yes : is_some (finish s.state) ≡ true = sym (may_end_is s.state (passes_holds tokens i s e)) ∙ ap (λ v. definitions.may_end v.state) o ∙ sym f ∙ t in
    let r = found (finish s.state) yes in
    (s, r.0, sym (judging.all_tokens Seen (judge (declared_names tokens)) nothing_seen tokens i h) ∙ e, r.1)

pub ends_early : (tokens : List Token) (i : ℕ) (p : CodeSeen) (b : Bool) → length tokens ≤ i → Passes tokens i p → b ≡ definitions.may_end (progress_of p.progress) → b ≡ false
    → FirstBreak tokens (length tokens) S1
ends_early tokens i p b h (s, e, o) f t =
    let no : is_some (finish s.state) ≡ false = sym (may_end_is s.state (passes_holds tokens i s e)) ∙ ap (λ v. definitions.may_end v.state) o ∙ sym f ∙ t in
    inr (refl, refl, (s, sym (judging.all_tokens Seen (judge (declared_names tokens)) nothing_seen tokens i h) ∙ e, not_found (finish s.state) no))

pub bounded : (v : Code) (q : CodeSeen) (a : Advance) (acts : List Action) → v ≡ code.Passed q a acts → seen.IsBounded v → seen.SeenKept q
bounded v q a acts e b = subst seen.IsBounded e b
