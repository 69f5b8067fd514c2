-- The first token that breaks a rule, as the tokens are judged, is the one that trees tell.
use Rattle.std.proofs.Common.{◌≡◌, ◌⊎◌, inl, inr, ℕ, ◌+◌, ◌≤◌, ◌<◌, List, [], ◌++◌, length, take, get_or, Option, Some, None, option_and_then, refl, sym, ap, subst, ◌∙◌, append-nil, arith}
use Rattle.std.specs.List.{list_any}
use Rattle.std.proofs.lemmas.List.{take_all, length-map}
use Rattle.st_num.specs.declared.rule.RuleId.{RuleId}
use Rattle.st_num.specs.declared.token.Token.{Token}
use Rattle.st_grammar.specs.Terminals.{Terminal, terminal, declared_names}
use Rattle.st_grammar.specs.Definitions.{Defs, ParseDefs}
use Rattle.st_grammar.specs.Positions.{State, start, step, finish, reading}
use Rattle.st_grammar.proofs.PositionReading.{sound_defs}
use Rattle.st_grammar.proofs.PositionEnds.{viable}
use Rattle.st_grammar.proofs.PositionComplete.{complete_defs}
use Rattle.st_parse_automaton.specs.Refusal.{terminals_of, RefusedAt}
use Rattle.st_parse_automaton.proofs.Loop.{last_step, one_more, whole_list}
use Rattle.st_parse_faults.specs.inner.LeftOut.{before_next, left_out}
use Rattle.st_parse_faults.specs.inner.Judging.{passed, broken}
use Rattle.st_parse_faults.specs.inner.Folding.{Seen, refusal, judged, verdict, AllPass, FirstBreak}
use Rattle.st_parse_faults.specs.Number.{Number}
use Rattle.st_parse_faults.specs.DefinitionNumbers.{defs_numbers}
use Rattle.st_parse_faults.specs.FormsLeftOut.{LeftOut}
use Rattle.st_parse_faults.specs.Faults.{passes_limit, PassesLimit, RuleOf, IsRefused}
use Rattle.st_parse_faults.specs.DefinitionFaults.{definition_text, Faultless, FrontKept, FirstFault}
use Rattle.st_parse_faults.proofs.JudgingLemmas.{OfGrammar, grammar_s1, some_token}
use Rattle.st_parse_faults.proofs.Verdicts.{verdict_reads}
use Rattle.st_parse_faults.proofs.Exact.{one_fault, never_both, is_refused, not_later}
use Rattle.st_parse_faults.proofs.PositionNumberSteps.{finishes}
use Rattle.st_parse_faults.proofs.NumberVerdicts.{grown, seeing_front, kept_front, front_passes, next_token, next_verdict, passes_there, breaks_there}
use Rattle.st_parse_faults.proofs.LeftOutForms.{left_out_is}
use Rattle.st_parse_faults.proofs.FaultRules.{Same, of_grammar, rule_told, one_rule, no_token, rule_at_end}

-- ---- an entry for each token

pub parallel : (us : List Terminal) (ds : Defs) → ParseDefs us ds → length (defs_numbers ds) ≡ length us
parallel us ds p = go (reading start us) refl (complete_defs us ds p)
  where
    go : (o : Option State) → reading start us ≡ o → option_and_then finish o ≡ Some ds → length (defs_numbers ds) ≡ length us
    go None e f = absurd (cc)
    go (Some st) e f =
        let g = grown us st e in
        ap (length {A = List Number}) (sym (finishes st ds g.holds f) ∙ g.grown) ∙ g.long

-- ---- no fault

pub all_kept : (tokens : List Token) → AllPass tokens → Faultless tokens
all_kept tokens h =
    let i = seeing_front tokens (length tokens) h.0 h.2 in (
      h.1,
      subst (λ us. ParseDefs us h.1) (whole_list tokens (length tokens) (omega arith))
          (sound_defs (take (length tokens) (terminals_of tokens)) h.0.state h.1 (verdict_reads tokens (length tokens) h.0 h.2) h.3),
      ap (list_any passes_limit) (sym (finishes h.0.state h.1 i.holds h.3)) ∙ i.clear,
    )

-- definitions begin with all of their tokens
all_front : (tokens : List Token) → Faultless tokens → FrontKept tokens (length tokens)
all_front tokens (ds, p, k) =
    let us = terminals_of tokens in
    let all : us ≡ take (length tokens) us ++ [] = sym (append-nil (take (length tokens) us) ∙ whole_list tokens (length tokens) (omega arith)) in
    let long : length (defs_numbers ds) ≤ length tokens = omega (arith, parallel us ds p, length-map tokens (terminal (declared_names tokens))) in (
      ds,
      record { rest = []; grammar = subst (λ vs. ParseDefs vs ds) all p },
      ap (list_any passes_limit) (take_all (length tokens) (defs_numbers ds) long) ∙ k,
    )

pub faultless : (tokens : List Token) → Faultless tokens → AllPass tokens
faultless tokens h =
    let us = terminals_of tokens in
    let s = front_passes tokens (length tokens) (omega arith) (all_front tokens h) in
    let read : reading start us ≡ Some s.0.state = ap (reading start) (sym (whole_list tokens (length tokens) (omega arith))) ∙ verdict_reads tokens (length tokens) s.0 s.1 in
    (s.0, h.0, s.1, sym (ap (option_and_then finish) read) ∙ complete_defs us h.0 h.1)

-- ---- refused tokens

-- the forms that are left out, by what is seen
left_out_there : (tokens : List Token) (k : ℕ) (seen : Seen) (x : Token) → verdict tokens k ≡ passed seen → step seen.state (terminal (declared_names tokens) x) ≡ None
    → Same (left_out (before_next seen.state) seen.nesting x.kind) (LeftOut (declared_names tokens) (take k (terminals_of tokens)) x)
left_out_there tokens k seen x e n =
    let us = take k (terminals_of tokens) in
    let read = verdict_reads tokens k seen e in
    let i = seeing_front tokens k seen e in
    subst (λ v. Same (left_out (before_next seen.state) v x.kind) (LeftOut (declared_names tokens) us x)) (sym (i.nests ∙ (grown us seen.state read).nests))
    (left_out_is (declared_names tokens) us seen.state x read n)

-- ---- the first fault

token_broken : (tokens : List Token) (k : ℕ) (r : RuleId) (seen : Seen) → k < length tokens → verdict tokens k ≡ passed seen → verdict tokens (k + 1) ≡ broken r → PassesLimit (definition_text tokens) k r ⊎ IsRefused (definition_text tokens) k r
token_broken tokens k r seen g e f = go (step seen.state (next_token tokens k d)) refl
  where
    d : Token
    d = some_token tokens k g

    go : (o : Option State) → step seen.state (next_token tokens k d) ≡ o → PassesLimit (definition_text tokens) k r ⊎ IsRefused (definition_text tokens) k r
    go (Some next) h = inl (passes_there tokens k r seen d next g e f h)
    go None h =
        let x = get_or tokens k d in
        let is : refusal seen x ≡ r =
        let both : broken (refusal seen x) ≡ broken r = sym (next_verdict tokens k seen d g e ∙ ap (judged seen x (next_token tokens k d)) h) ∙ f in
        cc in
        inr (
          is_refused tokens k r (subst OfGrammar is (of_grammar (left_out (before_next seen.state) seen.nesting x.kind))) (inl (g, (seen, e), f)),
          subst (RuleOf (definition_text tokens) k) is (rule_told (definition_text tokens) k d (left_out (before_next seen.state) seen.nesting x.kind) g (left_out_there tokens k seen x e h)),
        )

pub first_broken : (tokens : List Token) (k : ℕ) (r : RuleId) → FirstBreak tokens k r → FirstFault tokens k r
first_broken tokens k r (inl (g, (seen, e), f)) = (kept_front tokens k seen (omega (arith, g)) e, token_broken tokens k r seen g e f)
first_broken tokens k r (inr (e, i, (seen, f, n))) = (
  kept_front tokens k seen (omega (arith, e)) f,
  inr (is_refused tokens k r (subst OfGrammar (sym i) grammar_s1) (inr (e, i, (seen, f, n))), inr (i, no_token (definition_text tokens) k e)),
)

refused_token : (tokens : List Token) (k : ℕ) (r : RuleId) → FrontKept tokens k → RefusedAt tokens k → RuleOf (definition_text tokens) k r → FirstBreak tokens k r
refused_token tokens k r front (inl (g, v, never)) rule = go (step seen.state l) refl
  where
    s : (seen : Seen) × (verdict tokens k ≡ passed seen)
    s = front_passes tokens k (omega (arith, g)) front

    seen : Seen
    seen = s.0

    d : Token
    d = some_token tokens k g

    l : Terminal
    l = next_token tokens k d

    go : (o : Option State) → step seen.state l ≡ o → FirstBreak tokens k r
    go (Some next) h =
        absurd (never (viable (declared_names tokens) (take (k + 1) (terminals_of tokens)) next
        (ap (reading start) (one_more tokens k d g) ∙ last_step (take k (terminals_of tokens)) l seen.state (verdict_reads tokens k seen s.1) ∙ h)))
    go None h =
        let x = get_or tokens k d in
        let is : refusal seen x ≡ r = one_rule (definition_text tokens) k (refusal seen x) r (rule_told (definition_text tokens) k d (left_out (before_next seen.state) seen.nesting x.kind) g (left_out_there tokens k seen x s.1 h)) rule in
        inl (g, (seen, s.1), next_verdict tokens k seen d g s.1 ∙ ap (judged seen x l) h ∙ ap broken is)
refused_token tokens k r front (inr (e, v, never)) rule = go (finish seen.state) refl
  where
    s : (seen : Seen) × (verdict tokens k ≡ passed seen)
    s = front_passes tokens k (omega (arith, e)) front

    seen : Seen
    seen = s.0

    go : (o : Option Defs) → finish seen.state ≡ o → FirstBreak tokens k r
    go (Some ds) h =
        absurd (never (ds, subst (λ us. ParseDefs us ds) (whole_list tokens k (omega (arith, e))) (sound_defs (take k (terminals_of tokens)) seen.state ds (verdict_reads tokens k seen s.1) h)))
    go None h = inr (e, rule_at_end (definition_text tokens) k r e rule, (seen, s.1, h))

pub broken_first : (tokens : List Token) (k : ℕ) (r : RuleId) → FirstFault tokens k r → FirstBreak tokens k r
broken_first tokens k r (front, inl p) =
    let s = front_passes tokens k (omega (arith, p.0)) front in
    inl (p.0, (s.0, s.1), breaks_there tokens k r s.0 (some_token tokens k p.0) s.1 p)
broken_first tokens k r (front, inr q) = refused_token tokens k r front q.0 q.1

-- ---- there is one, and what those of the grammar say

pub never_kept : (tokens : List Token) (k : ℕ) (r : RuleId) → FirstFault tokens k r → Faultless tokens → ⊥
never_kept tokens k r f h = never_both tokens k r (broken_first tokens k r f) (faultless tokens h)

pub one_broken : (tokens : List Token) (j k : ℕ) (q r : RuleId) → FirstFault tokens j q → FirstFault tokens k r → (j ≡ k) × (q ≡ r)
one_broken tokens j k q r f g = one_fault tokens j k q r (broken_first tokens j q f) (broken_first tokens k r g)

-- a rule that is no limit is broken by a token that is refused
pub refused_there : (tokens : List Token) (k : ℕ) (r : RuleId) → OfGrammar r → FirstFault tokens k r → RefusedAt tokens k
refused_there tokens k r h f = is_refused tokens k r h (broken_first tokens k r f)

pub none_later : (tokens : List Token) (j k : ℕ) (r : RuleId) → RefusedAt tokens j → FirstFault tokens k r → k ≤ j
none_later tokens j k r f g = not_later tokens j k r f (broken_first tokens k r g)
