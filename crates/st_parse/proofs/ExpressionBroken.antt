-- The first token of expressions that breaks a rule, as the tokens are judged, is the one that
-- trees tell.
use Rattle.std.proofs.Common.{◌≡◌, ◌⊎◌, inl, inr, ℕ, ◌+◌, ◌≤◌, ◌<◌, List, [], ◌++◌, length, take, get_or, Option, Some, None, option_and_then, refl, sym, ap, subst, ◌∙◌, append-nil, arith}
use Rattle.std.specs.List.{list_any}
use Rattle.std.proofs.lemmas.List.{take_all, length-map}
use Rattle.st_num.specs.declared.mark.Mark.{Mark}
use Rattle.st_num.specs.declared.mark.Mark.TheVariants as mark
use Rattle.st_num.specs.declared.word.Word.{Word}
use Rattle.st_num.specs.declared.word.Word.TheVariants as word
use Rattle.st_num.specs.declared.rule.RuleId.{RuleId}
use Rattle.st_num.specs.declared.token.Token.{Token}
use Rattle.st_num.specs.declared.token.TokenKind.{TokenKind}
use Rattle.st_num.specs.declared.token.TokenKind.TheVariants as kind
use Rattle.st_grammar.specs.Terminals.{Terminal, terminal}
use Rattle.st_grammar.specs.Trees.{Trees}
use Rattle.st_parse_faults.specs.declared.before.Before.TheVariants as before
use Rattle.st_parse_faults.specs.inner.LeftOut.{left_out, sign_left_out, word_left_out}
use Rattle.st_parse_faults.specs.Nesting.{brackets_behind}
use Rattle.st_parse_faults.specs.inner.Judging.{passed, broken}
use Rattle.st_parse_faults.specs.Number.{Number}
use Rattle.st_parse_faults.specs.Faults.{passes_limit, PassesLimit, RuleOf, IsRefused}
use Rattle.st_parse_faults.proofs.JudgingLemmas.{OfGrammar, grammar_s1, some_token}
use Rattle.st_parse_faults.proofs.FaultRules.{Same, zero_is, of_grammar, rule_told, one_rule, no_token, rule_at_end}
use Rattle.st_parse_faults.proofs.PositionNumberFacts.{no_way}
use Rattle.st_parse.specs.Expressions.{ParseExpressions, terminals_of, RefusedAt}
use Rattle.st_parse.specs.inner.ExpressionReading.{State, start, step, finish, reading}
use Rattle.st_parse.specs.ExpressionFaults.{expressions_numbers, SignLeftOut, WordLeftOut, LeftOut, expression_text, Faultless, FrontKept, FirstFault}
use Rattle.st_parse.specs.inner.ExpressionFolding.{Seen, refusal, judged, verdict, AllPass, FirstBreak}
use Rattle.st_parse.proofs.ExpressionReadings.{complete, sound, viable}
use Rattle.st_parse.proofs.ExpressionVerdicts.{verdict_reads}
use Rattle.st_parse.proofs.ExpressionExact.{last_step, one_more, whole_list, one_fault, never_both, is_refused, not_later}
use Rattle.st_parse.proofs.ExpressionNumbers.{grown, finishes, seeing_front, kept_front, front_passes, next_token, next_verdict, passes_there, breaks_there}

-- ---- an entry for each token

pub parallel : (us : List Terminal) (ts : Trees) → ParseExpressions us ts → length (expressions_numbers ts) ≡ length us
parallel us ts p = go (reading start us) refl (complete us ts p)
  where
    go : (o : Option State) → reading start us ≡ o → option_and_then finish o ≡ Some ts → length (expressions_numbers ts) ≡ length us
    go None e f = absurd (cc)
    go (Some st) e f =
        let g = grown us st e in
        ap (length {A = List Number}) (sym (finishes st ts g.held f) ∙ g.grown) ∙ g.long

-- ---- no fault

pub all_kept : (names : List (List ℕ)) (tokens : List Token) → AllPass names tokens → Faultless names tokens
all_kept names tokens h =
    let i = seeing_front names tokens (length tokens) h.0 h.2 in (
      h.1,
      subst (λ us. ParseExpressions us h.1) (whole_list names tokens (length tokens) (omega arith))
          (sound (take (length tokens) (terminals_of names tokens)) h.0.state h.1 (verdict_reads names tokens (length tokens) h.0 h.2) h.3),
      ap (list_any passes_limit) (sym (finishes h.0.state h.1 i.held h.3)) ∙ i.clear,
    )

-- expressions begin with all of their tokens
all_front : (names : List (List ℕ)) (tokens : List Token) → Faultless names tokens → FrontKept names tokens (length tokens)
all_front names tokens (ts, p, k) =
    let us = terminals_of names tokens in
    let all : us ≡ take (length tokens) us ++ [] = sym (append-nil (take (length tokens) us) ∙ whole_list names tokens (length tokens) (omega arith)) in
    let long : length (expressions_numbers ts) ≤ length tokens = omega (arith, parallel us ts p, length-map tokens (terminal names)) in (
      ts,
      record { rest = []; grammar = subst (λ vs. ParseExpressions vs ts) all p },
      ap (list_any passes_limit) (take_all (length tokens) (expressions_numbers ts) long) ∙ k,
    )

pub faultless : (names : List (List ℕ)) (tokens : List Token) → Faultless names tokens → AllPass names tokens
faultless names tokens h =
    let us = terminals_of names tokens in
    let s = front_passes names tokens (length tokens) (omega arith) (all_front names tokens h) in
    let read : reading start us ≡ Some s.0.state = ap (reading start) (sym (whole_list names tokens (length tokens) (omega arith))) ∙ verdict_reads names tokens (length tokens) s.0 s.1 in
    (s.0, h.0, s.1, sym (ap (option_and_then finish) read) ∙ complete us h.0 h.1)

-- ---- refused tokens

mark_left_out : (us : List Terminal) (m : Mark) → Same (sign_left_out before.Other (brackets_behind 0 us) m) (SignLeftOut us m)
mark_left_out us mark.Comma = zero_is (brackets_behind 0 us)
mark_left_out us mark.Ellipsis = (λ e. tt, λ f. refl)
mark_left_out us m = (λ e. absurd (no_way e), λ f. absurd f)

named_left_out : (w : Word) → Same (word_left_out before.Other w) (WordLeftOut w)
named_left_out word.Grammar = (λ e. tt, λ f. refl)
named_left_out word.Rat = (λ e. tt, λ f. refl)
named_left_out word.Real = (λ e. tt, λ f. refl)
named_left_out w = (λ e. absurd (no_way e), λ f. absurd f)

kind_left_out : (us : List Terminal) (k : TokenKind) → Same (left_out before.Other (brackets_behind 0 us) k) (LeftOut us k)
kind_left_out us (kind.Sign m) = mark_left_out us m
kind_left_out us (kind.Reserved w) = named_left_out w
kind_left_out us k = (λ e. absurd (no_way e), λ f. absurd f)

-- the forms that are left out, by what is seen
left_out_there : (names : List (List ℕ)) (tokens : List Token) (k : ℕ) (seen : Seen) (x : Token) → verdict names tokens k ≡ passed seen
    → Same (left_out before.Other seen.nesting x.kind) (LeftOut (take k (terminals_of names tokens)) x.kind)
left_out_there names tokens k seen x e =
    let us = take k (terminals_of names tokens) in
    let i = seeing_front names tokens k seen e in
    subst (λ v. Same (left_out before.Other v x.kind) (LeftOut us x.kind)) (sym (i.nests ∙ (grown us seen.state (verdict_reads names tokens k seen e)).nests)) (kind_left_out us x.kind)

-- ---- the first fault

token_broken : (names : List (List ℕ)) (tokens : List Token) (k : ℕ) (r : RuleId) (seen : Seen) → k < length tokens → verdict names tokens k ≡ passed seen → verdict names tokens (k + 1) ≡ broken r → PassesLimit (expression_text names tokens) k r ⊎ IsRefused (expression_text names tokens) k r
token_broken names tokens k r seen g e f = go (step seen.state (next_token names tokens k d)) refl
  where
    d : Token
    d = some_token tokens k g

    go : (o : Option State) → step seen.state (next_token names tokens k d) ≡ o → PassesLimit (expression_text names tokens) k r ⊎ IsRefused (expression_text names tokens) k r
    go (Some next) h = inl (passes_there names tokens k r seen d next g e f h)
    go None h =
        let x = get_or tokens k d in
        let is : refusal seen x ≡ r =
        let both : broken (refusal seen x) ≡ broken r = sym (next_verdict names tokens k seen d g e ∙ ap (judged seen x (next_token names tokens k d)) h) ∙ f in
        cc in
        inr (
          is_refused names tokens k r (subst OfGrammar is (of_grammar (left_out before.Other seen.nesting x.kind))) (inl (g, (seen, e), f)),
          subst (RuleOf (expression_text names tokens) k) is (rule_told (expression_text names tokens) k d (left_out before.Other seen.nesting x.kind) g (left_out_there names tokens k seen x e)),
        )

pub first_broken : (names : List (List ℕ)) (tokens : List Token) (k : ℕ) (r : RuleId) → FirstBreak names tokens k r → FirstFault names tokens k r
first_broken names tokens k r (inl (g, (seen, e), f)) = (kept_front names tokens k seen (omega (arith, g)) e, token_broken names tokens k r seen g e f)
first_broken names tokens k r (inr (e, i, (seen, f, n))) = (
  kept_front names tokens k seen (omega (arith, e)) f,
  inr (is_refused names tokens k r (subst OfGrammar (sym i) grammar_s1) (inr (e, i, (seen, f, n))), inr (i, no_token (expression_text names tokens) k e)),
)

refused_token : (names : List (List ℕ)) (tokens : List Token) (k : ℕ) (r : RuleId) → FrontKept names tokens k → RefusedAt names tokens k → RuleOf (expression_text names tokens) k r → FirstBreak names tokens k r
refused_token names tokens k r front (inl (g, v, never)) rule = go (step seen.state l) refl
  where
    s : (seen : Seen) × (verdict names tokens k ≡ passed seen)
    s = front_passes names tokens k (omega (arith, g)) front

    seen : Seen
    seen = s.0

    d : Token
    d = some_token tokens k g

    l : Terminal
    l = next_token names tokens k d

    go : (o : Option State) → step seen.state l ≡ o → FirstBreak names tokens k r
    go (Some next) h =
        absurd (never (viable names (take (k + 1) (terminals_of names tokens)) next
        (ap (reading start) (one_more names tokens k d g) ∙ last_step (take k (terminals_of names tokens)) l seen.state (verdict_reads names tokens k seen s.1) ∙ h)))
    go None h =
        let x = get_or tokens k d in
        let is : refusal seen x ≡ r = one_rule (expression_text names tokens) k (refusal seen x) r (rule_told (expression_text names tokens) k d (left_out before.Other seen.nesting x.kind) g (left_out_there names tokens k seen x s.1)) rule in
        inl (g, (seen, s.1), next_verdict names tokens k seen d g s.1 ∙ ap (judged seen x l) h ∙ ap broken is)
refused_token names tokens k r front (inr (e, v, never)) rule = go (finish seen.state) refl
  where
    s : (seen : Seen) × (verdict names tokens k ≡ passed seen)
    s = front_passes names tokens k (omega (arith, e)) front

    seen : Seen
    seen = s.0

    go : (o : Option Trees) → finish seen.state ≡ o → FirstBreak names tokens k r
    go (Some ts) h =
        absurd (never (ts, subst (λ us. ParseExpressions us ts) (whole_list names tokens k (omega (arith, e))) (sound (take k (terminals_of names tokens)) seen.state ts (verdict_reads names tokens k seen s.1) h)))
    go None h = inr (e, rule_at_end (expression_text names tokens) k r e rule, (seen, s.1, h))

pub broken_first : (names : List (List ℕ)) (tokens : List Token) (k : ℕ) (r : RuleId) → FirstFault names tokens k r → FirstBreak names tokens k r
broken_first names tokens k r (front, inl p) =
    let s = front_passes names tokens k (omega (arith, p.0)) front in
    inl (p.0, (s.0, s.1), breaks_there names tokens k r s.0 (some_token tokens k p.0) s.1 p)
broken_first names tokens k r (front, inr q) = refused_token names tokens k r front q.0 q.1

-- ---- there is one, and what those of the grammar say

pub never_kept : (names : List (List ℕ)) (tokens : List Token) (k : ℕ) (r : RuleId) → FirstFault names tokens k r → Faultless names tokens → ⊥
never_kept names tokens k r f h = never_both names tokens k r (broken_first names tokens k r f) (faultless names tokens h)

pub one_broken : (names : List (List ℕ)) (tokens : List Token) (j k : ℕ) (q r : RuleId) → FirstFault names tokens j q → FirstFault names tokens k r → (j ≡ k) × (q ≡ r)
one_broken names tokens j k q r f g = one_fault names tokens j k q r (broken_first names tokens j q f) (broken_first names tokens k r g)

-- a rule that is no limit is broken by a token that is refused
pub refused_there : (names : List (List ℕ)) (tokens : List Token) (k : ℕ) (r : RuleId) → OfGrammar r → FirstFault names tokens k r → RefusedAt names tokens k
refused_there names tokens k r h f = is_refused names tokens k r h (broken_first names tokens k r f)

pub none_later : (names : List (List ℕ)) (tokens : List Token) (j k : ℕ) (r : RuleId) → RefusedAt names tokens j → FirstFault names tokens k r → k ≤ j
none_later names tokens j k r f g = not_later names tokens j k r f (broken_first names tokens k r g)
