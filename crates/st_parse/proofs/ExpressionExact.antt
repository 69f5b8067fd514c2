-- There is at most one first fault, none in expressions without one, and a fault of the grammar is
-- a refusal of it.
use Rattle.std.proofs.Common.{◌≡◌, ℕ, ◌+◌, ◌≤◌, ◌<◌, inl, inr, List, [], ◌∷◌, ◌++◌, length, take, get_or, map, Bool, true, false, nat_lt, Option, Some, None, option_and_then, refl, sym, ap, ◌∙◌, arith}
use Rattle.std.proofs.lemmas.List.{take_more, take_all, get_or-map, length-map}
use Rattle.st_num.specs.declared.rule.RuleId.{RuleId}
use Rattle.st_num.specs.declared.token.Token.{Token}
use Rattle.st_grammar.specs.Terminals.{Terminal, terminal}
use Rattle.st_grammar.specs.Trees.{Trees}
use Rattle.st_parse.specs.Expressions.{terminals_of, IsViable, RefusedAt}
use Rattle.st_parse.specs.inner.ExpressionReading.{State, start, step, finish, reading}
use Rattle.st_parse_faults.specs.inner.Judging.{passed, broken}
use Rattle.st_parse.specs.inner.ExpressionFolding.{Seen, opens_too_many, passes_limit, seen_after, judged, judge, verdict, nothing_seen, ended, AllPass, FirstBreak}
use Rattle.st_parse.proofs.ExpressionReadings.{reading_append, complete, viable, dead}
use Rattle.st_parse_faults.proofs.JudgingLemmas as judging
use Rattle.st_parse_faults.proofs.JudgingLemmas.{OfGrammar}
use Rattle.st_parse.proofs.ExpressionVerdicts.{verdict_reads}

-- ---- tokens

pub last_step : (us : List Terminal) (l : Terminal) (st : State) → reading start us ≡ Some st → reading start (us ++ l ∷ []) ≡ step st l
last_step us l st e = reading_append start us (l ∷ []) ∙ ap (option_and_then (λ next. reading next (l ∷ []))) e ∙ go (step st l)
  where
    go : (o : Option State) → option_and_then (λ next. reading next []) o ≡ o
    go None = refl
    go (Some next) = refl

-- one more token is that of the list
pub one_more : (names : List (List ℕ)) (tokens : List Token) (i : ℕ) (d : Token) → i < length tokens
    → take (i + 1) (terminals_of names tokens) ≡ take i (terminals_of names tokens) ++ terminal names (get_or tokens i d) ∷ []
one_more names tokens i d h =
    let f = terminal names in
    take_more (map f tokens) i (f d) (omega (arith, length-map tokens f))
    ∙ ap (λ l. take i (map f tokens) ++ l ∷ []) (get_or-map f tokens i d (f d) h)

pub whole_list : (names : List (List ℕ)) (tokens : List Token) (i : ℕ) → length tokens ≤ i → take i (terminals_of names tokens) ≡ terminals_of names tokens
whole_list names tokens i h = take_all i (terminals_of names tokens) (omega (arith, length-map tokens (terminal names)))

-- ---- fronts

pub passes_viable : (names : List (List ℕ)) (tokens : List Token) (k : ℕ) (seen : Seen) → verdict names tokens k ≡ passed seen → IsViable names tokens k
passes_viable names tokens k seen e = viable names (take k (terminals_of names tokens)) seen.state (verdict_reads names tokens k seen e)

-- ---- one fault

pub one_fault : (names : List (List ℕ)) (tokens : List Token) (j k : ℕ) (q r : RuleId) → FirstBreak names tokens j q → FirstBreak names tokens k r → (j ≡ k) × (q ≡ r)
one_fault names tokens = judging.one_fault Seen (judge names) nothing_seen tokens Trees ended

pub never_both : (names : List (List ℕ)) (tokens : List Token) (k : ℕ) (r : RuleId) → FirstBreak names tokens k r → AllPass names tokens → ⊥
never_both names tokens = judging.never_both Seen (judge names) nothing_seen tokens Trees ended

-- ---- the grammar

pub not_read : (seen : Seen) (x : Token) (l : Terminal) (o : Option State) (r : RuleId) → judged seen x l o ≡ broken r → OfGrammar r → o ≡ None
not_read seen x l None r e h = refl
not_read seen x l (Some next) r e h =
    let s = seen_after seen l next in
    absurd (judging.limits_alone Seen s (opens_too_many s l) (passes_limit s) r e h)

pub dead_next : (names : List (List ℕ)) (tokens : List Token) (k : ℕ) (r : RuleId) (seen : Seen) (d : Token) → OfGrammar r → k < length tokens → verdict names tokens k ≡ passed seen → verdict names tokens (k + 1) ≡ broken r
    → IsViable names tokens (k + 1) → ⊥
dead_next names tokens k r seen d h g e f v =
    let x = get_or tokens k d in
    let l = terminal names x in
    let us = take k (terminals_of names tokens) in
    let read = verdict_reads names tokens k seen e in
    let next : judge names seen x ≡ broken r = ap (λ w. judging.judge_next Seen (judge names) w x) (sym e) ∙ sym (judging.verdict_more Seen (judge names) nothing_seen tokens k d g) ∙ f in
    let none = not_read seen x l (step seen.state l) r next h in
    dead names (take (k + 1) (terminals_of names tokens)) (ap (reading start) (one_more names tokens k d g) ∙ last_step us l seen.state read ∙ none) v

pub is_refused : (names : List (List ℕ)) (tokens : List Token) (k : ℕ) (r : RuleId) → OfGrammar r → FirstBreak names tokens k r → RefusedAt names tokens k
is_refused names tokens k r h (inl (g, (seen, e), f)) = inl (g, passes_viable names tokens k seen e, dead_next names tokens k r seen (judging.some_token tokens k g) h g e f)
is_refused names tokens k r h (inr (e, i, (seen, f, n))) =
    let us = take k (terminals_of names tokens) in
    let all : us ≡ terminals_of names tokens = whole_list names tokens k (omega (arith, e)) in
    inr (
      e,
      passes_viable names tokens k seen f,
      λ s.
          let done = complete (terminals_of names tokens) s.0 s.1 in
          let nothing : option_and_then finish (reading start (terminals_of names tokens)) ≡ None = ap (option_and_then finish) (ap (reading start) (sym all) ∙ verdict_reads names tokens k seen f) ∙ n in
          absurd (cc),
    )

-- no fault stands behind the refused token
pub not_later : (names : List (List ℕ)) (tokens : List Token) (j k : ℕ) (r : RuleId) → RefusedAt names tokens j → FirstBreak names tokens k r → k ≤ j
not_later names tokens j k r f g = go (nat_lt j k) refl
  where
    last : (seen : Seen) × (verdict names tokens k ≡ passed seen)
    last = judging.fault_front Seen (judge names) nothing_seen tokens Trees ended k r g

    late : RefusedAt names tokens j → j < k → ⊥
    late (inl a) h =
        let seen = judging.front_passes Seen (judge names) nothing_seen tokens (j + 1) k last.0 (omega arith) (omega (arith, a.0)) last.1 in
        a.2 (passes_viable names tokens (j + 1) seen.0 seen.1)
    late (inr a) h = absurd (omega (arith, a.0, judging.fault_within Seen (judge names) nothing_seen tokens Trees ended k r g))

    go : (b : Bool) → nat_lt j k ≡ b → k ≤ j
    go true e = absurd (late f (grind arith))
    go false e = grind arith
