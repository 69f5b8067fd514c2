-- There is at most one first fault, and a fault of the grammar is a refusal of it.
use Rattle.std.proofs.Common.{◌≡◌, ℕ, ◌+◌, ◌≤◌, ◌<◌, inl, inr, List, length, take, get_or, Bool, true, false, nat_lt, Option, Some, None, option_and_then, refl, sym, ap, ◌∙◌, arith}
use Rattle.st_num.specs.declared.rule.RuleId.{RuleId}
use Rattle.st_num.specs.declared.token.Token.{Token}
use Rattle.st_grammar.specs.Terminals.{Terminal, terminal, declared_names}
use Rattle.st_grammar.specs.Definitions.{Defs}
use Rattle.st_grammar.specs.Positions.{State, start, step, finish, reading}
use Rattle.st_grammar.proofs.PositionEnds.{viable}
use Rattle.st_grammar.proofs.PositionComplete.{dead_defs, complete_defs}
use Rattle.st_parse_automaton.specs.Refusal.{terminals_of, IsViable, RefusedAt}
use Rattle.st_parse_automaton.proofs.Loop.{last_step, one_more, whole_list}
use Rattle.st_parse_faults.specs.inner.Judging.{passed, broken}
use Rattle.st_parse_faults.specs.inner.Folding.{Seen, opens_too_many, passes_limit, seen_after, judged, judge, verdict, nothing_seen, ended, AllPass, FirstBreak}
use Rattle.st_parse_faults.proofs.JudgingLemmas as judging
use Rattle.st_parse_faults.proofs.JudgingLemmas.{OfGrammar}
use Rattle.st_parse_faults.proofs.Verdicts.{verdict_reads}

-- ---- fronts

pub front_passes : (tokens : List Token) (j k : ℕ) (last : Seen) → j ≤ k → j ≤ length tokens → verdict tokens k ≡ passed last → (seen : Seen) × (verdict tokens j ≡ passed seen)
front_passes tokens = judging.front_passes Seen (judge (declared_names tokens)) nothing_seen tokens

pub passes_viable : (tokens : List Token) (k : ℕ) (seen : Seen) → verdict tokens k ≡ passed seen → IsViable tokens k
passes_viable tokens k seen e = viable (declared_names tokens) (take k (terminals_of tokens)) seen.state (verdict_reads tokens k seen e)

-- ---- one fault

pub one_fault : (tokens : List Token) (j k : ℕ) (q r : RuleId) → FirstBreak tokens j q → FirstBreak tokens k r → (j ≡ k) × (q ≡ r)
one_fault tokens = judging.one_fault Seen (judge (declared_names tokens)) nothing_seen tokens Defs ended

pub never_both : (tokens : List Token) (k : ℕ) (r : RuleId) → FirstBreak tokens k r → AllPass tokens → ⊥
never_both tokens = judging.never_both Seen (judge (declared_names tokens)) nothing_seen tokens Defs ended

-- ---- the grammar

pub not_read : (seen : Seen) (x : Token) (l : Terminal) (o : Option State) (r : RuleId) → judged seen x l o ≡ broken r → OfGrammar r → o ≡ None
not_read seen x l None r e h = refl
not_read seen x l (Some next) r e h =
    let s = seen_after seen l next in
    absurd (judging.limits_alone Seen s (opens_too_many s l) (passes_limit s) r e h)

pub dead_next : (tokens : List Token) (k : ℕ) (r : RuleId) (seen : Seen) (d : Token) → OfGrammar r → k < length tokens → verdict tokens k ≡ passed seen → verdict tokens (k + 1) ≡ broken r
    → IsViable tokens (k + 1) → ⊥
dead_next tokens k r seen d h g e f v =
    let x = get_or tokens k d in
    let l = terminal (declared_names tokens) x in
    let us = take k (terminals_of tokens) in
    let read = verdict_reads tokens k seen e in
    let next : judge (declared_names tokens) seen x ≡ broken r = ap (λ w. judging.judge_next Seen (judge (declared_names tokens)) w x) (sym e) ∙ sym (judging.verdict_more Seen (judge (declared_names tokens)) nothing_seen tokens k d g) ∙ f in
    let none = not_read seen x l (step seen.state l) r next h in
    dead_defs (declared_names tokens) (take (k + 1) (terminals_of tokens)) (ap (reading start) (one_more tokens k d g) ∙ last_step us l seen.state read ∙ none) v

pub is_refused : (tokens : List Token) (k : ℕ) (r : RuleId) → OfGrammar r → FirstBreak tokens k r → RefusedAt tokens k
is_refused tokens k r h (inl (g, (seen, e), f)) = inl (g, passes_viable tokens k seen e, dead_next tokens k r seen (judging.some_token tokens k g) h g e f)
is_refused tokens k r h (inr (e, i, (seen, f, n))) =
    let us = take k (terminals_of tokens) in
    let all : us ≡ terminals_of tokens = whole_list tokens k (omega (arith, e)) in
    inr (
      e,
      passes_viable tokens k seen f,
      λ s.
          let done = complete_defs (terminals_of tokens) s.0 s.1 in
          let nothing : option_and_then finish (reading start (terminals_of tokens)) ≡ None = ap (option_and_then finish) (ap (reading start) (sym all) ∙ verdict_reads tokens k seen f) ∙ n in
          absurd (cc),
    )

-- no fault stands behind the refused token
pub not_later : (tokens : List Token) (j k : ℕ) (r : RuleId) → RefusedAt tokens j → FirstBreak tokens k r → k ≤ j
not_later tokens j k r f g = go (nat_lt j k) refl
  where
    last : (seen : Seen) × (verdict tokens k ≡ passed seen)
    last = judging.fault_front Seen (judge (declared_names tokens)) nothing_seen tokens Defs ended k r g

    late : RefusedAt tokens j → j < k → ⊥
    late (inl a) h =
        let seen = front_passes tokens (j + 1) k last.0 (omega arith) (omega (arith, a.0)) last.1 in
        a.2 (passes_viable tokens (j + 1) seen.0 seen.1)
    late (inr a) h = absurd (omega (arith, a.0, judging.fault_within Seen (judge (declared_names tokens)) nothing_seen tokens Defs ended k r g))

    go : (b : Bool) → nat_lt j k ≡ b → k ≤ j
    go true e = absurd (late f (grind arith))
    go false e = grind arith
