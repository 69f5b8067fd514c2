-- There is at most one answer, want of memory aside.
use Rattle.std.proofs.Common.{◌≡◌, ℕ, ◌+◌, ◌<◌, ◌≤◌, ◌⊎◌, inl, inr, List, length, take, Bool, true, false, nat_lt, Option, Some, None, refl, sym, ap, ◌∙◌, arith}
use Rattle.st_num.specs.declared.span.Span.{Span}
use Rattle.st_num.specs.declared.rule.RuleId.{RuleId}
use Rattle.st_num.specs.declared.token.Token.{Token}
use Rattle.st_parse_faults.specs.inner.Judging.{passed, broken}
use Rattle.st_grammar.specs.Positions.{start, reading}
use Rattle.st_parse_automaton.specs.Refusal.{terminals_of}
use Rattle.st_parse_faults.specs.DefinitionFaults.{FrontKept, FirstFault}
use Rattle.st_parse_faults.specs.inner.Folding.{FirstBreak}
use Rattle.st_parse_faults.specs.Place.{place_at}
use Rattle.st_parse_faults.proofs.Exact.{front_passes}
use Rattle.st_parse_faults.proofs.NumberVerdicts as numbers
use Rattle.st_parse_faults.proofs.BrokenFirst.{one_broken, never_kept, broken_first}
use Rattle.st_el.specs.declared.definition.Def.{Def}
use Rattle.st_parse.specs.Limits.{variable_past, too_tall, first_that}
use Rattle.st_parse.specs.Open.{first_past}
use Rattle.st_parse.specs.Source.{Front, Past, IsParsed, IsSource, FaultAt}
use Rattle.st_parse.proofs.Sources.{one_meant}
use Rattle.st_parse.proofs.Fronts.{parsed_past}

-- ---- one front

abbrev Longest : List Token → ℕ → Type 0
Longest tokens n =
    (n ≡ length tokens) ⊎ ((r : RuleId) × FirstFault tokens n r)

break_within : (tokens : List Token) (n : ℕ) (r : RuleId) → FirstBreak tokens n r → n ≤ length tokens
break_within tokens n r (inl h) = omega (arith, h.0)
break_within tokens n r (inr h) = omega (arith, h.0)

longest_within : (tokens : List Token) (n : ℕ) → Longest tokens n → n ≤ length tokens
longest_within tokens n (inl e) = omega (arith, e)
longest_within tokens n (inr l) = break_within tokens n l.0 (broken_first tokens n l.0 l.1)

none_breaks : (tokens : List Token) (n k : ℕ) (r : RuleId) → FirstBreak tokens n r → FrontKept tokens k → n < k → k ≤ length tokens → ⊥
none_breaks tokens n k r (inr l) f h g = absurd (omega (arith, l.0))
none_breaks tokens n k r (inl l) f h g =
    let last = numbers.front_passes tokens k g f in
    let front = front_passes tokens (n + 1) k last.0 (omega arith) (omega (arith, l.0)) last.1 in
    let never : broken r ≡ passed front.0 = sym l.2 ∙ front.1 in
    absurd (cc)

none_longer : (tokens : List Token) (n k : ℕ) → Longest tokens n → FrontKept tokens k → n < k → k ≤ length tokens → ⊥
none_longer tokens n k (inl e) f h g = omega (arith, e)
none_longer tokens n k (inr l) f h g = none_breaks tokens n k l.0 (broken_first tokens n l.0 l.1) f h g

one_count : (tokens : List Token) (f g : Front tokens) → f.count ≡ g.count
one_count tokens f g = go (nat_lt f.count g.count) refl (nat_lt g.count f.count) refl
  where
    go : (b : Bool) → nat_lt f.count g.count ≡ b → (d : Bool) → nat_lt g.count f.count ≡ d → f.count ≡ g.count
    go true e d i =
        absurd (none_longer tokens f.count g.count f.longest g.kept (grind arith) (longest_within tokens g.count g.longest))
    go false e true i =
        absurd (none_longer tokens g.count f.count g.longest f.kept (grind arith) (longest_within tokens f.count f.longest))
    go false e false i = grind arith

one_state : (tokens : List Token) (f g : Front tokens) → f.state ≡ g.state
one_state tokens f g =
    let both : Some f.state ≡ Some g.state = sym f.read ∙ ap (λ n. reading start (take n (terminals_of tokens))) (one_count tokens f g) ∙ g.read in cc

-- ---- the first variable past the limit

one_past : (tokens : List Token) (a b : Option Span) → Past tokens a → Past tokens b → a ≡ b
one_past tokens a b h k = sym h.1 ∙ ap first_past (one_state tokens h.0 k.0) ∙ k.1

one_place : (tokens : List Token) (at there : Span) → Past tokens (Some at) → Past tokens (Some there) → at ≡ there
one_place tokens at there h k = let e : Some at ≡ Some there = one_past tokens (Some at) (Some there) h k in cc

never_past : (tokens : List Token) (at : Span) → Past tokens (Some at) → Past tokens None → ⊥
never_past tokens at h k =
    let never : Some at ≡ None = one_past tokens (Some at) None h k in
    absurd (cc)

none_past : (tokens : List Token) (defs : List Def) → IsParsed tokens defs → first_that variable_past defs ≡ None → Past tokens None
none_past tokens defs p e = let h = parsed_past tokens defs p in (h.0, h.1 ∙ e)

-- ---- the first definition that is too high

one_tall : (tokens : List Token) (a b : List Def) → IsParsed tokens a → IsParsed tokens b → first_that too_tall a ≡ first_that too_tall b
one_tall tokens a b p q = ap (first_that too_tall) (one_meant tokens a b p q)

never_tall : (tokens : List Token) (a b : List Def) (at : Span) → IsParsed tokens a → IsParsed tokens b → first_that too_tall a ≡ Some at → first_that too_tall b ≡ None → ⊥
never_tall tokens a b at p q h k =
    let never : Some at ≡ None = sym h ∙ one_tall tokens a b p q ∙ k in
    absurd (cc)

-- ---- answers

pub never_source : (tokens : List Token) (defs : List Def) (at : Span) (rule : RuleId) → FaultAt tokens at rule → IsSource tokens defs → ⊥
never_source tokens defs at rule (inl h) s = never_past tokens at h.0 (none_past tokens defs s.0 s.1.0)
never_source tokens defs at rule (inr (inl h)) s = never_kept tokens h.1.0 rule h.1.1 s.0.0
never_source tokens defs at rule (inr (inr h)) s = never_tall tokens h.0 defs at h.1 s.0 h.3 s.1.1

pub one_refusal : (tokens : List Token) (at there : Span) (rule other : RuleId) → FaultAt tokens at rule → FaultAt tokens there other → (at ≡ there) × (rule ≡ other)
one_refusal tokens at there rule other (inl h) (inl k) = (one_place tokens at there h.0 k.0, h.1 ∙ sym k.1)
one_refusal tokens at there rule other (inl h) (inr (inl k)) = absurd (never_past tokens at h.0 k.0)
one_refusal tokens at there rule other (inl h) (inr (inr k)) = absurd (never_past tokens at h.0 (none_past tokens k.0 k.1 k.2))
one_refusal tokens at there rule other (inr (inl h)) (inl k) = absurd (never_past tokens there k.0 h.0)
one_refusal tokens at there rule other (inr (inr h)) (inl k) = absurd (never_past tokens there k.0 (none_past tokens h.0 h.1 h.2))
one_refusal tokens at there rule other (inr (inl h)) (inr (inl k)) =
    let e = one_broken tokens h.1.0 k.1.0 rule other h.1.1 k.1.1 in
    (h.1.2 ∙ ap (place_at tokens) e.0 ∙ sym k.1.2, e.1)
one_refusal tokens at there rule other (inr (inl h)) (inr (inr k)) = absurd (never_kept tokens h.1.0 rule h.1.1 k.1.0)
one_refusal tokens at there rule other (inr (inr h)) (inr (inl k)) = absurd (never_kept tokens k.1.0 other k.1.1 h.1.0)
one_refusal tokens at there rule other (inr (inr h)) (inr (inr k)) =
    let e : Some at ≡ Some there = sym h.3 ∙ one_tall tokens h.0 k.0 h.1 k.1 ∙ k.3 in
    let same : at ≡ there = cc in
    (same, h.4 ∙ sym k.4)
