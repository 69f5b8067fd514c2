-- Verdicts on more and more tokens: there is at most one first fault, and none where all pass.
use Rattle.std.proofs.Common.{◌≡◌, ℕ, ◌+◌, ◌≤◌, ◌<◌, inl, inr, List, [], ◌∷◌, ◌++◌, length, take, drop, get_or, Bool, true, false, nat_lt, Option, Some, None, refl, sym, ap, subst, ◌∙◌, arith}
use Rattle.std.proofs.lemmas.List.{take-append-drop, take_more, take_all}
use Rattle.st_num.specs.declared.rule.RuleId.{RuleId}
use Rattle.st_num.specs.declared.rule.RuleId.TheVariants.{S1, S2, S3, S4}
use Rattle.st_num.specs.declared.token.Token.{Token}
use Rattle.st_parse_automaton.proofs.Exact.{take_shorter}
use Rattle.st_parse_faults.specs.inner.Judging.{TokenVerdict, passed, broken, limited, judge_all, verdict_on, Pass, BreaksAt}

-- ---- rules

-- a rule that is no limit
abbrev pub OfGrammar : RuleId → Type 0
OfGrammar r = (r ≡ S2 → ⊥) × (r ≡ S3 → ⊥)

pub grammar_s1 : OfGrammar S1
grammar_s1 = (λ e. absurd (cc), λ e. absurd (cc))

pub grammar_s4 : OfGrammar S4
grammar_s4 = (λ e. absurd (cc), λ e. absurd (cc))

pub limits_alone : (S : Type 0) (s : S) (b c : Bool) (r : RuleId) → limited b c s ≡ broken r → OfGrammar r → ⊥
limits_alone S s true c r f h = let is : r ≡ S2 = cc in h.0 is
limits_alone S s false true r f h = let is : r ≡ S3 = cc in h.1 is
limits_alone S s false false r f h = absurd (cc)

pub some_token : (tokens : List Token) (k : ℕ) → k < length tokens → Token
some_token [] k h = absurd (omega (arith, h))
some_token (x ∷ tokens) k h = x

-- ---- more tokens

module _ (S : Type 0) (judge : S → Token → TokenVerdict S) where
  stays_broken : (r : RuleId) (xs : List Token) → judge_all judge (broken r) xs ≡ broken r
  stays_broken r [] = refl
  stays_broken r (x ∷ xs) = refl

  pub never_passes : (r : RuleId) (xs : List Token) (last : S) → judge_all judge (broken r) xs ≡ passed last → ⊥
  never_passes r xs last e = let f : broken r ≡ passed last = sym (stays_broken r xs) ∙ e in absurd (cc)

  abbrev pub judge_next : TokenVerdict S → Token → TokenVerdict S
  judge_next (passed seen) x = judge seen x
  judge_next (broken r) x = broken r

  judge_more : (v : TokenVerdict S) (xs : List Token) (x : Token) → judge_all judge v (xs ++ x ∷ []) ≡ judge_next (judge_all judge v xs) x
  judge_more (passed seen) [] x = refl
  judge_more (broken r) [] x = refl
  judge_more (passed seen) (y ∷ xs) x = judge_more (judge seen y) xs x
  judge_more (broken r) (y ∷ xs) x = refl

  judge_append : (v : TokenVerdict S) (xs ys : List Token) → judge_all judge v (xs ++ ys) ≡ judge_all judge (judge_all judge v xs) ys
  judge_append (passed seen) [] ys = refl
  judge_append (broken r) [] [] = refl
  judge_append (broken r) [] (y ∷ ys) = refl
  judge_append (passed seen) (x ∷ xs) ys = judge_append (judge seen x) xs ys
  judge_append (broken r) (x ∷ xs) [] = refl
  judge_append (broken r) (x ∷ xs) (y ∷ ys) = refl

  module _ (start : S) (tokens : List Token) where
    -- one more token
    pub verdict_more : (i : ℕ) (d : Token) → i < length tokens
        → verdict_on judge start tokens (i + 1) ≡ judge_next (verdict_on judge start tokens i) (get_or tokens i d)
    verdict_more i d h =
        ap (judge_all judge (passed start)) (take_more tokens i d h)
        ∙ judge_more (passed start) (take i tokens) (get_or tokens i d)

    pub all_tokens : (i : ℕ) → length tokens ≤ i → verdict_on judge start tokens i ≡ verdict_on judge start tokens (length tokens)
    all_tokens i h =
        let same : take i tokens ≡ take (length tokens) tokens = take_all i tokens h ∙ sym (take_all (length tokens) tokens (omega arith)) in
        ap (judge_all judge (passed start)) same

    pub front_passes : (j k : ℕ) (last : S) → j ≤ k → j ≤ length tokens → verdict_on judge start tokens k ≡ passed last → (seen : S) × (verdict_on judge start tokens j ≡ passed seen)
    front_passes j k last h g e =
        let split : take k tokens ≡ take j tokens ++ drop j (take k tokens) = sym (take-append-drop j (take k tokens)) ∙ ap (λ front. front ++ drop j (take k tokens)) (take_shorter j k tokens h g) in
        go (verdict_on judge start tokens j) refl (sym (judge_append (passed start) (take j tokens) (drop j (take k tokens))) ∙ ap (judge_all judge (passed start)) (sym split) ∙ e)
      where
        go : (v : TokenVerdict S) → verdict_on judge start tokens j ≡ v → judge_all judge (verdict_on judge start tokens j) (drop j (take k tokens)) ≡ passed last
            → (seen : S) × (verdict_on judge start tokens j ≡ passed seen)
        go (passed seen) f i = (seen, f)
        go (broken r) f i = absurd (never_passes r (drop j (take k tokens)) last (ap (λ v. judge_all judge v (drop j (take k tokens))) (sym f) ∙ i))

    -- ---- one fault

    module _ (A : Type 0) (finish : S → Option A) where
      pub fault_front : (k : ℕ) (r : RuleId) → BreaksAt judge finish start tokens k r → (seen : S) × (verdict_on judge start tokens k ≡ passed seen)
      fault_front k r (inl f) = f.1
      fault_front k r (inr f) = (f.2.0, f.2.1)

      pub fault_within : (k : ℕ) (r : RuleId) → BreaksAt judge finish start tokens k r → k ≤ length tokens
      fault_within k r (inl f) = omega (arith, f.0)
      fault_within k r (inr f) = omega (arith, f.0)

      none_earlier : (j k : ℕ) (q r : RuleId) → BreaksAt judge finish start tokens j q → BreaksAt judge finish start tokens k r → j < k → ⊥
      none_earlier j k q r (inl f) g h =
          let last = fault_front k r g in
          let seen = front_passes (j + 1) k last.0 (omega arith) (omega (arith, f.0)) last.1 in
          let never : broken q ≡ passed seen.0 = sym f.2 ∙ seen.1 in
          absurd (cc)
      none_earlier j k q r (inr f) g h = absurd (omega (arith, f.0, fault_within k r g))

      one_token : (j k : ℕ) (q r : RuleId) → BreaksAt judge finish start tokens j q → BreaksAt judge finish start tokens k r → j ≡ k
      one_token j k q r f g = go (nat_lt j k) refl (nat_lt k j) refl
        where
          go : (b : Bool) → nat_lt j k ≡ b → (c : Bool) → nat_lt k j ≡ c → j ≡ k
          go true e c i = absurd (none_earlier j k q r f g (grind arith))
          go false e true i = absurd (none_earlier k j r q g f (grind arith))
          go false e false i = grind arith

      same_rule : (k : ℕ) (q r : RuleId) → BreaksAt judge finish start tokens k q → BreaksAt judge finish start tokens k r → q ≡ r
      same_rule k q r (inl f) (inl g) = let e : broken q ≡ broken r = sym f.2 ∙ g.2 in cc
      same_rule k q r (inl f) (inr g) = absurd (omega (arith, f.0, g.0))
      same_rule k q r (inr f) (inl g) = absurd (omega (arith, f.0, g.0))
      same_rule k q r (inr f) (inr g) = f.1 ∙ sym g.1

      pub one_fault : (j k : ℕ) (q r : RuleId) → BreaksAt judge finish start tokens j q → BreaksAt judge finish start tokens k r → (j ≡ k) × (q ≡ r)
      one_fault j k q r f g =
          let e = one_token j k q r f g in
          (e, same_rule k q r (subst (λ n. BreaksAt judge finish start tokens n q) e f) g)

      pub never_both : (k : ℕ) (r : RuleId) → BreaksAt judge finish start tokens k r → Pass judge finish start tokens → ⊥
      never_both k r (inl f) s =
          let seen = front_passes (k + 1) (length tokens) s.0 (omega (arith, f.0)) (omega (arith, f.0)) s.2 in
          let never : broken r ≡ passed seen.0 = sym f.2 ∙ seen.1 in
          absurd (cc)
      never_both k r (inr f) s =
          let same : passed f.2.0 ≡ passed s.0 = sym f.2.1 ∙ ap (verdict_on judge start tokens) f.0 ∙ s.2 in
          let is : f.2.0 ≡ s.0 = cc in
          let never : None ≡ Some s.1 = sym f.2.2 ∙ ap finish is ∙ s.3 in
          absurd (cc)
