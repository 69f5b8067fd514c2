-- The order of atoms, and the least of them.
use Rattle.std.proofs.Common.{◌≡◌, ℕ, ◌+◌, ◌<◌, List, Option, Some, None, false, inl, inr, ⊎_elim, ap, ◌∙◌, sym, refl, subst, below_more, Bool, true, nat_eq}
use Rattle.std.specs.Prelude.{slice_get}
use Rattle.std.specs.Ordering.{is_gt, nat_cmp}
use Rattle.std.specs.declared.cmp.Ordering.{Ordering}
use Rattle.std.specs.declared.cmp.Ordering.TheVariants.{Less, Equal, Greater}
use Rattle.std.specs.Cmp.Lexicographic.{slice_cmp, pointwise}
use Rattle.std.proofs.lemmas.Cmp.{nat_list_cmp_total, nat_list_eq_equiv, tied_itself, upto}
use Rattle.st_il.specs.declared.small.SmallRule.{SmallRule}
use Rattle.st_commands.specs.inner.Step.{IsAtMost, IsLeastOf, IsBetter}

pub at_most_itself : (xs : List ℕ) → IsAtMost xs xs
at_most_itself xs = ap is_gt (tied_itself nat_list_cmp_total xs)

pub at_most_chain : (xs ys zs : List ℕ) → IsAtMost xs ys → IsAtMost ys zs → IsAtMost xs zs
at_most_chain xs ys zs = upto nat_list_cmp_total xs ys zs

-- one that is not above another is at most it, and one that is above has the other at most itself
pub at_most_back : (xs ys : List ℕ) → slice_cmp nat_cmp xs ys ≡ Greater → IsAtMost ys xs
at_most_back xs ys above = rw (nat_list_cmp_total.antisymm ys xs, above) refl

-- what is said of each of the first rules, at one more
abbrev AtRule : List SmallRule → List ℕ → (SmallRule → Type 0) → ℕ → Type 0
AtRule rules from P k = (rule : SmallRule) → slice_get rules k ≡ Some rule → rule.from ≡ from → P rule

at_rule : (rules : List SmallRule) (from : List ℕ) (P : SmallRule → Type 0) (k : ℕ) (rule : SmallRule) → slice_get rules k ≡ Some rule
    → (rule.from ≡ from → P rule) → AtRule rules from P k
at_rule rules from P k rule at p other at_other f =
    let same : rule ≡ other = cc in
    subst P same (p (ap (λ (r : SmallRule). r.from) same ∙ f))

-- the least of one rule more
pub IsLeastOf-more : (rules : List SmallRule) (from : List ℕ) (k : ℕ) (rule : SmallRule) (best result : Option SmallRule)
    → IsLeastOf rules from k best → slice_get rules k ≡ Some rule → IsBetter best rule from result → IsLeastOf rules from (k + 1) result
IsLeastOf-more rules from k rule best result before at better =
    record {
      none = λ e j other lt. below_more (AtRule rules from (λ _. ⊥)) k (λ i below one. before.none (better.none_best e) i one below)
          (at_rule rules from (λ _. ⊥) k rule at (better.none_rule e)) j lt other;
      some = λ one e. ⊎_elim (λ eb. before.some one eb) (λ p. (k, at ∙ ap Some p.1, subst (λ (r : SmallRule). r.from ≡ from) p.1 p.0)) (better.some one e);
      least = λ one e j other lt. below_more (AtRule rules from (λ r. IsAtMost one.to r.to)) k
          (λ i below rule at_rule f. below_best best before.none before.least better.below_best one e i rule below at_rule f)
          (at_rule rules from (λ r. IsAtMost one.to r.to) k rule at (better.below_rule one e)) j lt other;
    }
  where
    below_best : (b : Option SmallRule) → (b ≡ None → (i : ℕ) (one : SmallRule) → i < k → slice_get rules i ≡ Some one → one.from ≡ from → ⊥)
        → ((one : SmallRule) → b ≡ Some one → (i : ℕ) (rule : SmallRule) → i < k → slice_get rules i ≡ Some rule → rule.from ≡ from → IsAtMost one.to rule.to)
        → ((one other : SmallRule) → result ≡ Some one → b ≡ Some other → IsAtMost one.to other.to)
        → (one : SmallRule) → result ≡ Some one → (i : ℕ) (rule : SmallRule) → i < k → slice_get rules i ≡ Some rule → rule.from ≡ from → IsAtMost one.to rule.to
    below_best None none least below one e i rule lt at_rule f = absurd (none refl i rule lt at_rule f)
    below_best (Some b) none least below one e i rule lt at_rule f = at_most_chain one.to b.to rule.to (below one b e refl) (least b refl i rule lt at_rule f)

-- nothing is better than the best under a rule of another atom
pub IsBetter-other : (best : Option SmallRule) (rule : SmallRule) (from : List ℕ) → (rule.from ≡ from → ⊥) → IsBetter best rule from best
IsBetter-other best rule from differs =
    record {
      none_best = λ e. e;
      none_rule = λ _. differs;
      some = λ one e. inl e;
      below_best = λ one other e f. let same : other ≡ one = cc in subst (λ (x : SmallRule). IsAtMost x.to other.to) same (at_most_itself other.to);
      below_rule = λ one e f. absurd (differs f);
    }

-- the first is the best
pub IsBetter-first : (best : Option SmallRule) (rule : SmallRule) (from : List ℕ) → best ≡ None → rule.from ≡ from → IsBetter best rule from (Some rule)
IsBetter-first best rule from none f =
    record {
      none_best = λ e. none;
      none_rule = λ e. cc;
      some = λ one e. inr (f, cc);
      below_best = λ one other e e_none. cc;
      below_rule = λ one e _. let same : rule ≡ one = cc in subst (λ (x : SmallRule). IsAtMost x.to rule.to) same (at_most_itself rule.to);
    }

-- one that is not above another is at most it
pub at_most_unless : (xs ys : List ℕ) (o : Ordering) → o ≡ slice_cmp nat_cmp xs ys → (o ≡ Greater → ⊥) → IsAtMost xs ys
at_most_unless xs ys o e differs = ap is_gt (sym e) ∙ not_gt o differs
  where
    not_gt : (p : Ordering) → (p ≡ Greater → ⊥) → is_gt p ≡ false
    not_gt Less d = refl
    not_gt Equal d = refl
    not_gt Greater d = absurd (d refl)

-- texts that `==` tells apart differ
pub unequal_texts : (xs ys : List ℕ) (b : Bool) → b ≡ pointwise nat_eq xs ys → b ≡ false → xs ≡ ys → ⊥
unequal_texts xs ys b e unequal same =
    let itself = nat_list_eq_equiv.refl ys in
    let at_same : pointwise nat_eq xs ys ≡ true = rw same itself in
    cc
