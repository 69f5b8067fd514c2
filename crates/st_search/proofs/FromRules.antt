-- What the rules of a relation derive at a goal, one rule after another.
use Rattle.std.proofs.Common.{arith, ◌≡◌, refl, sym, ◌∙◌, ap, subst, ℕ, zero, suc, ◌+◌, ◌<◌, ◌≤◌, List, [], ◌∷◌, ◌++◌, length, take, get_or, Some, slice_get, inl, inr}
use Rattle.st_il.specs.declared.definition.Il.{Il}
use Rattle.st_il.specs.declared.definition.RuleDef.{RuleDef}
use Rattle.st_il.specs.declared.value.Value.{Value}
use Rattle.st_il.specs.Definitions.{rules_of}
use Rattle.st_semantics.specs.Derivation.{Derivable}
use Rattle.st_semantics.specs.Goals.{Goal}
use Rattle.st_semantics.specs.Chains.{Follows}
use Rattle.st_search.specs.declared.answer.Output.{Output}
use Rattle.st_search.specs.Answers.{IsOutput}
use Rattle.st_search.specs.inner.Lists.{Exists}
use Rattle.st_search.specs.inner.Ordered.{AreAdded}
use Rattle.st_search.specs.inner.Rules.{numbered_seeks, goal_seeks}
use Rattle.st_search.specs.inner.Sought.{Sought, Finds, sought_from}
use Rattle.st_search.proofs.Finds.{Exists-weaken, Each-weaken, Finds-next, Finds-start}
use Rattle.st_search.proofs.Sequences.{take_step, take_whole}
use Rattle.st_search.proofs.AddedFinds.{Finds-added}

-- rules with their numbers, from one on
abbrev pub numbered : ℕ → List RuleDef → List (ℕ × RuleDef)
numbered k [] = []
numbered k (r ∷ rs) = (k, r) ∷ numbered (suc k) rs

numbered_last : (k : ℕ) (rs : List RuleDef) (r : RuleDef) → numbered k (rs ++ r ∷ []) ≡ numbered k rs ++ (k + length rs, r) ∷ []
numbered_last k [] r = let e : k ≡ k + 0 = omega arith in ap (λ (j : ℕ). (j, r) ∷ []) e
numbered_last k (x ∷ xs) r =
    let e : suc k + length xs ≡ k + suc (length xs) = omega arith in
    ap (λ z. (k, x) ∷ z) (numbered_last (suc k) xs r ∙ ap (λ (j : ℕ). numbered (suc k) xs ++ (j, r) ∷ []) e)

length_first : (rs : List RuleDef) (i : ℕ) → i ≤ length rs → length (take i rs) ≡ i
length_first rs zero h = refl
length_first [] (suc i) h = absurd (omega (arith, h))
length_first (x ∷ xs) (suc i) h = ap suc (length_first xs i (omega (arith, h)))

numbered_step : (rs : List RuleDef) (i : ℕ) (r : RuleDef) → i < length rs → r ≡ get_or rs i r → numbered 0 (take (i + 1) rs) ≡ numbered 0 (take i rs) ++ (i, r) ∷ []
numbered_step rs i r h is =
    let e : 0 + length (take i rs) ≡ i = let long = length_first rs i (omega (arith, h)) in omega (arith, long) in
    ap (numbered 0) (take_step rs i r h is) ∙ numbered_last 0 (take i rs) r ∙ ap (λ (j : ℕ). numbered 0 (take i rs) ++ (j, r) ∷ []) e

-- the rule of a number is among them
numbered_there : (P : ℕ × RuleDef → Type 0) (k : ℕ) (rs : List RuleDef) (i : ℕ) (r : RuleDef) → slice_get rs i ≡ Some r → P (k + i, r) → Exists P (numbered k rs)
numbered_there P k [] i r e p = absurd (cc)
numbered_there P k (x ∷ xs) zero r e p =
    let same : x ≡ r = cc in
    let at : k + 0 ≡ k = omega arith in
    inl (subst (λ (j : ℕ). P (j, x)) at (subst (λ z. P (k + 0, z)) (sym same) p))
numbered_there P k (x ∷ xs) (suc i) r e p =
    let at : k + suc i ≡ suc k + i = omega arith in
    inr (numbered_there P (suc k) xs i r e (subst (λ (j : ℕ). P (j, r)) at p))

module _ (il : Il) (n : ℕ) (g : Goal) where
  abbrev pub at_rule : ℕ × RuleDef → Sought Output (List Value)
  at_rule k = numbered_seeks il n g k.0 k.1

  -- what is sought of some rules
  abbrev pub rules_seek : List RuleDef → Sought Output (List Value)
  rules_seek rules = sought_from at_rule (numbered 0 rules)

  values_are : (ks : List (ℕ × RuleDef)) (o : Output) (vs : List Value) → Exists (λ (k : ℕ × RuleDef). (at_rule k).Wanted vs × (o.values ≡ vs)) ks → o.values ≡ vs
  values_are [] o vs h = absurd h
  values_are (k ∷ ks) o vs (inl h) = h.1
  values_are (k ∷ ks) o vs (inr h) = values_are ks o vs h

  no_rule : (longest : ℕ) → Finds il n longest (rules_seek []) []
  no_rule longest = Finds-start il n at_rule longest

  -- before the first rule
  pub rules_start : (rules : List RuleDef) (found : List Output) → found ≡ [] → Finds il n 0 (rules_seek (take 0 rules)) found
  rules_start rules found none = subst (Finds il n 0 (rules_seek [])) (sym none) (no_rule 0)

  -- one rule more
  pub rules_step : (rules : List RuleDef) (i : ℕ) (r : RuleDef) (l m k : ℕ) (found others more : List Output) → i < length rules → r ≡ get_or rules i r
      → Finds il n l (rules_seek (take i rules)) found → Finds il n m (numbered_seeks il n g i r) others → l ≤ k → m ≤ k → AreAdded others found more → Finds il n k (rules_seek (take (i + 1) rules)) more
  rules_step rules i r l m k found others more h is f f' less lesser added =
      subst (λ z. Finds il n k (sought_from at_rule z) more) (sym (numbered_step rules i r h is))
      (Finds-added il n k (sought_from at_rule longer) (values_are longer)
      (λ o vs w same. Exists-weaken (λ (z : ℕ × RuleDef). (at_rule z).Wanted vs) (λ (z : ℕ × RuleDef). (at_rule z).Wanted vs × (o.values ≡ vs)) (λ z v. (v, same)) longer w)
      found others more (Finds-next il n at_rule l m k (numbered 0 (take i rules)) (i, r) found others f f' less lesser) added)
    where
      longer : List (ℕ × RuleDef)
      longer = numbered 0 (take i rules) ++ (i, r) ∷ []

  any_output : (ks : List (ℕ × RuleDef)) (o : Output) → Exists (λ (k : ℕ × RuleDef). (at_rule k).Right o) ks → IsOutput il n g o
  any_output [] o h = absurd h
  any_output (k ∷ ks) o (inl h) = h
  any_output (k ∷ ks) o (inr h) = any_output ks o h

  -- what all rules derive is what is derivable
  pub goal_finds : (rules : List RuleDef) (i longest : ℕ) (found : List Output) → length rules ≤ i → rules ≡ rules_of il g.relation
      → ((outputs : List Value) → Derivable il g.relation g.inputs outputs → (number : ℕ) × (rule : RuleDef) × (slice_get (rules_of il g.relation) number ≡ Some rule) × (numbered_seeks il n g number rule).Wanted outputs)
      → ((next : Goal) → Follows il g next → (number : ℕ) × (rule : RuleDef) × (slice_get (rules_of il g.relation) number ≡ Some rule) × (numbered_seeks il n g number rule).Asked next)
      → Finds il n longest (rules_seek (take i rules)) found → Finds il n longest (goal_seeks il n g) found
  goal_finds rules i longest found end are derived asked f = record {
    sound = Each-weaken (sought_from at_rule (numbered 0 (take i rules))).Right (IsOutput il n g) (any_output (numbered 0 (take i rules))) found f.sound;
    complete = λ vs d.
        let w = derived vs d in
        Exists-weaken (λ o. (rules_seek (take i rules)).Is o vs) (λ (o : Output). o.values ≡ vs) (λ o h. values_are (numbered 0 (take i rules)) o vs h) found
        (f.complete vs (there w.0 w.1 w.2 (λ (k : ℕ × RuleDef). (at_rule k).Wanted vs) w.3));
    calm = λ next follows. let w = asked next follows in f.calm next (there w.0 w.1 w.2 (λ (k : ℕ × RuleDef). (at_rule k).Asked next) w.3);
    shallow = λ deep.
        let r = deep.2.0 in
        f.shallow (there deep.0 r.rule r.is_rule (λ (k : ℕ × RuleDef). (at_rule k).Deep) (r.order, deep.1, r.is_order, deep.2.1));
  }
    where
      there : (number : ℕ) (rule : RuleDef) → slice_get (rules_of il g.relation) number ≡ Some rule → (P : ℕ × RuleDef → Type 0) → P (number, rule) → Exists P (numbered 0 (take i rules))
      there number rule is P p =
          let at : number ≡ 0 + number = omega arith in
          subst (λ z. Exists P (numbered 0 z)) (sym (take_whole rules i end ∙ are)) (numbered_there P 0 (rules_of il g.relation) number rule is (subst (λ (j : ℕ). P (j, rule)) at p))
