-- Children that are found in the order in which premises are run stand for all premises as they are written.
use Rattle.std.proofs.Common.{arith, ◌≡◌, refl, sym, ◌∙◌, ap, subst, ℕ, zero, suc, ◌+◌, ◌<◌, ◌≤◌, Bool, true, false, ◌||◌, nat_eq, if◌then◌else◌, List, [], ◌∷◌, ◌++◌, length, inl, inr, Some, slice_get, append_assoc, append-nil}
use Rattle.std.specs.List.{list_all, list_any}
use Rattle.std.proofs.lemmas.Bool.{eqb-true, eq-eqb}
use Rattle.st_il.specs.declared.definition.Il.{Il}
use Rattle.st_il.specs.declared.expression.IlPrem.{IlPrem}
use Rattle.st_il.specs.declared.tree.Child.{Child}
use Rattle.st_il.specs.declared.value.Env.{Env}
use Rattle.st_semantics.specs.Parts.{option_list}
use Rattle.st_semantics.specs.Orders.{in_order, premise_at, numbers_from, are_all}
use Rattle.st_semantics.specs.Holding.{instances}
use Rattle.st_semantics.specs.Calls.{has_value_at}
use Rattle.st_semantics.specs.Derivation.{Root, Proved, done}
use Rattle.st_semantics.specs.Chains.{excluded_at}
use Rattle.st_semantics.proofs.Names.{or-cases, and-both}
use Rattle.st_semantics.proofs.Trials.{get_behind}
use Rattle.st_search.specs.inner.Steps.{StandFor}
use Rattle.st_search.specs.inner.Trees.{placed, arranged}
use Rattle.st_search.specs.inner.Rules.{AllStandFor}
use Rattle.st_search.proofs.StandIns.{Proved-append}

-- ---- an order has each number once, and no others

abbrev once : Bool → ℕ
once b = if b then 1 else 0

-- how often a number stands in the order
abbrev times : ℕ → List ℕ → ℕ
times k [] = 0
times k (j ∷ js) = once (nat_eq k j) + times k js

-- how often a number is one of the first n
abbrev hits : ℕ → ℕ → ℕ
hits zero j = 0
hits (suc n) j = hits n j + once (nat_eq (suc n) j)

-- how often the first n numbers stand in the order
abbrev all_times : ℕ → List ℕ → ℕ
all_times zero js = 0
all_times (suc n) js = all_times n js + times (suc n) js

all_times_nil : (n : ℕ) → all_times n [] ≡ 0
all_times_nil zero = refl
all_times_nil (suc n) = let h = all_times_nil n in omega (arith, h)

all_times_more : (n j : ℕ) (js : List ℕ) → all_times n (j ∷ js) ≡ hits n j + all_times n js
all_times_more zero j js = refl
all_times_more (suc n) j js = let h = all_times_more n j js in omega (arith, h)

-- what is hit is one of the first n
hit_within : (n j : ℕ) → 1 ≤ hits n j → (1 ≤ j) × (j ≤ n)
hit_within zero j h = absurd (omega (arith, h))
hit_within (suc n) j h = at (nat_eq (suc n) j) refl h (hit_within n j)
  where
    at : (b : Bool) → nat_eq (suc n) j ≡ b → 1 ≤ hits n j + once b → (1 ≤ hits n j → (1 ≤ j) × (j ≤ n)) → (1 ≤ j) × (j ≤ suc n)
    at true e h before = let same = eqb-true (suc n) j e in (omega (arith, same), omega (arith, same))
    at false e h before = let w = before (omega (arith, h)) in let low = w.0 in let high = w.1 in (low, omega (arith, high))

zero_or_more : (k : ℕ) → (1 ≤ k → ⊥) → k ≡ 0
zero_or_more zero h = refl
zero_or_more (suc k) h = absurd (h (omega arith))

hits_once : (n j : ℕ) → hits n j ≤ 1
hits_once zero j = omega arith
hits_once (suc n) j = at (nat_eq (suc n) j) refl (hits_once n j)
  where
    at : (b : Bool) → nat_eq (suc n) j ≡ b → hits n j ≤ 1 → hits n j + once b ≤ 1
    at true e few =
        let same = eqb-true (suc n) j e in
        let none : hits n j ≡ 0 = zero_or_more (hits n j) (λ h. let w = hit_within n j h in let high = w.1 in absurd (omega (arith, same, high))) in
        omega (arith, none)
    at false e few = omega (arith, few)

all_times_few : (n : ℕ) (js : List ℕ) → all_times n js ≤ length js
all_times_few n [] = let h = all_times_nil n in omega (arith, h)
all_times_few n (j ∷ js) =
    let more = all_times_more n j js in
    let one = hits_once n j in
    let rest = all_times_few n js in
    omega (arith, more, one, rest)

-- all of them are
abbrev AllWithin : ℕ → List ℕ → Type 0
AllWithin n [] = Unit {0}
AllWithin n (j ∷ js) = (1 ≤ j) × (j ≤ n) × AllWithin n js

all_within : (n : ℕ) (js : List ℕ) → length js ≤ all_times n js → AllWithin n js
all_within n [] h = tt
all_within n (j ∷ js) h =
    let more = all_times_more n j js in
    let one = hits_once n j in
    let few = all_times_few n js in
    let w = hit_within n j (omega (arith, h, more, one, few)) in
    (w.0, w.1, all_within n js (omega (arith, h, more, one, few)))

there_once : (k : ℕ) (js : List ℕ) → list_any (nat_eq k) js ≡ true → 1 ≤ times k js
there_once k [] h = cc
there_once k (j ∷ js) h = at (nat_eq k j) h (there_once k js)
  where
    at : (b : Bool) → (b || list_any (nat_eq k) js) ≡ true → (list_any (nat_eq k) js ≡ true → 1 ≤ times k js) → 1 ≤ once b + times k js
    at true h later = omega arith
    at false h later = let more = later h in omega (arith, more)

-- one of the numbers from m on
pub number_in : (test : ℕ → Bool) (m n d : ℕ) → list_all test (numbers_from m n) ≡ true → d < n → test (m + d) ≡ true
number_in test m zero d all less = absurd (omega (arith, less))
number_in test m (suc n) zero all less =
    let same : m ≡ m + 0 = omega arith in
    subst (λ z. test z ≡ true) same (and-both (test m) (list_all test (numbers_from (m + 1) n)) all).0
number_in test m (suc n) (suc d) all less =
    let same : (m + 1) + d ≡ m + suc d = omega arith in
    subst (λ z. test z ≡ true) same (number_in test (m + 1) n d (and-both (test m) (list_all test (numbers_from (m + 1) n)) all).1 (omega (arith, less)))

enough : (n : ℕ) (js : List ℕ) → ((d : ℕ) → d < n → list_any (nat_eq (suc d)) js ≡ true) → n ≤ all_times n js
enough zero js all = omega arith
enough (suc n) js all =
    let before = enough n js (λ d less. all d (omega (arith, less))) in
    let here = there_once (suc n) js (all n (omega arith)) in
    omega (arith, before, here)

-- ---- premises of numbers

got : {A : Type 0} (xs : List A) (k : ℕ) → k < length xs → (x : A) × (slice_get xs k ≡ Some x)
got [] k less = absurd (omega (arith, less))
got (x ∷ xs) zero less = (x, refl)
got (x ∷ xs) (suc k) less = got xs k (omega (arith, less))

premise_there : (ps : List IlPrem) (k : ℕ) → 1 ≤ k → k ≤ length ps → (p : IlPrem) × (premise_at ps k ≡ Some p)
premise_there ps zero low high = absurd (omega (arith, low))
premise_there ps (suc k) low high = got ps k (omega (arith, high))

later_there : (k j : ℕ) (js : List ℕ) → list_any (nat_eq k) (j ∷ js) ≡ true → nat_eq j k ≡ false → list_any (nat_eq k) js ≡ true
later_there k j js h none = elim (or-cases (nat_eq k j) (list_any (nat_eq k) js) h) [
  | inl same ↦ (let e : j ≡ k = sym (eqb-true k j same) in let bad : true ≡ false = sym (eq-eqb j k e) ∙ none in cc)
  | inr later ↦ later
]

module _ (il : Il) (n : ℕ) (root : Root) (env : Env) (ps : List IlPrem) where
  -- what stands for the premise of a number
  placed_stand : (order : List ℕ) (css : List (List Child)) (k : ℕ) (p : IlPrem) → AllWithin (length ps) order → list_any (nat_eq k) order ≡ true → premise_at ps k ≡ Some p → AllStandFor il n root env (in_order ps order) css
      → StandFor il n root env p (placed k order css)
  placed_stand [] css k p within h is all = cc
  placed_stand (j ∷ js) css k p within h is all =
      let q = premise_there ps j within.0 within.1 in
      go q.0 q.1 css (subst (λ z. AllStandFor il n root env (option_list z ++ in_order ps js) css) q.1 all) (λ cs later rest. placed_stand js cs k p within.2 later is rest)
    where
      go : (q : IlPrem) → premise_at ps j ≡ Some q → (css : List (List Child)) → AllStandFor il n root env (q ∷ in_order ps js) css
          → ((cs : List (List Child)) → list_any (nat_eq k) js ≡ true → AllStandFor il n root env (in_order ps js) cs → StandFor il n root env p (placed k js cs)) → StandFor il n root env p (placed k (j ∷ js) css)
      go q at [] all later = absurd all
      go q at (c ∷ cs) all later = by (nat_eq j k) refl
        where
          by : (b : Bool) → nat_eq j k ≡ b → StandFor il n root env p (if b then c else placed k js cs)
          by true e =
              let both : Some q ≡ Some p = sym at ∙ (ap (premise_at ps) (eqb-true j k e) ∙ is) in
              let same : q ≡ p = cc in
              subst (λ z. StandFor il n root env z c) same all.0
          by false e = later cs (later_there k j js h e) all.1

  instances_last : (front : List IlPrem) (p : IlPrem) → instances env front ++ (env, p) ∷ [] ≡ instances env (front ++ p ∷ [])
  instances_last [] p = refl
  instances_last (q ∷ front) p = ap (λ z. (env, q) ∷ z) (instances_last front p)

  length_last : (front : List IlPrem) (p : IlPrem) → length (front ++ p ∷ []) ≡ suc (length front)
  length_last [] p = refl
  length_last (q ∷ front) p = ap suc (length_last front p)

  length_less : (front : List IlPrem) (p : IlPrem) (back : List IlPrem) → length front < length (front ++ p ∷ back)
  length_less [] p back = omega arith
  length_less (q ∷ front) p back = let less = length_less front p back in omega (arith, less)

  module _ (order : List ℕ) (css : List (List Child)) (within : AllWithin (length ps) order) (there : (d : ℕ) → d < length ps → list_any (nat_eq (suc d)) order ≡ true) (all : AllStandFor il n root env (in_order ps order) css) where
    abbrev StandsFor : List IlPrem → Type 0
    StandsFor front = Proved il (has_value_at il n) (excluded_at il n) root (instances env front) (arranged order css (length front))

    one_more : (front : List IlPrem) (p : IlPrem) (back : List IlPrem) → ps ≡ front ++ p ∷ back → StandsFor front → StandsFor (front ++ p ∷ [])
    one_more front p back split stand =
        let less : length front < length ps = subst (λ z. length front < length z) (sym split) (length_less front p back) in
        let at : premise_at ps (suc (length front)) ≡ Some p = ap (λ z. slice_get z (length front)) split ∙ get_behind front p back in
        subst (λ z. Proved il (has_value_at il n) (excluded_at il n) root (instances env (front ++ p ∷ [])) (arranged order css z)) (sym (length_last front p))
        (subst (λ z. Proved il (has_value_at il n) (excluded_at il n) root z (arranged order css (suc (length front)))) (instances_last front p)
        (Proved-append il (has_value_at il n) (excluded_at il n) stand ((env, p) ∷ []) (placed (suc (length front)) order css)
        (placed_stand order css (suc (length front)) p within (there (length front) less) at all)))

    all_stand : (front back : List IlPrem) → ps ≡ front ++ back → StandsFor front → StandsFor ps
    all_stand front [] split stand = subst StandsFor (sym (split ∙ append-nil front)) stand
    all_stand front (p ∷ back) split stand = all_stand (front ++ p ∷ []) back (split ∙ sym (append_assoc front (p ∷ []) back)) (one_more front p back split stand)

  -- what stands for each premise in an order stands for all, as they are written
  pub arranged_all : (order : List ℕ) (css : List (List Child)) → are_all ps order ≡ true → AllStandFor il n root env (in_order ps order) css
      → Proved il (has_value_at il n) (excluded_at il n) root (instances env ps) (arranged order css (length ps))
  arranged_all order css perm all =
      let both = and-both (nat_eq (length order) (length ps)) (list_all (λ (k : ℕ). list_any (nat_eq k) order) (numbers_from 1 (length ps))) perm in
      let long : length order ≡ length ps = eqb-true (length order) (length ps) both.0 in
      let there : (d : ℕ) → d < length ps → list_any (nat_eq (suc d)) order ≡ true = λ d less.
      (let same : 1 + d ≡ suc d = omega arith in subst (λ z. list_any (nat_eq z) order ≡ true) same (number_in (λ (k : ℕ). list_any (nat_eq k) order) 1 (length ps) d both.1 less)) in
      let many = enough (length ps) order there in
      all_stand order css (all_within (length ps) order (omega (arith, long, many))) there all [] ps refl done
