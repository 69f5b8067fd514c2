-- A rule has an executable order exactly where it is given one.
use Rattle.std.proofs.Common.{◌≡◌, ℕ, zero, suc, ◌+◌, ◌≤◌, refl, sym, ◌∙◌, ap, subst, List, [], ◌∷◌, ◌++◌, length, ◌⊎◌, inl, inr, Bool, true, false, not, ◌&&◌, ◌||◌, if◌then◌else◌, Option, Some, None, is_some, nat_eq, arith, append_assoc, slice_get, find}
use Rattle.std.specs.Prelude.{Ok}
use Rattle.std.specs.List.{list_all, list_any, enumerate_from}
use Rattle.std.proofs.lemmas.Bool.{eqb-true, eq-eqb}
use Rattle.st_il.specs.declared.definition.Il.{Il}
use Rattle.st_il.specs.declared.definition.RuleDef.{RuleDef}
use Rattle.st_il.specs.declared.expression.IlExp.{IlExp}
use Rattle.st_il.specs.declared.expression.IlPrem.{IlPrem}
use Rattle.st_il.specs.Names.{Name, has_name, all_known, without, least}
use Rattle.st_semantics.specs.Parts.{option_list}
use Rattle.st_semantics.specs.Variables.{vars_of, prem_vars, prems_vars}
use Rattle.st_semantics.specs.Executable.{Class, Test, Equation, Judgement, class_of}
use Rattle.st_semantics.specs.Orders.{inputs_of_rule, outputs_of_rule, are_inputs, premise_at, in_order, run_on, numbers_from, are_all, is_order}
use Rattle.st_semantics.specs.OrderOf.{Numbered, is_test, is_equation, is_judgement, first_in, else_try, next_in, Selection, but_for, select_by, select, selection_of, unordered, fault_of_inputs, ended, order_of}
use Rattle.st_semantics.specs.Laws.{LawOfOrders}
use Rattle.st_semantics.proofs.Names.{Within, within-left, within-right, within-both, within-cases, and-both, or-cases, or-left, or-right, true_false}
use Rattle.st_semantics.proofs.CanRun.{known-wider}
use Rattle.st_semantics.proofs.Wider.{class-wider}
use Rattle.st_semantics.proofs.Trials.{run_end, get_behind}

-- ---- a premise that is among some

abbrev Among : Numbered → List Numbered → Type 0
Among q [] = ⊥
Among q (p ∷ ps) = (p ≡ q) ⊎ Among q ps

find_among : (test : Numbered → Bool) (ps : List Numbered) (q : Numbered) → find test ps ≡ Some q → Among q ps × (test q ≡ true)
find_among test [] q e = cc
find_among test (p ∷ ps) q e = at (test p) refl e (find_among test ps q)
  where
    at : (b : Bool) → test p ≡ b → (if b then Some p else find test ps) ≡ Some q → (find test ps ≡ Some q → Among q ps × (test q ≡ true)) → ((p ≡ q) ⊎ Among q ps) × (test q ≡ true)
    at true k e ih = let same : p ≡ q = cc in (inl same, ap test (sym same) ∙ k)
    at false k e ih = let more = ih e in (inr more.0, more.1)

find_none : (test : Numbered → Bool) (ps : List Numbered) → find test ps ≡ None → (q : Numbered) → Among q ps → test q ≡ false
find_none test [] e q m = absurd m
find_none test (p ∷ ps) e q m = at (test p) refl e (λ f. find_none test ps f q)
  where
    at : (b : Bool) → test p ≡ b → (if b then Some p else find test ps) ≡ None → (find test ps ≡ None → Among q ps → test q ≡ false) → test q ≡ false
    at true k e ih = cc
    at false k e ih = elim m [ inl same ↦ ap test (sym same) ∙ k | inr later ↦ ih e later ]

-- ---- the next premise

test_some : (c : Option Class) → is_test c ≡ true → is_some c ≡ true
test_some (Some c) h = refl
test_some None h = cc

equation_some : (c : Option Class) → is_equation c ≡ true → is_some c ≡ true
equation_some (Some c) h = refl
equation_some None h = cc

judgement_some : (c : Option Class) → is_judgement c ≡ true → is_some c ≡ true
judgement_some (Some c) h = refl
judgement_some None h = cc

no_class : (c : Option Class) → is_test c ≡ false → is_equation c ≡ false → is_judgement c ≡ false → is_some c ≡ true → ⊥
no_class (Some Test) t e j h = cc
no_class (Some (Equation pattern)) t e j h = cc
no_class (Some Judgement) t e j h = cc
no_class None t e j h = cc

module _ (il : Il) (bound : List Name) (ps : List Numbered) where
  abbrev RunsNext : Numbered → Type 0
  RunsNext q = Among q ps × (is_some (class_of il bound q.1) ≡ true)

  abbrev by_class : (Option Class → Bool) → Numbered → Bool
  by_class is_such q = is_such (class_of il bound q.1)

  next_runs : (q : Numbered) → next_in il bound ps ≡ Some q → RunsNext q
  next_runs q e = first (first_in il bound is_test ps) refl e
    where
      third : first_in il bound is_judgement ps ≡ Some q → RunsNext q
      third e = let f = find_among (by_class is_judgement) ps q e in (f.0, judgement_some (class_of il bound q.1) f.1)

      second : (o : Option Numbered) → first_in il bound is_equation ps ≡ o → else_try o (first_in il bound is_judgement ps) ≡ Some q → RunsNext q
      second None k e = third e
      second (Some p) k e = let f = find_among (by_class is_equation) ps q (k ∙ e) in (f.0, equation_some (class_of il bound q.1) f.1)

      first : (o : Option Numbered) → first_in il bound is_test ps ≡ o → else_try o (else_try (first_in il bound is_equation ps) (first_in il bound is_judgement ps)) ≡ Some q → RunsNext q
      first None k e = second (first_in il bound is_equation ps) refl e
      first (Some p) k e = let f = find_among (by_class is_test) ps q (k ∙ e) in (f.0, test_some (class_of il bound q.1) f.1)

  next_none : next_in il bound ps ≡ None → (q : Numbered) → RunsNext q → ⊥
  next_none e q r = first (first_in il bound is_test ps) refl e
    where
      second : first_in il bound is_test ps ≡ None → (o : Option Numbered) → first_in il bound is_equation ps ≡ o → else_try o (first_in il bound is_judgement ps) ≡ None → ⊥
      second t None k e =
          no_class (class_of il bound q.1) (find_none (by_class is_test) ps t q r.0) (find_none (by_class is_equation) ps k q r.0) (find_none (by_class is_judgement) ps e q r.0) r.1
      second t (Some p) k e = cc

      first : (o : Option Numbered) → first_in il bound is_test ps ≡ o → else_try o (else_try (first_in il bound is_equation ps) (first_in il bound is_judgement ps)) ≡ None → ⊥
      first None k e = second k (first_in il bound is_equation ps) refl e
      first (Some p) k e = cc

-- ---- numbers

-- the number is that of one of these
abbrev has_number : List Numbered → ℕ → Bool
has_number ps k = list_any (λ (p : Numbered). nat_eq p.0 k) ps

number_among : (ps : List Numbered) (k : ℕ) → has_number ps k ≡ true → (q : Numbered) × Among q ps × (q.0 ≡ k)
number_among [] k h = cc
number_among (p ∷ ps) k h = elim (or-cases (nat_eq p.0 k) (has_number ps k) h) [
  | inl is ↦ (p, inl refl, eqb-true p.0 k is)
  | inr later ↦ (let more = number_among ps k later in (more.0, inr more.1, more.2))
]

nat-same : (k : ℕ) → nat_eq k k ≡ true
nat-same k = eq-eqb k k refl

among_number : (ps : List Numbered) (q : Numbered) → Among q ps → has_number ps q.0 ≡ true
among_number [] q m = absurd m
among_number (p ∷ ps) q m = elim m [
  | inl same ↦ or-left (nat_eq p.0 q.0) (has_number ps q.0) (ap (λ (z : Numbered). nat_eq z.0 q.0) same ∙ nat-same q.0)
  | inr later ↦ or-right (nat_eq p.0 q.0) (has_number ps q.0) (among_number ps q later)
]

but_among : (k : ℕ) (ps : List Numbered) (q : Numbered) → Among q (but_for k ps) → Among q ps
but_among k [] q m = m
but_among k (p ∷ ps) q m = at (nat_eq p.0 k) m (but_among k ps q)
  where
    at : (b : Bool) → Among q (if not b then p ∷ but_for k ps else but_for k ps) → (Among q (but_for k ps) → Among q ps) → (p ≡ q) ⊎ Among q ps
    at true m ih = inr (ih m)
    at false m ih = elim m [ inl same ↦ inl same | inr later ↦ inr (ih later) ]

-- another number stays
but_other : (k j : ℕ) (ps : List Numbered) → has_number ps j ≡ true → (nat_eq k j ≡ true) ⊎ (has_number (but_for k ps) j ≡ true)
but_other k j [] h = cc
but_other k j (p ∷ ps) h = at (nat_eq p.0 k) refl (or-cases (nat_eq p.0 j) (has_number ps j) h) (but_other k j ps)
  where
    at : (b : Bool) → nat_eq p.0 k ≡ b → (nat_eq p.0 j ≡ true) ⊎ (has_number ps j ≡ true) → (has_number ps j ≡ true → (nat_eq k j ≡ true) ⊎ (has_number (but_for k ps) j ≡ true))
        → (nat_eq k j ≡ true) ⊎ (has_number (if not b then p ∷ but_for k ps else but_for k ps) j ≡ true)
    at true e (inl is) ih = inl (ap (λ z. nat_eq z j) (sym (eqb-true p.0 k e)) ∙ is)
    at true e (inr later) ih = ih later
    at false e (inl is) ih = inr (or-left (nat_eq p.0 j) (has_number (but_for k ps) j) is)
    at false e (inr later) ih = elim (ih later) [ inl same ↦ inl same | inr more ↦ inr (or-right (nat_eq p.0 j) (has_number (but_for k ps) j) more) ]

-- the numbers rise, from this one on
abbrev Rising : ℕ → List Numbered → Type 0
Rising n [] = Unit {0}
Rising n (p ∷ ps) = (n ≤ p.0) × Rising (suc p.0) ps

rising_from : (n m : ℕ) → n ≤ m → (ps : List Numbered) → Rising m ps → Rising n ps
rising_from n m le [] r = tt
rising_from n m le (p ∷ ps) r = (omega (arith, le, r.0), r.1)

rising_but : (k n : ℕ) (ps : List Numbered) → Rising n ps → Rising n (but_for k ps)
rising_but k n [] r = tt
rising_but k n (p ∷ ps) r = at (nat_eq p.0 k) (rising_but k (suc p.0) ps r.1)
  where
    at : (b : Bool) → Rising (suc p.0) (but_for k ps) → Rising n (if not b then p ∷ but_for k ps else but_for k ps)
    at true ih = rising_from n (suc p.0) (omega (arith, r.0)) (but_for k ps) ih
    at false ih = (r.0, ih)

low_number : (k n : ℕ) (ps : List Numbered) → Rising n ps → suc k ≤ n → but_for k ps ≡ ps
low_number k n [] r le = refl
low_number k n (p ∷ ps) r le = at (nat_eq p.0 k) refl (low_number k (suc p.0) ps r.1 (omega (arith, le, r.0)))
  where
    at : (b : Bool) → nat_eq p.0 k ≡ b → but_for k ps ≡ ps → (if not b then p ∷ but_for k ps else but_for k ps) ≡ p ∷ ps
    at true e ih = let same = eqb-true p.0 k e in absurd (omega (arith, le, r.0, same))
    at false e ih = ap (λ z. p ∷ z) ih

-- one is taken
one_less : (k n : ℕ) (ps : List Numbered) → Rising n ps → has_number ps k ≡ true → suc (length (but_for k ps)) ≡ length ps
one_less k n [] r h = cc
one_less k n (p ∷ ps) r h = at (nat_eq p.0 k) refl h (one_less k (suc p.0) ps r.1)
  where
    at : (b : Bool) → nat_eq p.0 k ≡ b → (b || has_number ps k) ≡ true → (has_number ps k ≡ true → suc (length (but_for k ps)) ≡ length ps)
        → suc (length (if not b then p ∷ but_for k ps else but_for k ps)) ≡ suc (length ps)
    at true e h ih =
        let same = eqb-true p.0 k e in
        ap (λ (z : List Numbered). suc (length z)) (low_number k (suc p.0) ps r.1 (omega (arith, same)))
    at false e h ih = ap suc (ih h)

-- ---- the numbered premises

rising_all : (n : ℕ) (ps : List IlPrem) → Rising n (enumerate_from n ps)
rising_all n [] = tt
rising_all n (p ∷ ps) = (omega arith, rising_from (suc n) (n + 1) (omega arith) (enumerate_from (n + 1) ps) (rising_all (n + 1) ps))

length-all : (n : ℕ) (ps : List IlPrem) → length (enumerate_from n ps) ≡ length ps
length-all n [] = refl
length-all n (p ∷ ps) = ap suc (length-all (n + 1) ps)

number_there : (n : ℕ) (ps : List IlPrem) (j : ℕ) (p : IlPrem) → slice_get ps j ≡ Some p → has_number (enumerate_from n ps) (j + n) ≡ true
number_there n [] j p e = cc
number_there n (q ∷ qs) zero p e = or-left (nat_eq n (0 + n)) (has_number (enumerate_from (n + 1) qs) (0 + n)) (eq-eqb n (0 + n) (omega arith))
number_there n (q ∷ qs) (suc j) p e =
    or-right (nat_eq n (suc j + n)) (has_number (enumerate_from (n + 1) qs) (suc j + n))
    (subst (λ z. has_number (enumerate_from (n + 1) qs) z ≡ true) (moved j n) (number_there (n + 1) qs j p e))
  where
    moved : (j n : ℕ) → j + (n + 1) ≡ suc j + n
    moved j n = omega arith

there_numbered : (all front back : List IlPrem) (q : Numbered) → all ≡ front ++ back → Among q (enumerate_from (suc (length front)) back) → premise_at all q.0 ≡ Some q.1
there_numbered all front [] q e m = absurd m
there_numbered all front (p ∷ back) q e m = elim m [
  | inl same ↦
      subst (λ (z : Numbered). premise_at all z.0 ≡ Some z.1) same (ap (λ z. slice_get z (length front)) e ∙ get_behind front p back)
  | inr later ↦
      there_numbered all (front ++ p ∷ []) back q (e ∙ sym (append_assoc front (p ∷ []) back))
      (subst (λ n. Among q (enumerate_from n back)) (number front p) later)
]
  where
    number : (front : List IlPrem) (p : IlPrem) → suc (length front) + 1 ≡ suc (length (front ++ p ∷ []))
    number [] p = refl
    number (q ∷ qs) p = let more = number qs p in omega (arith, more)

all_numbers : (test : ℕ → Bool) (n : ℕ) (ps : List IlPrem) → ((k : ℕ) → has_number (enumerate_from n ps) k ≡ true → test k ≡ true) → list_all test (numbers_from n (length ps)) ≡ true
all_numbers test n [] f = refl
all_numbers test n (p ∷ ps) f =
    joint (test n) (list_all test (numbers_from (n + 1) (length ps))) (f n (or-left (nat_eq n n) (has_number (enumerate_from (n + 1) ps) n) (nat-same n)))
    (all_numbers test (n + 1) ps (λ k h. f k (or-right (nat_eq n k) (has_number (enumerate_from (n + 1) ps) k) h)))
  where
    joint : (a b : Bool) → a ≡ true → b ≡ true → (a && b) ≡ true
    joint true b p q = q
    joint false b p q = cc

test_numbered : (test : ℕ → Bool) (n : ℕ) (ps : List IlPrem) (j : ℕ) (p : IlPrem) → list_all test (numbers_from n (length ps)) ≡ true → slice_get ps j ≡ Some p → test (j + n) ≡ true
test_numbered test n [] j p h e = cc
test_numbered test n (q ∷ qs) zero p h e = subst (λ z. test z ≡ true) (moved n) (and-both (test n) (list_all test (numbers_from (n + 1) (length qs))) h).0
  where
    moved : (n : ℕ) → n ≡ 0 + n
    moved n = omega arith
test_numbered test n (q ∷ qs) (suc j) p h e =
    subst (λ z. test z ≡ true) (moved j n) (test_numbered test (n + 1) qs j p (and-both (test n) (list_all test (numbers_from (n + 1) (length qs))) h).1 e)
  where
    moved : (j n : ℕ) → j + (n + 1) ≡ suc j + n
    moved j n = omega arith

-- ---- what is left, and what is bound

module _ (il : Il) (all : List IlPrem) where
  -- those that are left are numbered so, and what the others bind is bound
  record IsLeft (bound : List Name) (left : List Numbered) : Type 0 where
    numbered : (q : Numbered) → Among q left → premise_at all q.0 ≡ Some q.1
    taken : (k : ℕ) (p : IlPrem) → premise_at all k ≡ Some p → has_number left k ≡ false → Within (prem_vars p) bound

  left_next : (bound : List Name) (left : List Numbered) (q : Numbered) → IsLeft bound left → Among q left → IsLeft (bound ++ prem_vars q.1) (but_for q.0 left)
  left_next bound left q is m = record {
    numbered = λ r n. is.numbered r (but_among q.0 left r n);
    taken = λ k p e h. at k p e h (has_number left k) refl;
  }
    where
      at : (k : ℕ) (p : IlPrem) → premise_at all k ≡ Some p → has_number (but_for q.0 left) k ≡ false → (b : Bool) → has_number left k ≡ b → Within (prem_vars p) (bound ++ prem_vars q.1)
      at k p e h false n = λ x i. within-left bound (prem_vars q.1) x (is.taken k p e n x i)
      at k p e h true n = elim (but_other q.0 k left n) [
        | inl same ↦
            let known : premise_at all k ≡ Some q.1 = ap (premise_at all) (sym (eqb-true q.0 k same)) ∙ is.numbered q m in
            let one : p ≡ q.1 = cc in
            λ x i. within-right bound (prem_vars q.1) x (subst (λ z. has_name (prem_vars z) x ≡ true) one i)
        | inr more ↦ absurd (true_false (sym more ∙ h))
      ]

  left_first : (bound : List Name) → IsLeft bound (enumerate_from 1 all)
  left_first bound = record { numbered = λ q m. there_numbered all [] all q refl m; taken = λ k p e h x i. absurd (none k p e h) }
    where
      moved : (j : ℕ) → j + 1 ≡ suc j
      moved j = omega arith

      none : (k : ℕ) (p : IlPrem) → premise_at all k ≡ Some p → has_number (enumerate_from 1 all) k ≡ false → ⊥
      none zero p e h = cc
      none (suc j) p e h = true_false (sym (subst (λ z. has_number (enumerate_from 1 all) z ≡ true) (moved j) (number_there 1 all j p e)) ∙ h)

  -- ---- what is selected

  abbrev Found : List Name → List Numbered → Type 0
  Found bound left = (q : Numbered) × RunsNext il bound left q

  -- a premise that is left and stands in an executable order: the first such one can be run
  found : (asked : List Name) (order : List ℕ) (few bound : List Name) (left : List Numbered) → Within few bound → run_on il few (in_order all order) asked ≡ true → IsLeft bound left
      → (k : ℕ) → list_any (nat_eq k) order ≡ true → has_number left k ≡ true → Found bound left
  found asked [] few bound left w r is k o h = cc
  found asked (j ∷ js) few bound left w r is k o h = at (has_number left j) refl (λ few w r o. found asked js few bound left w r is k o h)
    where
      -- the first of the order is left
      here : (q : Numbered) → Among q left → q.0 ≡ j → Found bound left
      here q m e =
          let known : premise_at all j ≡ Some q.1 = ap (premise_at all) (sym e) ∙ is.numbered q m in
          let runs = subst (λ z. run_on il few (option_list z ++ in_order all js) asked ≡ true) known r in
          (q, (m, class-wider il q.1 few bound w (and-both (is_some (class_of il few q.1)) (run_on il (few ++ prem_vars q.1) (in_order all js) asked) runs).0))

      -- it was taken
      later : (o : Option IlPrem) → premise_at all j ≡ o → has_number left j ≡ false → run_on il few (option_list o ++ in_order all js) asked ≡ true → list_any (nat_eq k) js ≡ true
          → ((few : List Name) → Within few bound → run_on il few (in_order all js) asked ≡ true → list_any (nat_eq k) js ≡ true → Found bound left) → Found bound left
      later None e n r o ih = ih few w r o
      later (Some p) e n r o ih =
          ih (few ++ prem_vars p) (within-both few (prem_vars p) bound w (is.taken j p e n))
          (and-both (is_some (class_of il few p)) (run_on il (few ++ prem_vars p) (in_order all js) asked) r).1 o

      at : (b : Bool) → has_number left j ≡ b → ((few : List Name) → Within few bound → run_on il few (in_order all js) asked ≡ true → list_any (nat_eq k) js ≡ true → Found bound left) → Found bound left
      at true n ih = let m = number_among left j n in here m.0 m.1 m.2
      at false n ih = elim (or-cases (nat_eq k j) (list_any (nat_eq k) js) o) [
        | inl same ↦ absurd (true_false (sym h ∙ (ap (has_number left) (eqb-true k j same) ∙ n)))
        | inr o ↦ later (premise_at all j) refl n r o ih
      ]

  -- what stays the same as premises are taken
  record Keeps (bound : List Name) (t : Selection) : Type 0 where
    left : IsLeft t.bound t.left
    wider : Within bound t.bound

  select_keeps : (n : ℕ) (bound : List Name) (left : List Numbered) → IsLeft bound left → Keeps bound (select il n bound left)
  select_keeps zero bound left is = record { left = is; wider = λ x h. h }
  select_keeps (suc n) bound left is = at (next_in il bound left) refl (select_keeps n)
    where
      at : (o : Option Numbered) → next_in il bound left ≡ o → ((bound : List Name) (left : List Numbered) → IsLeft bound left → Keeps bound (select il n bound left)) → Keeps bound (select_by (select il n) bound left o)
      at None e ih = record { left = is; wider = λ x h. h }
      at (Some q) e ih =
          let more = ih (bound ++ prem_vars q.1) (but_for q.0 left) (left_next bound left q is (next_runs il bound left q e).0) in
          record { left = more.left; wider = λ x h. more.wider x (within-left bound (prem_vars q.1) x h) }

  -- where there is an executable order, nothing is left in the end
  select_ends : (asked : List Name) (order : List ℕ) (first : List Name) → run_on il first (in_order all order) asked ≡ true
      → ((k : ℕ) (p : IlPrem) → premise_at all k ≡ Some p → list_any (nat_eq k) order ≡ true)
      → (n : ℕ) (bound : List Name) (left : List Numbered) → IsLeft bound left → Rising 0 left → Within first bound → length left ≤ n → (select il n bound left).left ≡ []
  select_ends asked order first r has zero bound [] is up w le = refl
  select_ends asked order first r has zero bound (p ∷ ps) is up w le = absurd (omega (arith, le))
  select_ends asked order first r has (suc n) bound left is up w le = at (next_in il bound left) refl (select_ends asked order first r has n)
    where
      nothing : (ps : List Numbered) → ps ≡ left → next_in il bound left ≡ None → left ≡ []
      nothing [] same e = sym same
      nothing (p ∷ ps) same e =
          let m : Among p left = subst (Among p) same (inl refl) in
          let f = found asked order first bound left w r is p.0 (has p.0 p.1 (is.numbered p m)) (among_number left p m) in
          absurd (next_none il bound left e f.0 f.1)

      at : (o : Option Numbered) → next_in il bound left ≡ o
          → ((bound : List Name) (left : List Numbered) → IsLeft bound left → Rising 0 left → Within first bound → length left ≤ n → (select il n bound left).left ≡ []) → (select_by (select il n) bound left o).left ≡ []
      at None e ih = nothing left refl e
      at (Some q) e ih =
          let m = (next_runs il bound left q e).0 in
          let less = one_less q.0 0 left up (among_number left q m) in
          ih (bound ++ prem_vars q.1) (but_for q.0 left) (left_next bound left q is m) (rising_but q.0 0 left up)
          (λ x h. within-left bound (prem_vars q.1) x (w x h)) (omega (arith, less, le))

  -- ---- the order

  select_runs : (asked : List Name) (n : ℕ) (bound : List Name) (left : List Numbered) → IsLeft bound left → all_known (select il n bound left).bound asked ≡ true
      → run_on il bound (in_order all (select il n bound left).order) asked ≡ true
  select_runs asked zero bound left is k = k
  select_runs asked (suc n) bound left is k = at (next_in il bound left) refl k (select_runs asked n)
    where
      joint : (a b : Bool) → a ≡ true → b ≡ true → (a && b) ≡ true
      joint true b p q = q
      joint false b p q = cc

      at : (o : Option Numbered) → next_in il bound left ≡ o → all_known (select_by (select il n) bound left o).bound asked ≡ true
          → ((bound : List Name) (left : List Numbered) → IsLeft bound left → all_known (select il n bound left).bound asked ≡ true → run_on il bound (in_order all (select il n bound left).order) asked ≡ true)
          → run_on il bound (in_order all (select_by (select il n) bound left o).order) asked ≡ true
      at None e k ih = k
      at (Some q) e k ih =
          let m = next_runs il bound left q e in
          let t : Selection = select il n (bound ++ prem_vars q.1) (but_for q.0 left) in
          subst (λ z. run_on il bound (option_list z ++ in_order all t.order) asked ≡ true) (sym (is.numbered q m.0))
          (joint (is_some (class_of il bound q.1)) (run_on il (bound ++ prem_vars q.1) (in_order all t.order) asked) m.1
          (ih (bound ++ prem_vars q.1) (but_for q.0 left) (left_next bound left q is m.0) k))

  select_has : (n : ℕ) (bound : List Name) (left : List Numbered) → (select il n bound left).left ≡ [] → (k : ℕ) → has_number left k ≡ true → list_any (nat_eq k) (select il n bound left).order ≡ true
  select_has zero bound left e k h = absurd (true_false (sym h ∙ ap (λ z. has_number z k) e))
  select_has (suc n) bound left e k h = at (next_in il bound left) e (select_has n)
    where
      at : (o : Option Numbered) → (select_by (select il n) bound left o).left ≡ []
          → ((bound : List Name) (left : List Numbered) → (select il n bound left).left ≡ [] → (k : ℕ) → has_number left k ≡ true → list_any (nat_eq k) (select il n bound left).order ≡ true)
          → list_any (nat_eq k) (select_by (select il n) bound left o).order ≡ true
      at None e ih = absurd (true_false (sym h ∙ ap (λ z. has_number z k) e))
      at (Some q) e ih =
          let t : Selection = select il n (bound ++ prem_vars q.1) (but_for q.0 left) in
          elim (but_other q.0 k left h) [
            | inl same ↦ or-left (nat_eq k q.0) (list_any (nat_eq k) t.order) (eq-eqb k q.0 (sym (eqb-true q.0 k same)))
            | inr more ↦ or-right (nat_eq k q.0) (list_any (nat_eq k) t.order) (ih (bound ++ prem_vars q.1) (but_for q.0 left) e k more)
          ]

  select_length : (n : ℕ) (bound : List Name) (left : List Numbered) → Rising 0 left → (select il n bound left).left ≡ [] → length (select il n bound left).order ≡ length left
  select_length zero bound left up e = ap length (sym e)
  select_length (suc n) bound left up e = at (next_in il bound left) refl e (select_length n)
    where
      at : (o : Option Numbered) → next_in il bound left ≡ o → (select_by (select il n) bound left o).left ≡ []
          → ((bound : List Name) (left : List Numbered) → Rising 0 left → (select il n bound left).left ≡ [] → length (select il n bound left).order ≡ length left)
          → length (select_by (select il n) bound left o).order ≡ length left
      at None f e ih = ap (λ (z : List Numbered). length z) (sym e)
      at (Some q) f e ih =
          let m = (next_runs il bound left q f).0 in
          let less = one_less q.0 0 left up (among_number left q m) in
          let more = ih (bound ++ prem_vars q.1) (but_for q.0 left) (rising_but q.0 0 left up) e in
          ap suc more ∙ less

  -- what the premises of any order bind is bound, where nothing is left
  order_within : (bound : List Name) → IsLeft bound [] → (order : List ℕ) → Within (prems_vars (in_order all order)) bound
  order_within bound is [] x h = cc
  order_within bound is (k ∷ ks) x h = at (premise_at all k) refl h (order_within bound is ks)
    where
      at : (o : Option IlPrem) → premise_at all k ≡ o → has_name (prems_vars (option_list o ++ in_order all ks)) x ≡ true → Within (prems_vars (in_order all ks)) bound → has_name bound x ≡ true
      at None e h ih = ih x h
      at (Some p) e h ih = elim (within-cases (prem_vars p) (prems_vars (in_order all ks)) x h) [ inl i ↦ is.taken k p e refl x i | inr i ↦ ih x i ]

-- ---- the law

three : (a b c : Bool) → (a && b && c) ≡ true → (a ≡ true) × (b ≡ true) × (c ≡ true)
three true true true h = (refl, refl, refl)
three true true false h = cc
three true false c h = cc
three false b c h = cc

three_true : (a b c : Bool) → a ≡ true → b ≡ true → c ≡ true → (a && b && c) ≡ true
three_true true true c p q r = r
three_true true false c p q r = cc
three_true false b c p q r = cc

module _ (il : Il) (rule : RuleDef) where
  abbrev ins : List IlExp
  ins = inputs_of_rule il rule

  abbrev outs : List IlExp
  outs = outputs_of_rule il rule

  -- the selection, from the inputs on
  abbrev chosen : Selection
  chosen = selection_of il rule

  kept : Keeps il rule.premises (vars_of (inputs_of_rule il rule)) (selection_of il rule)
  kept = select_keeps il rule.premises (length rule.premises) (vars_of (inputs_of_rule il rule)) (enumerate_from 1 rule.premises) (left_first il rule.premises (vars_of (inputs_of_rule il rule)))

  -- what is chosen is an order
  is_order_by : are_inputs (inputs_of_rule il rule) ≡ true → (selection_of il rule).left ≡ [] → all_known (selection_of il rule).bound (vars_of (outputs_of_rule il rule)) ≡ true → is_order il rule (selection_of il rule).order ≡ true
  is_order_by i e k =
      let long = select_length il rule.premises (length rule.premises) (vars_of (inputs_of_rule il rule)) (enumerate_from 1 rule.premises) (rising_from 0 1 (omega arith) (enumerate_from 1 rule.premises) (rising_all 1 rule.premises)) e in
      three_true (are_all rule.premises (selection_of il rule).order) (are_inputs (inputs_of_rule il rule)) _
      (two_true (nat_eq (length (selection_of il rule).order) (length rule.premises)) _ (eq-eqb (length (selection_of il rule).order) (length rule.premises) (long ∙ length-all 1 rule.premises))
      (all_numbers (λ (k : ℕ). list_any (nat_eq k) (selection_of il rule).order) 1 rule.premises
      (select_has il rule.premises (length rule.premises) (vars_of (inputs_of_rule il rule)) (enumerate_from 1 rule.premises) e)))
      i
      (select_runs il rule.premises (vars_of (outputs_of_rule il rule)) (length rule.premises) (vars_of (inputs_of_rule il rule)) (enumerate_from 1 rule.premises) (left_first il rule.premises (vars_of (inputs_of_rule il rule))) k)
    where
      two_true : (a b : Bool) → a ≡ true → b ≡ true → (a && b) ≡ true
      two_true true b p q = q
      two_true false b p q = cc

  order_is : (order : List ℕ) → order_of il rule ≡ Ok order → is_order il rule order ≡ true
  order_is order e = by_inputs (are_inputs (inputs_of_rule il rule)) refl e
    where
      by_outputs : (b : Bool) → all_known (selection_of il rule).bound (vars_of (outputs_of_rule il rule)) ≡ b → are_inputs (inputs_of_rule il rule) ≡ true → (selection_of il rule).left ≡ []
          → (if b then Ok (selection_of il rule).order else unordered 0 (least (without (selection_of il rule).bound (vars_of (outputs_of_rule il rule))))) ≡ Ok order → is_order il rule order ≡ true
      by_outputs true k i l e = let same : (selection_of il rule).order ≡ order = cc in subst (λ z. is_order il rule z ≡ true) same (is_order_by i l k)
      by_outputs false k i l e = cc

      by_left : (left : List Numbered) → (selection_of il rule).left ≡ left → are_inputs (inputs_of_rule il rule) ≡ true → ended (outputs_of_rule il rule) (selection_of il rule) left ≡ Ok order → is_order il rule order ≡ true
      by_left [] l i e = by_outputs (all_known (selection_of il rule).bound (vars_of (outputs_of_rule il rule))) refl i l e
      by_left (p ∷ ps) l i e = cc

      by_inputs : (b : Bool) → are_inputs (inputs_of_rule il rule) ≡ b
          → (if b then ended (outputs_of_rule il rule) (selection_of il rule) (selection_of il rule).left else fault_of_inputs (inputs_of_rule il rule)) ≡ Ok order → is_order il rule order ≡ true
      by_inputs true i e = by_left (selection_of il rule).left refl i e
      by_inputs false i e = cc

  order_exists : (order : List ℕ) → is_order il rule order ≡ true → (chosen : List ℕ) × (order_of il rule ≡ Ok chosen)
  order_exists order is =
      let parts = three (are_all rule.premises order) (are_inputs (inputs_of_rule il rule)) (run_on il (vars_of (inputs_of_rule il rule)) (in_order rule.premises order) (vars_of (outputs_of_rule il rule))) is in
      let numbers = and-both (nat_eq (length order) (length rule.premises)) (list_all (λ (k : ℕ). list_any (nat_eq k) order) (numbers_from 1 (length rule.premises))) parts.0 in
      let empty : (selection_of il rule).left ≡ [] =
      select_ends il rule.premises (vars_of (outputs_of_rule il rule)) order (vars_of (inputs_of_rule il rule)) parts.2 (has numbers.1) (length rule.premises) (vars_of (inputs_of_rule il rule)) (enumerate_from 1 rule.premises)
      (left_first il rule.premises (vars_of (inputs_of_rule il rule))) (rising_from 0 1 (omega arith) (enumerate_from 1 rule.premises) (rising_all 1 rule.premises)) (λ x h. h) (short (length-all 1 rule.premises)) in
      let known : all_known (selection_of il rule).bound (vars_of (outputs_of_rule il rule)) ≡ true =
      known-wider (vars_of (inputs_of_rule il rule) ++ prems_vars (in_order rule.premises order)) (selection_of il rule).bound (vars_of (outputs_of_rule il rule))
      (within-both (vars_of (inputs_of_rule il rule)) (prems_vars (in_order rule.premises order)) (selection_of il rule).bound kept.wider
      (order_within il rule.premises (selection_of il rule).bound (subst (IsLeft il rule.premises (selection_of il rule).bound) empty kept.left) order))
      (run_end il (vars_of (outputs_of_rule il rule)) (in_order rule.premises order) (vars_of (inputs_of_rule il rule)) parts.2) in (
        (selection_of il rule).order,
        ap (λ z. if z then ended (outputs_of_rule il rule) (selection_of il rule) (selection_of il rule).left else fault_of_inputs (inputs_of_rule il rule)) parts.1
            ∙ (ap (ended (outputs_of_rule il rule) (selection_of il rule)) empty
            ∙ ap (λ z. if z then Ok (selection_of il rule).order else unordered 0 (least (without (selection_of il rule).bound (vars_of (outputs_of_rule il rule))))) known),
      )
    where
      short : length (enumerate_from 1 rule.premises) ≡ length rule.premises → length (enumerate_from 1 rule.premises) ≤ length rule.premises
      short e = omega (arith, e)

      moved : (j : ℕ) → j + 1 ≡ suc j
      moved j = omega arith

      has : list_all (λ (k : ℕ). list_any (nat_eq k) order) (numbers_from 1 (length rule.premises)) ≡ true → (k : ℕ) (p : IlPrem) → premise_at rule.premises k ≡ Some p → list_any (nat_eq k) order ≡ true
      has a zero p e = cc
      has a (suc j) p e = subst (λ z. list_any (nat_eq z) order ≡ true) (moved j) (test_numbered (λ (k : ℕ). list_any (nat_eq k) order) 1 rule.premises j p a e)

pub law_of_orders : LawOfOrders
law_of_orders il rule = (order_is il rule, order_exists il rule)
