-- What is taken depends on which names are bound, and on no order of them.
use Rattle.std.proofs.Common.{◌≡◌, refl, sym, ◌∙◌, ap, ap₂, subst, ℕ, zero, suc, Bool, true, false, if◌then◌else◌, List, [], ◌∷◌, ◌++◌, append_assoc, append-nil, arith, Option, Some, None, find}
use Rattle.st_il.specs.declared.definition.Il.{Il}
use Rattle.st_il.specs.Names.{Name, has_name}
use Rattle.st_semantics.specs.Variables.{prem_vars}
use Rattle.st_semantics.specs.Executable as run
use Rattle.st_semantics.specs.Executable.{Test, Equation, Judgement, class_of}
use Rattle.st_semantics.specs.OrderOf as told
use Rattle.st_semantics.specs.OrderOf.{is_test, is_equation, is_judgement, first_in, else_try, next_in, but_for, select, select_by}
use Rattle.st_order.specs.declared.class.Class.TheVariants as made
use Rattle.st_order.specs.declared.selection.Selection.{Selection}
use Rattle.st_order.specs.inner.Index.{names_in, SameNames}
use Rattle.st_order.specs.inner.Classes.{kind, is_kind}
use Rattle.st_order.specs.inner.Selections.{all_numbered, first_of, LeadsTo, IsSelection, Continues}
use Rattle.st_order.proofs.NamesIn.{SameNames-append}
use Rattle.st_order.proofs.SameNames.{SameNames-sym}
use Rattle.st_order.proofs.SameClass.{class_same}

find_same : {A : Type 0} (f g : A → Bool) → ((x : A) → f x ≡ g x) → (xs : List A) → find f xs ≡ find g xs
find_same f g h [] = refl
find_same f g h (x ∷ xs) = ap₂ (λ a b. if a then Some x else b) (h x) (find_same f g h xs)

-- ---- classes by their kinds

test_kind : (c : Option run.Class) → is_kind made.Test (kind c) ≡ is_test c
test_kind None = refl
test_kind (Some Test) = refl
test_kind (Some (Equation pattern)) = refl
test_kind (Some Judgement) = refl

equation_kind : (c : Option run.Class) → is_kind made.Equation (kind c) ≡ is_equation c
equation_kind None = refl
equation_kind (Some Test) = refl
equation_kind (Some (Equation pattern)) = refl
equation_kind (Some Judgement) = refl

goal_kind : (c : Option run.Class) → is_kind made.Goal (kind c) ≡ is_judgement c
goal_kind None = refl
goal_kind (Some Test) = refl
goal_kind (Some (Equation pattern)) = refl
goal_kind (Some Judgement) = refl

module _ (il : Il) (bound : List Name) (ps : List told.Numbered) where
  first_test : first_of il bound made.Test ps ≡ first_in il bound is_test ps
  first_test = find_same (λ (p : told.Numbered). is_kind made.Test (kind (class_of il bound p.1))) (λ (p : told.Numbered). is_test (class_of il bound p.1)) (λ p. test_kind (class_of il bound p.1)) ps

  first_equation : first_of il bound made.Equation ps ≡ first_in il bound is_equation ps
  first_equation = find_same (λ (p : told.Numbered). is_kind made.Equation (kind (class_of il bound p.1))) (λ (p : told.Numbered). is_equation (class_of il bound p.1)) (λ p. equation_kind (class_of il bound p.1)) ps

  first_goal : first_of il bound made.Goal ps ≡ first_in il bound is_judgement ps
  first_goal = find_same (λ (p : told.Numbered). is_kind made.Goal (kind (class_of il bound p.1))) (λ (p : told.Numbered). is_judgement (class_of il bound p.1)) (λ p. goal_kind (class_of il bound p.1)) ps

  next_parts : next_in il bound ps ≡ else_try (first_of il bound made.Test ps) (else_try (first_of il bound made.Equation ps) (first_of il bound made.Goal ps))
  next_parts =
      ap₂ (λ a b. else_try a b) (sym first_test) (ap₂ (λ a b. else_try a b) (sym first_equation) (sym first_goal))

  -- a test is found
  pub next_test : (o : Option told.Numbered) (p : told.Numbered) → o ≡ first_of il bound made.Test ps → o ≡ Some p → o ≡ next_in il bound ps
  next_test o p e is = is ∙ sym (next_parts ∙ ap (λ z. else_try z (else_try (first_of il bound made.Equation ps) (first_of il bound made.Goal ps))) (sym e ∙ is))

  -- no test is found, but an equation
  pub next_equation : (t o : Option told.Numbered) (p : told.Numbered) → t ≡ first_of il bound made.Test ps → t ≡ None → o ≡ first_of il bound made.Equation ps → o ≡ Some p → o ≡ next_in il bound ps
  next_equation t o p et none e is =
      is ∙ sym (next_parts ∙ ap₂ (λ a b. else_try a (else_try b (first_of il bound made.Goal ps))) (sym et ∙ none) (sym e ∙ is))

  -- neither is found
  pub next_goal : (t q o : Option told.Numbered) → t ≡ first_of il bound made.Test ps → t ≡ None → q ≡ first_of il bound made.Equation ps → q ≡ None → o ≡ first_of il bound made.Goal ps → o ≡ next_in il bound ps
  next_goal t q o et none eq none_q e =
      e ∙ sym (next_parts ∙ ap₂ (λ a b. else_try a (else_try b (first_of il bound made.Goal ps))) (sym et ∙ none) (sym eq ∙ none_q))

-- ---- the same names are bound

first_same : (il : Il) (a b : List Name) → SameNames a b → (is_such : Option run.Class → Bool) (ps : List told.Numbered) → first_in il a is_such ps ≡ first_in il b is_such ps
first_same il a b s is_such ps =
    find_same (λ (p : told.Numbered). is_such (class_of il a p.1)) (λ (p : told.Numbered). is_such (class_of il b p.1)) (λ p. ap is_such (class_same il p.1 a b s)) ps

next_same : (il : Il) (a b : List Name) → SameNames a b → (ps : List told.Numbered) → next_in il a ps ≡ next_in il b ps
next_same il a b s ps =
    ap₂ (λ x y. else_try x y) (first_same il a b s is_test ps) (ap₂ (λ x y. else_try x y) (first_same il a b s is_equation ps) (first_same il a b s is_judgement ps))

-- two selections that differ in no more than the order of what is bound
record Alike (s t : told.Selection) : Type 0 where
  order : s.order ≡ t.order
  left : s.left ≡ t.left
  bound : SameNames s.bound t.bound

select_same : (il : Il) (n : ℕ) (a b : List Name) → SameNames a b → (ps : List told.Numbered) → Alike (select il n a ps) (select il n b ps)
select_same il zero a b s ps = record { order = refl; left = refl; bound = s }
select_same il (suc n) a b s ps =
    subst (λ z. Alike (select_by (select il n) a ps (next_in il a ps)) (select_by (select il n) b ps z)) (next_same il a b s ps)
    (at (next_in il a ps) (select_same il n))
  where
    at : (o : Option told.Numbered) → ((a b : List Name) → SameNames a b → (ps : List told.Numbered) → Alike (select il n a ps) (select il n b ps))
        → Alike (select_by (select il n) a ps o) (select_by (select il n) b ps o)
    at None ih = record { order = refl; left = refl; bound = s }
    at (Some p) ih =
        let more = ih (a ++ prem_vars p.1) (b ++ prem_vars p.1) (SameNames-append a b (prem_vars p.1) s) (but_for p.0 ps) in
        record { order = ap (λ z. p.0 ∷ z) more.order; left = more.left; bound = more.bound }

-- ---- from step to step

module _ (il : Il) where
  -- nothing was taken yet
  pub continues_first : (n : ℕ) (s : Selection) (names : List Name) (ps : List told.Numbered) → s.order ≡ [] → all_numbered s.left ≡ ps → SameNames (names_in s.bound.keys) names
      → Continues il n s (select il n names ps)
  continues_first n s names ps none left bound =
      let like = select_same il n names (names_in s.bound.keys) (SameNames-sym (names_in s.bound.keys) names bound) ps in
      let here : select il n (names_in s.bound.keys) (all_numbered s.left) ≡ select il n (names_in s.bound.keys) ps = ap (λ z. select il n (names_in s.bound.keys) z) left in
      record {
        order = like.order ∙ sym (ap₂ (λ a (b : told.Selection). a ++ b.order) none here);
        left = like.left ∙ sym (ap (λ (z : told.Selection). z.left) here);
        bound = λ q. like.bound q ∙ ap (λ (z : told.Selection). has_name z.bound q) (sym here);
      }

  -- the next premise is taken
  pub continues_next : (n : ℕ) (s new : Selection) (t : told.Selection) → Continues il (suc n) s t → LeadsTo il s new true → Continues il n new t
  continues_next n s new t c l =
      let p : told.Numbered = l.0 in
      let old_bound : List Name = names_in s.bound.keys in
      let ps : List told.Numbered = all_numbered s.left in
      let more : told.Selection = select il n (old_bound ++ prem_vars p.1) (but_for p.0 ps) in
      let whole : select il (suc n) old_bound ps ≡ told.after p.0 more = ap (λ z. select_by (select il n) old_bound ps z) l.1 in
      let like = select_same il n (old_bound ++ prem_vars p.1) (names_in new.bound.keys) (SameNames-sym (names_in new.bound.keys) (old_bound ++ prem_vars p.1) l.2.bound) (but_for p.0 ps) in
      let there : select il n (names_in new.bound.keys) (all_numbered new.left) ≡ select il n (names_in new.bound.keys) (but_for p.0 ps) = ap (λ z. select il n (names_in new.bound.keys) z) l.2.left in
      record {
        order =
            c.order ∙ ap (λ (z : told.Selection). s.order ++ z.order) whole ∙ ap (λ z. s.order ++ p.0 ∷ z) like.order
            ∙ sym (append_assoc s.order (p.0 ∷ []) (select il n (names_in new.bound.keys) (but_for p.0 ps)).order)
            ∙ sym (ap₂ (λ a (b : told.Selection). a ++ b.order) l.2.order there);
        left = c.left ∙ ap (λ (z : told.Selection). z.left) whole ∙ like.left ∙ sym (ap (λ (z : told.Selection). z.left) there);
        bound = λ q. c.bound q ∙ ap (λ (z : told.Selection). has_name z.bound q) whole ∙ like.bound q ∙ ap (λ (z : told.Selection). has_name z.bound q) (sym there);
      }

  -- no premise can be run
  pub continues_stuck : (n : ℕ) (s new : Selection) (t : told.Selection) → Continues il (suc n) s t → LeadsTo il s new false → IsSelection new t
  continues_stuck n s new t c l =
      let whole : select il (suc n) (names_in s.bound.keys) (all_numbered s.left) ≡ record { order = []; left = all_numbered s.left; bound = names_in s.bound.keys } = ap (λ z. select_by (select il n) (names_in s.bound.keys) (all_numbered s.left) z) l.0 in
      subst (λ z. IsSelection z t) (sym l.1) (record {
        order = sym (c.order ∙ ap (λ (z : told.Selection). s.order ++ z.order) whole ∙ append-nil s.order);
        left = sym (c.left ∙ ap (λ (z : told.Selection). z.left) whole);
        bound = λ q. sym (c.bound q ∙ ap (λ (z : told.Selection). has_name z.bound q) whole);
      })

  -- no more may be taken
  pub continues_end : (n : ℕ) (s : Selection) (t : told.Selection) → n ≡ 0 → Continues il n s t → IsSelection s t
  continues_end zero s t none c = record {
    order = sym (c.order ∙ append-nil s.order);
    left = sym c.left;
    bound = λ q. sym (c.bound q);
  }
  continues_end (suc n) s t none c = absurd (omega (arith, none))

  -- ---- the same by the numbers of steps that are left

  pub begun : (n m : ℕ) (s : Selection) (names : List Name) (ps : List told.Numbered) → m ≡ n → s.order ≡ [] → all_numbered s.left ≡ ps → SameNames (names_in s.bound.keys) names
      → Continues il m s (select il n names ps)
  begun n m s names ps e none left bound = subst (λ k. Continues il k s (select il n names ps)) (sym e) (continues_first n s names ps none left bound)

  pub continued : (m n : ℕ) (s new : Selection) (t : told.Selection) (taken : Bool) → m ≡ suc n → Continues il m s t → LeadsTo il s new taken → taken ≡ true → Continues il n new t
  continued m n s new t taken e c l is =
      continues_next n s new t (subst (λ k. Continues il k s t) e c) (subst (LeadsTo il s new) is l)

  pub stopped : (m n : ℕ) (s new : Selection) (t : told.Selection) (taken : Bool) → m ≡ suc n → Continues il m s t → LeadsTo il s new taken → taken ≡ false → IsSelection new t
  stopped m n s new t taken e c l is =
      continues_stuck n s new t (subst (λ k. Continues il k s t) e c) (subst (LeadsTo il s new) is l)
