-- Numbers of forms and types, and that they stay where forms are added.
use Rattle.std.proofs.Common.{◌≡◌, refl, sym, ap, ◌∙◌, ℕ, suc, ◌<◌, ◌≤◌, List, [], ◌∷◌, ◌++◌, length, get_or, drop, drop-cons, Bool, true, false, true≢false, Option, Some, None, arith, eqb, ◌&&◌, length-append}
use Rattle.std.specs.Prelude.{slice_get}
use Rattle.std.specs.List.{position, position_or_len}
use Rattle.std.specs.Cmp.Derive.{both_true}
use Rattle.std.proofs.lemmas.Bool.{eqb-true, eq-eqb}
use Rattle.std.proofs.lemmas.List.{get_or_append_left, drop_all}
use Rattle.std.proofs.lemmas.List.Quantifiers.{position-Some}
use Rattle.std.proofs.lemmas.List.Sums.{position_or_len_is}
use Rattle.std.proofs.lemmas.Option.{slice_get-get_or, slice_get_within}
use Rattle.std.proofs.lemmas.Slice.Eq.{bytes_eq-Decides}
use Rattle.st_il.proofs.Induction.{Every}
use Rattle.st_il.specs.declared.ty.Ty.{Ty, out-Ty, roll-Ty, roll-out-Ty, fold-roll-Ty, map-Ty}
use Rattle.st_il.specs.declared.ty.Ty.TheOpen.{Ty-F}
use Rattle.st_type_table.specs.declared.form.Form.{Form}
use Rattle.st_type_table.specs.declared.form.Form.TheVariants as form
use Rattle.st_type_table.specs.inner.Forms.{Numbers, form_eq, form_number, list_number, option_number, pair_number, tuple_number, number_at, type_number, parts_number, IsOrdered}
use Rattle.st_type_table.specs.inner.Numbering.{Keeps}
use Rattle.st_type_table.proofs.TyInduction.{Parts, ty-ind}

-- ---- equal forms

and-left : (a b : Bool) → (a && b) ≡ true → a ≡ true
and-left true b h = refl
and-left false b h = h

and-right : (a b : Bool) → (a && b) ≡ true → b ≡ true
and-right true b h = h
and-right false b h = absurd (true≢false (sym h))

pub eq-same : (f g : Form) → form_eq f g ≡ true → f ≡ g
eq-same form.Bool form.Bool h = refl
eq-same form.Nat form.Nat h = refl
eq-same form.Int form.Int h = refl
eq-same form.Text form.Text h = refl
eq-same form.Empty form.Empty h = refl
eq-same (form.Own m) (form.Own n) h = ap form.Own ((bytes_eq-Decides m n).0 h)
eq-same (form.List a) (form.List b) h = ap form.List (eqb-true a b h)
eq-same (form.Opt a) (form.Opt b) h = ap form.Opt (eqb-true a b h)
eq-same (form.Pair a b) (form.Pair c d) h =
    ap (λ x. form.Pair x b) (eqb-true a c (and-left (eqb a c) (eqb b d) h)) ∙ ap (form.Pair c) (eqb-true b d (and-right (eqb a c) (eqb b d) h))
eq-same _ _ h = absurd (true≢false (sym h))

pub eq-refl : (f : Form) → form_eq f f ≡ true
eq-refl form.Bool = refl
eq-refl form.Nat = refl
eq-refl form.Int = refl
eq-refl form.Text = refl
eq-refl form.Empty = refl
eq-refl (form.Own m) = (bytes_eq-Decides m m).1 refl
eq-refl (form.List a) = eq-eqb a a refl
eq-refl (form.Opt a) = eq-eqb a a refl
eq-refl (form.Pair a b) = both_true (eq-eqb a a refl) (eq-eqb b b refl)

-- ---- numbers of forms

-- the form of a number stands at its position
pub form-found : (forms : List Form) (f : Form) (i : ℕ) → form_number forms f ≡ Some i → slice_get forms i ≡ Some f
form-found forms f i e =
    let s = position-Some (form_eq f) forms i f e in
    slice_get-get_or forms i f s.0 ∙ ap Some (sym (eq-same f (get_or forms i f) s.1))

pub positioned : (p : Form → Bool) (forms : List Form) (i : ℕ) → position_or_len p forms ≡ i → i < length forms → position p forms ≡ Some i
positioned p forms i e h = grind arith

-- a form keeps its number where forms are added
pub form-stays : (old more : List Form) (f : Form) (i : ℕ) → form_number old f ≡ Some i → form_number (old ++ more) f ≡ Some i
form-stays old more f i e =
    let s = position-Some (form_eq f) old i f e in
    let within : i < length (old ++ more) = let h = s.0 in let e = length-append old more in omega (arith, h, e) in
    positioned (form_eq f) (old ++ more) i
    (position_or_len_is (form_eq f) (old ++ more) i f (let h : i < length (old ++ more) = within in omega (arith, h))
    (λ k less. ap (form_eq f) (get_or_append_left old more f k (let h = s.0 in omega (arith, less, h))) ∙ s.2 k less)
    (λ _. ap (form_eq f) (get_or_append_left old more f i s.0) ∙ s.1))
    within

-- ---- numbers of types, level by level

pub none-some : {A : Type 0} {x : A} → None ≡ Some x → (P : Type 0) → P
none-some e P = absurd (let z : ⊥ = cc in z)

module _ (numbers : Numbers) (forms : List Form) where
  pub number-level : (t : Ty) (l : Ty-F Ty) → out-Ty t ≡ l → type_number numbers forms t ≡ number_at numbers forms (map-Ty Ty (Option ℕ) (type_number numbers forms) l)
  number-level t l e =
      ap (type_number numbers forms) (sym (roll-out-Ty t) ∙ ap roll-Ty e) ∙ fold-roll-Ty (Option ℕ) (number_at numbers forms) l

  -- the parts of what has a number have numbers
  pub list-part : (o : Option ℕ) (i : ℕ) → list_number forms o ≡ Some i → (j : ℕ) × (o ≡ Some j) × (form_number forms (form.List j) ≡ Some i)
  list-part None i e = none-some e _
  list-part (Some j) i e = (j, refl, e)

  pub option-part : (o : Option ℕ) (i : ℕ) → option_number forms o ≡ Some i → (j : ℕ) × (o ≡ Some j) × (form_number forms (form.Opt j) ≡ Some i)
  option-part None i e = none-some e _
  option-part (Some j) i e = (j, refl, e)

  pub pair-parts : (o p : Option ℕ) (i : ℕ) → pair_number forms o p ≡ Some i → (j k : ℕ) × (o ≡ Some j) × (p ≡ Some k) × (form_number forms (form.Pair j k) ≡ Some i)
  pair-parts o None i e = none-some e _
  pair-parts None (Some k) i e = none-some e _
  pair-parts (Some j) (Some k) i e = (j, k, refl, refl, e)

  pub tuple-within : (os : List (Option ℕ)) (i : ℕ) → tuple_number forms os ≡ Some i → i < length forms
  tuple-within [] i e = slice_get_within forms i form.Empty (form-found forms form.Empty i e)
  tuple-within (o ∷ os) i e =
      let p = pair-parts o (tuple_number forms os) i e in
      slice_get_within forms i (form.Pair p.0 p.1) (form-found forms (form.Pair p.0 p.1) i p.4)

  level-within : IsOrdered numbers forms → (l : Ty-F (Option ℕ)) (i : ℕ) → number_at numbers forms l ≡ Some i → i < length forms
  level-within o Ty-F.Bool i e = slice_get_within forms i form.Bool (form-found forms form.Bool i e)
  level-within o Ty-F.Nat i e = slice_get_within forms i form.Nat (form-found forms form.Nat i e)
  level-within o Ty-F.Int i e = slice_get_within forms i form.Int (form-found forms form.Int i e)
  level-within o Ty-F.Text i e = slice_get_within forms i form.Text (form-found forms form.Text i e)
  level-within o (Ty-F.Name x) i e = o.within x i e
  level-within o (Ty-F.List p) i e = let q = list-part p i e in slice_get_within forms i (form.List q.0) (form-found forms (form.List q.0) i q.2)
  level-within o (Ty-F.Opt p) i e = let q = option-part p i e in slice_get_within forms i (form.Opt q.0) (form-found forms (form.Opt q.0) i q.2)
  level-within o (Ty-F.Tuple ps) i e = tuple-within ps i e

  -- the number of a type is that of a form
  pub type-within : IsOrdered numbers forms → (t : Ty) (i : ℕ) → type_number numbers forms t ≡ Some i → i < length forms
  type-within o t i e = level-within o (map-Ty Ty (Option ℕ) (type_number numbers forms) (out-Ty t)) i (sym (number-level t (out-Ty t) refl) ∙ e)

-- ---- numbers stay where names and forms are added

module _ (one other : Numbers) (old more : List Form) (keeps : Keeps one other) where
  abbrev Stays : Option ℕ → Option ℕ → Type 0
  Stays o p = (i : ℕ) → o ≡ Some i → p ≡ Some i

  list-stays : (o p : Option ℕ) → Stays o p → Stays (list_number old o) (list_number (old ++ more) p)
  list-stays o p h i e =
      let q = list-part one old o i e in
      ap (list_number (old ++ more)) (h q.0 q.1) ∙ form-stays old more (form.List q.0) i q.2

  option-stays : (o p : Option ℕ) → Stays o p → Stays (option_number old o) (option_number (old ++ more) p)
  option-stays o p h i e =
      let q = option-part one old o i e in
      ap (option_number (old ++ more)) (h q.0 q.1) ∙ form-stays old more (form.Opt q.0) i q.2

  pair-stays : (o p r s : Option ℕ) → Stays o p → Stays r s → Stays (pair_number old o r) (pair_number (old ++ more) p s)
  pair-stays o p r s h k i e =
      let q = pair-parts one old o r i e in
      ap (λ z. pair_number (old ++ more) z s) (h q.0 q.2) ∙ ap (pair_number (old ++ more) (Some q.0)) (k q.1 q.3)
      ∙ form-stays old more (form.Pair q.0 q.1) i q.4

  TypeStays : Ty → Type 0
  TypeStays t = Stays (type_number one old t) (type_number other (old ++ more) t)

  parts-stay : (xs : List Ty) → Every TypeStays xs → Stays (parts_number one old xs) (parts_number other (old ++ more) xs)
  unfolding TypeStays
  parts-stay [] h i e = form-stays old more form.Empty i e
  parts-stay (x ∷ xs) h i e =
      pair-stays (type_number one old x) (type_number other (old ++ more) x) (parts_number one old xs) (parts_number other (old ++ more) xs)
      h.0 (parts-stay xs h.1) i e

  level-stays : (l : Ty-F Ty) → Parts TypeStays l
      → Stays (number_at one old (map-Ty Ty (Option ℕ) (type_number one old) l)) (number_at other (old ++ more) (map-Ty Ty (Option ℕ) (type_number other (old ++ more)) l))
  unfolding TypeStays
  level-stays Ty-F.Bool h i e = form-stays old more form.Bool i e
  level-stays Ty-F.Nat h i e = form-stays old more form.Nat i e
  level-stays Ty-F.Int h i e = form-stays old more form.Int i e
  level-stays Ty-F.Text h i e = form-stays old more form.Text i e
  level-stays (Ty-F.Name x) h i e = keeps x i e
  level-stays (Ty-F.List x) h i e = list-stays (type_number one old x) (type_number other (old ++ more) x) h i e
  level-stays (Ty-F.Opt x) h i e = option-stays (type_number one old x) (type_number other (old ++ more) x) h i e
  level-stays (Ty-F.Tuple xs) h i e = parts-stay xs h i e

  type_stays : (t : Ty) → TypeStays t
  unfolding TypeStays
  type_stays = ty-ind TypeStays (λ l h i e.
      fold-roll-Ty (Option ℕ) (number_at other (old ++ more)) l
      ∙ level-stays l h i (sym (fold-roll-Ty (Option ℕ) (number_at one old) l) ∙ e))

  pub type-stays : (t : Ty) (i : ℕ) → type_number one old t ≡ Some i → type_number other (old ++ more) t ≡ Some i
  unfolding TypeStays
  type-stays t i e = type_stays t i e

  every_stays : (xs : List Ty) → Every TypeStays xs
  every_stays [] = tt
  every_stays (x ∷ xs) = (type_stays x, every_stays xs)

  pub parts-stays : (xs : List Ty) (i : ℕ) → parts_number one old xs ≡ Some i → parts_number other (old ++ more) xs ≡ Some i
  parts-stays xs i e = parts-stay xs (every_stays xs) i e

-- ---- the parts of a tuple, from the last to the first

module _ (numbers : Numbers) (forms : List Form) where
  pub parts-end : (xs : List Ty) (n : ℕ) → length xs ≤ n → form_number forms form.Empty ≡ parts_number numbers forms (drop n xs)
  parts-end xs n h = ap (parts_number numbers forms) (sym (drop_all n xs h))

  pub parts-next : (xs : List Ty) (at : ℕ) (x : Ty) → at < length xs → x ≡ get_or xs at x
      → parts_number numbers forms (drop at xs) ≡ pair_number forms (type_number numbers forms x) (parts_number numbers forms (drop (suc at) xs))
  parts-next xs at x h e =
      ap (parts_number numbers forms) (drop-cons xs at x h ∙ ap (λ z. z ∷ drop (suc at) xs) (sym e))
