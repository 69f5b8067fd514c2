-- Indexes of keys to which one is added, and those of the keys of cases.
use Rattle.std.proofs.Common.{◌≡◌, ◌↔◌, refl, sym, ap, ◌∙◌, subst, ℕ, zero, suc, ◌+◌, ◌<◌, List, [], ◌∷◌, ◌++◌, take, length, get_or, add-one, ◌⊎◌, Bool, true, false, true≢false, inl, inr, if◌then◌else◌, Option, Some, None, arith}
use Rattle.std.specs.Prelude.{slice_get, MatchOption}
use Rattle.std.specs.Map.{lookup}
use Rattle.std.proofs.lemmas.Slice.Eq.{bytes_eq-Decides}
use Rattle.indexmap.specs.IndexMap.{insert_entry}
use Rattle.indexmap.proofs.CallerLemmas.{insert_entry-new}
use Rattle.st_num.specs.declared.mark.Mark.{Mark}
use Rattle.st_num.specs.Names.{same_name}
use Rattle.st_il.specs.Key.{PlainKey, sign, bracket, atom, free}
use Rattle.st_il.proofs.Tags.{one_template}
use Rattle.st_type_table.specs.declared.entry.CaseDef.{CaseDef}
use Rattle.st_type_table.specs.declared.key_index.KeyIndex.{KeyIndex}
use Rattle.st_type_table.specs.Keys.{HasKey, SameKey}
use Rattle.st_type_table.specs.inner.CaseKeys.{Clashes}
use Rattle.st_type_table.specs.inner.KeyIndexes.{HasMark, HasNumber, Gains, HasKeyAt, IsKeyIndex}
use Rattle.st_type_table.proofs.KeyLemmas.{HasKey-single}

-- ---- marks

mark-push : (ms : List (Mark × ℕ)) (x : Mark × ℕ) (m : Mark) (n : ℕ) → HasMark (ms ++ x ∷ []) m n ↔ (HasMark ms m n ⊎ ((x.0 ≡ m) × (x.1 ≡ n)))
mark-push ms x m n = (to ms, from ms)
  where
    to : (ms : List (Mark × ℕ)) → HasMark (ms ++ x ∷ []) m n → HasMark ms m n ⊎ ((x.0 ≡ m) × (x.1 ≡ n))
    to [] (inl e) = inr e
    to [] (inr h) = absurd h
    to (y ∷ ms) (inl e) = inl (inl e)
    to (y ∷ ms) (inr h) = by (to ms h)
      where
        by : HasMark ms m n ⊎ ((x.0 ≡ m) × (x.1 ≡ n)) → HasMark (y ∷ ms) m n ⊎ ((x.0 ≡ m) × (x.1 ≡ n))
        by (inl g) = inl (inr g)
        by (inr e) = inr e

    from : (ms : List (Mark × ℕ)) → HasMark ms m n ⊎ ((x.0 ≡ m) × (x.1 ≡ n)) → HasMark (ms ++ x ∷ []) m n
    from [] (inl h) = absurd h
    from [] (inr e) = inl e
    from (y ∷ ms) (inl (inl e)) = inl e
    from (y ∷ ms) (inl (inr h)) = inr (from ms (inl h))
    from (y ∷ ms) (inr e) = inr (from ms (inr e))

-- none of the marks so far is this one
pub mark-none : (ms : List (Mark × ℕ)) (m : Mark) (i : ℕ) (d : Mark × ℕ) → i < length ms → ((get_or ms i d).0 ≡ m → ⊥)
    → ((n : ℕ) → HasMark (take i ms) m n → ⊥) → (n : ℕ) → HasMark (take (i + 1) ms) m n → ⊥
mark-none ms m i d h apart none n g = more ms i h apart (none n) (subst (λ k. HasMark (take k ms) m n) (add-one i) g)
  where
    more : (ms : List (Mark × ℕ)) (i : ℕ) → i < length ms → ((get_or ms i d).0 ≡ m → ⊥) → (HasMark (take i ms) m n → ⊥) → HasMark (take (suc i) ms) m n → ⊥
    more [] i h apart none g = absurd (omega arith)
    more (y ∷ ms) zero h apart none (inl e) = apart e.0
    more (y ∷ ms) zero h apart none (inr g) = absurd g
    more (y ∷ ms) (suc i) h apart none (inl e) = none (inl e)
    more (y ∷ ms) (suc i) h apart none (inr g) = more ms i (omega arith) apart (λ f. none (inr f)) g

pub mark-found : (ms : List (Mark × ℕ)) (m : Mark) (i : ℕ) (d : Mark × ℕ) → i < length ms → (get_or ms i d).0 ≡ m → HasMark ms m (get_or ms i d).1
mark-found [] m i d h q = absurd (omega arith)
mark-found (y ∷ ms) m zero d h q = inl (q, refl)
mark-found (y ∷ ms) m (suc i) d h q = inr (mark-found ms m i d (omega arith) q)

-- ---- options

pub number-is : (r o : Option ℕ) → r ≡ o → MatchOption r ((n : ℕ) → o ≡ Some n → ⊥) (λ n. o ≡ Some n)
number-is None o e = λ n h. let q : None ≡ Some n = e ∙ h in cc
number-is (Some m) o e = sym e

-- ---- atoms

same-equal : (p q : List ℕ) → same_name p q ≡ true → p ≡ q
same-equal p q h = (bytes_eq-Decides p q).0 h

same-name : (p q : List ℕ) → p ≡ q → same_name p q ≡ true
same-name p q e = (bytes_eq-Decides p q).1 e

atom-push : (es : List (List ℕ × ℕ)) (name x : List ℕ) (number n : ℕ) → ((m : ℕ) → lookup (same_name name) es ≡ Some m → ⊥)
    → (lookup (same_name x) (es ++ (name, number) ∷ []) ≡ Some n) ↔ ((lookup (same_name x) es ≡ Some n) ⊎ ((name ≡ x) × (number ≡ n)))
atom-push [] name x number n none = by (same_name x name) refl
  where
    by : (b : Bool) → same_name x name ≡ b → ((if b then Some number else None) ≡ Some n) ↔ ((None ≡ Some n) ⊎ ((name ≡ x) × (number ≡ n)))
    by true s = (λ e. inr (sym (same-equal x name s), cc), to)
      where
        to : (None ≡ Some n) ⊎ ((name ≡ x) × (number ≡ n)) → Some number ≡ Some n
        to (inl e) = cc
        to (inr e) = ap Some e.1
    by false s = (λ e. inl e, to)
      where
        to : (None ≡ Some n) ⊎ ((name ≡ x) × (number ≡ n)) → None ≡ Some n
        to (inl e) = e
        to (inr e) = absurd (true≢false (sym (same-name x name (sym e.0)) ∙ s))
atom-push (y ∷ es) name x number n none = by (same_name name y.0) (same_name x y.0) refl refl none (atom-push es name x number n)
  where
    by : (a b : Bool) → same_name name y.0 ≡ a → same_name x y.0 ≡ b → ((m : ℕ) → (if a then Some y.1 else lookup (same_name name) es) ≡ Some m → ⊥)
        → (((m : ℕ) → lookup (same_name name) es ≡ Some m → ⊥) → (lookup (same_name x) (es ++ (name, number) ∷ []) ≡ Some n) ↔ ((lookup (same_name x) es ≡ Some n) ⊎ ((name ≡ x) × (number ≡ n))))
        → ((if b then Some y.1 else lookup (same_name x) (es ++ (name, number) ∷ [])) ≡ Some n) ↔ (((if b then Some y.1 else lookup (same_name x) es) ≡ Some n) ⊎ ((name ≡ x) × (number ≡ n)))
    by true b p q none next = absurd (none y.1 refl)
    by false true p q none next = (λ e. inl e, to)
      where
        to : (Some y.1 ≡ Some n) ⊎ ((name ≡ x) × (number ≡ n)) → Some y.1 ≡ Some n
        to (inl e) = e
        to (inr e) = absurd (true≢false (sym q ∙ ap (λ z. same_name z y.0) (sym e.0) ∙ p))
    by false false p q none next = next none

same_or : {A B C : Type 0} → (B → A) → (C → ⊥) → (A → B) → A ↔ (B ⊎ C)
same_or {A = A} {B = B} {C = C} back none to = ((λ a. inl (to a)), by)
  where
    by : B ⊎ C → A
    by (inl b) = back b
    by (inr c) = absurd (none c)

-- an index of nothing has no key
pub HasNumber-none : (x : KeyIndex) → x.signs ≡ [] → x.brackets ≡ [] → x.atoms.entries ≡ [] → x.free ≡ None → (k : PlainKey) (n : ℕ) → HasNumber x k n → ⊥
HasNumber-none x p q r s (sign top) n h = subst (λ ms. HasMark ms top n) p h
HasNumber-none x p q r s (bracket opening) n h = subst (λ ms. HasMark ms opening n) q h
HasNumber-none x p q r s (atom name) n h = let e : None ≡ Some n = sym (ap (lookup (same_name name)) r) ∙ h in cc
HasNumber-none x p q r s free n h = let e : None ≡ Some n = sym s ∙ h in cc

-- ---- a key is added

module _ (s : KeyIndex) (number : ℕ) where
  pub gains-sign : (m : Mark) (signs : List (Mark × ℕ)) → signs ≡ s.signs ++ (m, number) ∷ [] → Gains s (record s { signs = signs }) (sign m) number
  gains-sign m signs e (sign top) n = subst (λ ms. HasMark ms top n ↔ (HasMark s.signs top n ⊎ ((sign m ≡ sign top) × (number ≡ n)))) (sym e) (let p = mark-push s.signs (m, number) top n in ((λ h. to (p.0 h)), λ h. p.1 (from h)))
    where
      to : HasMark s.signs top n ⊎ ((m ≡ top) × (number ≡ n)) → HasMark s.signs top n ⊎ ((sign m ≡ sign top) × (number ≡ n))
      to (inl h) = inl h
      to (inr q) = inr (ap sign q.0, q.1)

      from : HasMark s.signs top n ⊎ ((sign m ≡ sign top) × (number ≡ n)) → HasMark s.signs top n ⊎ ((m ≡ top) × (number ≡ n))
      from (inl h) = inl h
      from (inr q) = let f = q.0 in inr (cc, q.1)
  gains-sign m signs e (bracket opening) n = same_or (λ h. h) (λ q. let f = q.0 in cc) (λ h. h)
  gains-sign m signs e (atom name) n = same_or (λ h. h) (λ q. let f = q.0 in cc) (λ h. h)
  gains-sign m signs e free n = same_or (λ h. h) (λ q. let f = q.0 in cc) (λ h. h)

  pub gains-bracket : (m : Mark) (brackets : List (Mark × ℕ)) → brackets ≡ s.brackets ++ (m, number) ∷ [] → Gains s (record s { brackets = brackets }) (bracket m) number
  gains-bracket m brackets e (bracket top) n = subst (λ ms. HasMark ms top n ↔ (HasMark s.brackets top n ⊎ ((bracket m ≡ bracket top) × (number ≡ n)))) (sym e) (let p = mark-push s.brackets (m, number) top n in ((λ h. to (p.0 h)), λ h. p.1 (from h)))
    where
      to : HasMark s.brackets top n ⊎ ((m ≡ top) × (number ≡ n)) → HasMark s.brackets top n ⊎ ((bracket m ≡ bracket top) × (number ≡ n))
      to (inl h) = inl h
      to (inr q) = inr (ap bracket q.0, q.1)

      from : HasMark s.brackets top n ⊎ ((bracket m ≡ bracket top) × (number ≡ n)) → HasMark s.brackets top n ⊎ ((m ≡ top) × (number ≡ n))
      from (inl h) = inl h
      from (inr q) = let f = q.0 in inr (cc, q.1)
  gains-bracket m brackets e (sign top) n = same_or (λ h. h) (λ q. let f = q.0 in cc) (λ h. h)
  gains-bracket m brackets e (atom name) n = same_or (λ h. h) (λ q. let f = q.0 in cc) (λ h. h)
  gains-bracket m brackets e free n = same_or (λ h. h) (λ q. let f = q.0 in cc) (λ h. h)

  pub gains-free : ((n : ℕ) → s.free ≡ Some n → ⊥) → Gains s (record s { free = Some number }) free number
  gains-free none free n = ((λ e. inr (refl, cc)), from)
    where
      from : (s.free ≡ Some n) ⊎ ((free ≡ free) × (number ≡ n)) → Some number ≡ Some n
      from (inl h) = absurd (none n h)
      from (inr q) = ap Some q.1
  gains-free none (sign top) n = same_or (λ h. h) (λ q. let f = q.0 in cc) (λ h. h)
  gains-free none (bracket top) n = same_or (λ h. h) (λ q. let f = q.0 in cc) (λ h. h)
  gains-free none (atom name) n = same_or (λ h. h) (λ q. let f = q.0 in cc) (λ h. h)

  pub gains-atom : (t : KeyIndex) (name : List ℕ) → t.signs ≡ s.signs → t.brackets ≡ s.brackets → t.free ≡ s.free → ((n : ℕ) → lookup (same_name name) s.atoms.entries ≡ Some n → ⊥)
      → t.atoms.entries ≡ insert_entry same_name s.atoms.entries name number → Gains s t (atom name) number
  gains-atom t name p q r none e (atom x) n =
      let new : t.atoms.entries ≡ s.atoms.entries ++ (name, number) ∷ [] = e ∙ insert_entry-new same_name s.atoms name number (absent (lookup (same_name name) s.atoms.entries) none) in
      subst (λ es. (lookup (same_name x) es ≡ Some n) ↔ ((lookup (same_name x) s.atoms.entries ≡ Some n) ⊎ ((atom name ≡ atom x) × (number ≡ n)))) (sym new)
      (let w = atom-push s.atoms.entries name x number n none in ((λ h. to (w.0 h)), λ h. w.1 (from h)))
    where
      absent : (o : Option ℕ) → ((n : ℕ) → o ≡ Some n → ⊥) → o ≡ None
      absent None h = refl
      absent (Some m) h = absurd (h m refl)

      to : (lookup (same_name x) s.atoms.entries ≡ Some n) ⊎ ((name ≡ x) × (number ≡ n)) → (lookup (same_name x) s.atoms.entries ≡ Some n) ⊎ ((atom name ≡ atom x) × (number ≡ n))
      to (inl h) = inl h
      to (inr z) = inr (ap atom z.0, z.1)

      from : (lookup (same_name x) s.atoms.entries ≡ Some n) ⊎ ((atom name ≡ atom x) × (number ≡ n)) → (lookup (same_name x) s.atoms.entries ≡ Some n) ⊎ ((name ≡ x) × (number ≡ n))
      from (inl h) = inl h
      from (inr z) = let f = z.0 in inr (cc, z.1)
  gains-atom t name p q r none e (sign top) n = same_or (λ h. subst (λ ms. HasMark ms top n) (sym p) h) (λ z. let f = z.0 in cc) (λ h. subst (λ ms. HasMark ms top n) p h)
  gains-atom t name p q r none e (bracket top) n = same_or (λ h. subst (λ ms. HasMark ms top n) (sym q) h) (λ z. let f = z.0 in cc) (λ h. subst (λ ms. HasMark ms top n) q h)
  gains-atom t name p q r none e free n = same_or (λ h. r ∙ h) (λ z. let f = z.0 in cc) (λ h. sym r ∙ h)

-- ---- the keys of cases

module _ (c : CaseDef) where
  get-front : (cases : List CaseDef) (n : ℕ) (d : CaseDef) → slice_get cases n ≡ Some d → slice_get (cases ++ c ∷ []) n ≡ Some d
  get-front [] n d e = cc
  get-front (x ∷ cases) zero d e = e
  get-front (x ∷ cases) (suc n) d e = get-front cases n d e

  get-last : (cases : List CaseDef) → slice_get (cases ++ c ∷ []) (length cases) ≡ Some c
  get-last [] = refl
  get-last (x ∷ cases) = get-last cases

  get-push : (cases : List CaseDef) (n : ℕ) (d : CaseDef) → slice_get (cases ++ c ∷ []) n ≡ Some d → (slice_get cases n ≡ Some d) ⊎ ((length cases ≡ n) × (c ≡ d))
  get-push [] zero d e = inr (refl, cc)
  get-push [] (suc n) d e = cc
  get-push (x ∷ cases) zero d e = inl e
  get-push (x ∷ cases) (suc n) d e = by (get-push cases n d e)
    where
      by : (slice_get cases n ≡ Some d) ⊎ ((length cases ≡ n) × (c ≡ d)) → (slice_get cases n ≡ Some d) ⊎ ((suc (length cases) ≡ suc n) × (c ≡ d))
      by (inl h) = inl h
      by (inr h) = inr (ap suc h.0, h.1)

-- a case is added, and its key
pub IsKeyIndex-push : (cases : List CaseDef) (c : CaseDef) (before after : KeyIndex) (key : PlainKey) → HasKey c.tag key → IsKeyIndex cases before → Gains before after key (length cases)
    → IsKeyIndex (cases ++ c ∷ []) after
IsKeyIndex-push cases c before after key has so_far gains k n = ((λ h. to ((gains k n).0 h)), λ h. (gains k n).1 (from h.0 h.1.1 (get-push c cases n h.0 h.1.0)))
  where
    to : HasNumber before k n ⊎ ((key ≡ k) × (length cases ≡ n)) → HasKeyAt (cases ++ c ∷ []) n k
    to (inl h) = let g = (so_far k n).0 h in (g.0, (get-front c cases n g.0 g.1.0, g.1.1))
    to (inr e) = subst (λ m. HasKeyAt (cases ++ c ∷ []) m k) e.1 (c, (get-last c cases, subst (HasKey c.tag) e.0 has))

    from : (d : CaseDef) → HasKey d.tag k → (slice_get cases n ≡ Some d) ⊎ ((length cases ≡ n) × (c ≡ d)) → HasNumber before k n ⊎ ((key ≡ k) × (length cases ≡ n))
    from d g (inl h) = inl ((so_far k n).1 (d, (h, g)))
    from d g (inr e) = inr (HasKey-single c.tag key k (one_template c.tag) has (subst (λ (z : CaseDef). HasKey z.tag k) (sym e.1) g), e.0)

pub IsKeyIndex-none : (index : KeyIndex) → ((k : PlainKey) (n : ℕ) → HasNumber index k n → ⊥) → IsKeyIndex [] index
IsKeyIndex-none index none k n = ((λ h. absurd (none k n h)), λ h. lost h.0 h.1.0)
  where
    lost : (c : CaseDef) → slice_get [] n ≡ Some c → HasNumber index k n
    lost c e = cc

-- a key that has a number is that of one of the cases
clash-at : (cases : List CaseDef) (n : ℕ) (c : CaseDef) (tag : List ℕ) → slice_get cases n ≡ Some c → SameKey c.tag tag → Clashes cases tag
clash-at [] n c tag e s = cc
clash-at (x ∷ cases) zero c tag e s = let q : c ≡ x = cc in inl (subst (λ (z : CaseDef). SameKey z.tag tag) q s)
clash-at (x ∷ cases) (suc n) c tag e s = inr (clash-at cases n c tag e s)

pub clash-found : (cases : List CaseDef) (index : KeyIndex) (tag : List ℕ) (k : PlainKey) (n : ℕ) → IsKeyIndex cases index → HasKey tag k → HasNumber index k n → Clashes cases tag
clash-found cases index tag k n right has h =
    let g = (right k n).0 h in
    clash-at cases n g.0 tag g.1.0 (record { key = k; one = g.1.1; other = has })

-- a key without a number is that of none of them
clash-where : (cases : List CaseDef) (tag : List ℕ) (k : PlainKey) → HasKey tag k → Clashes cases tag → (n : ℕ) × HasKeyAt cases n k
clash-where [] tag k has h = absurd h
clash-where (x ∷ cases) tag k has (inl s) = (0, (x, (refl, subst (HasKey x.tag) (HasKey-single tag s.key k (one_template tag) s.other has) s.one)))
clash-where (x ∷ cases) tag k has (inr h) = let r = clash-where cases tag k has h in (suc r.0, r.1)

pub clash-none : (cases : List CaseDef) (index : KeyIndex) (tag : List ℕ) (k : PlainKey) → IsKeyIndex cases index → HasKey tag k → ((n : ℕ) → HasNumber index k n → ⊥) → Clashes cases tag → ⊥
clash-none cases index tag k right has none h = let r = clash-where cases tag k has h in none r.0 ((right k r.0).1 r.1)
