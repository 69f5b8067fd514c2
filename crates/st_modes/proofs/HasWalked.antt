-- How a walk along citations goes on, and that it finds all that is reached.
use Rattle.std.proofs.Common.{◌≡◌, refl, sym, ◌∙◌, ap, subst, ℕ, zero, suc, ◌+◌, ◌-◌, ◌<◌, ◌≤◌, Bool, true, false, true≢false, eqb, not, ◌||◌, if◌then◌else◌, List, [], ◌∷◌, ◌++◌, append_assoc, append-nil, length, take, arith, bytes_eq, ◌⊎◌, inl, inr, Some, slice_get}
use Rattle.std.specs.Prelude.{unwrap_or}
use Rattle.std.specs.Borrow.{Bor}
use Rattle.std.specs.Cmp.Lexicographic.{pointwise}
use Rattle.std.specs.List.{list_any}
use Rattle.std.proofs.lemmas.List.{take-append-le, take_all, length-append}
use Rattle.std.proofs.lemmas.Slice.Eq.{bytes_eq-Decides}
use Rattle.indexmap.specs.IndexSet.{insert_key}
use Rattle.st_il.specs.Names.{Name, has_name, without, flattened}
use Rattle.st_order.specs.inner.Index.{names_in, SameNames}
use Rattle.st_order.specs.Known.{at}
use Rattle.st_modes.specs.inner.Reaching.{Entries, cited_under, all_cited, Reached, first, next, AreReached, unseen, Grows, HasWalked}
use Rattle.st_order.proofs.NamesIn.{names_in_last, has_name_in, has_name_append, keys-insert, SameNames-append}

-- ---- tests

pub or_cases : (a b : Bool) → (a || b) ≡ true → (a ≡ true) ⊎ (b ≡ true)
or_cases true b h = inl refl
or_cases false b h = inr h

pub or_left : (a b : Bool) → a ≡ true → (a || b) ≡ true
or_left a b h = ap (λ z. z || b) h

pub or_right : (a b : Bool) → b ≡ true → (a || b) ≡ true
or_right true b h = refl
or_right false b h = h

pub same_itself : (p : Name) → bytes_eq p p ≡ true
same_itself p = (bytes_eq-Decides p p).1 refl

pub has_itself : (xs : List Name) (x : Name) → has_name (x ∷ xs) x ≡ true
has_itself xs x = or_left (bytes_eq x x) (has_name xs x) (same_itself x)

pub has_one : (x q : Name) → has_name (x ∷ []) q ≡ true → q ≡ x
has_one x q h = by (or_cases (bytes_eq q x) false h)
  where
    by : (bytes_eq q x ≡ true) ⊎ (false ≡ true) → q ≡ x
    by (inl e) = (bytes_eq-Decides q x).0 e
    by (inr e) = cc

pub has_left : (xs ys : List Name) (q : Name) → has_name xs q ≡ true → has_name (xs ++ ys) q ≡ true
has_left xs ys q h = has_name_append xs ys q ∙ or_left (has_name xs q) (has_name ys q) h

pub has_right : (xs ys : List Name) (q : Name) → has_name ys q ≡ true → has_name (xs ++ ys) q ≡ true
has_right xs ys q h = has_name_append xs ys q ∙ or_right (has_name xs q) (has_name ys q) h

pub has_cases : (xs ys : List Name) (q : Name) → has_name (xs ++ ys) q ≡ true → (has_name xs q ≡ true) ⊎ (has_name ys q ≡ true)
has_cases xs ys q h = or_cases (has_name xs q) (has_name ys q) (sym (has_name_append xs ys q) ∙ h)

-- ---- how many are unseen

step_le : (b c : Bool) (x : Name) (xs ys : List Name) → (c ≡ true → b ≡ true) → length xs ≤ length ys
    → length (if not b then x ∷ xs else xs) ≤ length (if not c then x ∷ ys else ys)
step_le true true x xs ys h le = le
step_le true false x xs ys h le = omega arith
step_le false true x xs ys h le = absurd (true≢false (sym (h refl)))
step_le false false x xs ys h le = omega arith

step_lt : (b c : Bool) (x : Name) (xs ys : List Name) → (c ≡ true → b ≡ true) → length xs < length ys
    → length (if not b then x ∷ xs else xs) < length (if not c then x ∷ ys else ys)
step_lt true true x xs ys h lt = lt
step_lt true false x xs ys h lt = omega arith
step_lt false true x xs ys h lt = absurd (true≢false (sym (h refl)))
step_lt false false x xs ys h lt = omega arith

step_here : (b c : Bool) (x : Name) (xs ys : List Name) → b ≡ true → c ≡ false → length xs ≤ length ys
    → length (if not b then x ∷ xs else xs) < length (if not c then x ∷ ys else ys)
step_here true false x xs ys h g le = omega arith
step_here true true x xs ys h g le = absurd (true≢false g)
step_here false c x xs ys h g le = absurd (true≢false (sym h))

module _ (old : List Name) (name : Name) where
  abbrev more : List Name
  more = old ++ name ∷ []

  not_more : (all : List Name) → unseen more all ≤ unseen old all
  not_more [] = omega arith
  not_more (a ∷ all) =
      step_le (has_name more a) (has_name old a) a (without more all) (without old all) (has_left old (name ∷ []) a) (not_more all)

  fewer : has_name old name ≡ false → (all : List Name) → has_name all name ≡ true → unseen more all < unseen old all
  fewer none [] h = absurd (true≢false (sym h))
  fewer none (a ∷ all) h = by (or_cases (bytes_eq name a) (has_name all name) h) (fewer none all)
    where
      by : (bytes_eq name a ≡ true) ⊎ (has_name all name ≡ true) → (has_name all name ≡ true → unseen more all < unseen old all) → unseen more (a ∷ all) < unseen old (a ∷ all)
      by (inl e) deeper =
          let same : name ≡ a = (bytes_eq-Decides name a).0 e in
          step_here (has_name more a) (has_name old a) a (without more all) (without old all)
          (has_right old (name ∷ []) a (ap (has_name (name ∷ [])) (sym same) ∙ has_itself [] name))
          (ap (has_name old) (sym same) ∙ none) (not_more all)
      by (inr g) deeper =
          step_lt (has_name more a) (has_name old a) a (without more all) (without old all) (has_left old (name ∷ []) a) (deeper g)

-- ---- names are added

grows_known : (old : List Name) (name : Name) → SameNames old (old ++ name ∷ []) → Grows old (name ∷ []) old
grows_known old name same = record {
  same = same;
  kept = λ n within. refl;
  longer = omega arith;
  fresh = λ all among. omega arith;
}

grows_new : (old : List Name) (name : Name) → has_name old name ≡ false → Grows old (name ∷ []) (old ++ name ∷ [])
grows_new old name none = record {
  same = λ q. refl;
  kept = λ n within. take-append-le n old (name ∷ []) within;
  longer = let long = length-append old (name ∷ []) in omega arith;
  fresh = λ all among.
      let lost = fewer old name none all (among name (has_itself [] name)) in
      let long = length-append old (name ∷ []) in
      omega arith;
}

pub grows_by : (keys new : List (Bor (List ℕ))) (name : Bor (List ℕ)) → new ≡ insert_key (λ x y. pointwise eqb x.now y.now) keys name
    → Grows (names_in keys) (name.now ∷ []) (names_in new)
grows_by keys new name n = by (list_any (λ (y : Bor (List ℕ)). pointwise eqb name.now y.now) keys) refl
  where
    same : SameNames (names_in new) (names_in keys ++ name.now ∷ [])
    same = keys-insert keys new name n

    by : (b : Bool) → list_any (λ (y : Bor (List ℕ)). pointwise eqb name.now y.now) keys ≡ b → Grows (names_in keys) (name.now ∷ []) (names_in new)
    by true e =
        let is : names_in new ≡ names_in keys = ap names_in (n ∙ ap (λ c. if c then keys else keys ++ name ∷ []) e) in
        subst (λ z. Grows (names_in keys) (name.now ∷ []) z) (sym is) (grows_known (names_in keys) name.now (subst (λ z. SameNames z (names_in keys ++ name.now ∷ [])) is same))
    by false e =
        let is : names_in new ≡ names_in keys ++ name.now ∷ [] = ap names_in (n ∙ ap (λ c. if c then keys else keys ++ name ∷ []) e) ∙ names_in_last keys name in
        subst (λ z. Grows (names_in keys) (name.now ∷ []) z) (sym is) (grows_new (names_in keys) name.now (has_name_in keys name.now ∙ e))

pub grows_none : (old : List Name) → Grows old [] old
grows_none old = record {
  same = λ q. ap (λ z. has_name z q) (sym (append-nil old));
  kept = λ n within. refl;
  longer = omega arith;
  fresh = λ all among. omega arith;
}

pub grows_more : (old mid new some more : List Name) → Grows old some mid → Grows mid more new → Grows old (some ++ more) new
grows_more old mid new some more g h = record {
  same = λ q. h.same q ∙ SameNames-append mid (old ++ some) more g.same q ∙ ap (λ z. has_name z q) (append_assoc old some more);
  kept = λ n within. let long = g.longer in h.kept n (omega arith) ∙ g.kept n within;
  longer = let a = g.longer in let b = h.longer in omega arith;
  fresh = λ all among.
      let a = g.fresh all (λ q e. among q (has_left some more q e)) in
      let b = h.fresh all (λ q e. among q (has_right some more q e)) in
      omega arith;
}

-- the next of several names
pub grows_next : (old now new before : List (Bor (List ℕ))) (name : Bor (List ℕ)) → Grows (names_in old) (names_in before) (names_in now)
    → Grows (names_in now) (name.now ∷ []) (names_in new) → Grows (names_in old) (names_in (before ++ name ∷ [])) (names_in new)
grows_next old now new before name g h =
    subst (λ z. Grows (names_in old) z (names_in new)) (sym (names_in_last before name)) (grows_more (names_in old) (names_in now) (names_in new) (names_in before) (name.now ∷ []) g h)

-- ---- the walk

has_at : (xs : List Name) (n : ℕ) (x : Name) → slice_get xs n ≡ Some x → has_name xs x ≡ true
has_at [] n x h = cc
has_at (y ∷ ys) zero x h = let same : y ≡ x = cc in or_left (bytes_eq x y) (has_name ys x) (ap (bytes_eq x) same ∙ same_itself x)
has_at (y ∷ ys) (suc n) x h = or_right (bytes_eq x y) (has_name ys x) (has_at ys n x h)

take_next : (xs : List Name) (n : ℕ) (x : Name) → slice_get xs n ≡ Some x → take (suc n) xs ≡ take n xs ++ x ∷ []
take_next [] n x h = cc
take_next (y ∷ ys) zero x h = let same : y ≡ x = cc in ap (λ z. z ∷ []) same
take_next (y ∷ ys) (suc n) x h = ap (λ z. y ∷ z) (take_next ys n x h)

within_at : (xs : List Name) (n : ℕ) (x : Name) → slice_get xs n ≡ Some x → n < length xs
within_at [] n x h = cc
within_at (y ∷ ys) zero x h = omega arith
within_at (y ∷ ys) (suc n) x h = let more = within_at ys n x h in omega arith

module _ (start : List Name) (cited : Name → List Name) where
  begins : (names : List Name) → Grows [] start names → HasWalked start cited 0 names
  begins names g = record {
    sound = λ q h. first (sym (g.same q) ∙ h);
    begun = λ q h. g.same q ∙ h;
    closed = λ p q h e. absurd (true≢false (sym h));
    within = omega arith;
  }

  -- the first names are added to none
  pub begins_with : (keys : List (Bor (List ℕ))) (names : List Name) → keys ≡ [] → Grows (names_in keys) start names → HasWalked start cited 0 names
  begins_with keys names none g = begins names (subst (λ z. Grows (names_in z) start names) none g)

  pub goes_on : (front : ℕ) (names new : List Name) (x : Name) → HasWalked start cited front names → slice_get names front ≡ Some x → Grows names (cited x) new
      → HasWalked start cited (front + 1) new
  goes_on front names new x w is g = record {
    sound = λ q h. by_sound q (has_cases names (cited x) q (sym (g.same q) ∙ h));
    begun = λ q h. kept q (w.begun q h);
    closed = λ p q h e. by_closed p q e (has_cases (take front names) (x ∷ []) p (ap (λ z. has_name z p) (sym front_is) ∙ h));
    within = let a = within_at names front x is in let b = g.longer in omega arith;
  }
    where
      kept : (q : Name) → has_name names q ≡ true → has_name new q ≡ true
      kept q h = g.same q ∙ has_left names (cited x) q h

      by_sound : (q : Name) → (has_name names q ≡ true) ⊎ (has_name (cited x) q ≡ true) → Reached start cited q
      by_sound q (inl h) = w.sound q h
      by_sound q (inr h) = next x (w.sound x (has_at names front x is)) h

      front_is : take (front + 1) new ≡ take front names ++ x ∷ []
      front_is =
          let here = within_at names front x is in
          let one : front + 1 ≡ suc front = omega arith in
          g.kept (front + 1) (omega arith) ∙ ap (λ n. take n names) one ∙ take_next names front x is

      by_closed : (p q : Name) → has_name (cited p) q ≡ true → (has_name (take front names) p ≡ true) ⊎ (has_name (x ∷ []) p ≡ true) → has_name new q ≡ true
      by_closed p q e (inl h) = kept q (w.closed p q h e)
      by_closed p q e (inr h) = g.same q ∙ has_right names (cited x) q (ap (λ z. has_name (cited z) q) (sym (has_one x p h)) ∙ e)

  complete : (names : List Name) → HasWalked start cited (length names) names → (q : Name) → Reached start cited q → has_name names q ≡ true
  complete names w q (first h) = w.begun q h
  complete names w q (next p r h) =
      w.closed p q (ap (λ z. has_name z p) (take_all (length names) names (omega arith)) ∙ complete names w p r) h

  pub ends : (front : ℕ) (names : List Name) → HasWalked start cited front names → length names ≤ front → AreReached start cited names
  ends front names w all q =
      let is : front ≡ length names = let within = w.within in omega arith in
      (w.sound q, complete names (subst (λ n. HasWalked start cited n names) is w) q)

-- ---- that it ends

pub has_flattened : (xs : List Name) (more : List (List Name)) (q : Name) → has_name (flattened more) q ≡ true → has_name (flattened (xs ∷ more)) q ≡ true
has_flattened xs more q h = has_right xs (flattened more) q h

pub among_all : (entries : Entries) (p q : Name) → has_name (cited_under entries p) q ≡ true → has_name (all_cited entries) q ≡ true
among_all [] p q h = h
among_all (e ∷ es) p q h = by (bytes_eq p e.0.now) h (among_all es p q)
  where
    by : (b : Bool) → has_name (names_in (unwrap_or (if b then Some e.1 else at es p) [])) q ≡ true
        → (has_name (cited_under es p) q ≡ true → has_name (all_cited es) q ≡ true) → has_name (all_cited (e ∷ es)) q ≡ true
    by true g deeper = has_left (names_in e.1) (all_cited es) q g
    by false g deeper = has_right (names_in e.1) (all_cited es) q (deeper g)

-- less is left to be walked
pub walk_falls : (entries : Entries) (front : ℕ) (names new : List Name) (x : Name) → front < length names → Grows names (cited_under entries x) new
    → unseen new (all_cited entries) + (length new - (front + 1)) < unseen names (all_cited entries) + (length names - front)
walk_falls entries front names new x within g =
    let lost = g.fresh (all_cited entries) (among_all entries x) in
    let long = g.longer in
    omega arith
