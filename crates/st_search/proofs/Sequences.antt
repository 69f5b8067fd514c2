-- Elements one after another: what each of them comes to, and the one of them that stops.
use Rattle.std.proofs.Common.{arith, ◌≡◌, refl, sym, ◌∙◌, ap, subst, ℕ, zero, suc, ◌+◌, ◌<◌, ◌≤◌, List, [], ◌∷◌, ◌++◌, length, take, drop, get_or, append_assoc, append-nil, add-one, drop-cons, inl, inr, Result, Ok, IfOk, IfErr}
use Rattle.std.specs.List.{AllZip}
use Rattle.std.specs.Result.{IsErrAnd}
use Rattle.std.proofs.lemmas.Result.{err_from_is_err_and}
use Rattle.std.proofs.lemmas.List.{take_more}
use Rattle.st_il.specs.declared.definition.Il.{Il}
use Rattle.st_search.specs.declared.stop.Stop.{Stop}
use Rattle.st_search.specs.declared.stop.Stop.TheVariants as stop
use Rattle.st_search.specs.inner.Lists.{Exists, EachComesTo}
use Rattle.st_search.specs.inner.Sought.{Sought, Stops, StopsIf, sought_from}

module _ {A : Type 0} where
  pub take_step : (xs : List A) (i : ℕ) (x : A) → i < length xs → x ≡ get_or xs i x → take (i + 1) xs ≡ take i xs ++ x ∷ []
  take_step xs i x h is = take_more xs i x h ∙ ap (λ z. take i xs ++ z ∷ []) (sym is)

  pub drop_step : (xs : List A) (i : ℕ) (x : A) → i < length xs → x ≡ get_or xs i x → drop i xs ≡ x ∷ drop (i + 1) xs
  drop_step xs i x h is = drop-cons xs i x h ∙ (ap (λ z. z ∷ drop (suc i) xs) (sym is) ∙ ap (λ n. x ∷ drop n xs) (sym (add-one i)))

  pub take_whole : (xs : List A) (i : ℕ) → length xs ≤ i → take i xs ≡ xs
  take_whole [] zero h = refl
  take_whole [] (suc i) h = refl
  take_whole (x ∷ xs) zero h = absurd (omega (arith, h))
  take_whole (x ∷ xs) (suc i) h = ap (λ zs. x ∷ zs) (take_whole xs i (omega (arith, h)))

  pub drop_whole : (xs : List A) (i : ℕ) → length xs ≤ i → drop i xs ≡ []
  drop_whole [] zero h = refl
  drop_whole [] (suc i) h = refl
  drop_whole (x ∷ xs) zero h = absurd (omega (arith, h))
  drop_whole (x ∷ xs) (suc i) h = drop_whole xs i (omega (arith, h))

  -- ---- one of them

  pub Exists-at : (P : A → Type 0) (xs : List A) (i : ℕ) (x : A) → i < length xs → x ≡ get_or xs i x → P x → Exists P xs
  Exists-at P [] i x h is p = absurd (omega (arith, h))
  Exists-at P (y ∷ ys) zero x h is p = inl (subst P is p)
  Exists-at P (y ∷ ys) (suc i) x h is p = inr (Exists-at P ys i x (omega (arith, h)) is p)

  -- what stops at one of them
  pub StopsIf-at : (P : A → Type 0) (xs : List A) (i : ℕ) (x : A) → i < length xs → x ≡ get_or xs i x → (s : Stop) → StopsIf (P x) s → StopsIf (Exists P xs) s
  StopsIf-at P xs i x h is stop.Meets p = Exists-at P xs i x h is p
  StopsIf-at P xs i x h is (stop.Asks chain) p = absurd p
  StopsIf-at P xs i x h is stop.Memory p = tt

module _ {A B : Type 0} (R : A → B → Type 0) where
  pub AllZip-last : (xs : List A) (ys : List B) (x : A) (y : B) → AllZip R xs ys → R x y → AllZip R (xs ++ x ∷ []) (ys ++ y ∷ [])
  AllZip-last [] [] x y all r = (r, tt)
  AllZip-last [] (b ∷ bs) x y all r = absurd all
  AllZip-last (a ∷ as') [] x y all r = absurd all
  AllZip-last (a ∷ as') (b ∷ bs) x y all r = (all.0, AllZip-last as' bs x y all.1 r)

  pub AllZip-step : (xs : List A) (i : ℕ) (x : A) (ys : List B) (y : B) → i < length xs → x ≡ get_or xs i x → AllZip R (take i xs) ys → R x y → AllZip R (take (i + 1) xs) (ys ++ y ∷ [])
  AllZip-step xs i x ys y h is all r = subst (λ z. AllZip R z (ys ++ y ∷ [])) (sym (take_step xs i x h is)) (AllZip-last (take i xs) ys x y all r)

  pub AllZip-at : (xs : List A) (ys : List B) (i : ℕ) (x : A) (y : B) → AllZip R xs ys → i < length xs → x ≡ get_or xs i x → i < length ys → y ≡ get_or ys i y → R x y
  AllZip-at [] ys i x y all h is k js = absurd (omega (arith, h))
  AllZip-at (a ∷ as') [] i x y all h is k js = absurd (omega (arith, k))
  AllZip-at (a ∷ as') (b ∷ bs) zero x y all h is k js = subst (λ z. R z y) (sym is) (subst (R a) (sym js) all.0)
  AllZip-at (a ∷ as') (b ∷ bs) (suc i) x y all h is k js = AllZip-at as' bs i x y all.1 (omega (arith, h)) is (omega (arith, k)) js

  pub AllZip-long : (xs : List A) (ys : List B) → AllZip R xs ys → length xs ≡ length ys
  AllZip-long [] [] all = refl
  AllZip-long [] (b ∷ bs) all = absurd all
  AllZip-long (a ∷ as') [] all = absurd all
  AllZip-long (a ∷ as') (b ∷ bs) all = ap suc (AllZip-long as' bs all.1)

-- ---- what each comes to

module _ {A B : Type 0} (R : A → List B → Type 0) where
  comes_last : (xs : List A) (x : A) (found more : List B) → EachComesTo R xs found → R x more → EachComesTo R (xs ++ x ∷ []) (found ++ more)
  comes_last [] x found more none r = (more, [], r, refl, ap (λ z. z ++ more) none ∙ sym (append-nil more))
  comes_last (y ∷ ys) x found more h r =
      (h.0, h.1 ++ more, h.2, comes_last ys x h.1 more h.3 r, ap (λ z. z ++ more) h.4 ∙ append_assoc h.0 h.1 more)

  -- one more of them
  pub comes_step : (xs : List A) (i : ℕ) (x : A) (found more : List B) → i < length xs → x ≡ get_or xs i x → EachComesTo R (take i xs) found → R x more → EachComesTo R (take (i + 1) xs) (found ++ more)
  comes_step xs i x found more h is all r = subst (λ z. EachComesTo R z (found ++ more)) (sym (take_step xs i x h is)) (comes_last (take i xs) x found more all r)

  -- all of them
  pub comes_all : (xs : List A) (i : ℕ) (found : List B) → length xs ≤ i → EachComesTo R (take i xs) found → EachComesTo R xs found
  comes_all xs i found h all = subst (λ z. EachComesTo R z found) (take_whole xs i h) all

-- what stops at one source stops at all
pub Stops-at : (il : Il) (n left : ℕ) {S X Y : Type 0} (q : S → Sought X Y) (sources : List S) (i : ℕ) (z : S) → i < length sources → z ≡ get_or sources i z → (s : Stop) → Stops il n left (q z) s → Stops il n left (sought_from q sources) s
Stops-at il n left q sources i z h is stop.Meets stops = Exists-at (λ z. (q z).Deep) sources i z h is stops
Stops-at il n left q sources i z h is (stop.Asks chain) stops = (stops.0, Exists-at (λ z. (q z).Asked stops.0) sources i z h is stops.1, stops.2, stops.3)
Stops-at il n left q sources i z h is stop.Memory stops = tt

-- what stops a call stops the caller
pub stops_again : {T : Type 0} (P : Type 0) (r : Result T Stop) (s : Stop) → IsErrAnd r (λ (y : Stop). y ≡ s) → StopsIf P s → IfErr r (StopsIf P)
stops_again P r s h stops = let p = err_from_is_err_and r h in subst (λ z. IfErr z (StopsIf P)) (sym p.1) (subst (StopsIf P) (sym p.2) stops)

-- what ends a call ends the caller, by what becomes of it
pub ends_by : {T E : Type 0} (Q P : E → Type 0) (r : Result T E) → IsErrAnd r Q → ((y : E) → Q y → P y) → IfErr r P
ends_by Q P r h f = let w = err_from_is_err_and r h in subst (λ z. IfErr z P) (sym w.1) (f w.0 w.2)

pub ends_again : {T E : Type 0} (P : E → Type 0) (r : Result T E) (s : E) → IsErrAnd r (λ (y : E). y ≡ s) → P s → IfErr r P
ends_again P r s h p = ends_by (λ y. y ≡ s) P r h (λ y is. subst P (sym is) p)

-- what is so of each value of a call is so of the one that it returned
pub ok_again : {T E : Type 0} (P : T → Type 0) (r : Result T E) (x : T) → r ≡ Ok x → IfOk r P → P x
ok_again P r x is h = subst (λ z. IfOk z P) is h
