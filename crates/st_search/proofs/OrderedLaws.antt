-- Outputs in the order of their values, and others that come among them.
use Rattle.std.proofs.Common.{arith, ◌≡◌, refl, sym, ◌∙◌, ap, subst, ℕ, zero, suc, ◌+◌, ◌<◌, ◌≤◌, true, List, [], ◌∷◌, ◌++◌, length, take, drop, get_or, append_assoc, inl, inr}
use Rattle.std.specs.Prelude.{All, Contains}
use Rattle.std.specs.Ordering.{is_lt, ordering_reverse}
use Rattle.std.specs.declared.cmp.Ordering.{Ordering}
use Rattle.std.specs.declared.cmp.Ordering.TheVariants.{Less, Equal, Greater}
use Rattle.std.proofs.lemmas.List.Elements.{All-nil, All-cons, All-head, All-tail, All-append, All-take, All-drop, All-map, All-weaker, All-more, All-contains, All-contains_itself, Contains-append_left, Contains-append_right, Contains-append_cases}
use Rattle.std.proofs.lemmas.List.Kept.{AllPairs-cons}
use Rattle.st_il.specs.declared.value.Value.{Value}
use Rattle.st_il.specs.Order.{values_cmp}
use Rattle.st_il.proofs.OrderLaws.{values_cmp_order}
use Rattle.st_search.specs.declared.answer.Output.{Output}
use Rattle.st_search.specs.Answers.{AreSorted, values_in}
use Rattle.st_search.specs.inner.Ordered.{AreAdded}

abbrev IsBelow : List Value → List Value → Type 0
IsBelow a b = is_lt (values_cmp a b) ≡ true

-- the values of an output are below those of another
abbrev pub StandsBefore : Output → Output → Type 0
StandsBefore a b = is_lt (values_cmp a.values b.values) ≡ true

less_of : (o : Ordering) → is_lt o ≡ true → o ≡ Less
less_of Less e = refl
less_of Equal e = absurd (cc)
less_of Greater e = absurd (cc)

before_less : (a b : Output) → values_cmp a.values b.values ≡ Less → StandsBefore a b
before_less a b e = ap is_lt e

pub before_greater : (a b : Output) → values_cmp a.values b.values ≡ Greater → StandsBefore b a
before_greater a b e = before_less b a (values_cmp_order.total.antisymm b.values a.values ∙ ap ordering_reverse e)

pub before_trans : (a b c : Output) → StandsBefore a b → StandsBefore b c → StandsBefore a c
before_trans a b c g h = before_less a c (values_cmp_order.total.trans a.values b.values c.values (less_of (values_cmp a.values b.values) g) (less_of (values_cmp b.values c.values) h))

-- what holds of the values of all outputs
of_values : (P : List Value → Type 0) (found : List Output) → All P (values_in found) → All (λ (o : Output). P o.values) found
of_values P [] h = All-nil (λ (o : Output). P o.values)
of_values P (x ∷ xs) h = All-cons (λ (o : Output). P o.values) x xs (All-head P x.values (values_in xs) h) (of_values P xs (All-tail P x.values (values_in xs) h))

sorted_head : (x : Output) (xs : List Output) → AreSorted (x ∷ xs) → All (StandsBefore x) xs
sorted_head x xs h = of_values (IsBelow x.values) xs (λ k d within. h zero (suc k) d (omega arith) (omega arith))

sorted_tail : (x : Output) (xs : List Output) → AreSorted (x ∷ xs) → AreSorted xs
sorted_tail x xs h = λ i j d less within. h (suc i) (suc j) d (omega arith) (omega arith)

sorted_cons : (x : Output) (xs : List Output) → All (StandsBefore x) xs → AreSorted xs → AreSorted (x ∷ xs)
sorted_cons x xs above sorted = AllPairs-cons IsBelow x.values (values_in xs) (All-map (IsBelow x.values) (λ (o : Output). o.values) xs above) sorted

sorted_with : (at : ℕ) (found : List Output) (o : Output) → AreSorted found → All (λ (x : Output). StandsBefore x o) (take at found) → All (StandsBefore o) (drop at found) → AreSorted (take at found ++ o ∷ drop at found)
sorted_with zero found o sorted below above = sorted_cons o found above sorted
sorted_with (suc at) [] o sorted below above = sorted_cons o [] (All-nil (StandsBefore o)) sorted
sorted_with (suc at) (x ∷ xs) o sorted below above =
    let after = sorted_head x xs sorted in
    sorted_cons x (take at xs ++ o ∷ drop at xs)
    (All-append (StandsBefore x) (take at xs) (o ∷ drop at xs) (All-take (StandsBefore x) at xs after)
    (All-cons (StandsBefore x) o (drop at xs) (All-head (λ (y : Output). StandsBefore y o) x (take at xs) below) (All-drop (StandsBefore x) at xs after)))
    (sorted_with at xs o (sorted_tail x xs sorted) (All-tail (λ (y : Output). StandsBefore y o) x (take at xs) below) above)

-- those from a position on come behind what is below the one that stands there
above_from : (o : Output) (i : ℕ) (found : List Output) (x : Output) → AreSorted found → i < length found → x ≡ get_or found i x → StandsBefore o x → All (StandsBefore o) (drop i found)
above_from o i [] x sorted within is less = absurd (omega (arith, within))
above_from o zero (y ∷ ys) x sorted within is less =
    let first : StandsBefore o y = subst (StandsBefore o) is less in
    All-cons (StandsBefore o) y ys first (All-weaker (StandsBefore y) (StandsBefore o) (λ z h. before_trans o y z first h) ys (sorted_head y ys sorted))
above_from o (suc i) (y ∷ ys) x sorted within is less = above_from o i ys x (sorted_tail y ys sorted) (omega (arith, within)) is less

values_with : (at : ℕ) (found : List Output) (o : Output) → values_in (take at found ++ o ∷ drop at found) ≡ take at (values_in found) ++ o.values ∷ drop at (values_in found)
values_with zero found o = refl
values_with (suc at) [] o = refl
values_with (suc at) (x ∷ xs) o = ap (λ zs. x.values ∷ zs) (values_with at xs o)

parted : {A : Type 0} (at : ℕ) (xs : List A) → take at xs ++ drop at xs ≡ xs
parted zero xs = refl
parted (suc at) [] = refl
parted (suc at) (x ∷ xs) = ap (λ zs. x ∷ zs) (parted at xs)

-- an output that comes in where all before it are below it, and all behind it above
pub comes_in : (o : Output) (found : List Output) (at : ℕ) → All (λ (x : Output). StandsBefore x o) (take at found) → (AreSorted found → All (StandsBefore o) (drop at found)) → AreAdded (o ∷ []) found (take at found ++ o ∷ drop at found)
comes_in o found at below above = record {
  sorted = λ s. sorted_with at found o s below (above s);
  among = λ x h. All-contains (Contains (o ∷ found)) (take at found ++ o ∷ drop at found) x all_there h;
  kept = λ vs h. subst (λ zs. Contains zs vs) (sym (values_with at found o))
      (kept_there vs h);
}
  where
    each : All (Contains (o ∷ found)) found
    each = All-weaker (Contains found) (Contains (o ∷ found)) (λ x c. Contains-append_right (o ∷ []) found x c) found (All-contains_itself found)

    all_there : All (Contains (o ∷ found)) (take at found ++ o ∷ drop at found)
    all_there =
        All-append (Contains (o ∷ found)) (take at found) (o ∷ drop at found) (All-take (Contains (o ∷ found)) at found each)
        (All-cons (Contains (o ∷ found)) o (drop at found) (zero, omega arith, refl) (All-drop (Contains (o ∷ found)) at found each))

    front : List (List Value)
    front = take at (values_in found)

    back : List (List Value)
    back = drop at (values_in found)

    kept_there : (vs : List Value) → Contains (values_in (o ∷ found)) vs → Contains (take at (values_in found) ++ o.values ∷ drop at (values_in found)) vs
    kept_there vs h = elim (Contains-append_cases (o.values ∷ []) (values_in found) vs h) [
      | inl i ↦ Contains-append_right front (o.values ∷ back) vs (Contains-append_left (o.values ∷ []) back vs i)
      | inr i ↦ elim (Contains-append_cases front back vs (subst (λ zs. Contains zs vs) (sym (parted at (values_in found))) i)) [
        | inl j ↦ Contains-append_left front (o.values ∷ back) vs j
        | inr j ↦ Contains-append_right front (o.values ∷ back) vs (Contains-append_right (o.values ∷ []) back vs j)
      ]
    ]

-- an output stays away where one with its values is there
stays_away : (o : Output) (found : List Output) (i : ℕ) (x : Output) → i < length found → x ≡ get_or found i x → o.values ≡ x.values → AreAdded (o ∷ []) found found
stays_away o found i x within is same = record {
  sorted = λ s. s;
  among = λ x h. Contains-append_right (o ∷ []) found x h;
  kept = λ vs h. elim (Contains-append_cases (o.values ∷ []) (values_in found) vs h) [
    | inl j ↦ subst (Contains (values_in found)) (sym (only vs j)) there
    | inr j ↦ j
  ];
}
  where
    only : (vs : List Value) → Contains (o.values ∷ []) vs → vs ≡ o.values
    only vs j = All-contains (λ (z : List Value). z ≡ o.values) (o.values ∷ []) vs (All-cons (λ (z : List Value). z ≡ o.values) o.values [] refl (All-nil (λ (z : List Value). z ≡ o.values))) j

    equal : (get_or found i x).values ≡ o.values
    equal = ap (λ (z : Output). z.values) (sym is) ∙ sym same

    there : Contains (values_in found) o.values
    there = subst (Contains (values_in found)) equal (of_values (Contains (values_in found)) found (All-contains_itself (values_in found)) i x within)

-- ---- positions, where the values of an output are compared with those of the one at a number

module _ (o : Output) (found : List Output) (i : ℕ) (x : Output) (as' bs : List Value) (within : i < length found) (is : x ≡ get_or found i x) (ours : as' ≡ o.values) (theirs : bs ≡ x.values) where
  compared : (order : Ordering) → order ≡ values_cmp as' bs → values_cmp o.values x.values ≡ order
  compared order e = sym (e ∙ ap (λ z. values_cmp z bs) ours ∙ ap (values_cmp o.values) theirs)

  pub less_there : Less ≡ values_cmp as' bs → All (λ (y : Output). StandsBefore y o) (take i found) → (i ≤ length found) × AreAdded (o ∷ []) found (take i found ++ o ∷ drop i found)
  less_there e below = (omega (arith, within), comes_in o found i below (λ sorted. above_from o i found x sorted within is (before_less o x (compared Less e))))

  pub equal_there : Equal ≡ values_cmp as' bs → AreAdded (o ∷ []) found found
  equal_there e = stays_away o found i x within is ((values_cmp_order.equal o.values x.values).0 (compared Equal e))

  pub greater_there : Greater ≡ values_cmp as' bs → All (λ (y : Output). StandsBefore y o) (take i found) → All (λ (y : Output). StandsBefore y o) (take (i + 1) found)
  greater_there e below = All-more (λ (y : Output). StandsBefore y o) found i x within below (subst (λ z. StandsBefore z o) is (before_greater o x (compared Greater e)))

-- behind all others
pub at_last : (o : Output) (found : List Output) → All (λ (y : Output). StandsBefore y o) (take (length found) found) → (length found ≤ length found) × AreAdded (o ∷ []) found (take (length found) found ++ o ∷ drop (length found) found)
at_last o found below = (omega arith, comes_in o found (length found) below (λ sorted. subst (All (StandsBefore o)) (sym (drop_all found)) (All-nil (StandsBefore o))))
  where
    drop_all : (xs : List Output) → drop (length xs) xs ≡ []
    drop_all [] = refl
    drop_all (x ∷ xs) = drop_all xs

pub added_none : (found : List Output) → AreAdded [] found found
added_none found = record { sorted = λ s. s; among = λ o h. h; kept = λ vs h. h }

-- one more after others
pub added_more : (o : Output) (xs a b c : List Output) → AreAdded xs a b → AreAdded (o ∷ []) b c → AreAdded (o ∷ xs) a c
added_more o xs a b c f g = record {
  sorted = λ s. g.sorted (f.sorted s);
  among = λ x h. elim (Contains-append_cases (o ∷ []) b x (g.among x h)) [
    | inl i ↦ Contains-append_left (o ∷ []) (xs ++ a) x i
    | inr i ↦ Contains-append_right (o ∷ []) (xs ++ a) x (f.among x i)
  ];
  kept = λ vs h. elim (Contains-append_cases (o.values ∷ []) (values_in (xs ++ a)) vs h) [
    | inl i ↦ g.kept vs (Contains-append_left (o.values ∷ []) (values_in b) vs i)
    | inr i ↦ g.kept vs (Contains-append_right (o.values ∷ []) (values_in b) vs (f.kept vs i))
  ];
}

-- the last of some is added to those behind it
pub added_step : (o : Output) (all others ys done a b c : List Output) → all ≡ others ++ done → others ≡ ys ++ o ∷ [] → AreAdded done a b → AreAdded (o ∷ []) b c → (more : List Output) × (all ≡ ys ++ more) × AreAdded more a c
added_step o all others ys done a b c split last f g = (o ∷ done, split ∙ ap (λ z. z ++ done) last ∙ append_assoc ys (o ∷ []) done, added_more o done a b c f g)
