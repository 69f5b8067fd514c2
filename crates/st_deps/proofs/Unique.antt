-- There is at most one list of groups.
use Rattle.std.proofs.Common.{◌≡◌, ◌↔◌, ◌⊎◌, inl, inr, refl, sym, ap, ◌∙◌, subst, List, [], ◌∷◌, ◌++◌, Bool, true, false, Contains, append_assoc}
use Rattle.std.proofs.lemmas.List.{append-nil}
use Rattle.std.proofs.lemmas.List.Elements.{Contains-append_left, Contains-append_right, Contains-push, filter_agree}
use Rattle.st_graph.specs.Reaches.{Reaches}
use Rattle.st_deps.specs.Groups.{IsGroup, IsNext, AreGroups, in_groups}

-- two tests that hold of the same are the same
tests-agree : (a b : Bool) (P : Type 0) → (a ≡ true) ↔ P → (b ≡ true) ↔ P → a ≡ b
tests-agree true true P h g = refl
tests-agree true false P h g = sym (g.1 (h.0 refl))
tests-agree false true P h g = h.1 (g.0 refl)
tests-agree false false P h g = refl

module _ {A : Type 0} where
  -- the element behind a front stands in the list
  Contains-middle : (early : List A) (x : A) (others : List A) → Contains (early ++ x ∷ others) x
  Contains-middle early x others =
      subst (λ xs. Contains xs x) (append_assoc early (x ∷ []) others) (Contains-append_left (early ++ x ∷ []) others x (Contains-push early x))

  Contains-cons : (y : A) (xs : List A) (x : A) → Contains xs x → Contains (y ∷ xs) x
  Contains-cons y xs x h = Contains-append_right (y ∷ []) xs x h

  Contains-head : (x : A) (xs : List A) → Contains (x ∷ xs) x
  Contains-head x xs = Contains-middle [] x xs

  -- of two places in one list, one is in front of the other, or both have the same
  splits-compare : (e f o : List A) (x y : A) (more : List A) → e ++ x ∷ o ≡ f ++ y ∷ more → Contains f x ⊎ Contains e y ⊎ (x ≡ y)
  splits-compare [] [] o x y more h = inr (inr (cc))
  splits-compare [] (z ∷ f) o x y more h =
      let same : z ≡ x = cc in inl (subst (Contains (z ∷ f)) same (Contains-head z f))
  splits-compare (z ∷ e) [] o x y more h =
      let same : z ≡ y = cc in inr (inl (subst (Contains (z ∷ e)) same (Contains-head z e)))
  splits-compare (z ∷ e) (w ∷ f) o x y more h =
      let rest : e ++ x ∷ o ≡ f ++ y ∷ more = cc in by (splits-compare e f o x y more rest)
    where
      by : Contains f x ⊎ Contains e y ⊎ (x ≡ y) → Contains (w ∷ f) x ⊎ Contains (z ∷ e) y ⊎ (x ≡ y)
      by (inl g) = inl (Contains-cons w f x g)
      by (inr (inl g)) = inr (inl (Contains-cons z e y g))
      by (inr (inr same)) = inr (inr same)

module _ {A : Type 0} (Cites : A → A → Type 0) (all : List A) where
  group-unique : (x y : A) (one other : List A) → x ≡ y → IsGroup Cites all x one → IsGroup Cites all y other → one ≡ other
  group-unique x y one other same g h =
      g.in_order
      ∙ filter_agree g.among h.among (λ z. tests-agree (g.among z) (h.among z) (Reaches Cites x z × Reaches Cites z x) (g.mutual_ones z) (subst (λ w. (h.among z ≡ true) ↔ (Reaches Cites w z × Reaches Cites z w)) (sym same) (h.mutual_ones z))) all
      ∙ sym h.in_order

  next-unique : (listed one other : List A) → IsNext Cites all listed one → IsNext Cites all listed other → one ≡ other
  next-unique listed one other n m = by (splits-compare n.early m.early n.others n.first m.first m.others (sym n.splits ∙ m.splits))
    where
      by : Contains m.early n.first ⊎ Contains n.early m.first ⊎ (n.first ≡ m.first) → one ≡ other
      by (inl h) = absurd (m.no_earlier n.first one h n.is_new n.is_group n.is_ready)
      by (inr (inl h)) = absurd (n.no_earlier m.first other h m.is_new m.is_group m.is_ready)
      by (inr (inr same)) = group-unique n.first m.first one other same n.is_group m.is_group

  -- where all is listed, there is no next group
  none-next : (groups : List (List A)) (group : List A) → ((x : A) → Contains all x → Contains (in_groups Cites all groups) x) → IsNext Cites all (in_groups Cites all groups) group → ⊥
  none-next groups group whole n =
      n.is_new (whole n.first (subst (λ xs. Contains xs n.first) (sym n.splits) (Contains-middle n.early n.first n.others)))

  rest-unique : (before one other : List (List A)) → AreGroups Cites all (before ++ one) → AreGroups Cites all (before ++ other) → one ≡ other
  rest-unique before [] [] g h = refl
  rest-unique before [] (y ∷ other) g h =
      absurd (none-next before y (subst (λ gs. (x : A) → Contains all x → Contains (in_groups Cites all gs) x) (append-nil before) g.whole) (h.each before other y refl))
  rest-unique before (x ∷ one) [] g h =
      absurd (none-next before x (subst (λ gs. (z : A) → Contains all z → Contains (in_groups Cites all gs) z) (append-nil before) h.whole) (g.each before one x refl))
  rest-unique before (x ∷ one) (y ∷ other) g h =
      let same : x ≡ y = next-unique (in_groups Cites all before) x y (g.each before one x refl) (h.each before other y refl) in
      let left : AreGroups Cites all ((before ++ x ∷ []) ++ one) = subst (AreGroups Cites all) (sym (append_assoc before (x ∷ []) one)) g in
      let right : AreGroups Cites all ((before ++ x ∷ []) ++ other) = subst (AreGroups Cites all) (ap (λ z. before ++ z ∷ other) (sym same) ∙ sym (append_assoc before (x ∷ []) other)) h in
      let rest : one ≡ other = rest-unique (before ++ x ∷ []) one other left right in
      ap (λ z. z ∷ one) same ∙ ap (λ zs. y ∷ zs) rest

  pub groups_unique : (one other : List (List A)) → AreGroups Cites all one → AreGroups Cites all other → one ≡ other
  groups_unique one other g h = rest-unique [] one other g h
