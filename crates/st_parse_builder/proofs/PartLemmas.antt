-- What is built of parts, by heights.
use Rattle.std.proofs.Common.{arith, ◌≡◌, ℕ, ◌+◌, ◌≤◌, ◌<◌, ◌⊎◌, inl, inr, max, Bool, true, false, Option, Some, None, refl, sym, ap, ◌∙◌, if◌then◌else◌}
use Rattle.std.specs.Prelude.{nat_le}
use Rattle.std.specs.Option.{option_map}
use Rattle.st_parse_builder.specs.declared.built.Built.{Built}
use Rattle.st_parse_builder.specs.inner.Parts.{capped, above, kept, built, over, raised, both_trees, both, read_tree, read_known, made_or}

-- ---- heights

pub above_high : (n : ℕ) → 100 < n → 101 ≡ above n
unfolding above
above_high n h = omega (arith, h)

pub above_low : (n : ℕ) → n ≤ 100 → n + 1 ≡ above n
unfolding above
above_low n h = omega (arith, h)

pub above_capped : (n : ℕ) → above (capped n) ≡ capped (n + 1)
unfolding above
above_capped n = omega arith

is_low : (m n : ℕ) → m ≤ n → nat_le m n ≡ true
is_low m n h = grind arith

is_high : (m n : ℕ) → n < m → nat_le m n ≡ false
is_high m n h = grind arith

low_or_high : (m n : ℕ) → (m ≤ n) ⊎ (n < m)
low_or_high m n = go (nat_le m n) refl
  where
    go : (b : Bool) → nat_le m n ≡ b → (m ≤ n) ⊎ (n < m)
    go true e = inl (grind arith)
    go false e = inr (grind arith)

-- ---- trees

pub kept_low : {A : Type 0} (n : ℕ) (tree : Option A) → n ≤ 100 → tree ≡ kept n tree
unfolding kept
kept_low n tree h = ap (λ b. if b then tree else None) (sym (is_low n 100 h))

pub kept_high : {A : Type 0} (n : ℕ) (tree : Option A) → 100 < n → None ≡ kept n tree
unfolding kept
kept_high n tree h = ap (λ b. if b then tree else None) (sym (is_high n 100 h))

-- by whether the tree is kept
pub by_height : {A : Type 0} (n : ℕ) (tree : Option A) {P : Type 0} → (n ≤ 100 → kept n tree ≡ tree → P) → (100 < n → kept n tree ≡ None → P) → P
by_height n tree {P} low high = go (low_or_high n 100)
  where
    go : (n ≤ 100) ⊎ (100 < n) → P
    go (inl h) = low h (sym (kept_low n tree h))
    go (inr h) = high h (sym (kept_high n tree h))

kept_over : {A B : Type 0} (f : A → B) (n : ℕ) (a : A) → option_map f (kept n (Some a)) ≡ kept n (Some (f a))
kept_over f n a =
    by_height n (Some a)
    (λ h e. ap (option_map f) e ∙ kept_low n (Some (f a)) h)
    (λ h e. ap (option_map f) e ∙ kept_high n (Some (f a)) h)

kept_raised : {A : Type 0} (n : ℕ) (a : A) → kept (capped (n + 1)) (kept n (Some a)) ≡ kept (n + 1) (Some a)
kept_raised n a =
    by_height (n + 1) (Some a)
    (λ h e. sym (kept_low (capped (n + 1)) (kept n (Some a)) (omega (arith, h))) ∙ sym (kept_low n (Some a) (omega (arith, h))) ∙ sym e)
    (λ h e. sym (kept_high (capped (n + 1)) (kept n (Some a)) (omega (arith, h))) ∙ sym e)

kept_both : {A B : Type 0} (m n : ℕ) (a : A) (b : B) → both_trees (kept m (Some a)) (kept n (Some b)) ≡ kept (max m n) (Some (a, b))
kept_both m n a b =
    by_height m (Some a)
    (λ h e. by_height n (Some b)
    (λ i f. ap (λ t. both_trees t (kept n (Some b))) e ∙ ap (both_trees (Some a)) f ∙ kept_low (max m n) (Some (a, b)) (omega (arith, h, i)))
    (λ i f. ap (λ t. both_trees t (kept n (Some b))) e ∙ ap (both_trees (Some a)) f ∙ kept_high (max m n) (Some (a, b)) (omega (arith, h, i))))
    (λ h e. ap (λ t. both_trees t (kept n (Some b))) e ∙ kept_high (max m n) (Some (a, b)) (omega (arith, h)))

-- ---- parts

-- the parts with a tree, a height and a place
abbrev pub part : {A : Type 0} → ℕ → Option A → ℕ → Built A
part from tree height = record { tree = tree; height = height; from = from }

pub over_built : {A B : Type 0} (f : A → B) (from n : ℕ) (a : A) → over f (built from n a) ≡ built from n (f a)
unfolding built
over_built f from n a = ap (λ t. part from t (capped n)) (kept_over f n a)

pub raised_built : {A : Type 0} (from n : ℕ) (a : A) → raised (built from n a) ≡ built from (n + 1) a
unfolding built
raised_built from n a =
    ap (λ h. part from (kept h (kept n (Some a))) h) (above_capped n)
    ∙ ap (λ t. part from t (capped (n + 1))) (kept_raised n a)

pub both_built : {A B : Type 0} (from other m n : ℕ) (a : A) (b : B) → both (built from m a) (built other n b) ≡ built from (max m n) (a, b)
unfolding built
both_built from other m n a b =
    let tall : max (capped m) (capped n) ≡ capped (max m n) = omega arith in
    ap (λ t. part from t (max (capped m) (capped n))) (kept_both m n a b)
    ∙ ap (part from (kept (max m n) (Some (a, b)))) tall

pub read_built : {A P : Type 0} (g : P → Option A) (from n : ℕ) (p : P) (a : A) → g p ≡ Some a
    → read_tree g (built from n p).tree (built from n p).height (built from n p).from ≡ Some (built from n a)
unfolding built
read_built g from n p a e =
    by_height n (Some p)
    (λ h i. ap (λ t. read_tree g t (capped n) from) i ∙ ap (option_map (λ b. part from (Some b) (capped n))) e ∙ ap (λ t. Some (part from t (capped n))) (kept_low n (Some a) h))
    (λ h i. ap (λ t. read_tree g t (capped n) from) i ∙ ap (λ t. Some (part from t (capped n))) (kept_high n (Some a) h))

pub known_built : {A P : Type 0} (g : P → Option A) (from n : ℕ) (p : P) → n ≤ 100 → read_known g (built from n p).tree ≡ g p
unfolding built
known_built g from n p h = ap (read_known g) (sym (kept_low n (Some p) h))

-- the tree of a part that is low
pub tree_built : {A : Type 0} (from n : ℕ) (a : A) → n ≤ 100 → (built from n a).tree ≡ Some a
unfolding built
tree_built from n a h = sym (kept_low n (Some a) h)

-- the tree of a part, by whether it is kept
pub by_tree : {A : Type 0} (from n : ℕ) (a : A) {P : Type 0} → (n ≤ 100 → (built from n a).tree ≡ Some a → P) → (100 < n → (built from n a).tree ≡ None → P) → P
unfolding built
by_tree from n a low high = by_height n (Some a) low high

-- a part that begins
pub begun_built : {A : Type 0} (from n : ℕ) (a : A) → n ≤ 100 → part from (Some a) n ≡ built from n a
unfolding built
begun_built from n a h =
    let same : n ≡ capped n = omega (arith, h) in
    ap (part from (Some a)) same ∙ ap (λ t. part from t (capped n)) (kept_low n (Some a) h)

-- a part that is too high has no tree
pub untold_built : {A : Type 0} (from n : ℕ) (a : A) → 100 < n → part from None 101 ≡ built from n a
unfolding built
untold_built from n a h =
    let same : 101 ≡ capped n = omega (arith, h) in
    ap (part from None) same ∙ ap (λ t. part from t (capped n)) (kept_high n (Some a) h)

pub from_built : {A : Type 0} (from n : ℕ) (a : A) → (built from n a).from ≡ from
unfolding built
from_built from n a = refl

-- a part that begins elsewhere
pub moved_built : {A B : Type 0} (from other m n : ℕ) (b : B) (a : A) → part (built other m b).from (built from n a).tree (built from n a).height ≡ built other n a
unfolding built
moved_built from other m n b a = refl

-- the part of another tree that is as high
pub as_part : {A B : Type 0} (from n : ℕ) (b : B) (a : A) → n ≤ 100 → part (built from n b).from (Some a) (built from n b).height ≡ built from n a
unfolding built
as_part from n b a h = ap (λ t. part from t (capped n)) (kept_low n (Some a) h)

-- two that are too high are the same
pub high_part : {A B : Type 0} (from m n : ℕ) (b : B) (a : A) → 100 < m → 100 < n → part (built from m b).from None (built from m b).height ≡ built from n a
unfolding built
high_part from m n b a h i =
    let same : capped m ≡ capped n = omega (arith, h, i) in
    ap (part from None) same ∙ ap (λ t. part from t (capped n)) (kept_high n (Some a) i)

pub both_high : {A : Type 0} (from m n : ℕ) (a : A) → 100 < m → 100 < n → built from m a ≡ built from n a
unfolding built
both_high from m n a h i =
    let same : capped m ≡ capped n = omega (arith, h, i) in
    ap (λ t. part from t (capped m)) (sym (kept_high m (Some a) h) ∙ kept_high n (Some a) i) ∙ ap (part from (kept n (Some a))) same

-- ---- a notation that may be an alias

pub open_part : {A B : Type 0} (from n : ℕ) (b : B) (a : A) → n ≤ 100 → part (built from n b).from (Some a) (above (built from n b).height) ≡ part from (kept n (Some a)) (capped (n + 1))
unfolding built
open_part from n b a h = ap (λ t. part from t (above (capped n))) (kept_low n (Some a) h) ∙ ap (part from (kept n (Some a))) (above_capped n)

pub shut_part : {A B : Type 0} (from n : ℕ) (b : B) (a : A) → 100 < n → part (built from n b).from None (built from n b).height ≡ part from (kept n (Some a)) (capped (n + 1))
unfolding built
shut_part from n b a h =
    let same : capped n ≡ capped (n + 1) = omega (arith, h) in
    ap (λ t. part from t (capped n)) (kept_high n (Some a) h) ∙ ap (part from (kept n (Some a))) same

pub whole_part : {A B : Type 0} (from n : ℕ) (b : B) (a : A) → n ≤ 100 → part (built from n b).from (Some a) (built from n b).height ≡ part from (kept n (Some a)) (capped n)
unfolding built
whole_part from n b a h = ap (λ t. part from t (capped n)) (kept_low n (Some a) h)

pub none_part : {A B : Type 0} (from n : ℕ) (b : B) (a : A) → 100 < n → part (built from n b).from None (built from n b).height ≡ part from (kept n (Some a)) (capped n)
unfolding built
none_part from n b a h = ap (λ t. part from t (capped n)) (kept_high n (Some a) h)

pub tree_kept : {A : Type 0} (from n : ℕ) (a : A) → (built from n a).tree ≡ kept n (Some a)
unfolding built
tree_kept from n a = refl

-- ---- what is made, and else another part

pub given : {A : Type 0} {o : Option A} (other : A) {made a : A} → made ≡ made_or o other → o ≡ Some a → made ≡ a
given other h e = h ∙ ap (λ p. made_or p other) e
