-- Trees and rows of them: what they are equal in, and how they are read one by one.
use Rattle.std.proofs.Common.{◌≡◌, ℕ, zero, suc, ◌+◌, ◌<◌, ◌≤◌, List, [], ◌∷◌, ◌++◌, length, get_or, take, map, Bool, true, false, ◌&&◌, refl, sym, ap, ap₂, subst, ◌∙◌, arith, rules}
use Rattle.std.specs.List.{list_all}
use Rattle.std.proofs.lemmas.List.{map_push, take_more, take_all}
use Rattle.st_text.specs.declared.tree.TextTree as program
use Rattle.st_text.specs.declared.tree.TextTree.{List as ListTree, the_lemmas}
use Rattle.st_text.specs.Text.{TextTree, TextTrees, word, quote, list, more}
use Rattle.st_text.specs.Trees.{row_of, tree_of, trees_of}
use Rattle.st_iltext.specs.Written.{all_true}
use Rattle.st_iltext.specs.inner.Reading.{IsOf, IsOfNone, AreOf, AreOfNone}

pub first_of : {t u : TextTree} {ts us : TextTrees} → more t ts ≡ more u us → t ≡ u
first_of e = cc

pub rest_of : {t u : TextTree} {ts us : TextTrees} → more t ts ≡ more u us → ts ≡ us
rest_of e = cc

pub parts_of : {ts us : TextTrees} → list ts ≡ list us → ts ≡ us
parts_of e = cc

pub word_of : {a b : List ℕ} → word a ≡ word b → a ≡ b
word_of e = cc

pub quote_of : {a b : List ℕ} → quote a ≡ quote b → a ≡ b
quote_of e = cc

pub both : (a b : Bool) → (a && b) ≡ true → (a ≡ true) × (b ≡ true)
both true true e = (refl, refl)
both true false e = absurd (cc)
both false b e = absurd (cc)

-- ---- rows that are equal

pub rows_same : {A : Type 0} (tree : A → TextTree) (xs ys : List A) → ((x y : A) → tree x ≡ tree y → x ≡ y) → row_of (map tree xs) ≡ row_of (map tree ys) → xs ≡ ys
rows_same tree [] [] same e = refl
rows_same tree [] (y ∷ ys) same e = cc e
rows_same tree (x ∷ xs) [] same e = cc e
rows_same tree (x ∷ xs) (y ∷ ys) same e = ap₂ ◌∷◌ (same x y (first_of e)) (rows_same tree xs ys same (rest_of e))

pub tree_of-List : (ts : List program.TextTree) → tree_of (ListTree ts) ≡ list (trees_of ts)
tree_of-List ts = search (rules, the_lemmas)

pub count_map : {A B : Type 0} (f : A → B) (xs : List A) → length (map f xs) ≡ length xs
count_map f [] = refl
count_map f (x ∷ xs) = omega (arith, count_map f xs)

pub all_map : {A : Type 0} (f : A → Bool) (xs : List A) → all_true (map f xs) ≡ list_all f xs
all_map f [] = refl
all_map f (x ∷ xs) = ap (λ b. f x && b) (all_map f xs)

module _ {X : Type 0} (tree : X → TextTree) (written : X → Bool) where
  -- these are read of so many trees
  pub record SoFar (xs : List X) (trees : List program.TextTree) (n : ℕ) : Type 0 where
    pub fit : list_all written xs ≡ true
    pub are : map tree_of (take n trees) ≡ map tree xs

  pub so_far_start : (xs : List X) (trees : List program.TextTree) → xs ≡ [] → SoFar xs trees 0
  so_far_start xs trees e = subst (λ ys. SoFar ys trees 0) (sym e) (record { fit = refl; are = refl })

  all_push : (xs : List X) (x : X) → list_all written xs ≡ true → written x ≡ true → list_all written (xs ++ x ∷ []) ≡ true
  all_push [] x p q = ap (λ b. b && true) q
  all_push (y ∷ xs) x p q = ap₂ ◌&&◌ (both _ _ p).0 (all_push xs x (both _ _ p).1 q)

  pub so_far_step : (xs longer : List X) (trees : List program.TextTree) (i : ℕ) (t : program.TextTree) (x : X)
      → SoFar xs trees i → i < length trees → t ≡ get_or trees i t → IsOf tree written (tree_of t) x → longer ≡ xs ++ x ∷ [] → SoFar longer trees (i + 1)
  so_far_step xs longer trees i t x s h e f g = subst (λ ys. SoFar ys trees (i + 1)) (sym g) (record {
    fit = all_push xs x s.fit f.fits;
    are = ap (map tree_of) (take_more trees i t h) ∙ map_push tree_of (take i trees) (get_or trees i t)
        ∙ ap₂ (λ us u. us ++ u ∷ []) s.are (ap tree_of (sym e) ∙ f.is) ∙ sym (map_push tree xs x);
  })

  pub so_far_end : (xs : List X) (trees : List program.TextTree) (i : ℕ) → SoFar xs trees i → length trees ≤ i → AreOf tree written (trees_of trees) xs
  so_far_end xs trees i s h = record { fit = s.fit; are = ap row_of (ap (map tree_of) (sym (take_all i trees h)) ∙ s.are) }

  none_at : (trees : List program.TextTree) (i : ℕ) (t : program.TextTree) (xs : List X) → i < length trees → t ≡ get_or trees i t
      → IsOfNone tree written (tree_of t) → list_all written xs ≡ true → trees_of trees ≡ row_of (map tree xs) → ⊥
  none_at [] i t xs h e n p f = omega arith
  none_at (u ∷ trees) i t [] h e n p f = cc f
  none_at (u ∷ trees) zero t (x ∷ xs) h e n p f = n.never x (both _ _ p).0 (ap tree_of e ∙ first_of f)
  none_at (u ∷ trees) (suc i) t (x ∷ xs) h e n p f = none_at trees i t xs (omega arith) e n (both _ _ p).1 (rest_of f)

  pub so_far_none : (trees : List program.TextTree) (i : ℕ) (t : program.TextTree) → i < length trees → t ≡ get_or trees i t → IsOfNone tree written (tree_of t)
      → AreOfNone tree written (trees_of trees)
  so_far_none trees i t h e n = record { never = λ xs p f. none_at trees i t xs h e n p f }
