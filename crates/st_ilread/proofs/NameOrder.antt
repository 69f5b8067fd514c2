-- Names in byte order, one behind another.
use Rattle.std.proofs.Common.{◌≡◌, ℕ, ◌+◌, ◌<◌, ◌≤◌, List, [], ◌∷◌, length, drop, get_or, map, Bool, true, false, ◌&&◌, refl, sym, ap, ◌∙◌}
use Rattle.std.specs.Ordering.{is_le}
use Rattle.std.proofs.lemmas.List.{at_drop_more, drop_all}
use Rattle.st_il.specs.Order.{text_cmp}
use Rattle.st_il.specs.declared.definition.Listed.{Listed}
use Rattle.st_text.specs.Text.{TextTree, TextTrees, quote, list}
use Rattle.st_iltext.specs.Expressions.{names}
use Rattle.st_iltext.specs.Written.{follow, are_in_order, name_of}
use Rattle.st_iltext.specs.inner.Reading.{IsOf, IsOfNone, AreOf, AreOfNone}
use Rattle.st_iltext.proofs.Rows.{parts_of}
use Rattle.st_iltext.proofs.ExpSame.{names_same}
use Rattle.st_ilread.specs.inner.Parts.{any}
use Rattle.st_ilread.proofs.Passed.{all_any, no_true}

drop_step : {X : Type 0} (xs : List X) (i : ℕ) (x : X) → i < length xs → x ≡ get_or xs i x → drop i xs ≡ x ∷ drop (i + 1) xs
drop_step {X} xs i x h e = at_drop_more (λ (ys : List X). ys) xs i x h ∙ ap (λ y. y ∷ drop (i + 1) xs) (sym e)

module _ {X : Type 0} (name : X → List ℕ) where
  -- the names from this one on stand in order exactly where all of them do
  pub follow_step : (first before : List ℕ) (xs : List X) (i : ℕ) (x : X) (test : Bool)
      → follow first (map name xs) ≡ follow before (map name (drop i xs)) → i < length xs → x ≡ get_or xs i x → test ≡ is_le (text_cmp before (name x)) → test ≡ true
      → follow first (map name xs) ≡ follow (name x) (map name (drop (i + 1) xs))
  follow_step first before xs i x test kept h e told holds =
      kept ∙ ap (λ ys. follow before (map name ys)) (drop_step xs i x h e) ∙ ap (λ b. b && follow (name x) (map name (drop (i + 1) xs))) (sym told ∙ holds)

  pub follow_fails : (first before : List ℕ) (xs : List X) (i : ℕ) (x : X) (test : Bool)
      → follow first (map name xs) ≡ follow before (map name (drop i xs)) → i < length xs → x ≡ get_or xs i x → test ≡ is_le (text_cmp before (name x)) → test ≡ false
      → false ≡ follow first (map name xs)
  follow_fails first before xs i x test kept h e told fails =
      sym (kept ∙ ap (λ ys. follow before (map name ys)) (drop_step xs i x h e) ∙ ap (λ b. b && follow (name x) (map name (drop (i + 1) xs))) (sym told ∙ fails))

  pub follow_end : (first before : List ℕ) (xs : List X) (i : ℕ) → follow first (map name xs) ≡ follow before (map name (drop i xs)) → length xs ≤ i → true ≡ follow first (map name xs)
  follow_end first before xs i kept h = sym (kept ∙ ap (λ ys. follow before (map name ys)) (drop_all i xs h))

same_names : (xs : List (List ℕ)) → map (λ x. x) xs ≡ xs
same_names [] = refl
same_names (x ∷ xs) = ap (λ ys. x ∷ ys) (same_names xs)

pub ordered_names : (b : Bool) (xs others : List (List ℕ)) (x : List ℕ) → xs ≡ x ∷ others → b ≡ follow x (map (λ y. y) others) → b ≡ are_in_order xs
ordered_names b xs others x e f = f ∙ ap (follow x) (same_names others) ∙ sym (ap are_in_order e)

pub ordered_variables : (b : Bool) (xs others : List Listed) (x : Listed) → xs ≡ x ∷ others → b ≡ follow (name_of x) (map name_of others) → b ≡ are_in_order (map name_of xs)
ordered_variables b xs others x e f = f ∙ sym (ap (λ (ys : List Listed). are_in_order (map name_of ys)) e)

-- ---- lists of names

pub names_none : (t : TextTree) (ts : TextTrees) → t ≡ list ts → AreOfNone quote any ts → IsOfNone names are_in_order t
names_none t ts e n = record { never = λ xs p f. n.never xs (all_any xs) (parts_of (sym e ∙ f)) }

pub names_no_list : (t : TextTree) → ((ts : TextTrees) → t ≡ list ts → ⊥) → IsOfNone names are_in_order t
names_no_list t n = record { never = λ xs p f. n _ f }

pub names_unordered : (t : TextTree) (ts : TextTrees) (xs : List (List ℕ)) → t ≡ list ts → AreOf quote any ts xs → are_in_order xs ≡ false → IsOfNone names are_in_order t
names_unordered t ts xs e a p = record { never = λ ys q f. no_true (ap are_in_order (names_same ys xs (sym (parts_of (sym e ∙ f)) ∙ a.are)) ∙ p) q }

pub names_is : (t : TextTree) (ts : TextTrees) (xs : List (List ℕ)) → t ≡ list ts → AreOf quote any ts xs → are_in_order xs ≡ true → IsOf names are_in_order t xs
names_is t ts xs e a p = record { fits = p; is = e ∙ ap list a.are }
