-- An index of names leads to the first item of each, where the items are put into it from the last on.
use Rattle.std.proofs.Common.{◌≡◌, refl, sym, ap, ap₂, ◌∙◌, subst, ℕ, zero, suc, ◌+◌, ◌-◌, ◌<◌, ◌≤◌, List, [], ◌∷◌, drop, length, get_or, find, Bool, true, false, if◌then◌else◌, Some, arith}
use Rattle.std.specs.Prelude.{slice_get}
use Rattle.std.specs.Map.{lookup}
use Rattle.std.specs.Option.{option_and_then}
use Rattle.std.proofs.lemmas.List.{drop_more}
use Rattle.std.proofs.lemmas.Slice.Eq.{bytes_eq-Decides}
use Rattle.st_num.specs.Names.{same_name}
use Rattle.st_type_table.proofs.InsertionLemmas.{same-equal}
use Rattle.st_elab_table.specs.inner.NameIndex.{IsNameIndex}

-- it makes no difference which of two names stands first
same_name-flips : (p q : List ℕ) → same_name p q ≡ same_name q p
same_name-flips p q = by (same_name p q) (same_name q p) refl refl
  where
    by : (a b : Bool) → same_name p q ≡ a → same_name q p ≡ b → a ≡ b
    by true true h k = refl
    by true false h k = sym ((bytes_eq-Decides q p).1 (sym (same-equal p q h))) ∙ k
    by false true h k = sym h ∙ (bytes_eq-Decides p q).1 (sym (same-equal q p k))
    by false false h k = refl

-- ---- the first item of each name

read-at : {A : Type 0} (xs : List A) (i : ℕ) (x : A) → i < length xs → x ≡ get_or xs i x → slice_get xs i ≡ Some x
read-at [] i x h e = absurd (omega arith)
read-at (y ∷ ys) zero x h e = ap Some (sym e)
read-at (y ∷ ys) (suc i) x h e = read-at ys i x (omega arith) e

drop-all : {A : Type 0} (xs : List A) → drop (length xs) xs ≡ []
drop-all [] = refl
drop-all (x ∷ xs) = drop-all xs

module _ {A : Type 0} (name : A → List ℕ) (all : List A) where
  pub IsNameIndex-start : (entries : List (List ℕ × ℕ)) → entries ≡ [] → IsNameIndex name all (drop (length all - 0) all) entries
  IsNameIndex-start entries e q =
      let z : length all - 0 ≡ length all = omega arith in
      ap (λ es. option_and_then (slice_get all) (lookup (same_name q) es)) e
      ∙ sym (ap (λ n. find (λ item. same_name q (name item)) (drop n all)) z ∙ ap (λ items. find (λ item. same_name q (name item)) items) (drop-all all))

  pub IsNameIndex-next : (i number : ℕ) (item : A) (entries new : List (List ℕ × ℕ)) → i < length all → number ≡ length all - 1 - i → item ≡ get_or all number item
      → ((q : List ℕ) → lookup (same_name q) new ≡ (if same_name (name item) q then Some number else lookup (same_name q) entries))
      → IsNameIndex name all (drop (length all - i) all) entries → IsNameIndex name all (drop (length all - (i + 1)) all) new
  IsNameIndex-next i number item entries new within is there put so_far q =
      ap (option_and_then (slice_get all)) (put q)
      ∙ ap (λ b. option_and_then (slice_get all) (if b then Some number else lookup (same_name q) entries)) (same_name-flips (name item) q)
      ∙ by (same_name q (name item)) ∙ sym (ap (λ items. find (λ item. same_name q (name item)) items) cut)
    where
      by : (b : Bool) → option_and_then (slice_get all) (if b then Some number else lookup (same_name q) entries)
          ≡ (if b then Some item else find (λ item. same_name q (name item)) (drop (length all - i) all))
      by true = read-at all number item (omega arith) there
      by false = so_far q

      cut : drop (length all - (i + 1)) all ≡ item ∷ drop (length all - i) all
      cut =
          let k : length all - (i + 1) ≡ number = omega arith in
          let n : number + 1 ≡ length all - i = omega arith in
          let w : number < length all = omega arith in
          ap (λ z. drop z all) k ∙ drop_more all number item w ∙ ap₂ (λ x z. x ∷ drop z all) (sym there) n

  pub IsNameIndex-whole : (i : ℕ) (entries : List (List ℕ × ℕ)) → length all ≤ i → IsNameIndex name all (drop (length all - i) all) entries → IsNameIndex name all all entries
  IsNameIndex-whole i entries h so_far =
      let z : length all - i ≡ 0 = omega arith in
      subst (λ n. IsNameIndex name all (drop n all) entries) z so_far
