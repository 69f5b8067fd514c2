-- What stands under names, once one more is added.
use Rattle.std.proofs.Common.{◌≡◌, refl, sym, ◌∙◌, ap, Bool, true, false, if◌then◌else◌, ℕ, List, [], ◌∷◌, ◌++◌, append-nil, Option, Some, None, bytes_eq}
use Rattle.std.specs.Prelude.{unwrap_or}
use Rattle.std.specs.Borrow.{Bor}
use Rattle.std.specs.Option.{option_copied}
use Rattle.st_il.specs.Names.{Name}
use Rattle.st_index.specs.Names.{all_now, at}
use Rattle.st_index.specs.inner.Groups.{members}
use Rattle.st_index.proofs.InsertionLemmas.{same-equal}
use Rattle.st_index.proofs.PlaceParts.{all_now_append}

-- what is put under a name, behind what was taken from there
pub members_added : {A : Type 0} (old mid new : List (Bor (List ℕ) × List (Bor A))) (name : Name) (one : Bor A) (row more : List (Bor A)) (q : Name)
    → at new q ≡ (if bytes_eq q name then Some more else at mid q) → more ≡ row ++ one ∷ [] → all_now row ≡ members old name
    → at mid q ≡ (if bytes_eq q name then Some [] else at old q)
    → members new q ≡ members old q ++ (if bytes_eq q name then one.now ∷ [] else [])
members_added {A} old mid new name one row more q put m taken left = by (bytes_eq q name) refl
  where
    by : (b : Bool) → bytes_eq q name ≡ b → members new q ≡ members old q ++ (if bytes_eq q name then one.now ∷ [] else [])
    by true e =
        ap (λ o. all_now (unwrap_or o [])) (put ∙ ap (λ c. if c then Some more else at mid q) e) ∙ ap all_now m ∙ all_now_append row (one ∷ [])
        ∙ ap (λ z. z ++ one.now ∷ []) (taken ∙ ap (members old) (sym (same-equal q name e)))
        ∙ ap (λ c. members old q ++ (if c then one.now ∷ [] else [])) (sym e)
    by false e =
        ap (λ o. all_now (unwrap_or o [])) (put ∙ ap (λ c. if c then Some more else at mid q) e ∙ left ∙ ap (λ c. if c then Some [] else at old q) e)
        ∙ sym (append-nil (members old q)) ∙ ap (λ c. members old q ++ (if c then one.now ∷ [] else [])) (sym e)

-- nothing is left under a name
pub emptied : {A : Type 0} (old new : List (Bor (List ℕ) × List (Bor A))) (name : Name) (row : List (Bor A)) (q : Name) → at new q ≡ (if bytes_eq q name then Some row else at old q) → row ≡ []
    → at new q ≡ (if bytes_eq q name then Some [] else at old q)
emptied old new name row q put none = put ∙ ap (λ r. if bytes_eq q name then Some r else at old q) none

-- ---- what stands under a name, once it was looked up

module _ {A : Type 0} (entries : List (Bor (List ℕ) × List (Bor A))) (name : Name) where
  pub members_found : (o : Option (Bor (List (Bor A)))) (row : Bor (List (Bor A))) (slice : List (Bor A)) → option_copied o ≡ at entries name → o ≡ Some row → slice ≡ row.now
      → all_now slice ≡ members entries name
  members_found o row slice found is s =
      ap all_now s ∙ ap (λ o. all_now (unwrap_or (option_copied o) [])) (sym is) ∙ ap (λ o. all_now (unwrap_or o [])) found

  pub members_none : (o : Option (Bor (List (Bor A)))) → option_copied o ≡ at entries name → o ≡ None → [] ≡ members entries name
  members_none o found is = sym (ap (λ o. all_now (unwrap_or (option_copied o) [])) is) ∙ ap (λ o. all_now (unwrap_or o [])) found
