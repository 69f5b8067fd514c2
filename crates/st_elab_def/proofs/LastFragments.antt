-- The last fragment of each syntax, after one more definition.
use Rattle.std.proofs.Common.{[], ◌≡◌, refl, sym, ap, ◌∙◌, ℕ, ◌+◌, ◌<◌, ◌≤◌, ◌⊎◌, inl, inr, Bool, true, false, ◌||◌, if◌then◌else◌, Some, List, ◌∷◌, ◌++◌, length, drop, arith}
use Rattle.std.specs.Borrow.{Bor}
use Rattle.std.proofs.Math.Bool.{or-true, or-false}
use Rattle.std.proofs.lemmas.Bool.{cases_lt, lt-ltb, le-ltb}
use Rattle.std.proofs.lemmas.Grind.{common_steps}
use Rattle.std.proofs.lemmas.List.{drop-append-le}
use Rattle.st_num.specs.Names.{same_name}
use Rattle.st_el.specs.Erasure.{is_fragment, is_fragment_node}
use Rattle.st_el.specs.declared.definition.Body.{Body}
use Rattle.st_el.specs.declared.definition.Def.{Def}
use Rattle.st_elab_def.specs.Fragments.{has_fragment}
use Rattle.st_elab_def.specs.inner.Gathering.{IsFragmentOf}
use Rattle.st_ilcheck.specs.Index.{at}
use Rattle.st_elab_def.specs.inner.Last.{is_past, KnowsLast}
use Rattle.st_type_table.proofs.InsertionLemmas.{any-more}

-- one more definition, as seen from those that are dropped
module _ (q : List ℕ) (before : List Def) (def : Def) (number : ℕ) where
  within : number < length before → has_fragment q (drop (number + 1) (before ++ def ∷ [])) ≡ (has_fragment q (drop (number + 1) before) || is_fragment q def)
  within h =
      ap (has_fragment q) (drop-append-le (number + 1) before (def ∷ []) (omega arith)) ∙ any-more (is_fragment q) (drop (number + 1) before) def

  past : length before ≤ number → has_fragment q (drop (number + 1) (before ++ def ∷ [])) ≡ false
  past h =
      let none : drop (number + 1) (before ++ def ∷ []) ≡ [] = grind (arith, common_steps) in
      ap (has_fragment q) none

  none_past : length before ≤ number → has_fragment q (drop (number + 1) before) ≡ false
  none_past h =
      let none : drop (number + 1) before ≡ [] = grind (arith, common_steps) in
      ap (has_fragment q) none

  more-other : is_fragment q def ≡ false → has_fragment q (drop (number + 1) (before ++ def ∷ [])) ≡ has_fragment q (drop (number + 1) before)
  more-other none = by (cases_lt number (length before))
    where
      by : (number < length before) ⊎ (length before ≤ number) → has_fragment q (drop (number + 1) (before ++ def ∷ [])) ≡ has_fragment q (drop (number + 1) before)
      by (inl h) = within h ∙ ap (λ b. has_fragment q (drop (number + 1) before) || b) none ∙ or-false (has_fragment q (drop (number + 1) before))
      by (inr h) = past h ∙ sym (none_past h)

  more-same : is_fragment q def ≡ true → has_fragment q (drop (number + 1) (before ++ def ∷ [])) ≡ is_past number (Some (length before))
  more-same one = by (cases_lt number (length before))
    where
      by : (number < length before) ⊎ (length before ≤ number) → has_fragment q (drop (number + 1) (before ++ def ∷ [])) ≡ is_past number (Some (length before))
      by (inl h) =
          within h ∙ ap (λ b. has_fragment q (drop (number + 1) before) || b) one ∙ or-true (has_fragment q (drop (number + 1) before))
          ∙ sym (lt-ltb number (length before) h)
      by (inr h) = past h ∙ sym (le-ltb number (length before) h)

pub last-same : (before : List Def) (def : Def) (entries : List (Bor (List ℕ) × ℕ)) → ((q : List ℕ) → is_fragment q def ≡ false)
    → KnowsLast before entries → KnowsLast (before ++ def ∷ []) entries
last-same before def entries none h q number = more-other q before def number (none q) ∙ h q number

pub last-more : (before : List Def) (def : Def) (name : List ℕ) (place : ℕ) (old new : List (Bor (List ℕ) × ℕ))
    → ((q : List ℕ) → is_fragment q def ≡ same_name q name) → length before ≡ place
    → ((q : List ℕ) → at new q ≡ (if same_name q name then Some place else at old q))
    → KnowsLast before old → KnowsLast (before ++ def ∷ []) new
last-more before def name place old new fragment here put h q number =
    by (same_name q name) refl ∙ ap (is_past number) (sym (put q))
  where
    by : (b : Bool) → same_name q name ≡ b → has_fragment q (drop (number + 1) (before ++ def ∷ [])) ≡ is_past number (if b then Some place else at old q)
    by true same = more-same q before def number (fragment q ∙ same) ∙ ap (λ n. is_past number (Some n)) here
    by false other = more-other q before def number (fragment q ∙ other) ∙ h q number

-- a fragment is one of the syntax of its name alone
pub fragment-of : (def : Def) (name : List ℕ) (body : Body) → IsFragmentOf def.node name body → (q : List ℕ) → is_fragment q def ≡ same_name q name
fragment-of def name body (piece, is) q = ap (is_fragment_node q) is
