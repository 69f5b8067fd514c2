-- What stands under names, once one more is added.
use Rattle.std.proofs.Common.{◌≡◌, refl, sym, ◌∙◌, ap, Bool, true, false, if◌then◌else◌, ℕ, List, [], ◌∷◌, ◌++◌, append-nil, ◌≤◌, length, drop, Option, Some, None, bytes_eq}
use Rattle.std.specs.Prelude.{unwrap_or}
use Rattle.std.specs.Borrow.{Bor}
use Rattle.std.specs.Option.{option_copied}
use Rattle.st_il.specs.declared.definition.IlDef.{IlDef}
use Rattle.st_il.specs.declared.definition.IlDef.TheVariants.{Syntax, Var, Relation, Rule, Fun, Clause}
use Rattle.st_il.specs.Names.{Name}
use Rattle.st_il.specs.Definitions.{clauses_in, clauses_from, funs_in}
use Rattle.st_semantics.proofs.Names.{bytes-path}
use Rattle.st_order.specs.Known.{all_now, at}
use Rattle.st_order.proofs.HoleParts.{drop_all}
use Rattle.st_order.proofs.RuleParts.{all_now_append}
use Rattle.st_algo.specs.inner.Groups.{members}

-- what is put under a name, behind what was taken from there
pub members_added : {A : Type 0} (old mid new : List (Bor (List ℕ) × List (Bor A))) (name : Name) (one : Bor A) (row more : List (Bor A)) (q : Name)
    → at new q ≡ (if bytes_eq q name then Some more else at mid q) → more ≡ row ++ one ∷ [] → all_now row ≡ members old name
    → at mid q ≡ (if bytes_eq q name then Some [] else at old q)
    → members new q ≡ members old q ++ (if bytes_eq q name then one.now ∷ [] else [])
members_added {A} old mid new name one row more q put m taken left = by (bytes_eq q name) refl
  where
    by : (b : Bool) → bytes_eq q name ≡ b → members new q ≡ members old q ++ (if bytes_eq q name then one.now ∷ [] else [])
    by true e =
        ap (λ o. all_now (unwrap_or o [])) (put ∙ ap (λ c. if c then Some more else at mid q) e) ∙ ap all_now m ∙ all_now_append row (one ∷ [])
        ∙ ap (λ z. z ++ one.now ∷ []) (taken ∙ ap (members old) (sym (bytes-path q name e)))
        ∙ ap (λ c. members old q ++ (if c then one.now ∷ [] else [])) (sym e)
    by false e =
        ap (λ o. all_now (unwrap_or o [])) (put ∙ ap (λ c. if c then Some more else at mid q) e ∙ left ∙ ap (λ c. if c then Some [] else at old q) e)
        ∙ sym (append-nil (members old q)) ∙ ap (λ c. members old q ++ (if c then one.now ∷ [] else [])) (sym e)

-- nothing is left under a name
pub emptied : {A : Type 0} (old new : List (Bor (List ℕ) × List (Bor A))) (name : Name) (row : List (Bor A)) (q : Name) → at new q ≡ (if bytes_eq q name then Some row else at old q) → row ≡ []
    → at new q ≡ (if bytes_eq q name then Some [] else at old q)
emptied old new name row q put none = put ∙ ap (λ r. if bytes_eq q name then Some r else at old q) none

-- all were added
pub ended : {A B : Type 0} (f : List A → List B) → f [] ≡ [] → (xs : List A) (i : ℕ) (now whole : List B) → length xs ≤ i → now ++ f (drop i xs) ≡ whole → now ≡ whole
ended f none xs i now whole h inv = sym (append-nil now) ∙ ap (λ z. now ++ z) (sym (ap f (drop_all xs i h) ∙ none)) ∙ inv

-- ---- clauses and functions, definition by definition

pub clauses_head : (name : Name) (d : IlDef) (ds : List IlDef) → clauses_from name (clauses_in (d ∷ ds)) ≡ clauses_from name (clauses_in (d ∷ [])) ++ clauses_from name (clauses_in ds)
clauses_head name (Syntax s) ds = refl
clauses_head name (Var x t) ds = refl
clauses_head name (Relation r) ds = refl
clauses_head name (Rule r) ds = refl
clauses_head name (Fun f) ds = refl
clauses_head name (Clause c) ds = at (bytes_eq name c.fun)
  where
    at : (b : Bool) → (if b then c ∷ clauses_from name (clauses_in ds) else clauses_from name (clauses_in ds)) ≡ (if b then c ∷ [] else []) ++ clauses_from name (clauses_in ds)
    at true = refl
    at false = refl

pub functions_head : (d : IlDef) (ds : List IlDef) → funs_in (d ∷ ds) ≡ funs_in (d ∷ []) ++ funs_in ds
functions_head (Syntax s) ds = refl
functions_head (Var x t) ds = refl
functions_head (Relation r) ds = refl
functions_head (Rule r) ds = refl
functions_head (Fun f) ds = refl
functions_head (Clause c) ds = refl

-- ---- what stands under a name, once it was looked up

module _ {A : Type 0} (entries : List (Bor (List ℕ) × List (Bor A))) (name : Name) (whole : List A) where
  pub members_found : (o : Option (Bor (List (Bor A)))) (row : Bor (List (Bor A))) (slice : List (Bor A)) → option_copied o ≡ at entries name → o ≡ Some row → slice ≡ row.now → members entries name ≡ whole
      → all_now slice ≡ whole
  members_found o row slice found is s m =
      ap all_now s ∙ ap (λ o. all_now (unwrap_or (option_copied o) [])) (sym is) ∙ ap (λ o. all_now (unwrap_or o [])) found ∙ m

  pub members_none : (o : Option (Bor (List (Bor A)))) → option_copied o ≡ at entries name → o ≡ None → members entries name ≡ whole → whole ≡ []
  members_none o found is m = sym (sym (ap (λ o. all_now (unwrap_or (option_copied o) [])) is) ∙ ap (λ o. all_now (unwrap_or o [])) found ∙ m)
