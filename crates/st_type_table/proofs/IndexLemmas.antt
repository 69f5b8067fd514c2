-- The index of the names of definitions: what is added to it, and what it says of the first ones.
use Rattle.std.proofs.Common.{◌≡◌, refl, sym, ap, ◌∙◌, subst, ℕ, zero, suc, ◌+◌, ◌<◌, ◌≤◌, List, [], ◌∷◌, ◌++◌, map, take, length, Bool, true, false, true≢false, eqb, if◌then◌else◌, Option, Some, None, arith, add-one}
use Rattle.std.specs.Prelude.{slice_get}
use Rattle.std.specs.Borrow.{Bor}
use Rattle.std.specs.Option.{option_map}
use Rattle.std.specs.Cmp.Lexicographic.{pointwise}
use Rattle.std.proofs.lemmas.Option.{slice_get_within}
use Rattle.st_num.specs.Names.{same_name}
use Rattle.st_il.specs.declared.definition.SyntaxDef.{SyntaxDef}
use Rattle.st_type_table.specs.Meaning.{body_of}
use Rattle.st_type_table.specs.inner.Graph.{position_of}
use Rattle.st_type_table.specs.inner.Index.{Index, number_of, adding, IsIndex}
use Rattle.st_type_table.proofs.InsertionLemmas.{same-equal}
use Rattle.st_type_table.proofs.PositionLemmas.{placed}
use Rattle.st_type_table.proofs.SearchLemmas.{take-whole}
use Rattle.st_type_table.proofs.PartLemmas.{same-item}

-- ---- what is added under a name

pub add-found : (entries : Index) (name : List ℕ) (number p : ℕ) → Some p ≡ number_of entries name → (q : List ℕ) → number_of entries q ≡ adding (number_of entries q) (same_name q name) number
add-found entries name number p found q = by (number_of entries q) (same_name q name) refl refl
  where
    by : (o : Option ℕ) (b : Bool) → number_of entries q ≡ o → same_name q name ≡ b → o ≡ adding o b number
    by (Some n) b e s = refl
    by None false e s = refl
    by None true e s = let f : Some p ≡ None = found ∙ ap (number_of entries) (sym (same-equal q name s)) ∙ e in cc

pub add-new : (entries new : Index) (name : List ℕ) (number : ℕ) → None ≡ number_of entries name
    → ((q : List ℕ) → number_of new q ≡ (if same_name q name then Some number else number_of entries q)) → (q : List ℕ) → number_of new q ≡ adding (number_of entries q) (same_name q name) number
add-new entries new name number none put q = put q ∙ by (number_of entries q) (same_name q name) refl refl
  where
    by : (o : Option ℕ) (b : Bool) → number_of entries q ≡ o → same_name q name ≡ b → (if b then Some number else o) ≡ adding o b number
    by (Some n) true e s = let f : Some n ≡ None = sym e ∙ ap (number_of entries) (same-equal q name s) ∙ sym none in cc
    by (Some n) false e s = refl
    by None b e s = refl

-- ---- the positions of names among the first definitions

map-adding : (o : Option ℕ) (b : Bool) (k : ℕ) → option_map suc (adding o b k) ≡ adding (option_map suc o) b (suc k)
map-adding (Some p) b k = refl
map-adding None true k = refl
map-adding None false k = refl

position-next : (defs : List SyntaxDef) (k : ℕ) (d : SyntaxDef) (q : List ℕ) → slice_get defs k ≡ Some d → position_of (take (suc k) defs) q ≡ adding (position_of (take k defs) q) (same_name q d.name) k
position-next [] k d q e = cc
position-next (x ∷ xs) zero d q e = let s : x ≡ d = cc in ap (λ z. if same_name q z.name then Some 0 else None) s
position-next (x ∷ xs) (suc k) d q e = ap (λ o. if same_name q x.name then Some 0 else option_map suc o) (position-next xs k d q e) ∙ by (same_name q x.name)
  where
    by : (b : Bool) → (if b then Some 0 else option_map suc (adding (position_of (take k xs) q) (same_name q d.name) k)) ≡ adding (if b then Some 0 else option_map suc (position_of (take k xs) q)) (same_name q d.name) (suc k)
    by true = refl
    by false = map-adding (position_of (take k xs) q) (same_name q d.name) k

pub index-next : (defs : List SyntaxDef) (k : ℕ) (d : SyntaxDef) (entries new : Index) → slice_get defs k ≡ Some d → IsIndex (take k defs) entries
    → ((q : List ℕ) → number_of new q ≡ adding (number_of entries q) (same_name q d.name) k) → IsIndex (take (k + 1) defs) new
index-next defs k d entries new e so_far added q =
    added q ∙ ap (λ o. adding o (same_name q d.name) k) (so_far q) ∙ sym (position-next defs k d q e) ∙ ap (λ n. position_of (take n defs) q) (sym (add-one k))

pub index-whole : (defs : List SyntaxDef) (k : ℕ) (entries : Index) → length defs ≤ k → IsIndex (take k defs) entries → IsIndex defs entries
index-whole defs k entries h so_far = subst (λ ds. IsIndex ds entries) (take-whole defs k h) so_far

-- a position among the first definitions is the position among all
pub before-within : (defs : List SyntaxDef) (number : ℕ) (name : List ℕ) (position : ℕ) → position_of defs name ≡ Some position → position < number → Some position ≡ position_of (take number defs) name
before-within [] number name position e h = cc
before-within (d ∷ ds) zero name position e h = absurd (omega arith)
before-within (d ∷ ds) (suc n) name position e h = by (same_name name d.name) (position_of ds name) refl e (before-within ds n name)
  where
    by : (b : Bool) (o : Option ℕ) → position_of ds name ≡ o → (if b then Some 0 else option_map suc o) ≡ Some position
        → ((p : ℕ) → position_of ds name ≡ Some p → p < n → Some p ≡ position_of (take n ds) name) → Some position ≡ (if b then Some 0 else option_map suc (position_of (take n ds) name))
    by true o f g next = sym g
    by false None f g next = cc
    by false (Some p) f g next =
        let s : suc p ≡ position = cc in
        ap Some (sym s) ∙ ap (option_map suc) (next p f (omega (arith, s, h)))

pub before-behind : (defs : List SyntaxDef) (number : ℕ) (name : List ℕ) (position : ℕ) → position_of defs name ≡ Some position → number ≤ position → None ≡ position_of (take number defs) name
before-behind [] number name position e h = cc
before-behind (d ∷ ds) zero name position e h = refl
before-behind (d ∷ ds) (suc n) name position e h = by (same_name name d.name) (position_of ds name) refl e (before-behind ds n name)
  where
    by : (b : Bool) (o : Option ℕ) → position_of ds name ≡ o → (if b then Some 0 else option_map suc o) ≡ Some position
        → ((p : ℕ) → position_of ds name ≡ Some p → n ≤ p → None ≡ position_of (take n ds) name) → None ≡ (if b then Some 0 else option_map suc (position_of (take n ds) name))
    by true o f g next = let s : 0 ≡ position = cc in absurd (omega (arith, s, h))
    by false None f g next = cc
    by false (Some p) f g next =
        let s : suc p ≡ position = cc in
        ap (option_map suc) (next p f (omega (arith, s, h)))

pub before-none : (defs : List SyntaxDef) (number : ℕ) (name : List ℕ) → position_of defs name ≡ None → None ≡ position_of (take number defs) name
before-none [] zero name e = refl
before-none [] (suc n) name e = refl
before-none (d ∷ ds) zero name e = refl
before-none (d ∷ ds) (suc n) name e = by (same_name name d.name) (position_of ds name) refl e (before-none ds n name)
  where
    by : (b : Bool) (o : Option ℕ) → position_of ds name ≡ o → (if b then Some 0 else option_map suc o) ≡ None
        → (position_of ds name ≡ None → None ≡ position_of (take n ds) name) → None ≡ (if b then Some 0 else option_map suc (position_of (take n ds) name))
    by true o f g next = cc
    by false None f g next = ap (option_map suc) (next f)
    by false (Some p) f g next = cc

-- ---- one more definition

pub map-next : {A B : Type 0} (f : A → B) (xs : List A) (k : ℕ) (x : A) → slice_get xs k ≡ Some x → map f (take (k + 1) xs) ≡ map f (take k xs) ++ f x ∷ []
map-next {A = A} {B = B} f xs k x e = ap (λ n. map f (take n xs)) (add-one k) ∙ by xs k e
  where
    by : (xs : List A) (k : ℕ) → slice_get xs k ≡ Some x → map f (take (suc k) xs) ≡ map f (take k xs) ++ f x ∷ []
    by [] k e = cc
    by (y ∷ ys) zero e = let s : y ≡ x = cc in ap (λ z. f z ∷ []) s
    by (y ∷ ys) (suc k) e = ap (λ zs. f y ∷ zs) (by ys k e)

-- the body of the definition at a name's position
pub body-at : (defs : List SyntaxDef) (name : List ℕ) (position : ℕ) (d : SyntaxDef) → Some position ≡ position_of defs name → slice_get defs position ≡ Some d → Some d.body ≡ body_of defs name
body-at defs name position d e there =
    let r = placed defs name position (sym e) in
    ap (λ (x : SyntaxDef). Some x.body) (same-item defs position d r.definition there r.there) ∙ sym r.body_is

pub position-within : (defs : List SyntaxDef) (name : List ℕ) (position : ℕ) → Some position ≡ position_of defs name → position < length defs
position-within defs name position e = let r = placed defs name position (sym e) in slice_get_within defs position r.definition r.there
