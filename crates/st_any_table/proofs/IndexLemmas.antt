-- The index of the names of definitions: what is added to it, and what it says of the first ones.
use Rattle.std.proofs.Common.{◌≡◌, refl, sym, ap, ◌∙◌, subst, ℕ, zero, suc, ◌+◌, ◌≤◌, List, [], ◌∷◌, take, length, Bool, true, false, nat_eq, if◌then◌else◌, Option, Some, None, add-one}
use Rattle.std.specs.Prelude.{slice_get}
use Rattle.std.specs.Option.{option_map}
use Rattle.std.specs.Cmp.Lexicographic.{pointwise}
use Rattle.std.proofs.lemmas.Slice.Eq.{bytes_eq-Decides}
use Rattle.st_num.specs.Names.{same_name}
use Rattle.st_il.specs.declared.definition.SyntaxDef.{SyntaxDef}
use Rattle.st_type_table.proofs.InsertionLemmas.{same-equal}
use Rattle.st_type_table.specs.inner.Graph.{position_of}
use Rattle.st_type_table.specs.inner.Index.{adding}
use Rattle.st_type_table.specs.inner.Forms.{Numbers, number_of}
use Rattle.st_type_table.specs.inner.Numbering.{IsGiven}
use Rattle.st_type_table.proofs.SearchLemmas.{take-whole}
use Rattle.st_any_table.specs.inner.Index.{IsIndex}

pub add-found : (entries : Numbers) (name : List ℕ) (number p : ℕ) → Some p ≡ number_of entries name → (q : List ℕ) → number_of entries q ≡ adding (number_of entries q) (same_name q name) number
add-found entries name number p found q = by (number_of entries q) (same_name q name) refl refl
  where
    by : (o : Option ℕ) (b : Bool) → number_of entries q ≡ o → same_name q name ≡ b → o ≡ adding o b number
    by (Some n) b e s = refl
    by None false e s = refl
    by None true e s = let f : Some p ≡ None = found ∙ ap (number_of entries) (sym (same-equal q name s)) ∙ e in cc

pub add-new : (entries new : Numbers) (name : List ℕ) (number : ℕ) → None ≡ number_of entries name → IsGiven entries new name number → (q : List ℕ) → number_of new q ≡ adding (number_of entries q) (same_name q name) number
add-new entries new name number none put q = put q ∙ by (number_of entries q) (pointwise nat_eq name q) (same_name q name) refl refl refl
  where
    by : (o : Option ℕ) (a b : Bool) → number_of entries q ≡ o → pointwise nat_eq name q ≡ a → same_name q name ≡ b → (if a then Some number else o) ≡ adding o b number
    by (Some n) true b e r s = let f : Some n ≡ None = sym e ∙ ap (number_of entries) (sym ((bytes_eq-Decides name q).0 r)) ∙ sym none in cc
    by (Some n) false b e r s = refl
    by None true true e r s = refl
    by None false false e r s = refl
    by None true false e r s = let f : false ≡ true = sym s ∙ (bytes_eq-Decides q name).1 (sym ((bytes_eq-Decides name q).0 r)) in cc
    by None false true e r s = let f : false ≡ true = sym r ∙ (bytes_eq-Decides name q).1 (sym ((bytes_eq-Decides q name).0 s)) in cc

map-adding : (o : Option ℕ) (b : Bool) (k : ℕ) → option_map suc (adding o b k) ≡ adding (option_map suc o) b (suc k)
map-adding (Some p) b k = refl
map-adding None true k = refl
map-adding None false k = refl

position-next : (defs : List SyntaxDef) (k : ℕ) (d : SyntaxDef) (q : List ℕ) → slice_get defs k ≡ Some d → position_of (take (suc k) defs) q ≡ adding (position_of (take k defs) q) (same_name q d.name) k
position-next [] k d q e = cc
position-next (x ∷ xs) zero d q e = let s : x ≡ d = cc in ap (λ z. if same_name q z.name then Some 0 else None) s
position-next (x ∷ xs) (suc k) d q e = ap (λ o. if same_name q x.name then Some 0 else option_map suc o) (position-next xs k d q e) ∙ by (same_name q x.name)
  where
    by : (b : Bool) → (if b then Some 0 else option_map suc (adding (position_of (take k xs) q) (same_name q d.name) k)) ≡ adding (if b then Some 0 else option_map suc (position_of (take k xs) q)) (same_name q d.name) (suc k)
    by true = refl
    by false = map-adding (position_of (take k xs) q) (same_name q d.name) k

pub index-next : (defs : List SyntaxDef) (k : ℕ) (d : SyntaxDef) (entries new : Numbers) → slice_get defs k ≡ Some d → IsIndex (take k defs) entries
    → ((q : List ℕ) → number_of new q ≡ adding (number_of entries q) (same_name q d.name) k) → IsIndex (take (k + 1) defs) new
index-next defs k d entries new e so_far added q =
    added q ∙ ap (λ o. adding o (same_name q d.name) k) (so_far q) ∙ sym (position-next defs k d q e) ∙ ap (λ n. position_of (take n defs) q) (sym (add-one k))

pub index-whole : (defs : List SyntaxDef) (k : ℕ) (entries : Numbers) → length defs ≤ k → IsIndex (take k defs) entries → IsIndex defs entries
index-whole defs k entries h so_far = subst (λ ds. IsIndex ds entries) (take-whole defs k h) so_far
