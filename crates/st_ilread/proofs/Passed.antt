-- Answers that are passed on.
use Rattle.std.proofs.Common.{◌≡◌, ℕ, ◌≤◌, List, [], ◌∷◌, Bool, true, false, ◌&&◌, nat_le, map, Result, Ok, Err, refl, sym, ap, ap₂, subst, ◌∙◌, arith}
use Rattle.std.specs.List.{list_all}
use Rattle.st_text.specs.declared.fault.TextFault.{TextFault}
use Rattle.st_text.specs.declared.fault.TextFault.TheVariants.{Malformed, Memory}
use Rattle.st_text.specs.Reading.{Answers}
use Rattle.st_text.specs.Text.{TextTree, TextTrees, list, none, more}
use Rattle.st_text.specs.Trees.{row_of}
use Rattle.st_iltext.specs.inner.Reading.{IsOf, IsOfNone, AreOf, Reads, ReadsAll}
use Rattle.st_iltext.proofs.Rows.{first_of, parts_of}
use Rattle.st_ilread.specs.inner.Parts.{any, row_tree, ReadsOnly}

-- a fault goes on where what it says of a part says the same of the whole
pub passed : {X Y : Type 0} (P : X → Type 0) (R : Y → Type 0) (Q S : Type 0) (fault : TextFault) (result : Result Y TextFault)
    → Answers {T = X} (Err fault) P Q → (Q → S) → result ≡ Err fault → Answers result R S
passed P R Q S (Malformed line) result said n is = subst (λ r. Answers r R S) (sym is) (said.0, n said.1)
passed P R Q S Memory result said n is = subst (λ r. Answers r R S) (sym is) tt

-- what holds of a tree holds of the same tree, and of the same as is made
pub tree_is : {X : Type 0} (tree : X → TextTree) (written : X → Bool) (t u : TextTree) (x : X) → t ≡ u → IsOf tree written u x → IsOf tree written t x
tree_is tree written t u x e i = record { fits = i.fits; is = e ∙ i.is }

pub tree_is_none : {X : Type 0} (tree : X → TextTree) (written : X → Bool) (t u : TextTree) → t ≡ u → IsOfNone tree written u → IsOfNone tree written t
tree_is_none tree written t u e n = record { never = λ x p f. n.never x p (sym e ∙ f) }

pub made_is : {X : Type 0} (tree : X → TextTree) (written : X → Bool) (t : TextTree) (x made : X) → made ≡ x → IsOf tree written t x → IsOf tree written t made
made_is tree written t x made e i = record { fits = ap written e ∙ i.fits; is = i.is ∙ ap tree (sym e) }

-- what is read of a tree is read of the same tree
pub read_as : {X : Type 0} (tree : X → TextTree) (written : X → Bool) (t u : TextTree) (result : Result X TextFault) → t ≡ u → Reads tree written u result → Reads tree written t result
read_as tree written t u result e r = subst (λ v. Reads tree written v result) (sym e) r

-- what is read of the only tree is the only one
pub only_read : {X : Type 0} (tree : X → TextTree) (written : X → Bool) (ts : TextTrees) (t : TextTree) (result : Result X TextFault) → ts ≡ more t none → Reads tree written t result → ReadsOnly tree written ts result
only_read tree written ts t (Ok x) e r = record { fits = r.fits; is = e ∙ ap (λ u. more u none) r.is }
only_read tree written ts t (Err (Malformed line)) e r = (r.0, record { never = λ x p f. r.1.never x p (first_of (sym e ∙ f)) })
only_read tree written ts t (Err Memory) e r = tt

pub no_true : {b : Bool} → b ≡ false → b ≡ true → ⊥
no_true e f = cc

-- ---- two tests that hold together

pub all_true_of : (a b : Bool) → a ≡ true → b ≡ true → (a && b) ≡ true
all_true_of a b p q = ap₂ (λ (x y : Bool). x && y) p q

pub at_least : (m n : ℕ) → nat_le m n ≡ true → m ≤ n
at_least m n e = grind arith

pub at_least_test : (m n : ℕ) → m ≤ n → nat_le m n ≡ true
at_least_test m n h = grind arith

pub all_any : {X : Type 0} (xs : List X) → list_all any xs ≡ true
all_any [] = refl
all_any (x ∷ xs) = ap (λ b. true && b) (all_any xs)

-- ---- lists of trees

module _ {X : Type 0} (tree : X → TextTree) (written : X → Bool) where
  pub row_is : (test : List X → Bool) (t : TextTree) (ts : TextTrees) (xs : List X) → t ≡ list ts → AreOf tree written ts xs → test xs ≡ true → IsOf (row_tree tree) test t xs
  row_is test t ts xs e a p = record { fits = p; is = e ∙ ap list a.are }

  pub row_none : (test : List X → Bool) (t : TextTree) (ts : TextTrees) → t ≡ list ts → ((xs : List X) → test xs ≡ true → ts ≡ row_of (map tree xs) → ⊥) → IsOfNone (row_tree tree) test t
  row_none test t ts e n = record { never = λ xs p f. n xs p (parts_of (sym e ∙ f)) }

  pub row_no_list : (test : List X → Bool) (t : TextTree) → ((ts : TextTrees) → t ≡ list ts → ⊥) → IsOfNone (row_tree tree) test t
  row_no_list test t n = record { never = λ xs p f. n _ f }

  -- what is read of the trees of a list is read of the list
  pub row_read : (t : TextTree) (ts : TextTrees) (result : Result (List X) TextFault) → t ≡ list ts → ReadsAll tree written ts result → Reads (row_tree tree) (list_all written) t result
  row_read t ts (Ok xs) e r = row_is (list_all written) t ts xs e r r.fit
  row_read t ts (Err (Malformed line)) e r = (r.0, row_none (list_all written) t ts e (λ xs p f. r.1.never xs p f))
  row_read t ts (Err Memory) e r = tt

-- ---- the trees of parts, once each is known

pub one_part : {t u : TextTree} {ts : TextTrees} → ts ≡ more t none → t ≡ u → ts ≡ more u none
one_part e f = e ∙ ap (λ v. more v none) f

pub two_parts : {t u v w : TextTree} {ts : TextTrees} → ts ≡ more t (more u none) → t ≡ v → u ≡ w → ts ≡ more v (more w none)
two_parts e f g = e ∙ ap₂ (λ x y. more x (more y none)) f g

pub part_and : {t u : TextTree} {ts us vs : TextTrees} → ts ≡ more t us → t ≡ u → us ≡ vs → ts ≡ more u vs
part_and e f g = e ∙ ap₂ more f g

pub three_parts : {s t u v w x : TextTree} {ts : TextTrees} → ts ≡ more s (more t (more u none)) → s ≡ v → t ≡ w → u ≡ x → ts ≡ more v (more w (more x none))
three_parts e f g h = part_and e f (ap₂ (λ x y. more x (more y none)) g h)

pub two_and : {t u v w : TextTree} {ts us vs : TextTrees} → ts ≡ more t (more u us) → t ≡ v → u ≡ w → us ≡ vs → ts ≡ more v (more w vs)
two_and e f g h = part_and e f (ap₂ more g h)
