-- Trees of the bodies of syntaxes, and of their parts.
use Rattle.std.proofs.Common.{◌≡◌, ℕ, ◌≤◌, List, [], ◌∷◌, map, length, codes, true, refl, sym, ap, ◌∙◌, arith}
use Rattle.std.specs.List.{list_all}
use Rattle.st_il.specs.declared.definition.Alternative.{Alternative}
use Rattle.st_il.specs.declared.definition.Alternative.TheVariants.{Case, Incl}
use Rattle.st_il.specs.declared.definition.SyntaxBody.{SyntaxBody}
use Rattle.st_il.specs.declared.definition.SyntaxBody.TheVariants.{Alias, Variant, Fields}
use Rattle.st_il.specs.declared.ty.Ty.{Ty}
use Rattle.st_text.specs.Text.{TextTree, TextTrees, word, quote, list, none, more}
use Rattle.st_text.specs.Trees.{row_of}
use Rattle.st_iltext.specs.Definitions.{alternative_tree, body_tree, field_tree}
use Rattle.st_iltext.specs.Expressions.{ty_tree}
use Rattle.st_iltext.specs.Written.{ty_written, alternative_written, body_written, field_written}
use Rattle.st_iltext.specs.inner.Reading.{IsOf, IsOfNone, AreOf, AreOfNone}
use Rattle.st_iltext.proofs.Rows.{rest_of, parts_of, both}
use Rattle.st_iltext.proofs.PremSame.{head}
use Rattle.st_ilread.proofs.Passed.{all_true_of, at_least, at_least_test}

-- ---- alternatives

-- a tree of neither form is that of no alternative
pub alternative_none : (t : TextTree) → ((tag : List ℕ) (ts : List Ty) → list_all ty_written ts ≡ true → t ≡ list (more (word (codes "case")) (more (quote tag) (row_of (map ty_tree ts)))) → ⊥)
    → ((y : List ℕ) → t ≡ list (more (word (codes "incl")) (more (quote y) none)) → ⊥) → IsOfNone alternative_tree alternative_written t
alternative_none t with_operands included = record { never = go }
  where
    go : (a : Alternative) → alternative_written a ≡ true → t ≡ alternative_tree a → ⊥
    go (Case tag ts) p e = with_operands tag ts p e
    go (Incl y) p e = included y e

pub case_none : (ts : TextTrees) → ((tag : List ℕ) (us : List Ty) → list_all ty_written us ≡ true → ts ≡ more (quote tag) (row_of (map ty_tree us)) → ⊥)
    → IsOfNone alternative_tree alternative_written (list (more (word (codes "case")) ts))
case_none ts n = alternative_none _ (λ tag us p e. n tag us p (rest_of (parts_of e))) (λ y e. omega (arith, ap head e))

pub case_is : (ts : TextTrees) (tag : List ℕ) (us : List Ty) → list_all ty_written us ≡ true → ts ≡ more (quote tag) (row_of (map ty_tree us))
    → IsOf alternative_tree alternative_written (list (more (word (codes "case")) ts)) (Case tag us)
case_is ts tag us p e = record { fits = p; is = ap (λ rs. list (more (word (codes "case")) rs)) e }

pub inclusion_none : (ts : TextTrees) → ((y : List ℕ) → ts ≡ more (quote y) none → ⊥) → IsOfNone alternative_tree alternative_written (list (more (word (codes "incl")) ts))
inclusion_none ts n = alternative_none _ (λ tag us p e. omega (arith, ap head e)) (λ y e. n y (rest_of (parts_of e)))

pub inclusion_is : (ts : TextTrees) (y : List ℕ) → ts ≡ more (quote y) none → IsOf alternative_tree alternative_written (list (more (word (codes "incl")) ts)) (Incl y)
inclusion_is ts y e = record { fits = refl; is = ap (λ rs. list (more (word (codes "incl")) rs)) e }

-- ---- fields

pub field_none : (t : TextTree) → ((x : List ℕ) (u : Ty) → ty_written u ≡ true → t ≡ list (more (quote x) (more (ty_tree u) none)) → ⊥) → IsOfNone field_tree field_written t
field_none t n = record { never = go }
  where
    go : (f : List ℕ × Ty) → field_written f ≡ true → t ≡ field_tree f → ⊥
    go (x, u) p e = n x u p e

pub field_is : (t : TextTree) (ts : TextTrees) (x : List ℕ) (u : Ty) → ty_written u ≡ true → t ≡ list ts → ts ≡ more (quote x) (more (ty_tree u) none) → IsOf field_tree field_written t (x, u)
field_is t ts x u p e f = record { fits = p; is = e ∙ ap list f }

-- ---- bodies

-- a tree of none of the three forms is that of no body
pub body_none : (t : TextTree) → ((u : Ty) → ty_written u ≡ true → t ≡ list (more (word (codes "alias")) (more (ty_tree u) none)) → ⊥)
    → ((xs : List Alternative) → 1 ≤ length xs → list_all alternative_written xs ≡ true → t ≡ list (more (word (codes "variant")) (row_of (map alternative_tree xs))) → ⊥)
    → ((fs : List (List ℕ × Ty)) → list_all field_written fs ≡ true → t ≡ list (more (word (codes "fields")) (row_of (map field_tree fs))) → ⊥) → IsOfNone body_tree body_written t
body_none t alias variant fields = record { never = go }
  where
    go : (b : SyntaxBody) → body_written b ≡ true → t ≡ body_tree b → ⊥
    go (Alias u) p e = alias u p e
    go (Variant xs) p e = let q = both _ _ p in variant xs (at_least 1 (length xs) q.0) q.1 e
    go (Fields fs) p e = fields fs p e

pub alias_none : (ts : TextTrees) → ((u : Ty) → ty_written u ≡ true → ts ≡ more (ty_tree u) none → ⊥) → IsOfNone body_tree body_written (list (more (word (codes "alias")) ts))
alias_none ts n = body_none _ (λ u p e. n u p (rest_of (parts_of e))) (λ xs h p e. omega (arith, ap head e)) (λ fs p e. omega (arith, ap head e))

pub alias_is : (ts : TextTrees) (u : Ty) → ty_written u ≡ true → ts ≡ more (ty_tree u) none → IsOf body_tree body_written (list (more (word (codes "alias")) ts)) (Alias u)
alias_is ts u p e = record { fits = p; is = ap (λ rs. list (more (word (codes "alias")) rs)) e }

pub variant_none : (ts : TextTrees) → AreOfNone alternative_tree alternative_written ts → IsOfNone body_tree body_written (list (more (word (codes "variant")) ts))
variant_none ts n = body_none _ (λ u p e. omega (arith, ap head e)) (λ xs h p e. n.never xs p (rest_of (parts_of e))) (λ fs p e. omega (arith, ap head e))

pub variant_empty : (ts : TextTrees) (xs : List Alternative) → AreOf alternative_tree alternative_written ts xs → xs ≡ [] → IsOfNone body_tree body_written (list (more (word (codes "variant")) ts))
variant_empty ts xs a z =
    body_none _ (λ u p e. omega (arith, ap head e))
    (λ ys h p e. no_tree ys h (sym (rest_of (parts_of e)) ∙ a.are ∙ ap (λ (zs : List Alternative). row_of (map alternative_tree zs)) z)) (λ fs p e. omega (arith, ap head e))
  where
    no_tree : (ys : List Alternative) → 1 ≤ length ys → row_of (map alternative_tree ys) ≡ none → ⊥
    no_tree [] h g = omega arith
    no_tree (y ∷ ys) h g = cc g

pub variant_is : (ts : TextTrees) (xs : List Alternative) → AreOf alternative_tree alternative_written ts xs → (xs ≡ [] → ⊥) → IsOf body_tree body_written (list (more (word (codes "variant")) ts)) (Variant xs)
variant_is ts xs a some = record {
  fits = all_true_of _ _ (at_least_test 1 (length xs) (many xs some)) a.fit;
  is = ap (λ rs. list (more (word (codes "variant")) rs)) a.are;
}
  where
    many : (ys : List Alternative) → (ys ≡ [] → ⊥) → 1 ≤ length ys
    many [] some = absurd (some refl)
    many (y ∷ ys) some = omega arith

pub record_none : (ts : TextTrees) → AreOfNone field_tree field_written ts → IsOfNone body_tree body_written (list (more (word (codes "fields")) ts))
record_none ts n = body_none _ (λ u p e. omega (arith, ap head e)) (λ xs h p e. omega (arith, ap head e)) (λ fs p e. n.never fs p (rest_of (parts_of e)))

pub record_is : (ts : TextTrees) (fs : List (List ℕ × Ty)) → AreOf field_tree field_written ts fs → IsOf body_tree body_written (list (more (word (codes "fields")) ts)) (Fields fs)
record_is ts fs a = record { fits = a.fit; is = ap (λ rs. list (more (word (codes "fields")) rs)) a.are }
