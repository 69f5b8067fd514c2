-- Trees of the variables of rules and clauses.
use Rattle.std.proofs.Common.{◌≡◌, ℕ, List, map, codes, true, false, refl, sym, ap, ◌∙◌}
use Rattle.st_num.specs.declared.dim.Kind.{Kind}
use Rattle.st_num.specs.declared.dim.Kind.TheVariants as kind
use Rattle.st_il.specs.declared.definition.Listed.{Listed}
use Rattle.st_il.specs.declared.ty.Ty.{Ty}
use Rattle.st_text.specs.Text.{TextTree, TextTrees, word, quote, list, more}
use Rattle.st_text.specs.Trees.{row_of}
use Rattle.st_iltext.specs.Definitions.{kind_word, listed_tree}
use Rattle.st_iltext.specs.Expressions.{ty_tree}
use Rattle.st_iltext.specs.Written.{ty_written, are_in_order, name_of, listed_written, variables_written}
use Rattle.st_iltext.specs.inner.Reading.{IsOf, IsOfNone, AreOf, AreOfNone}
use Rattle.st_iltext.proofs.Rows.{both, rows_same}
use Rattle.st_iltext.proofs.DefinitionSame.{listed_same}
use Rattle.st_ilread.specs.inner.Parts.{any, row_tree}
use Rattle.st_ilread.proofs.Passed.{all_true_of, no_true, row_is, row_none}

-- ---- dimensions

pub kind_none : (t : TextTree) → (t ≡ word (codes "l") → ⊥) → (t ≡ word (codes "o") → ⊥) → IsOfNone kind_word any t
kind_none t in_list in_option = record { never = go }
  where
    go : (k : Kind) → any k ≡ true → t ≡ kind_word k → ⊥
    go kind.List p e = in_list e
    go kind.Opt p e = in_option e

pub kind_is : (t : TextTree) (k : Kind) → t ≡ kind_word k → IsOf kind_word any t k
kind_is t k e = record { fits = refl; is = e }

-- ---- variables

pub listed_none : (t : TextTree) → ((x : List ℕ) (u : Ty) (dim : List Kind) → ty_written u ≡ true → t ≡ list (more (quote x) (more (ty_tree u) (row_of (map kind_word dim)))) → ⊥)
    → IsOfNone listed_tree listed_written t
listed_none t n = record { never = λ l p e. n l.name l.ty l.dim p e }

pub listed_is : (t : TextTree) (ts : TextTrees) (x : List ℕ) (u : Ty) (dim : List Kind) → ty_written u ≡ true → t ≡ list ts → ts ≡ more (quote x) (more (ty_tree u) (row_of (map kind_word dim)))
    → IsOf listed_tree listed_written t (record { name = x; ty = u; dim = dim })
listed_is t ts x u dim p e f = record { fits = p; is = e ∙ ap list f }

-- ---- lists of variables

pub variables_none : (t : TextTree) (ts : TextTrees) → t ≡ list ts → AreOfNone listed_tree listed_written ts → IsOfNone (row_tree listed_tree) variables_written t
variables_none t ts e n = row_none listed_tree listed_written variables_written t ts e (λ xs p f. n.never xs (both _ _ p).1 f)

pub variables_is : (t : TextTree) (ts : TextTrees) (xs : List Listed) → t ≡ list ts → AreOf listed_tree listed_written ts xs → are_in_order (map name_of xs) ≡ true
    → IsOf (row_tree listed_tree) variables_written t xs
variables_is t ts xs e a p = row_is listed_tree listed_written variables_written t ts xs e a (all_true_of _ _ p a.fit)

pub variables_unordered : (t : TextTree) (ts : TextTrees) (xs : List Listed) → t ≡ list ts → AreOf listed_tree listed_written ts xs → are_in_order (map name_of xs) ≡ false
    → IsOfNone (row_tree listed_tree) variables_written t
variables_unordered t ts xs e a p = row_none listed_tree listed_written variables_written t ts e (λ ys q f.
    absurd (no_true (ap (λ (zs : List Listed). are_in_order (map name_of zs)) (rows_same listed_tree ys xs listed_same (sym f ∙ a.are)) ∙ p) (both _ _ q).0))
