-- Trees of the steps of paths.
use Rattle.std.proofs.Common.{◌≡◌, ℕ, ◌≤◌, List, [], ◌∷◌, map, length, codes, true, refl, sym, ap, ap₂, subst, ◌∙◌, ◌⊎◌, inl, inr, arith}
use Rattle.st_il.specs.declared.expression.IlExp.{IlExp}
use Rattle.st_il.specs.declared.expression.IlExp.TheOpen.{PathSeg-F}
use Rattle.st_il.specs.declared.expression.Iteration.{Iteration}
use Rattle.st_il.specs.declared.expression.ListItem.{ListItem}
use Rattle.st_il.specs.declared.expression.PathSeg.{PathSeg, roll-PathSeg, out-PathSeg, roll-out-PathSeg}
use Rattle.st_il.specs.declared.expression.PathSeg.TheVariants as step
use Rattle.st_text.specs.Text.{TextTree, TextTrees, word, quote, list, none, more}
use Rattle.st_text.specs.Trees.{row_of}
use Rattle.st_text.proofs.Bytes.{heads}
use Rattle.st_iltext.specs.Expressions.{exp_tree, segment_tree}
use Rattle.st_iltext.specs.Written.{exp_written, segment_written}
use Rattle.st_iltext.specs.inner.ExpReading.{AreTwo, AreNoTwo}
use Rattle.st_iltext.specs.inner.Reading.{IsOf, IsOfNone, AreOf, AreOfNone}
use Rattle.st_iltext.proofs.Rows.{first_of, rest_of, parts_of, word_of, both}
use Rattle.st_iltext.proofs.ExpLevels.{step-tree-Field, step-written-Field, step-tree-At, step-written-At, step-tree-Slice, step-written-Slice}
use Rattle.st_ilread.specs.inner.Parts.{IsOnly, IsOnlyNone, row_tree, path_written}
use Rattle.st_ilread.proofs.Passed.{all_true_of, at_least, at_least_test, row_is, row_none}

abbrev SegmentForm : PathSeg → Type 0
SegmentForm s = ((f : List ℕ) × (s ≡ step.Field f)) ⊎ ((x : IlExp) × (s ≡ step.At x)) ⊎ ((x : IlExp) × (y : IlExp) × (s ≡ step.Slice x y))

form_at : (l : PathSeg-F IlExp Iteration ListItem PathSeg) → SegmentForm (roll-PathSeg l)
form_at (PathSeg-F.Field f) = inl (f, step.rolls-Field f)
form_at (PathSeg-F.PathSeg::At x) = inr (inl (x, step.rolls-At x))
form_at (PathSeg-F.PathSeg::Slice x y) = inr (inr (x, y, step.rolls-Slice x y))

segment_form : (s : PathSeg) → SegmentForm s
segment_form s = subst SegmentForm (roll-out-PathSeg s) (form_at (out-PathSeg s))

-- a tree of none of the three forms is that of no step
pub segment_none : (t : TextTree) → ((f : List ℕ) → t ≡ list (more (word (codes "f")) (more (quote f) none)) → ⊥)
    → ((x : IlExp) → exp_written x ≡ true → t ≡ list (more (word (codes "i")) (more (exp_tree x) none)) → ⊥)
    → ((x y : IlExp) → exp_written x ≡ true → exp_written y ≡ true → t ≡ list (more (word (codes "s")) (more (exp_tree x) (more (exp_tree y) none))) → ⊥)
    → IsOfNone segment_tree segment_written t
segment_none t field index part = record {
  never = λ s p e. elim (segment_form s) [
    | inl d ↦ field d.0 (e ∙ ap segment_tree d.1 ∙ step-tree-Field d.0)
    | inr (inl d) ↦ index d.0 (sym (step-written-At d.0) ∙ ap segment_written (sym d.1) ∙ p) (e ∙ ap segment_tree d.1 ∙ step-tree-At d.0)
    | inr (inr d) ↦
        let q = both _ _ (sym (step-written-Slice d.0 d.1) ∙ ap segment_written (sym d.2) ∙ p) in
        part d.0 d.1 q.0 q.1 (e ∙ ap segment_tree d.2 ∙ step-tree-Slice d.0 d.1)
  ];
}

-- ---- fields

pub field_none : (ts : TextTrees) → ((f : List ℕ) → ts ≡ more (quote f) none → ⊥) → IsOfNone segment_tree segment_written (list (more (word (codes "f")) ts))
field_none ts n = segment_none _ (λ f e. n f (rest_of (parts_of e))) (λ x p e. omega (arith, heads (word_of (first_of (parts_of e))))) (λ x y p q e. omega (arith, heads (word_of (first_of (parts_of e)))))

pub field_is : (ts : TextTrees) (f : List ℕ) → ts ≡ more (quote f) none → IsOf segment_tree segment_written (list (more (word (codes "f")) ts)) (step.Field f)
field_is ts f e = record { fits = step-written-Field f; is = ap (λ us. list (more (word (codes "f")) us)) e ∙ sym (step-tree-Field f) }

-- ---- elements

pub index_none : (ts : TextTrees) → IsOnlyNone exp_tree exp_written ts → IsOfNone segment_tree segment_written (list (more (word (codes "i")) ts))
index_none ts n = segment_none _ (λ f e. omega (arith, heads (word_of (first_of (parts_of e))))) (λ x p e. n.never x p (rest_of (parts_of e))) (λ x y p q e. omega (arith, heads (word_of (first_of (parts_of e)))))

pub index_is : (ts : TextTrees) (x : IlExp) → IsOnly exp_tree exp_written ts x → IsOf segment_tree segment_written (list (more (word (codes "i")) ts)) (step.At x)
index_is ts x o = record { fits = step-written-At x ∙ o.fits; is = ap (λ us. list (more (word (codes "i")) us)) o.is ∙ sym (step-tree-At x) }

-- ---- slices

pub part_none : (ts : TextTrees) → AreNoTwo ts → IsOfNone segment_tree segment_written (list (more (word (codes "s")) ts))
part_none ts n =
    segment_none _ (λ f e. omega (arith, heads (word_of (first_of (parts_of e))))) (λ x p e. omega (arith, heads (word_of (first_of (parts_of e)))))
    (λ x y p q e. n.never x y (record { first = p; second = q; are = rest_of (parts_of e) }))

pub part_is : (ts : TextTrees) (x y v w : IlExp) → AreTwo ts x y → v ≡ x → w ≡ y → IsOf segment_tree segment_written (list (more (word (codes "s")) ts)) (step.Slice v w)
part_is ts x y v w i e f = subst (λ (z : PathSeg). IsOf segment_tree segment_written (list (more (word (codes "s")) ts)) z) (sym (ap₂ step.Slice e f)) (record {
  fits = step-written-Slice x y ∙ all_true_of _ _ i.first i.second;
  is = ap (λ us. list (more (word (codes "s")) us)) i.are ∙ sym (step-tree-Slice x y);
})

-- ---- paths

pub path_is : (t : TextTree) (ts : TextTrees) (path : List PathSeg) → t ≡ list ts → AreOf segment_tree segment_written ts path → (path ≡ [] → ⊥) → IsOf (row_tree segment_tree) path_written t path
path_is t ts path e a some = row_is segment_tree segment_written path_written t ts path e a (all_true_of _ _ (at_least_test 1 (length path) (many path some)) a.fit)
  where
    many : (steps : List PathSeg) → (steps ≡ [] → ⊥) → 1 ≤ length steps
    many [] some = absurd (some refl)
    many (s ∷ steps) some = omega arith

pub path_none : (t : TextTree) (ts : TextTrees) → t ≡ list ts → AreOfNone segment_tree segment_written ts → IsOfNone (row_tree segment_tree) path_written t
path_none t ts e n = row_none segment_tree segment_written path_written t ts e (λ path p f. n.never path (both _ _ p).1 f)

pub path_empty : (t : TextTree) (ts : TextTrees) (path : List PathSeg) → t ≡ list ts → AreOf segment_tree segment_written ts path → path ≡ [] → IsOfNone (row_tree segment_tree) path_written t
path_empty t ts path e a empty = row_none segment_tree segment_written path_written t ts e (λ steps p f. no_tree steps (at_least 1 (length steps) (both _ _ p).0) (sym f ∙ a.are ∙ ap (λ (ss : List PathSeg). row_of (map segment_tree ss)) empty))
  where
    no_tree : (steps : List PathSeg) → 1 ≤ length steps → row_of (map segment_tree steps) ≡ none → ⊥
    no_tree [] h g = omega arith
    no_tree (s ∷ steps) h g = cc g
