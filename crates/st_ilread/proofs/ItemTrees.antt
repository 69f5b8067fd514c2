-- Trees of the items of lists.
use Rattle.std.proofs.Common.{◌≡◌, codes, true, sym, ap, subst, ◌∙◌, ◌⊎◌, inl, inr, arith}
use Rattle.st_il.specs.declared.expression.IlExp.{IlExp}
use Rattle.st_il.specs.declared.expression.IlExp.TheOpen.{ListItem-F}
use Rattle.st_il.specs.declared.expression.Iteration.{Iteration}
use Rattle.st_il.specs.declared.expression.ListItem.{ListItem, roll-ListItem, out-ListItem, roll-out-ListItem}
use Rattle.st_il.specs.declared.expression.ListItem.TheVariants as item
use Rattle.st_il.specs.declared.expression.PathSeg.{PathSeg}
use Rattle.st_text.specs.Text.{TextTree, TextTrees, word, list, none, more}
use Rattle.st_text.proofs.Bytes.{heads}
use Rattle.st_iltext.specs.Expressions.{exp_tree, item_tree}
use Rattle.st_iltext.specs.Written.{exp_written, item_written}
use Rattle.st_iltext.specs.inner.Reading.{IsOf, IsOfNone}
use Rattle.st_iltext.proofs.Rows.{first_of, rest_of, parts_of, word_of}
use Rattle.st_iltext.proofs.ExpLevels.{item-tree-One, item-written-One, item-tree-All, item-written-All}
use Rattle.st_ilread.specs.inner.Parts.{IsOnly, IsOnlyNone}

abbrev ItemForm : ListItem → Type 0
ItemForm i = ((x : IlExp) × (i ≡ item.One x)) ⊎ ((x : IlExp) × (i ≡ item.All x))

form_at : (l : ListItem-F IlExp Iteration ListItem PathSeg) → ItemForm (roll-ListItem l)
form_at (ListItem-F.One x) = inl (x, item.rolls-One x)
form_at (ListItem-F.All x) = inr (x, item.rolls-All x)

item_form : (i : ListItem) → ItemForm i
item_form i = subst ItemForm (roll-out-ListItem i) (form_at (out-ListItem i))

-- a tree of neither form is that of no item
pub item_none : (t : TextTree) → ((x : IlExp) → exp_written x ≡ true → t ≡ list (more (word (codes "one")) (more (exp_tree x) none)) → ⊥)
    → ((x : IlExp) → exp_written x ≡ true → t ≡ list (more (word (codes "all")) (more (exp_tree x) none)) → ⊥) → IsOfNone item_tree item_written t
item_none t element elements = record {
  never = λ i p e. elim (item_form i) [
    | inl d ↦ element d.0 (sym (item-written-One d.0) ∙ ap item_written (sym d.1) ∙ p) (e ∙ ap item_tree d.1 ∙ item-tree-One d.0)
    | inr d ↦ elements d.0 (sym (item-written-All d.0) ∙ ap item_written (sym d.1) ∙ p) (e ∙ ap item_tree d.1 ∙ item-tree-All d.0)
  ];
}

-- ---- one element

pub element_none : (ts : TextTrees) → IsOnlyNone exp_tree exp_written ts → IsOfNone item_tree item_written (list (more (word (codes "one")) ts))
element_none ts n = item_none _ (λ x p e. n.never x p (rest_of (parts_of e))) (λ x p e. omega (arith, heads (word_of (first_of (parts_of e)))))

pub element_is : (ts : TextTrees) (x : IlExp) → IsOnly exp_tree exp_written ts x → IsOf item_tree item_written (list (more (word (codes "one")) ts)) (item.One x)
element_is ts x o = record { fits = item-written-One x ∙ o.fits; is = ap (λ us. list (more (word (codes "one")) us)) o.is ∙ sym (item-tree-One x) }

-- ---- all elements of another list

pub elements_none : (ts : TextTrees) → IsOnlyNone exp_tree exp_written ts → IsOfNone item_tree item_written (list (more (word (codes "all")) ts))
elements_none ts n = item_none _ (λ x p e. omega (arith, heads (word_of (first_of (parts_of e))))) (λ x p e. n.never x p (rest_of (parts_of e)))

pub elements_is : (ts : TextTrees) (x : IlExp) → IsOnly exp_tree exp_written ts x → IsOf item_tree item_written (list (more (word (codes "all")) ts)) (item.All x)
elements_is ts x o = record { fits = item-written-All x ∙ o.fits; is = ap (λ us. list (more (word (codes "all")) us)) o.is ∙ sym (item-tree-All x) }
