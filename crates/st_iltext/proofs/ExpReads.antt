-- What the readers of expressions need.
use Rattle.std.proofs.Common.{◌≡◌, ◌≢◌, ℕ, ◌^◌, ◌<◌, List, codes, Bool, true, false, ◌&&◌, nat_lt, sym, ap, ap₂, subst, ◌∙◌, inl, inr, arith}
use Rattle.std.specs.Fmt.{decimal}
use Rattle.st_il.specs.declared.ty.Ty.{Ty}
use Rattle.st_il.specs.declared.ty.NumTy.{NumTy}
use Rattle.st_il.specs.declared.expression.IlExp.{IlExp}
use Rattle.st_il.specs.declared.expression.IlExp.TheVariants as exp
use Rattle.st_il.specs.declared.expression.ListItem.{ListItem}
use Rattle.st_text.specs.Numbers.{IsNoNatural}
use Rattle.st_text.specs.Text.{TextTree, TextTrees, word, quote, list, none, more}
use Rattle.st_iltext.specs.declared.kind.Kind.{Kind}
use Rattle.st_iltext.specs.declared.kind.Kind.TheVariants as kind
use Rattle.st_iltext.specs.declared.kind.Unary.{Unary}
use Rattle.st_iltext.specs.declared.kind.Binary.{Binary}
use Rattle.st_iltext.specs.declared.kind.Arithmetic.{Arithmetic}
use Rattle.st_iltext.specs.Expressions.{number_type, exp_tree, item_tree}
use Rattle.st_iltext.specs.Written.{exp_written, item_written}
use Rattle.st_iltext.specs.inner.KindWords.{kind_word, unary_word, unary_exp, binary_word, binary_exp, arithmetic_word, arithmetic_exp}
use Rattle.st_iltext.specs.inner.Reading.{IsOf, IsOfNone, AreOf, AreOfNone}
use Rattle.st_iltext.specs.inner.ExpReading.{AreTwo, AreNoTwo}
use Rattle.st_iltext.proofs.Rows.{first_of, rest_of, both}
use Rattle.st_iltext.proofs.ExpLevels.{tree-Bool, written-Bool, tree-Number, written-Number, tree-Text, written-Text, unary-tree, unary-written, binary-tree, binary-written, arithmetic-tree, arithmetic-written, written-Tuple, tree-List, written-List}
use Rattle.st_iltext.proofs.ExpForms.{ExpParts, formed, inverted, worded}
use Rattle.st_iltext.proofs.TyForms.{IsTy, IsNoTy}

-- the tree is that of this expression, or of none
abbrev pub IsExp : TextTree → IlExp → Type 0
IsExp = IsOf exp_tree exp_written

abbrev pub IsNoExp : TextTree → Type 0
IsNoExp = IsOfNone exp_tree exp_written

-- ---- words and quoted texts

small : (n : ℕ) → nat_lt n (2 ^ 128) ≡ true → n < 2 ^ 128
small n e = grind arith

small_test : (n : ℕ) → n < 2 ^ 128 → nat_lt n (2 ^ 128) ≡ true
small_test n h = grind arith

pub exp_true : (w : List ℕ) → w ≡ codes "true" → IsExp (word w) (exp.Bool true)
exp_true w e = record { fits = written-Bool true; is = ap word e ∙ sym (tree-Bool true) }

pub exp_false : (w : List ℕ) → w ≡ codes "false" → IsExp (word w) (exp.Bool false)
exp_false w e = record { fits = written-Bool false; is = ap word e ∙ sym (tree-Bool false) }

pub exp_number : (w : List ℕ) (n : ℕ) → n < 2 ^ 128 → w ≡ decimal n → IsExp (word w) (exp.Number n)
exp_number w n low e = record { fits = written-Number n ∙ small_test n low; is = ap word e ∙ sym (tree-Number n) }

pub exp_no_word : (w : List ℕ) → w ≢ codes "true" → w ≢ codes "false" → IsNoNatural w → IsNoExp (word w)
exp_no_word w t f n = record {
  never = λ e p h. elim (worded e w h) [
    | inl g ↦ t g.1
    | inr (inl g) ↦ f g.1
    | inr (inr g) ↦ n g.0 (small g.0 (sym (written-Number g.0) ∙ ap exp_written (sym g.1) ∙ p)) g.2
  ];
}

pub exp_text : (t : TextTree) (s r : List ℕ) → t ≡ quote s → r ≡ s → IsExp t (exp.Text r)
exp_text t s r e f = record { fits = written-Text r; is = e ∙ ap quote (sym f) ∙ sym (tree-Text r) }

-- ---- lists

pub exp_empty : (t : TextTree) → t ≡ list none → IsNoExp t
exp_empty t e = record { never = λ x p f. cc ((formed x none (sym f ∙ e)).begins) }

pub exp_no_kind : (t h : TextTree) (ts : TextTrees) → t ≡ list (more h ts) → ((k : Kind) → h ≢ word (kind_word k)) → IsNoExp t
exp_no_kind t h ts e n = record { never = λ x p f. let d = formed x (more h ts) (sym f ∙ e) in n d.kind (first_of d.begins) }

-- no expression has the word of a kind and these trees behind it
pub no_kind : (k : Kind) (ts : TextTrees) → ((e : IlExp) → exp_written e ≡ true → ExpParts k ts e → ⊥) → IsNoExp (list (more (word (kind_word k)) ts))
no_kind k ts n = record { never = λ e p f. n e p (inverted k ts e f) }

-- ---- operators

pub unary_long : (op : Unary) (ts : TextTrees) → ((u : TextTree) → ts ≡ more u none → ⊥) → IsNoExp (list (more (word (unary_word op)) ts))
unary_long op ts n = no_kind (kind.Unary op) ts (λ e p d. n _ d.2)

pub unary_none : (op : Unary) (ts : TextTrees) (t : TextTree) → ts ≡ more t none → IsNoExp t → IsNoExp (list (more (word (unary_word op)) ts))
unary_none op ts t e n = no_kind (kind.Unary op) ts (λ x p d. n.never d.0 (sym (unary-written op d.0) ∙ ap exp_written (sym d.1) ∙ p) (first_of (sym e ∙ d.2)))

pub unary_is : (op : Unary) (ts : TextTrees) (t : TextTree) (x made : IlExp) → ts ≡ more t none → IsExp t x → made ≡ unary_exp op x → IsExp (list (more (word (unary_word op)) ts)) made
unary_is op ts t x made e i f = subst (IsExp (list (more (word (unary_word op)) ts))) (sym f) (record {
  fits = unary-written op x ∙ i.fits;
  is = ap (λ us. list (more (word (unary_word op)) us)) (e ∙ ap (λ u. more u none) i.is) ∙ sym (unary-tree op x);
})

pub binary_none : (op : Binary) (ts : TextTrees) → AreNoTwo ts → IsNoExp (list (more (word (binary_word op)) ts))
binary_none op ts n = no_kind (kind.Binary op) ts (λ e p d.
    let q = both _ _ (sym (binary-written op d.0 d.1) ∙ ap exp_written (sym d.2) ∙ p) in
    n.never d.0 d.1 (record { first = q.0; second = q.1; are = d.3 }))

pub binary_is : (op : Binary) (ts : TextTrees) (x y made : IlExp) → AreTwo ts x y → made ≡ binary_exp op x y → IsExp (list (more (word (binary_word op)) ts)) made
binary_is op ts x y made i f = subst (IsExp (list (more (word (binary_word op)) ts))) (sym f) (record {
  fits = binary-written op x y ∙ ap₂ (λ (a b : Bool). a && b) i.first i.second;
  is = ap (λ us. list (more (word (binary_word op)) us)) i.are ∙ sym (binary-tree op x y);
})

pub arithmetic_no_type : (op : Arithmetic) (ts us : TextTrees) (t : TextTree) → ts ≡ more t us → ((n : NumTy) → t ≢ number_type n) → IsNoExp (list (more (word (arithmetic_word op)) ts))
arithmetic_no_type op ts us t e n = no_kind (kind.Arithmetic op) ts (λ x p d. n d.0 (first_of (sym e ∙ d.4)))

pub arithmetic_none : (op : Arithmetic) (ts us : TextTrees) (t : TextTree) → ts ≡ more t us → AreNoTwo us → IsNoExp (list (more (word (arithmetic_word op)) ts))
arithmetic_none op ts us t e n = no_kind (kind.Arithmetic op) ts (λ x p d.
    let q = both _ _ (sym (arithmetic-written op d.0 d.1 d.2) ∙ ap exp_written (sym d.3) ∙ p) in
    n.never d.1 d.2 (record { first = q.0; second = q.1; are = rest_of (sym e ∙ d.4) }))

pub arithmetic_is : (op : Arithmetic) (ts us : TextTrees) (t : TextTree) (n : NumTy) (x y made : IlExp) → ts ≡ more t us → t ≡ number_type n → AreTwo us x y → made ≡ arithmetic_exp op n x y
    → IsExp (list (more (word (arithmetic_word op)) ts)) made
arithmetic_is op ts us t n x y made e f i g = subst (IsExp (list (more (word (arithmetic_word op)) ts))) (sym g) (record {
  fits = arithmetic-written op n x y ∙ ap₂ (λ (a b : Bool). a && b) i.first i.second;
  is = ap (λ rs. list (more (word (arithmetic_word op)) rs)) (e ∙ ap₂ more f i.are) ∙ sym (arithmetic-tree op n x y);
})

-- ---- tuples and lists

pub tuple_none : (ts : TextTrees) → AreOfNone exp_tree exp_written ts → IsNoExp (list (more (word (codes "tuple")) ts))
tuple_none ts n = no_kind kind.Tuple ts (λ e p d. n.never d.0 (both _ _ (sym (written-Tuple d.0) ∙ ap exp_written (sym d.1) ∙ p)).1 d.2)

pub list_no_type : (ts us : TextTrees) (t : TextTree) → ts ≡ more t us → IsNoTy t → IsNoExp (list (more (word (codes "list")) ts))
list_no_type ts us t e n = no_kind kind.List ts (λ x p d. n.never d.0 (both _ _ (sym (written-List d.0 d.1) ∙ ap exp_written (sym d.2) ∙ p)).0 (first_of (sym e ∙ d.3)))

pub list_no_items : (ts us : TextTrees) (t : TextTree) → ts ≡ more t us → AreOfNone item_tree item_written us → IsNoExp (list (more (word (codes "list")) ts))
list_no_items ts us t e n = no_kind kind.List ts (λ x p d. n.never d.1 (both _ _ (sym (written-List d.0 d.1) ∙ ap exp_written (sym d.2) ∙ p)).1 (rest_of (sym e ∙ d.3)))

pub list_is : (ts us : TextTrees) (t : TextTree) (ty : Ty) (items : List ListItem) → ts ≡ more t us → IsTy t ty → AreOf item_tree item_written us items → IsExp (list (more (word (codes "list")) ts)) (exp.List ty items)
list_is ts us t ty items e i a = record {
  fits = written-List ty items ∙ ap₂ (λ (x y : Bool). x && y) i.fits a.fit;
  is = ap (λ rs. list (more (word (codes "list")) rs)) (e ∙ ap₂ more i.is a.are) ∙ sym (tree-List ty items);
}
