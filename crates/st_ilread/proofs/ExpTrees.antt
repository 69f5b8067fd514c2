-- Trees of expressions, form by form: what has such a tree, and what has none.
use Rattle.std.proofs.Common.{◌≡◌, ◌≢◌, ℕ, ◌<◌, ◌≤◌, List, map, length, codes, Bool, true, ◌&&◌, Result, sym, ap, subst, ◌∙◌, arith, rules}
use Rattle.std.specs.List.{list_all}
use Rattle.st_il.specs.declared.ty.Ty.{Ty}
use Rattle.st_il.specs.declared.expression.IlExp.{IlExp}
use Rattle.st_il.specs.declared.expression.IlExp.TheVariants as exp
use Rattle.st_il.specs.declared.expression.Iteration.{Iteration}
use Rattle.st_il.specs.declared.expression.PathSeg.{PathSeg}
use Rattle.st_text.specs.Text.{TextTree, TextTrees, word, quote, list, none, more}
use Rattle.st_text.specs.Trees.{row_of, tree_of, trees_of}
use Rattle.st_text.specs.declared.tree.TextTree as program
use Rattle.st_text.specs.declared.tree.TextTree.{Word as WordTree, Quote as QuoteTree, List as ListTree, the_lemmas}
use Rattle.st_text.specs.declared.fault.TextFault.{TextFault}
use Rattle.st_iltext.specs.declared.kind.Kind.{Kind}
use Rattle.st_iltext.specs.declared.kind.Kind.TheVariants as kind
use Rattle.st_iltext.specs.Expressions.{names, ty_tree, exp_tree, iteration_tree}
use Rattle.st_iltext.specs.Written.{ty_written, are_in_order, exp_written, iteration_written}
use Rattle.st_iltext.specs.inner.KindWords.{kind_word}
use Rattle.st_iltext.specs.inner.Reading.{AreOf, Reads}
use Rattle.st_iltext.proofs.Rows.{both, tree_of-List}
use Rattle.st_iltext.proofs.ExpLevels.{tree-Var, written-Var, tree-Case, written-Case, tree-Fields, written-Fields, tree-Call, written-Call, tree-Dot, written-Dot, tree-Set, written-Set, tree-Extend, written-Extend, tree-Tuple, written-Tuple, tree-Empty, written-Empty, tree-Absent, written-Absent, tree-Slice, written-Slice, tree-Up, written-Up, tree-Iter, written-Iter}
use Rattle.st_iltext.proofs.ExpForms.{formed}
use Rattle.st_iltext.proofs.ExpSame.{exps_same}
use Rattle.st_iltext.proofs.ExpReads.{IsExp, IsNoExp, no_kind}
use Rattle.st_ilread.specs.inner.Parts.{AreNamed, AreNoneNamed, AreUpdate, AreNoUpdate}
use Rattle.st_ilread.proofs.Passed.{all_true_of, at_least, at_least_test}

-- the tree of a form, by the trees of its parts
form_is : (w : List ℕ) (ts us : TextTrees) (made : IlExp) → ts ≡ us → exp_tree made ≡ list (more (word w) us) → exp_written made ≡ true → IsExp (list (more (word w) ts)) made
form_is w ts us made e t p = record { fits = p; is = ap (λ rs. list (more (word w) rs)) e ∙ sym t }

-- a list without a first tree is that of no expression
pub exp_unbegun : (t : TextTree) (ts : TextTrees) → t ≡ list ts → ((u : TextTree) (us : TextTrees) → ts ≢ more u us) → IsNoExp t
exp_unbegun t ts e n = record { never = λ x p f. n _ _ (formed x ts (sym f ∙ e)).begins }

-- what is read of the parts behind the word of a kind is read of the tree
pub kind_read : (t h : TextTree) (ts : TextTrees) (k : Kind) (result : Result IlExp TextFault) → t ≡ list (more h ts) → h ≡ word (kind_word k)
    → Reads exp_tree exp_written (list (more (word (kind_word k)) ts)) result → Reads exp_tree exp_written t result
kind_read t h ts k result e f r = subst (λ u. Reads exp_tree exp_written u result) (sym (e ∙ ap (λ v. list (more v ts)) f)) r

pub kind_as : (k j : Kind) (ts : TextTrees) (result : Result IlExp TextFault) → k ≡ j → Reads exp_tree exp_written (list (more (word (kind_word j)) ts)) result
    → Reads exp_tree exp_written (list (more (word (kind_word k)) ts)) result
kind_as k j ts result e r = subst (λ (i : Kind). Reads exp_tree exp_written (list (more (word (kind_word i)) ts)) result) (sym e) r

-- the trees of a word, a quoted text and a list of the program
tree_of-Word : (w : List ℕ) → tree_of (WordTree w) ≡ word w
tree_of-Word w = search (rules, the_lemmas)

tree_of-Quote : (s : List ℕ) → tree_of (QuoteTree s) ≡ quote s
tree_of-Quote s = search (rules, the_lemmas)

pub word_tree : (t : program.TextTree) (w v : List ℕ) → t ≡ WordTree w → v ≡ w → tree_of t ≡ word v
word_tree t w v e f = ap tree_of e ∙ tree_of-Word w ∙ ap word (sym f)

pub quote_tree : (t : program.TextTree) (s : List ℕ) → t ≡ QuoteTree s → tree_of t ≡ quote s
quote_tree t s e = ap tree_of e ∙ tree_of-Quote s

pub list_tree : (t : program.TextTree) (trees rows : List program.TextTree) (us : TextTrees) → t ≡ ListTree trees → rows ≡ trees → trees_of rows ≡ us → tree_of t ≡ list us
list_tree t trees rows us e f g = ap tree_of e ∙ tree_of-List trees ∙ ap (λ rs. list (trees_of rs)) (sym f) ∙ ap list g

-- ---- variables

pub var_none : (ts : TextTrees) → ((x : List ℕ) → ts ≡ more (quote x) none → ⊥) → IsNoExp (list (more (word (codes "v")) ts))
var_none ts n = no_kind kind.Var ts (λ e p d. n d.0 d.2)

pub var_is : (ts : TextTrees) (x : List ℕ) → ts ≡ more (quote x) none → IsExp (list (more (word (codes "v")) ts)) (exp.Var x)
var_is ts x e = form_is (codes "v") ts _ (exp.Var x) e (tree-Var x) (written-Var x)

-- ---- cases, records and calls

pub case_none : (ts : TextTrees) → ((t tag : List ℕ) (es : List IlExp) → list_all exp_written es ≡ true → ts ≡ more (quote t) (more (quote tag) (row_of (map exp_tree es))) → ⊥)
    → IsNoExp (list (more (word (codes "case")) ts))
case_none ts n = no_kind kind.Case ts (λ e p d. n d.0 d.1 d.2 (sym (written-Case d.0 d.1 d.2) ∙ ap exp_written (sym d.3) ∙ p) d.4)

pub case_is : (ts : TextTrees) (t tag : List ℕ) (es : List IlExp) → list_all exp_written es ≡ true → ts ≡ more (quote t) (more (quote tag) (row_of (map exp_tree es)))
    → IsExp (list (more (word (codes "case")) ts)) (exp.Case t tag es)
case_is ts t tag es p e = form_is (codes "case") ts _ (exp.Case t tag es) e (tree-Case t tag es) (written-Case t tag es ∙ p)

pub fields_none : (ts : TextTrees) → AreNoneNamed ts → IsNoExp (list (more (word (codes "fields")) ts))
fields_none ts n = no_kind kind.Fields ts (λ e p d. n.never d.0 d.1 (record { fit = sym (written-Fields d.0 d.1) ∙ ap exp_written (sym d.2) ∙ p; are = d.3 }))

pub fields_is : (ts : TextTrees) (t : List ℕ) (es : List IlExp) → AreNamed ts t es → IsExp (list (more (word (codes "fields")) ts)) (exp.Fields t es)
fields_is ts t es i = form_is (codes "fields") ts _ (exp.Fields t es) i.are (tree-Fields t es) (written-Fields t es ∙ i.fit)

pub call_none : (ts : TextTrees) → AreNoneNamed ts → IsNoExp (list (more (word (codes "call")) ts))
call_none ts n = no_kind kind.Call ts (λ e p d. n.never d.0 d.1 (record { fit = sym (written-Call d.0 d.1) ∙ ap exp_written (sym d.2) ∙ p; are = d.3 }))

pub call_is : (ts : TextTrees) (f : List ℕ) (es : List IlExp) → AreNamed ts f es → IsExp (list (more (word (codes "call")) ts)) (exp.Call f es)
call_is ts f es i = form_is (codes "call") ts _ (exp.Call f es) i.are (tree-Call f es) (written-Call f es ∙ i.fit)

-- ---- places

pub dot_none : (ts : TextTrees) → ((x : IlExp) (f : List ℕ) → exp_written x ≡ true → ts ≡ more (exp_tree x) (more (quote f) none) → ⊥) → IsNoExp (list (more (word (codes "dot")) ts))
dot_none ts n = no_kind kind.Dot ts (λ e p d. n d.0 d.1 (sym (written-Dot d.0 d.1) ∙ ap exp_written (sym d.2) ∙ p) d.3)

pub dot_is : (ts : TextTrees) (x : IlExp) (f : List ℕ) → exp_written x ≡ true → ts ≡ more (exp_tree x) (more (quote f) none) → IsExp (list (more (word (codes "dot")) ts)) (exp.Dot x f)
dot_is ts x f p e = form_is (codes "dot") ts _ (exp.Dot x f) e (tree-Dot x f) (written-Dot x f ∙ p)

regrouped : (a b c d : Bool) → (a && b && c && d) ≡ true → (a ≡ true) × ((b && c) ≡ true) × (d ≡ true)
regrouped a b c d e =
    let f = both _ _ e in
    let g = both _ _ f.0 in
    let h = both _ _ g.0 in
    (h.0, all_true_of b c h.1 g.1, f.1)

grouped : (a b c d : Bool) → a ≡ true → (b && c) ≡ true → d ≡ true → (a && b && c && d) ≡ true
grouped a b c d p q r = let h = both b c q in all_true_of _ _ (all_true_of _ _ (all_true_of a b p h.0) h.1) r

pub set_none : (ts : TextTrees) → AreNoUpdate ts → IsNoExp (list (more (word (codes "set")) ts))
set_none ts n = no_kind kind.Set ts (λ e p d.
    let q = regrouped _ _ _ _ (sym (written-Set d.0 d.1 d.2) ∙ ap exp_written (sym d.3) ∙ p) in
    n.never d.0 d.1 d.2 (record { first = q.0; second = q.1; third = q.2; are = d.4 }))

pub set_is : (ts : TextTrees) (x : IlExp) (path : List PathSeg) (y : IlExp) → AreUpdate ts x path y → IsExp (list (more (word (codes "set")) ts)) (exp.Set x path y)
set_is ts x path y i = form_is (codes "set") ts _ (exp.Set x path y) i.are (tree-Set x path y) (written-Set x path y ∙ grouped _ _ _ _ i.first i.second i.third)

pub extend_none : (ts : TextTrees) → AreNoUpdate ts → IsNoExp (list (more (word (codes "extend")) ts))
extend_none ts n = no_kind kind.Extend ts (λ e p d.
    let q = regrouped _ _ _ _ (sym (written-Extend d.0 d.1 d.2) ∙ ap exp_written (sym d.3) ∙ p) in
    n.never d.0 d.1 d.2 (record { first = q.0; second = q.1; third = q.2; are = d.4 }))

pub extend_is : (ts : TextTrees) (x : IlExp) (path : List PathSeg) (y : IlExp) → AreUpdate ts x path y → IsExp (list (more (word (codes "extend")) ts)) (exp.Extend x path y)
extend_is ts x path y i = form_is (codes "extend") ts _ (exp.Extend x path y) i.are (tree-Extend x path y) (written-Extend x path y ∙ grouped _ _ _ _ i.first i.second i.third)

-- ---- tuples

pub tuple_short : (ts : TextTrees) (es : List IlExp) → AreOf exp_tree exp_written ts es → length es < 2 → IsNoExp (list (more (word (codes "tuple")) ts))
tuple_short ts es a few = no_kind kind.Tuple ts (λ e p d.
    let q = both _ _ (sym (written-Tuple d.0) ∙ ap exp_written (sym d.1) ∙ p) in
    omega (arith, at_least 2 (length d.0) q.0, ap length (exps_same d.0 es q.1 a.fit (sym d.2 ∙ a.are))))

pub tuple_is : (ts : TextTrees) (es : List IlExp) → AreOf exp_tree exp_written ts es → 2 ≤ length es → IsExp (list (more (word (codes "tuple")) ts)) (exp.Tuple es)
tuple_is ts es a many = form_is (codes "tuple") ts _ (exp.Tuple es) a.are (tree-Tuple es) (written-Tuple es ∙ all_true_of _ _ (at_least_test 2 (length es) many) a.fit)

-- ---- options, slices, injections and iterations

pub empty_none : (ts : TextTrees) → ((t : Ty) → ty_written t ≡ true → ts ≡ more (ty_tree t) none → ⊥) → IsNoExp (list (more (word (codes "none")) ts))
empty_none ts n = no_kind kind.Empty ts (λ e p d. n d.0 (sym (written-Empty d.0) ∙ ap exp_written (sym d.1) ∙ p) d.2)

pub empty_is : (ts : TextTrees) (t : Ty) → ty_written t ≡ true → ts ≡ more (ty_tree t) none → IsExp (list (more (word (codes "none")) ts)) (exp.Empty t)
empty_is ts t p e = form_is (codes "none") ts _ (exp.Empty t) e (tree-Empty t) (written-Empty t ∙ p)

pub absent_none : (ts : TextTrees) → ((t : Ty) → ty_written t ≡ true → ts ≡ more (ty_tree t) none → ⊥) → IsNoExp (list (more (word (codes "absent")) ts))
absent_none ts n = no_kind kind.Absent ts (λ e p d. n d.0 (sym (written-Absent d.0) ∙ ap exp_written (sym d.1) ∙ p) d.2)

pub absent_is : (ts : TextTrees) (t : Ty) → ty_written t ≡ true → ts ≡ more (ty_tree t) none → IsExp (list (more (word (codes "absent")) ts)) (exp.Absent t)
absent_is ts t p e = form_is (codes "absent") ts _ (exp.Absent t) e (tree-Absent t) (written-Absent t ∙ p)

pub slice_none : (ts : TextTrees) → ((x y z : IlExp) → exp_written x ≡ true → exp_written y ≡ true → exp_written z ≡ true → ts ≡ more (exp_tree x) (more (exp_tree y) (more (exp_tree z) none)) → ⊥)
    → IsNoExp (list (more (word (codes "slice")) ts))
slice_none ts n = no_kind kind.Slice ts (λ e p d.
    let q = both _ _ (sym (written-Slice d.0 d.1 d.2) ∙ ap exp_written (sym d.3) ∙ p) in
    let r = both _ _ q.0 in
    n d.0 d.1 d.2 r.0 r.1 q.1 d.4)

pub slice_is : (ts : TextTrees) (x y z : IlExp) → exp_written x ≡ true → exp_written y ≡ true → exp_written z ≡ true → ts ≡ more (exp_tree x) (more (exp_tree y) (more (exp_tree z) none))
    → IsExp (list (more (word (codes "slice")) ts)) (exp.Slice x y z)
slice_is ts x y z p q r e = form_is (codes "slice") ts _ (exp.Slice x y z) e (tree-Slice x y z) (written-Slice x y z ∙ all_true_of _ _ (all_true_of _ _ p q) r)

pub up_none : (ts : TextTrees) → ((t : Ty) (x : IlExp) → ty_written t ≡ true → exp_written x ≡ true → ts ≡ more (ty_tree t) (more (exp_tree x) none) → ⊥) → IsNoExp (list (more (word (codes "up")) ts))
up_none ts n = no_kind kind.Up ts (λ e p d.
    let q = both _ _ (sym (written-Up d.0 d.1) ∙ ap exp_written (sym d.2) ∙ p) in
    n d.0 d.1 q.0 q.1 d.3)

pub up_is : (ts : TextTrees) (t : Ty) (x : IlExp) → ty_written t ≡ true → exp_written x ≡ true → ts ≡ more (ty_tree t) (more (exp_tree x) none) → IsExp (list (more (word (codes "up")) ts)) (exp.Up t x)
up_is ts t x p q e = form_is (codes "up") ts _ (exp.Up t x) e (tree-Up t x) (written-Up t x ∙ all_true_of _ _ p q)

pub iter_none : (ts : TextTrees) → ((k : Iteration) (xs : List (List ℕ)) (x : IlExp) → iteration_written k ≡ true → are_in_order xs ≡ true → exp_written x ≡ true
    → ts ≡ more (iteration_tree k) (more (names xs) (more (exp_tree x) none)) → ⊥) → IsNoExp (list (more (word (codes "iter")) ts))
iter_none ts n = no_kind kind.Iter ts (λ e p d.
    let q = both _ _ (sym (written-Iter d.0 d.1 d.2) ∙ ap exp_written (sym d.3) ∙ p) in
    let r = both _ _ q.0 in
    n d.0 d.1 d.2 r.0 r.1 q.1 d.4)

pub iter_is : (ts : TextTrees) (k : Iteration) (xs : List (List ℕ)) (x : IlExp) → iteration_written k ≡ true → are_in_order xs ≡ true → exp_written x ≡ true
    → ts ≡ more (iteration_tree k) (more (names xs) (more (exp_tree x) none)) → IsExp (list (more (word (codes "iter")) ts)) (exp.Iter k xs x)
iter_is ts k xs x p q r e = form_is (codes "iter") ts _ (exp.Iter k xs x) e (tree-Iter k xs x) (written-Iter k xs x ∙ all_true_of _ _ (all_true_of _ _ p q) r)
