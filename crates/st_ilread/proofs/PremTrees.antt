-- Trees of premises.
use Rattle.std.proofs.Common.{◌≡◌, ℕ, List, map, codes, true, ◌&&◌, sym, ap, subst, ◌∙◌, ◌⊎◌, inl, inr, arith}
use Rattle.std.specs.List.{list_all}
use Rattle.st_il.specs.declared.expression.IlExp.{IlExp}
use Rattle.st_il.specs.declared.expression.IlPrem.{IlPrem, roll-IlPrem, out-IlPrem, roll-out-IlPrem}
use Rattle.st_il.specs.declared.expression.IlPrem.TheOpen.{IlPrem-F}
use Rattle.st_il.specs.declared.expression.IlPrem.TheVariants as prem
use Rattle.st_il.specs.declared.expression.Iteration.{Iteration}
use Rattle.st_text.specs.Text.{TextTree, TextTrees, word, quote, list, none, more}
use Rattle.st_text.specs.Trees.{row_of}
use Rattle.st_iltext.specs.Expressions.{names, exp_tree, iteration_tree, prem_tree}
use Rattle.st_iltext.specs.Written.{are_in_order, exp_written, iteration_written, prem_written}
use Rattle.st_iltext.specs.inner.Reading.{IsOf, IsOfNone}
use Rattle.st_iltext.proofs.Rows.{rest_of, parts_of, both}
use Rattle.st_iltext.proofs.PremSame.{prem-tree, prem-written, head}
use Rattle.st_ilread.specs.inner.Parts.{AreNamed, AreNoneNamed, IsOnly, IsOnlyNone}
use Rattle.st_ilread.proofs.Passed.{all_true_of}

abbrev PremForm : IlPrem → Type 0
PremForm q =
    ((x : IlExp) × (q ≡ prem.If x)) ⊎ ((r : List ℕ) × (es : List IlExp) × (q ≡ prem.Goal r es)) ⊎ (q ≡ prem.Otherwise)
    ⊎ ((k : Iteration) × (xs : List (List ℕ)) × (inner : IlPrem) × (q ≡ prem.Each k xs inner))

form_at : (l : IlPrem-F IlPrem) → PremForm (roll-IlPrem l)
form_at (IlPrem-F.If x) = inl (x, prem.rolls-If x)
form_at (IlPrem-F.Goal r es) = inr (inl (r, es, prem.rolls-Goal r es))
form_at IlPrem-F.Otherwise = inr (inr (inl prem.rolls-Otherwise))
form_at (IlPrem-F.Each k xs inner) = inr (inr (inr (k, xs, inner, prem.rolls-Each k xs inner)))

prem_form : (q : IlPrem) → PremForm q
prem_form q = subst PremForm (roll-out-IlPrem q) (form_at (out-IlPrem q))

-- ---- levels

tree-If : (x : IlExp) → prem_tree (prem.If x) ≡ list (more (word (codes "if")) (more (exp_tree x) none))
tree-If x = ap prem_tree (sym (prem.rolls-If x)) ∙ prem-tree (IlPrem-F.If x)

written-If : (x : IlExp) → prem_written (prem.If x) ≡ exp_written x
written-If x = ap prem_written (sym (prem.rolls-If x)) ∙ prem-written (IlPrem-F.If x)

tree-Goal : (r : List ℕ) (es : List IlExp) → prem_tree (prem.Goal r es) ≡ list (more (word (codes "goal")) (more (quote r) (row_of (map exp_tree es))))
tree-Goal r es = ap prem_tree (sym (prem.rolls-Goal r es)) ∙ prem-tree (IlPrem-F.Goal r es)

written-Goal : (r : List ℕ) (es : List IlExp) → prem_written (prem.Goal r es) ≡ list_all exp_written es
written-Goal r es = ap prem_written (sym (prem.rolls-Goal r es)) ∙ prem-written (IlPrem-F.Goal r es)

tree-Otherwise : prem_tree prem.Otherwise ≡ list (more (word (codes "otherwise")) none)
tree-Otherwise = ap prem_tree (sym prem.rolls-Otherwise) ∙ prem-tree IlPrem-F.Otherwise

written-Otherwise : prem_written prem.Otherwise ≡ true
written-Otherwise = ap prem_written (sym prem.rolls-Otherwise) ∙ prem-written IlPrem-F.Otherwise

tree-Each : (k : Iteration) (xs : List (List ℕ)) (q : IlPrem) → prem_tree (prem.Each k xs q) ≡ list (more (word (codes "each")) (more (iteration_tree k) (more (names xs) (more (prem_tree q) none))))
tree-Each k xs q = ap prem_tree (sym (prem.rolls-Each k xs q)) ∙ prem-tree (IlPrem-F.Each k xs q)

written-Each : (k : Iteration) (xs : List (List ℕ)) (q : IlPrem) → prem_written (prem.Each k xs q) ≡ (iteration_written k && are_in_order xs && prem_written q)
written-Each k xs q = ap prem_written (sym (prem.rolls-Each k xs q)) ∙ prem-written (IlPrem-F.Each k xs q)

-- a tree of none of the four forms is that of no premise
pub prem_none : (t : TextTree) → ((x : IlExp) → exp_written x ≡ true → t ≡ list (more (word (codes "if")) (more (exp_tree x) none)) → ⊥)
    → ((r : List ℕ) (es : List IlExp) → list_all exp_written es ≡ true → t ≡ list (more (word (codes "goal")) (more (quote r) (row_of (map exp_tree es)))) → ⊥)
    → (t ≡ list (more (word (codes "otherwise")) none) → ⊥)
    → ((k : Iteration) (xs : List (List ℕ)) (q : IlPrem) → iteration_written k ≡ true → are_in_order xs ≡ true → prem_written q ≡ true
    → t ≡ list (more (word (codes "each")) (more (iteration_tree k) (more (names xs) (more (prem_tree q) none)))) → ⊥) → IsOfNone prem_tree prem_written t
prem_none t condition judgement otherwise each = record {
  never = λ q p e. elim (prem_form q) [
    | inl d ↦ condition d.0 (sym (written-If d.0) ∙ ap prem_written (sym d.1) ∙ p) (e ∙ ap prem_tree d.1 ∙ tree-If d.0)
    | inr (inl d) ↦ judgement d.0 d.1 (sym (written-Goal d.0 d.1) ∙ ap prem_written (sym d.2) ∙ p) (e ∙ ap prem_tree d.2 ∙ tree-Goal d.0 d.1)
    | inr (inr (inl d)) ↦ otherwise (e ∙ ap prem_tree d ∙ tree-Otherwise)
    | inr (inr (inr d)) ↦
        let u = both _ _ (sym (written-Each d.0 d.1 d.2) ∙ ap prem_written (sym d.3) ∙ p) in
        let v = both _ _ u.0 in
        each d.0 d.1 d.2 v.0 v.1 u.1 (e ∙ ap prem_tree d.3 ∙ tree-Each d.0 d.1 d.2)
  ];
}

-- ---- conditions

pub if_none : (ts : TextTrees) → IsOnlyNone exp_tree exp_written ts → IsOfNone prem_tree prem_written (list (more (word (codes "if")) ts))
if_none ts n =
    prem_none _ (λ x p e. n.never x p (rest_of (parts_of e))) (λ r es p e. omega (arith, ap head e)) (λ e. omega (arith, ap head e)) (λ k xs q p o r e. omega (arith, ap head e))

pub if_is : (ts : TextTrees) (x : IlExp) → IsOnly exp_tree exp_written ts x → IsOf prem_tree prem_written (list (more (word (codes "if")) ts)) (prem.If x)
if_is ts x o = record { fits = written-If x ∙ o.fits; is = ap (λ us. list (more (word (codes "if")) us)) o.is ∙ sym (tree-If x) }

-- ---- judgements

pub goal_none : (ts : TextTrees) → AreNoneNamed ts → IsOfNone prem_tree prem_written (list (more (word (codes "goal")) ts))
goal_none ts n =
    prem_none _ (λ x p e. omega (arith, ap head e)) (λ r es p e. n.never r es (record { fit = p; are = rest_of (parts_of e) })) (λ e. omega (arith, ap head e)) (λ k xs q p o r e. omega (arith, ap head e))

pub goal_is : (ts : TextTrees) (r : List ℕ) (es : List IlExp) → AreNamed ts r es → IsOf prem_tree prem_written (list (more (word (codes "goal")) ts)) (prem.Goal r es)
goal_is ts r es i = record { fits = written-Goal r es ∙ i.fit; is = ap (λ us. list (more (word (codes "goal")) us)) i.are ∙ sym (tree-Goal r es) }

-- ---- otherwise

pub otherwise_none : (ts : TextTrees) → (ts ≡ none → ⊥) → IsOfNone prem_tree prem_written (list (more (word (codes "otherwise")) ts))
otherwise_none ts n =
    prem_none _ (λ x p e. omega (arith, ap head e)) (λ r es p e. omega (arith, ap head e)) (λ e. n (rest_of (parts_of e))) (λ k xs q p o r e. omega (arith, ap head e))

pub otherwise_is : (ts : TextTrees) → ts ≡ none → IsOf prem_tree prem_written (list (more (word (codes "otherwise")) ts)) prem.Otherwise
otherwise_is ts e = record { fits = written-Otherwise; is = ap (λ us. list (more (word (codes "otherwise")) us)) e ∙ sym tree-Otherwise }

-- ---- iterated premises

pub each_none : (ts : TextTrees) → ((k : Iteration) (xs : List (List ℕ)) (q : IlPrem) → iteration_written k ≡ true → are_in_order xs ≡ true → prem_written q ≡ true
    → ts ≡ more (iteration_tree k) (more (names xs) (more (prem_tree q) none)) → ⊥) → IsOfNone prem_tree prem_written (list (more (word (codes "each")) ts))
each_none ts n =
    prem_none _ (λ x p e. omega (arith, ap head e)) (λ r es p e. omega (arith, ap head e)) (λ e. omega (arith, ap head e)) (λ k xs q p o r e. n k xs q p o r (rest_of (parts_of e)))

pub each_is : (ts : TextTrees) (k : Iteration) (xs : List (List ℕ)) (q made : IlPrem) → iteration_written k ≡ true → are_in_order xs ≡ true → prem_written q ≡ true
    → ts ≡ more (iteration_tree k) (more (names xs) (more (prem_tree q) none)) → made ≡ q → IsOf prem_tree prem_written (list (more (word (codes "each")) ts)) (prem.Each k xs made)
each_is ts k xs q made p o r e f = subst (λ (z : IlPrem). IsOf prem_tree prem_written (list (more (word (codes "each")) ts)) (prem.Each k xs z)) (sym f) (record {
  fits = written-Each k xs q ∙ all_true_of _ _ (all_true_of _ _ p o) r;
  is = ap (λ us. list (more (word (codes "each")) us)) e ∙ sym (tree-Each k xs q);
})
