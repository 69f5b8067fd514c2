-- Trees of how often iterations go.
use Rattle.std.proofs.Common.{◌≡◌, ℕ, List, codes, true, sym, ap, subst, ◌∙◌, ◌⊎◌, inl, inr}
use Rattle.st_il.specs.declared.expression.IlExp.{IlExp}
use Rattle.st_il.specs.declared.expression.IlExp.TheOpen.{Iteration-F, Below as BelowCount}
use Rattle.st_il.specs.declared.expression.Iteration.{Iteration, roll-Iteration, out-Iteration, roll-out-Iteration}
use Rattle.st_il.specs.declared.expression.Iteration.TheVariants as count
use Rattle.st_il.specs.declared.expression.ListItem.{ListItem}
use Rattle.st_il.specs.declared.expression.PathSeg.{PathSeg}
use Rattle.st_text.specs.Text.{TextTree, TextTrees, word, quote, list, none, more}
use Rattle.st_iltext.specs.Expressions.{exp_tree, iteration_tree}
use Rattle.st_iltext.specs.Written.{exp_written, iteration_written}
use Rattle.st_iltext.specs.inner.Reading.{IsOf, IsOfNone}
use Rattle.st_iltext.proofs.Rows.{rest_of, parts_of}
use Rattle.st_iltext.proofs.ExpLevels.{tree-Star, written-Star, tree-Plus, written-Plus, tree-Quest, written-Quest, count-tree-Times, count-written-Times, count-tree-Below, count-written-Below}

abbrev IterationForm : Iteration → Type 0
IterationForm k =
    (k ≡ count.Star) ⊎ (k ≡ count.Plus) ⊎ (k ≡ count.Quest) ⊎ ((x : IlExp) × (k ≡ count.Times x)) ⊎ ((i : List ℕ) × (x : IlExp) × (k ≡ count.Below i x))

form_at : (l : Iteration-F IlExp Iteration ListItem PathSeg) → IterationForm (roll-Iteration l)
form_at Iteration-F.Star = inl count.rolls-Star
form_at Iteration-F.Plus = inr (inl count.rolls-Plus)
form_at Iteration-F.Quest = inr (inr (inl count.rolls-Quest))
form_at (Iteration-F.Times x) = inr (inr (inr (inl (x, count.rolls-Times x))))
form_at (BelowCount i x) = inr (inr (inr (inr (i, x, count.rolls-Below i x))))

iteration_form : (k : Iteration) → IterationForm k
iteration_form k = subst IterationForm (roll-out-Iteration k) (form_at (out-Iteration k))

-- a tree of none of the five forms is that of no iteration
pub iteration_none : (t : TextTree) → (t ≡ word (codes "*") → ⊥) → (t ≡ word (codes "+") → ⊥) → (t ≡ word (codes "?") → ⊥)
    → ((x : IlExp) → exp_written x ≡ true → t ≡ list (more (word (codes "^")) (more (exp_tree x) none)) → ⊥)
    → ((i : List ℕ) (x : IlExp) → exp_written x ≡ true → t ≡ list (more (word (codes "^")) (more (quote i) (more (exp_tree x) none))) → ⊥)
    → IsOfNone iteration_tree iteration_written t
iteration_none t star plus quest times below = record {
  never = λ k p e. elim (iteration_form k) [
    | inl d ↦ star (e ∙ ap iteration_tree d ∙ tree-Star)
    | inr (inl d) ↦ plus (e ∙ ap iteration_tree d ∙ tree-Plus)
    | inr (inr (inl d)) ↦ quest (e ∙ ap iteration_tree d ∙ tree-Quest)
    | inr (inr (inr (inl d))) ↦ times d.0 (sym (count-written-Times d.0) ∙ ap iteration_written (sym d.1) ∙ p) (e ∙ ap iteration_tree d.1 ∙ count-tree-Times d.0)
    | inr (inr (inr (inr d))) ↦ below d.0 d.1 (sym (count-written-Below d.0 d.1) ∙ ap iteration_written (sym d.2) ∙ p) (e ∙ ap iteration_tree d.2 ∙ count-tree-Below d.0 d.1)
  ];
}

pub star_is : (t : TextTree) → t ≡ word (codes "*") → IsOf iteration_tree iteration_written t count.Star
star_is t e = record { fits = written-Star; is = e ∙ sym tree-Star }

pub plus_is : (t : TextTree) → t ≡ word (codes "+") → IsOf iteration_tree iteration_written t count.Plus
plus_is t e = record { fits = written-Plus; is = e ∙ sym tree-Plus }

pub quest_is : (t : TextTree) → t ≡ word (codes "?") → IsOf iteration_tree iteration_written t count.Quest
quest_is t e = record { fits = written-Quest; is = e ∙ sym tree-Quest }

-- ---- counts

pub count_none : (ts : TextTrees) → ((x : IlExp) → exp_written x ≡ true → ts ≡ more (exp_tree x) none → ⊥)
    → ((i : List ℕ) (x : IlExp) → exp_written x ≡ true → ts ≡ more (quote i) (more (exp_tree x) none) → ⊥) → IsOfNone iteration_tree iteration_written (list (more (word (codes "^")) ts))
count_none ts times below = iteration_none _ (λ e. cc e) (λ e. cc e) (λ e. cc e) (λ x p e. times x p (rest_of (parts_of e))) (λ i x p e. below i x p (rest_of (parts_of e)))

pub times_is : (ts : TextTrees) (x : IlExp) → exp_written x ≡ true → ts ≡ more (exp_tree x) none → IsOf iteration_tree iteration_written (list (more (word (codes "^")) ts)) (count.Times x)
times_is ts x p e = record { fits = count-written-Times x ∙ p; is = ap (λ us. list (more (word (codes "^")) us)) e ∙ sym (count-tree-Times x) }

pub below_is : (ts : TextTrees) (i : List ℕ) (x : IlExp) → exp_written x ≡ true → ts ≡ more (quote i) (more (exp_tree x) none) → IsOf iteration_tree iteration_written (list (more (word (codes "^")) ts)) (count.Below i x)
below_is ts i x p e = record { fits = count-written-Below i x ∙ p; is = ap (λ us. list (more (word (codes "^")) us)) e ∙ sym (count-tree-Below i x) }

-- of trees that are one alone there are no two
pub one_alone : (ts : TextTrees) (t u v : TextTree) → ts ≡ more t none → ts ≡ more u (more v none) → ⊥
one_alone ts t u v e f = cc (rest_of (sym e ∙ f))
