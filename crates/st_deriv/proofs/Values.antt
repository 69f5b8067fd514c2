-- Values, tree by tree.
use Rattle.std.proofs.Common.{◌≡◌, ℕ, zero, suc, ◌+◌, ◌<◌, ◌≤◌, List, [], ◌∷◌, ◌++◌, length, get_or, take, map, refl, sym, ap, ap₂, subst, ◌∙◌, arith}
use Rattle.std.specs.List.{All}
use Rattle.std.proofs.lemmas.List.{map_push, take_more, take_all}
use Rattle.std.proofs.lemmas.List.Elements.{All-nil, All-push}
use Rattle.st_il.specs.declared.value.Value.{Value}
use Rattle.st_il.specs.declared.value.Value.TheVariants.{Case, outs-Case}
use Rattle.st_text.specs.Trees.{row_of, tree_of, trees_of}
use Rattle.st_text.specs.declared.tree.TextTree as program
use Rattle.st_deriv.specs.LineText.{tag_at, tag_of, IsPlainCase, case_tree, value_tree, value_trees}
use Rattle.st_deriv.specs.inner.Reading.{ValueTrees, AreNoValues, IsNoCase}
use Rattle.st_deriv.proofs.Parts.{lists, quotes, firsts, rests}

pub tag_of-Case : (val : Value) (tag : List ℕ) → val ≡ Case tag [] → tag_of val ≡ tag
tag_of-Case val tag e = ap tag_of e ∙ ap tag_at (outs-Case tag [])

pub IsPlainCase-Case : (val : Value) (tag : List ℕ) → val ≡ Case tag [] → IsPlainCase val
IsPlainCase-Case val tag e = e ∙ ap (λ t. Case t []) (sym (tag_of-Case val tag e))

-- these values are read from so many trees
pub record ValuesSoFar (vals : List Value) (trees : List program.TextTree) (n : ℕ) : Type 0 where
  pub plain : All IsPlainCase vals
  pub is : map tree_of (take n trees) ≡ map value_tree vals

pub values_start : (vals : List Value) (trees : List program.TextTree) → vals ≡ [] → ValuesSoFar vals trees 0
values_start vals trees e = subst (λ vs. ValuesSoFar vs trees 0) (sym e) (record { plain = All-nil IsPlainCase; is = refl })

pub values_step : (vals longer : List Value) (trees : List program.TextTree) (i : ℕ) (t : program.TextTree) (tag : List ℕ) (val : Value)
    → ValuesSoFar vals trees i → i < length trees → t ≡ get_or trees i t → tree_of t ≡ case_tree tag → val ≡ Case tag [] → longer ≡ vals ++ val ∷ []
    → ValuesSoFar longer trees (i + 1)
values_step vals longer trees i t tag val s h e f v g = subst (λ vs. ValuesSoFar vs trees (i + 1)) (sym g) (record {
  plain = All-push IsPlainCase vals val s.plain (IsPlainCase-Case val tag v);
  is = ap (map tree_of) (take_more trees i t h) ∙ map_push tree_of (take i trees) (get_or trees i t)
      ∙ ap₂ (λ us u. us ++ u ∷ []) s.is (ap tree_of (sym e) ∙ f ∙ ap case_tree (sym (tag_of-Case val tag v)))
      ∙ sym (map_push value_tree vals val);
})

pub values_end : (vals : List Value) (trees : List program.TextTree) (i : ℕ) → ValuesSoFar vals trees i → length trees ≤ i → ValueTrees vals (trees_of trees)
values_end vals trees i s h = record { plain = s.plain; is = ap row_of (ap (map tree_of) (sym (take_all i trees h)) ∙ s.is) }

no_values : (trees : List program.TextTree) (i : ℕ) (t : program.TextTree) (vals : List Value) → i < length trees → t ≡ get_or trees i t
    → IsNoCase (tree_of t) → trees_of trees ≡ value_trees vals → ⊥
no_values [] i t vals h e n f = omega arith
no_values (x ∷ trees) i t [] h e n f = cc f
no_values (x ∷ trees) zero t (v ∷ vals) h e n f = n.never (tag_of v) (ap tree_of e ∙ firsts f)
no_values (x ∷ trees) (suc i) t (v ∷ vals) h e n f = no_values trees i t vals (omega arith) e n (rests f)

pub values_none : (trees : List program.TextTree) (i : ℕ) (t : program.TextTree) → i < length trees → t ≡ get_or trees i t → IsNoCase (tree_of t) → AreNoValues (trees_of trees)
values_none trees i t h e n = record { never = λ vals v. no_values trees i t vals h e n v.is }

-- trees are those of one row of values
pub values_unique : (vals others : List Value) → All IsPlainCase vals → All IsPlainCase others → value_trees vals ≡ value_trees others → vals ≡ others
values_unique [] [] p q e = refl
values_unique [] (w ∷ others) p q e = absurd (cc)
values_unique (v ∷ vals) [] p q e = absurd (cc)
values_unique (v ∷ vals) (w ∷ others) p q e =
    let tags : tag_of v ≡ tag_of w = quotes (firsts (rests (lists (firsts e)))) in
    let here : v ≡ w = p 0 v (omega arith) ∙ ap (λ t. Case t []) tags ∙ sym (q 0 w (omega arith)) in
    ap₂ ◌∷◌ here (values_unique vals others (λ k d h. p (suc k) d (omega arith)) (λ k d h. q (suc k) d (omega arith)) (rests e))

pub ruleset value_steps = (values_start, values_step, values_end, values_none)
