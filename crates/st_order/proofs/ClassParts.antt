-- The class of a premise by its parts, and what is bound inside an iteration.
use Rattle.std.proofs.Common.{◌≡◌, refl, sym, ◌∙◌, ap, ap₂, subst, ℕ, Bool, true, false, ◌&&◌, if◌then◌else◌, List, [], ◌++◌, Option, Some, None, rules}
use Rattle.std.specs.Borrow.{Bor}
use Rattle.std.specs.List.{list_all}
use Rattle.std.specs.Option.{option_map}
use Rattle.st_il.specs.declared.definition.Il.{Il}
use Rattle.st_il.specs.declared.expression.IlExp.{IlExp}
use Rattle.st_il.specs.declared.expression.IlPrem.{IlPrem, the_lemmas}
use Rattle.st_il.specs.declared.expression.IlPrem.TheVariants as prem
use Rattle.st_il.specs.declared.expression.Iteration.{Iteration}
use Rattle.st_il.specs.Names.{Name, has_name, all_known, without}
use Rattle.st_semantics.specs.Directions.{inputs_by, outputs_by, mask}
use Rattle.st_semantics.specs.Iterations.{count_of, index_of}
use Rattle.st_semantics.specs.Variables.{prem_vars}
use Rattle.st_semantics.specs.Executable.{class_of, class_of_condition, class_of_goal, class_of_each, is_anchored, is_countable, bound_inside}
use Rattle.st_semantics.proofs.CanRun.{runs_of}
use Rattle.st_order.specs.declared.class.Class as made
use Rattle.st_order.specs.inner.Index.{names_in, SameNames}
use Rattle.st_order.specs.inner.Classes.{kind, others, can_enter, IsInside}
use Rattle.st_order.proofs.SameNames.{without_same, names_made}
use Rattle.st_order.proofs.SameClass.{class_same, runs_vars}

module _ (il : Il) (bound : List Name) where
  if_level : (e : IlExp) → class_of il bound (prem.If e) ≡ class_of_condition bound e
  if_level e = search (rules, the_lemmas)

  goal_level : (relation : Name) (es : List IlExp) → class_of il bound (prem.Goal relation es) ≡ class_of_goal bound (inputs_by (mask il relation) es) (outputs_by (mask il relation) es)
  goal_level relation es = search (rules, the_lemmas)

  each_level : (how : Iteration) (xs : List Name) (body : IlPrem) → class_of il bound (prem.Each how xs body) ≡ class_of_each bound how xs (runs_of il body)
  each_level how xs body = search (rules, the_lemmas)

  pub class_if : (p : IlPrem) (e : IlExp) → p ≡ prem.If e → class_of il bound p ≡ class_of_condition bound e
  class_if p e is = ap (class_of il bound) is ∙ if_level e

  pub class_goal : (p : IlPrem) (relation : Name) (es : List IlExp) → p ≡ prem.Goal relation es → class_of il bound p ≡ class_of_goal bound (inputs_by (mask il relation) es) (outputs_by (mask il relation) es)
  class_goal p relation es is = ap (class_of il bound) is ∙ goal_level relation es

  each_parts : (p : IlPrem) (how : Iteration) (xs : List Name) (body : IlPrem) → p ≡ prem.Each how xs body
      → class_of il bound p ≡ (if can_enter bound how xs body then class_of il (bound_inside bound how xs (others how xs body)) body else None)
  each_parts p how xs body is =
      ap (class_of il bound) is ∙ each_level how xs body
      ∙ ap (λ (vs : List Name). if is_anchored bound how xs && list_all (is_countable bound) (count_of how) && all_known bound (without xs (without (index_of how) vs))
      then class_of il (bound_inside bound how xs (without xs (without (index_of how) vs))) body else None) (runs_vars il body)

  -- an iterated premise has the class of what it repeats
  pub class_inside : (p : IlPrem) (how : Iteration) (xs : List Name) (body : IlPrem) (inside : List Name) → p ≡ prem.Each how xs body → IsInside bound how xs body (Some inside)
      → class_of il bound p ≡ class_of il inside body
  class_inside p how xs body inside is h =
      each_parts p how xs body is ∙ ap (λ b. if b then class_of il (bound_inside bound how xs (others how xs body)) body else None) h.0
      ∙ class_same il body (bound_inside bound how xs (others how xs body)) inside (λ q. sym (h.1 q))

  -- it cannot be entered
  pub class_outside : (p : IlPrem) (how : Iteration) (xs : List Name) (body : IlPrem) → p ≡ prem.Each how xs body → IsInside bound how xs body None → class_of il bound p ≡ None
  class_outside p how xs body is h =
      each_parts p how xs body is ∙ ap (λ b. if b then class_of il (bound_inside bound how xs (others how xs body)) body else None) h

-- ---- whether an iterated premise can be entered

module _ (bound : List Name) (how : Iteration) (xs : List Name) (body : IlPrem) where
  pub not_anchored : (listed : List Name) → listed ≡ xs → is_anchored bound how listed ≡ false → IsInside bound how xs body None
  not_anchored listed e h =
      ap (λ b. b && list_all (is_countable bound) (count_of how) && all_known bound (others how xs body)) (ap (is_anchored bound how) (sym e) ∙ h)

  and_false : (a b : Bool) → b ≡ false → (a && b) ≡ false
  and_false true b h = h
  and_false false b h = refl

  pub not_countable : list_all (is_countable bound) (count_of how) ≡ false → IsInside bound how xs body None
  not_countable h =
      ap (λ b. b && all_known bound (others how xs body)) (and_false (is_anchored bound how xs) (list_all (is_countable bound) (count_of how)) h)

  pub not_bound : (listed names : List Name) → listed ≡ xs → names ≡ others how listed body → all_known bound names ≡ false → IsInside bound how xs body None
  not_bound listed names e n h =
      and_false (is_anchored bound how xs && list_all (is_countable bound) (count_of how)) (all_known bound (others how xs body))
      (ap (all_known bound) (sym (n ∙ ap (λ z. others how z body) e)) ∙ h)

  pub entered : (listed names inside : List Name) → listed ≡ xs → is_anchored bound how listed ≡ true → list_all (is_countable bound) (count_of how) ≡ true → names ≡ others how listed body
      → all_known bound names ≡ true → SameNames inside (bound_inside bound how listed names) → IsInside bound how xs body (Some inside)
  entered listed names inside e a c n k s =
      let names_are : names ≡ others how xs body = n ∙ ap (λ z. others how z body) e in (
        ap₂ (λ p q. p && q) (ap₂ (λ p q. p && q) (ap (is_anchored bound how) (sym e) ∙ a) c) (ap (all_known bound) (sym names_are) ∙ k),
        λ q. s q ∙ ap₂ (λ x y. has_name (bound_inside bound how x y) q) e names_are,
      )

-- ---- what is bound inside

pub inside_is : (set : List Name) (slice first second third old : List (Bor (List ℕ))) (known list index : List Name) → SameNames set (names_in slice) → slice ≡ third → names_in first ≡ names_in old ++ known → old ≡ []
    → names_in second ≡ names_in first ++ list → names_in third ≡ names_in second ++ index → SameNames set (known ++ list ++ index)
inside_is set slice first second third old known list index s e a none b c q =
    s q ∙ ap (λ z. has_name z q) (ap names_in e ∙ c ∙ ap (λ z. z ++ index) (b ∙ ap (λ z. z ++ list) (a ∙ ap (λ z. names_in z ++ known) none)))

-- the other variables, as they were left one after another
pub others_made : (how : Iteration) (xs : List Name) (body : IlPrem) (set : List Name) (inner inner_row inner_old rest rest_row rest_old row old : List (Bor (List ℕ))) → SameNames set xs
    → inner ≡ inner_row → names_in inner_row ≡ names_in inner_old ++ prem_vars body → inner_old ≡ [] → rest ≡ rest_row → names_in rest_row ≡ names_in rest_old ++ without (index_of how) (names_in inner) → rest_old ≡ []
    → names_in row ≡ names_in old ++ without set (names_in rest) → old ≡ [] → names_in row ≡ others how xs body
others_made how xs body set inner inner_row inner_old rest rest_row rest_old row old s a b c d e f g h =
    g ∙ ap (λ z. names_in z ++ without set (names_in rest)) h ∙ without_same set xs s (names_in rest)
    ∙ ap (without xs) (names_made rest rest_row rest_old (without (index_of how) (names_in inner)) d e f ∙ ap (without (index_of how)) (names_made inner inner_row inner_old (prem_vars body) a b c))

-- ---- by what was read of a premise

module _ (il : Il) (bound : List Name) (p : IlPrem) where
  pub condition_read : (e : IlExp) (class : Option made.Class) → p ≡ prem.If e → class ≡ kind (class_of_condition bound e) → class ≡ kind (class_of il bound p)
  condition_read e class is c = c ∙ ap kind (sym (class_if il bound p e is))

  pub goal_read : (relation : Name) (es exps : List IlExp) (inputs : List Bool) (class : Option made.Class) → p ≡ prem.Goal relation es → exps ≡ es → inputs ≡ mask il relation
      → class ≡ kind (class_of_goal bound (inputs_by inputs exps) (outputs_by inputs exps)) → class ≡ kind (class_of il bound p)
  goal_read relation es exps inputs class is e m c =
      c ∙ ap kind (ap₂ (λ i x. class_of_goal bound (inputs_by i x) (outputs_by i x)) m e ∙ sym (class_goal il bound p relation es is))

  inside_read : (how : Iteration) (xs list : List Name) (body inner : IlPrem) (o : Option (List Name)) → list ≡ xs → inner ≡ body → IsInside bound how list inner o → IsInside bound how xs body o
  inside_read how xs list body inner o l b h = subst (λ z. IsInside bound how xs z o) b (subst (λ z. IsInside bound how z inner o) l h)

  pub each_out : {S : Type 0} (found : Option S) (names_of : S → List Name) (how : Iteration) (xs list : List Name) (body inner : IlPrem) → p ≡ prem.Each how xs body → list ≡ xs → inner ≡ body → IsInside bound how list inner (option_map names_of found)
      → found ≡ None → None ≡ kind (class_of il bound p)
  each_out found names_of how xs list body inner is l b h none =
      let i = inside_read how xs list body inner (option_map names_of found) l b h in
      sym (ap kind (class_outside il bound p how xs body is (subst (λ z. IsInside bound how xs body (option_map names_of z)) none i)))

  pub each_in : {S : Type 0} (found : Option S) (set : S) (names_of : S → List Name) (how : Iteration) (xs list : List Name) (body inner : IlPrem) (class : Option made.Class) → p ≡ prem.Each how xs body → list ≡ xs → inner ≡ body
      → IsInside bound how list inner (option_map names_of found) → found ≡ Some set → class ≡ kind (class_of il (names_of set) inner) → class ≡ kind (class_of il bound p)
  each_in found set names_of how xs list body inner class is l b h some c =
      let i = inside_read how xs list body inner (option_map names_of found) l b h in
      c ∙ ap (λ z. kind (class_of il (names_of set) z)) b
      ∙ sym (ap kind (class_inside il bound p how xs body (names_of set) is (subst (λ z. IsInside bound how xs body (option_map names_of z)) some i)))
