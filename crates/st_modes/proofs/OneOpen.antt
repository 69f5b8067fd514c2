-- Whether the pattern of a premise has one part of open length in a list, by its parts.
use Rattle.std.proofs.Common.{◌≡◌, refl, sym, ◌∙◌, ap, subst, Bool, true, false, ◌&&◌, if◌then◌else◌, List, ◌++◌, Option, Some, None}
use Rattle.std.specs.List.{list_all}
use Rattle.std.specs.Option.{option_map}
use Rattle.st_il.specs.declared.definition.Il.{Il}
use Rattle.st_il.specs.declared.expression.IlExp.{IlExp}
use Rattle.st_il.specs.declared.expression.IlPrem.{IlPrem}
use Rattle.st_il.specs.declared.expression.IlPrem.TheVariants as prem
use Rattle.st_il.specs.declared.expression.Iteration.{Iteration}
use Rattle.st_il.specs.Names.{Name, all_known}
use Rattle.st_semantics.specs.Directions.{inputs_by, outputs_by, mask}
use Rattle.st_semantics.specs.Variables.{vars_of}
use Rattle.st_semantics.specs.Patterns.{bound_by}
use Rattle.st_semantics.specs.Executable.{Judgement, class_of, is_met}
use Rattle.st_semantics.specs.ModeRules.{has_one_open}
use Rattle.st_order.specs.inner.Classes.{IsInside}
use Rattle.st_order.proofs.ClassParts.{class_goal, class_inside, class_outside}

judged : (b : Bool) → has_one_open (if b then Some Judgement else None) ≡ true
judged true = refl
judged false = refl

module _ (il : Il) (bound : List Name) (p : IlPrem) where
  -- a goal has no pattern of that kind
  pub open_goal : (relation : Name) (es : List IlExp) → p ≡ prem.Goal relation es → true ≡ has_one_open (class_of il bound p)
  open_goal relation es is =
      let outs : List IlExp = outputs_by (mask il relation) es in
      sym (ap has_one_open (class_goal il bound p relation es is)
      ∙ judged (all_known bound (vars_of (inputs_by (mask il relation) es)) && list_all (is_met bound (bound ++ bound_by outs)) outs))

  inside_read : (how : Iteration) (xs list : List Name) (body inner : IlPrem) (o : Option (List Name)) → list ≡ xs → inner ≡ body → IsInside bound how list inner o → IsInside bound how xs body o
  inside_read how xs list body inner o l b h = subst (λ z. IsInside bound how xs z o) b (subst (λ z. IsInside bound how z inner o) l h)

  -- an iterated premise that cannot be entered
  pub open_out : {S : Type 0} (found : Option S) (names_of : S → List Name) (how : Iteration) (xs list : List Name) (body inner : IlPrem) → p ≡ prem.Each how xs body → list ≡ xs → inner ≡ body
      → IsInside bound how list inner (option_map names_of found) → found ≡ None → true ≡ has_one_open (class_of il bound p)
  open_out found names_of how xs list body inner is l b h none =
      let i = inside_read how xs list body inner (option_map names_of found) l b h in
      sym (ap has_one_open (class_outside il bound p how xs body is (subst (λ z. IsInside bound how xs body (option_map names_of z)) none i)))

  -- one that can
  pub open_in : {S : Type 0} (found : Option S) (set : S) (names_of : S → List Name) (how : Iteration) (xs list : List Name) (body inner : IlPrem) (has : Bool) → p ≡ prem.Each how xs body → list ≡ xs → inner ≡ body
      → IsInside bound how list inner (option_map names_of found) → found ≡ Some set → has ≡ has_one_open (class_of il (names_of set) inner) → has ≡ has_one_open (class_of il bound p)
  open_in found set names_of how xs list body inner has is l b h some c =
      let i = inside_read how xs list body inner (option_map names_of found) l b h in
      c ∙ ap (λ z. has_one_open (class_of il (names_of set) z)) b
      ∙ sym (ap has_one_open (class_inside il bound p how xs body (names_of set) is (subst (λ z. IsInside bound how xs body (option_map names_of z)) some i)))
