-- Tiny examples of the definitions: an operand of logic that is no truth value, an injection of a type into itself, and an iteration over nothing.
use Rattle.std.proofs.Common.{◌≡◌, refl, sym, ap, ◌∙◌, subst, true, true≢false, List, [], ◌∷◌, ◌++◌, Option, Some, inl, inr}
use Rattle.st_num.specs.declared.dim.Kind.TheVariants as kind
use Rattle.st_il.specs.declared.definition.Il.{Il}
use Rattle.st_il.specs.declared.definition.Listed.{Listed}
use Rattle.st_il.specs.declared.definition.SyntaxDef.{SyntaxDef}
use Rattle.st_il.specs.declared.expression.IlExp.{IlExp, out-IlExp}
use Rattle.st_il.specs.declared.expression.IlExp.TheOpen.{IlExp-F}
use Rattle.st_il.specs.declared.expression.IlExp.TheVariants as exp
use Rattle.st_il.specs.declared.expression.Iteration.TheVariants as iteration
use Rattle.st_il.specs.declared.ty.Ty.{Ty, out-Ty}
use Rattle.st_il.specs.declared.ty.Ty.TheOpen.{Ty-F}
use Rattle.st_il.specs.declared.ty.Ty.TheVariants as ty
use Rattle.st_il.specs.declared.type_rule.TypeRule.{TypeRule}
use Rattle.st_il.specs.declared.type_rule.TypeRule.TheVariants.{T4, T13, T14}
use Rattle.st_type_table.specs.Meaning.{Means, itself, aliased, named_at}
use Rattle.st_type_table.specs.Same as same
use Rattle.st_type_table.specs.Same.{Same}
use Rattle.st_type_table.proofs.MeansLemmas.{Means-single}
use Rattle.st_il.specs.Definitions.{syntaxes}
use Rattle.st_semantics.specs.Environments.{wrapped}
use Rattle.st_semantics.specs.Iterations.{count_of, count_at, kind_of, kind_at}
use Rattle.st_semantics.specs.OperationTypes.{Level}
use Rattle.st_semantics.specs.Scopes.{listed_inside}
use Rattle.st_ilcheck.specs.FoundTypes.{origin, TypeFrom}
use Rattle.st_ilcheck.specs.Naming.{is_repeated}
use Rattle.st_ilcheck.specs.Parts.{parts_at, standing}
use Rattle.st_ilcheck.specs.Typings.{HasTyping, HaveTypings, BreaksHere, typing, none, more}

module _ (il : Il) (ls : List Listed) where
  -- the typing of an expression by its level
  typing-at : (e : IlExp) (y : Level) (os : List (Option Ty)) (o : Option Ty) (within here broken : List TypeRule) → out-IlExp e ≡ y
      → HaveTypings il (parts_at ls y) os within → TypeFrom (syntaxes il) (origin il ls y) os o → BreaksHere il ls y os here
      → broken ≡ within ++ here → HasTyping il ls e o broken
  typing-at e y os o within here broken p hs from b w =
      typing os within here (subst (λ z. HaveTypings il (parts_at ls z) os within) (sym p) hs)
      (subst (λ z. TypeFrom (syntaxes il) (origin il ls z) os o) (sym p) from)
      (subst (λ z. BreaksHere il ls z os here) (sym p) b) w

  -- a literal breaks nothing
  truth : HasTyping il ls (exp.Bool true) (Some ty.Bool) []
  truth =
      typing-at (exp.Bool true) (IlExp-F.Bool true) [] (Some ty.Bool) [] [] [] (exp.outs-Bool true) none refl
      (record { by_form = []; by_path = []; by_names = []; form = inl (tt, refl); path = inl (tt, refl); names = inl (refl, refl); whole = refl }) refl

  five : HasTyping il ls (exp.Number 5) (Some ty.Nat) []
  five =
      typing-at (exp.Number 5) (IlExp-F.Number 5) [] (Some ty.Nat) [] [] [] (exp.outs-Number 5) none refl
      (record { by_form = []; by_path = []; by_names = []; form = inl (tt, refl); path = inl (tt, refl); names = inl (refl, refl); whole = refl }) refl

module _ (defs : List SyntaxDef) where
  means_bool : Means defs ty.Bool ty.Bool
  means_bool = itself (ap (λ z. aliased (named_at defs z)) ty.outs-Bool) refl

  means_nat : Means defs ty.Nat ty.Nat
  means_nat = itself (ap (λ z. aliased (named_at defs z)) ty.outs-Nat) refl

  -- a number type has no other meaning
  nat-apart : (u : Ty) (y : Ty-F Ty) → Means defs ty.Nat u → out-Ty u ≡ y → Ty-F.Nat ≡ y
  nat-apart u y m p = sym ty.outs-Nat ∙ ap out-Ty (Means-single defs ty.Nat ty.Nat u means_nat m) ∙ p

  nat-bool : Same defs ty.Nat ty.Bool → ⊥
  nat-bool (same.equal t p q) =
      let e : Ty-F.Nat ≡ Ty-F.Bool =
      nat-apart t Ty-F.Bool p (ap out-Ty (sym (Means-single defs ty.Bool ty.Bool t means_bool q)) ∙ ty.outs-Bool) in cc
  nat-bool (same.list x y p q s) = let e : Ty-F.Nat ≡ Ty-F.List x = nat-apart (ty.List x) (Ty-F.List x) p (ty.outs-List x) in cc
  nat-bool (same.option x y p q s) = let e : Ty-F.Nat ≡ Ty-F.Opt x = nat-apart (ty.Opt x) (Ty-F.Opt x) p (ty.outs-Opt x) in cc
  nat-bool (same.tuple xs ys p q s) = let e : Ty-F.Nat ≡ Ty-F.Tuple xs = nat-apart (ty.Tuple xs) (Ty-F.Tuple xs) p (ty.outs-Tuple xs) in cc

module _ (il : Il) where
  -- `true` and 5, joined by `and`: a truth value, of which T4 alone is broken
  pub and_number : HasTyping il [] (exp.And (exp.Bool true) (exp.Number 5)) (Some ty.Bool) (T4 ∷ [])
  and_number =
      typing-at il [] (exp.And (exp.Bool true) (exp.Number 5)) (IlExp-F.And (exp.Bool true) (exp.Number 5)) (Some ty.Bool ∷ Some ty.Nat ∷ []) (Some ty.Bool) []
      (T4 ∷ []) (T4 ∷ []) (exp.outs-And (exp.Bool true) (exp.Number 5))
      (more [] [] (truth il []) (more [] [] (five il []) none refl) refl) refl
      (record {
        by_form = T4 ∷ [];
        by_path = [];
        by_names = [];
        form = inr (λ h. nat-bool (syntaxes il) h.1.0, refl);
        path = inl (tt, refl);
        names = inl (refl, refl);
        whole = refl;
      }) refl

  -- `true`, injected into `bool`: T13 alone is broken
  pub up_itself : HasTyping il [] (exp.Up ty.Bool (exp.Bool true)) (Some ty.Bool) (T13 ∷ [])
  up_itself =
      typing-at il [] (exp.Up ty.Bool (exp.Bool true)) (IlExp-F.Up ty.Bool (exp.Bool true)) (Some ty.Bool ∷ []) (Some ty.Bool) [] (T13 ∷ []) (T13 ∷ [])
      (exp.outs-Up ty.Bool (exp.Bool true)) (more [] [] (truth il []) none refl) refl
      (record {
        by_form = T13 ∷ [];
        by_path = [];
        by_names = [];
        form = inr (λ h. h.1 (same.equal ty.Bool (means_bool (syntaxes il)) (means_bool (syntaxes il))), refl);
        path = inl (tt, refl);
        names = inl (refl, refl);
        whole = refl;
      }) refl

  no_count : count_of iteration.Star ≡ []
  no_count = ap count_at iteration.outs-Star

  list_kind : kind_of iteration.Star ≡ kind.List
  list_kind = ap kind_at iteration.outs-Star

  -- 5, iterated over nothing: a list of numbers, of which T14 alone is broken
  pub over_nothing : HasTyping il [] (exp.Iter iteration.Star [] (exp.Number 5)) (Some (ty.List ty.Nat)) (T14 ∷ [])
  over_nothing =
      typing-at il [] (exp.Iter iteration.Star [] (exp.Number 5)) (IlExp-F.Iter iteration.Star [] (exp.Number 5)) (Some ty.Nat ∷ []) (Some (ty.List ty.Nat)) []
      (T14 ∷ []) (T14 ∷ []) (exp.outs-Iter iteration.Star [] (exp.Number 5))
      (subst (λ z. HaveTypings il (standing [] z ++ (listed_inside iteration.Star [] [], exp.Number 5) ∷ []) (Some ty.Nat ∷ []) []) (sym no_count)
      (more [] [] (five il (listed_inside iteration.Star [] [])) none refl))
      (sym (ap (λ k. Some (wrapped (k ∷ []) ty.Nat)) list_kind))
      (record {
        by_form = [];
        by_path = [];
        by_names = T14 ∷ [];
        form = inl (tt, refl);
        path = inl (tt, refl);
        names = inr (λ h. true≢false (sym h ∙ ap (is_repeated []) no_count), refl);
        whole = refl;
      }) refl
