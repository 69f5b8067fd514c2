-- Typings of expressions that break no rule, made of those of their parts.
use Rattle.std.proofs.Common.{◌≡◌, refl, sym, ap, subst, List, [], ◌∷◌, ◌++◌, Option, Some, inl}
use Rattle.std.specs.Prelude.{IsTrue}
use Rattle.st_il.specs.declared.definition.Il.{Il}
use Rattle.st_il.specs.declared.definition.Listed.{Listed}
use Rattle.st_il.specs.declared.expression.IlExp.{IlExp, out-IlExp}
use Rattle.st_il.specs.declared.ty.Ty.{Ty}
use Rattle.st_il.specs.Definitions.{syntaxes}
use Rattle.st_semantics.specs.OperationTypes.{Level}
use Rattle.st_ilcheck.specs.FoundTypes.{origin, TypeFrom, last_type}
use Rattle.st_ilcheck.specs.Naming.{names_kept}
use Rattle.st_ilcheck.specs.Parts.{Part, parts_at, standing}
use Rattle.st_ilcheck.specs.Rules.{Asks, AsksOfPath, before_last}
use Rattle.st_ilcheck.specs.Typings.{HasTyping, HaveTypings, BreaksHere, typing, none, more}

module _ (il : Il) where
  unbroken : (ls : List Listed) (y : Level) (os : List (Option Ty)) → Asks il y os → AsksOfPath (syntaxes il) y os → IsTrue (names_kept ls y) → BreaksHere il ls y os []
  unbroken ls y os form path names = record {
    by_form = [];
    by_path = [];
    by_names = [];
    form = inl (form, refl);
    path = inl (path, refl);
    names = inl (names, refl);
    whole = refl;
  }

  -- where the parts break no rule and what is asked of them is true
  pub HasTyping-made : (ls : List Listed) (x : IlExp) (y : Level) → out-IlExp x ≡ y → (os : List (Option Ty)) → HaveTypings il (parts_at ls y) os [] → (o : Option Ty) → TypeFrom (syntaxes il) (origin il ls y) os o
      → Asks il y os → AsksOfPath (syntaxes il) y os → IsTrue (names_kept ls y) → HasTyping il ls x o []
  HasTyping-made ls x y is os parts o from form path names =
      typing os [] []
      (subst (λ z. HaveTypings il (parts_at ls z) os []) (sym is) parts)
      (subst (λ z. TypeFrom (syntaxes il) (origin il ls z) os o) (sym is) from)
      (subst (λ z. BreaksHere il ls z os []) (sym is) (unbroken ls y os form path names))
      refl

  -- ---- parts

  pub HaveTypings-more : (p : Part) (ps : List Part) (o : Option Ty) (os : List (Option Ty)) → HasTyping il p.0 p.1 o [] → HaveTypings il ps os [] → HaveTypings il (p ∷ ps) (o ∷ os) []
  HaveTypings-more p ps o os h hs = more [] [] h hs refl

  pub HaveTypings-one : (ls : List Listed) (e : IlExp) (o : Ty) → HasTyping il ls e (Some o) [] → HaveTypings il (standing ls (e ∷ [])) (Some o ∷ []) []
  HaveTypings-one ls e o h = HaveTypings-more (ls, e) [] (Some o) [] h none

  pub HaveTypings-two : (ls : List Listed) (e g : IlExp) (o p : Ty) → HasTyping il ls e (Some o) [] → HasTyping il ls g (Some p) [] → HaveTypings il (standing ls (e ∷ g ∷ [])) (Some o ∷ Some p ∷ []) []
  HaveTypings-two ls e g o p h k = HaveTypings-more (ls, e) (standing ls (g ∷ [])) (Some o) (Some p ∷ []) h (HaveTypings-one ls g p k)

-- ---- the last of several types

pub last_type-push : (os : List (Option Ty)) (o : Option Ty) → last_type (os ++ o ∷ []) ≡ o
last_type-push [] o = refl
last_type-push (p ∷ []) o = refl
last_type-push (p ∷ q ∷ os) o = last_type-push (q ∷ os) o

pub before_last-push : (os : List (Option Ty)) (o : Option Ty) → before_last (os ++ o ∷ []) ≡ os
before_last-push [] o = refl
before_last-push (p ∷ []) o = refl
before_last-push (p ∷ q ∷ os) o = ap (λ z. p ∷ z) (before_last-push (q ∷ os) o)
