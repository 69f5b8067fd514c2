-- What is asked of an operator is asked of an expression that is none of the others.
use Rattle.std.proofs.Common.{◌≡◌, ◌↔◌, refl, sym, ap, ◌∙◌, List, Option}
use Rattle.st_il.specs.declared.definition.Il.{Il}
use Rattle.st_il.specs.declared.expression.IlExp.{IlExp, out-IlExp, roll-IlExp, roll-out-IlExp}
use Rattle.st_il.specs.declared.expression.IlExp.TheOpen.{IlExp-F}
use Rattle.st_il.specs.declared.expression.IlExp.TheVariants as exp
use Rattle.st_il.specs.declared.expression.Iteration.{Iteration}
use Rattle.st_il.specs.declared.expression.ListItem.{ListItem}
use Rattle.st_il.specs.declared.expression.PathSeg.{PathSeg}
use Rattle.st_il.specs.declared.ty.Ty.{Ty}
use Rattle.st_il.specs.Names.{Name}
use Rattle.st_semantics.specs.OperationTypes.{Level}
use Rattle.st_ilcheck.specs.inner.Operators.{AsksParts, AsksOperator}

-- an expression is made of its level again
rolled : (x : IlExp) (y : Level) → out-IlExp x ≡ y → x ≡ roll-IlExp y
rolled x y is = sym (roll-out-IlExp x) ∙ ap roll-IlExp is

module _ (x : IlExp)
    (no_dot : (e : IlExp) (name : Name) → x ≡ exp.Dot e name → ⊥)
    (no_set : (e : IlExp) (path : List PathSeg) (g : IlExp) → x ≡ exp.Set e path g → ⊥)
    (no_extend : (e : IlExp) (path : List PathSeg) (g : IlExp) → x ≡ exp.Extend e path g → ⊥)
    (no_tuple : (es : List IlExp) → x ≡ exp.Tuple es → ⊥)
    (no_list : (t : Ty) (items : List ListItem) → x ≡ exp.List t items → ⊥)
    (no_cat : (e : IlExp) (g : IlExp) → x ≡ exp.Cat e g → ⊥)
    (no_join : (e : IlExp) (g : IlExp) → x ≡ exp.Join e g → ⊥)
    (no_present : (e : IlExp) → x ≡ exp.Present e → ⊥)
    (no_absent : (t : Ty) → x ≡ exp.Absent t → ⊥)
    (no_len : (e : IlExp) → x ≡ exp.Len e → ⊥)
    (no_at : (e : IlExp) (g : IlExp) → x ≡ exp.At e g → ⊥)
    (no_slice : (e : IlExp) (g : IlExp) (h : IlExp) → x ≡ exp.Slice e g h → ⊥)
    (no_up : (t : Ty) (e : IlExp) → x ≡ exp.Up t e → ⊥)
    (no_iter : (how : Iteration) (xs : List Name) (body : IlExp) → x ≡ exp.Iter how xs body → ⊥) where
  asks_at : (il : Il) (os : List (Option Ty)) (y : Level) → out-IlExp x ≡ y → AsksOperator il y os ↔ AsksParts il y os
  asks_at il os (IlExp-F.Dot e name) is = absurd (no_dot e name (rolled x (IlExp-F.Dot e name) is ∙ exp.rolls-Dot e name))
  asks_at il os (IlExp-F.Set e path g) is = absurd (no_set e path g (rolled x (IlExp-F.Set e path g) is ∙ exp.rolls-Set e path g))
  asks_at il os (IlExp-F.Extend e path g) is = absurd (no_extend e path g (rolled x (IlExp-F.Extend e path g) is ∙ exp.rolls-Extend e path g))
  asks_at il os (IlExp-F.Tuple es) is = absurd (no_tuple es (rolled x (IlExp-F.Tuple es) is ∙ exp.rolls-Tuple es))
  asks_at il os (IlExp-F.List t items) is = absurd (no_list t items (rolled x (IlExp-F.List t items) is ∙ exp.rolls-List t items))
  asks_at il os (IlExp-F.Cat e g) is = absurd (no_cat e g (rolled x (IlExp-F.Cat e g) is ∙ exp.rolls-Cat e g))
  asks_at il os (IlExp-F.Join e g) is = absurd (no_join e g (rolled x (IlExp-F.Join e g) is ∙ exp.rolls-Join e g))
  asks_at il os (IlExp-F.Present e) is = absurd (no_present e (rolled x (IlExp-F.Present e) is ∙ exp.rolls-Present e))
  asks_at il os (IlExp-F.Absent t) is = absurd (no_absent t (rolled x (IlExp-F.Absent t) is ∙ exp.rolls-Absent t))
  asks_at il os (IlExp-F.Len e) is = absurd (no_len e (rolled x (IlExp-F.Len e) is ∙ exp.rolls-Len e))
  asks_at il os (IlExp-F.IlExp::At e g) is = absurd (no_at e g (rolled x (IlExp-F.IlExp::At e g) is ∙ exp.rolls-At e g))
  asks_at il os (IlExp-F.IlExp::Slice e g h) is = absurd (no_slice e g h (rolled x (IlExp-F.IlExp::Slice e g h) is ∙ exp.rolls-Slice e g h))
  asks_at il os (IlExp-F.Up t e) is = absurd (no_up t e (rolled x (IlExp-F.Up t e) is ∙ exp.rolls-Up t e))
  asks_at il os (IlExp-F.Iter how xs body) is = absurd (no_iter how xs body (rolled x (IlExp-F.Iter how xs body) is ∙ exp.rolls-Iter how xs body))
  asks_at il os _ is = (λ k. k, λ k. k)

  pub asks-operator : (il : Il) (os : List (Option Ty)) → AsksOperator il (out-IlExp x) os ↔ AsksParts il (out-IlExp x) os
  asks-operator il os = asks_at il os (out-IlExp x) refl
