-- What is made of two operands is erased to the operands and their sign.
use Rattle.std.proofs.Common.{◌≡◌, refl, ◌∙◌, ap, List}
use Rattle.st_num.specs.declared.span.Span.{Span}
use Rattle.st_num.specs.declared.mark.Mark.{Mark}
use Rattle.st_num.specs.declared.mark.Mark.TheVariants as mark
use Rattle.st_num.specs.declared.rule.RuleId.TheVariants.{Y1, Y5}
use Rattle.st_el.specs.declared.expression.Exp.{Exp}
use Rattle.st_el.specs.declared.expression.Count.TheOpen.{Node-F}
use Rattle.st_il.specs.declared.definition.IlDef.{IlDef}
use Rattle.st_il.specs.declared.ty.Ty.TheVariants as ty
use Rattle.st_il.specs.declared.ty.NumTy.{NumTy}
use Rattle.st_il.specs.declared.ty.NumTy.TheVariants as number
use Rattle.st_il.specs.declared.expression.IlExp.{IlExp}
use Rattle.st_il.specs.declared.expression.IlExp.TheVariants as il
use Rattle.st_notation.specs.Elements.{opened}
use Rattle.st_erase.specs.Erasure.{erased, binary, operation}
use Rattle.st_elab_table.specs.declared.decls.Decls.{Decls}
use Rattle.st_dims.specs.declared.within.Within.{Within}
use Rattle.st_elab_table.specs.declared.operator.Operator.{Operator}
use Rattle.st_elab_table.specs.declared.operator.Operator.TheVariants as operator
use Rattle.st_elab_table.specs.Operators.{operator_of, connected, equated, ordered, reckoned}
use Rattle.st_elab_table.specs.Forms.{place, inferable}
use Rattle.st_elab_table.specs.Questions.{Made, Step, Asks}
use Rattle.st_elab_table.specs.Steps.{breach, give, asked, raised, injected, wider, number_type, as_joined}
use Rattle.st_elab_table.specs.Operands.{logic_row, numeric, compared, equation_row, membership_row, both_numeric, order_row, arithmetic_row, power_row, negation_row, concatenated, binary_row}
use Rattle.st_elab_law.proofs.Claims.{IsErasedTo, IsWritten, Claim}
use Rattle.st_elab_law.proofs.Erasings.{erased-And, erased-Or, erased-Imp, erased-Iff, erased-Neg, erased-Add, erased-Sub, erased-Mul, erased-Div, erased-Rem, erased-Pow, erased-Eq, erased-Ne, erased-Lt, erased-Gt, erased-Le, erased-Ge, erased-Member}
use Rattle.st_elab_law.proofs.Writing.{source_as, binary_written, operation_written, negation_written}
use Rattle.st_elab_law.proofs.Keeping.{keeps_if, keeps_list, keeps_number, keeps_larger, erased-injected, keeps_joined, keeps_both_raised, Writes, Kept}

-- ---- signs

module _ (defs : List IlDef) where
  erased-connected : (sign : Mark) (x y : IlExp) → operator_of sign ≡ operator.Logic → erased defs (connected sign x y) ≡ binary sign (erased defs x) (erased defs y)
  erased-connected mark.And x y h = erased-And defs x y
  erased-connected mark.Or x y h = erased-Or defs x y
  erased-connected mark.Implies x y h = erased-Imp defs x y
  erased-connected mark.Equivalent x y h = erased-Iff defs x y
  erased-connected sign x y h = absurd (cc)

  erased-equated : (sign : Mark) (x y : IlExp) → operator_of sign ≡ operator.Equation → erased defs (equated sign x y) ≡ binary sign (erased defs x) (erased defs y)
  erased-equated mark.Equal x y h = erased-Eq defs x y
  erased-equated mark.NotEqual x y h = erased-Ne defs x y
  erased-equated sign x y h = absurd (cc)

  erased-ordered : (sign : Mark) (x y : IlExp) → operator_of sign ≡ operator.Order → erased defs (ordered sign x y) ≡ binary sign (erased defs x) (erased defs y)
  erased-ordered mark.Less x y h = erased-Lt defs x y
  erased-ordered mark.Greater x y h = erased-Gt defs x y
  erased-ordered mark.LessOrEqual x y h = erased-Le defs x y
  erased-ordered mark.GreaterOrEqual x y h = erased-Ge defs x y
  erased-ordered sign x y h = absurd (cc)

  erased-reckoned : (sign : Mark) (n : NumTy) (x y : IlExp) → operator_of sign ≡ operator.Arithmetic → erased defs (reckoned sign n x y) ≡ operation sign (erased defs x) (erased defs y)
  erased-reckoned mark.Plus n x y h = erased-Add defs n x y
  erased-reckoned mark.Minus n x y h = erased-Sub defs n x y
  erased-reckoned mark.Star n x y h = erased-Mul defs n x y
  erased-reckoned mark.Slash n x y h = erased-Div defs n x y
  erased-reckoned mark.Backslash n x y h = erased-Rem defs n x y
  erased-reckoned sign n x y h = absurd (cc)

power_sign : (sign : Mark) → operator_of sign ≡ operator.Power → mark.Caret ≡ sign
power_sign mark.Caret h = refl
power_sign sign h = absurd (cc)

member_sign : (sign : Mark) → operator_of sign ≡ operator.Membership → mark.ElementOf ≡ sign
member_sign mark.ElementOf h = refl
member_sign sign h = absurd (cc)

joining_sign : (sign : Mark) → operator_of sign ≡ operator.Concatenation → mark.PlusPlus ≡ sign
joining_sign mark.PlusPlus h = refl
joining_sign sign h = absurd (cc)

module _ (defs : List IlDef) (D : Decls) (e l r : Exp) (sign : Mark) (at' : opened e ≡ Node-F.Binary l sign r) where
  -- ---- logic, equations and membership

  logic_keeps : (w : Within) → operator_of sign ≡ operator.Logic → Kept defs D (Unit {0}) e (logic_row w sign l r)
  logic_keeps w is = λ a f b g. binary_written (Unit {0}) (erased defs (connected sign a.exp b.exp)) e sign (erased defs a.exp) (erased defs b.exp) l r (erased-connected defs sign a.exp b.exp is) at' f.same g.same

  equated_written : (x y : IlExp) → operator_of sign ≡ operator.Equation → IsErasedTo (erased defs x) l → IsErasedTo (erased defs y) r → IsWritten (Unit {0}) (erased defs (equated sign x y)) e
  equated_written x y is f g = binary_written (Unit {0}) (erased defs (equated sign x y)) e sign (erased defs x) (erased defs y) l r (erased-equated defs sign x y is) at' f g

  compared_keeps : (at : Span) (a b : Made) → operator_of sign ≡ operator.Equation → IsErasedTo (erased defs a.exp) l → IsErasedTo (erased defs b.exp) r → Kept defs D (Unit {0}) e (compared at sign a b)
  compared_keeps at a b is f g =
      keeps_larger D (Claim defs D) (Writes defs (Unit {0}) e) a.ty b.ty (λ t. raised a t (λ x. raised b t (λ y. give (equated sign x y) ty.Bool)))
      (λ t. keeps_both_raised defs D (Claim defs D) (Writes defs (Unit {0}) e) a b t (λ x y. give (equated sign x y) ty.Bool)
      (λ x y h k. equated_written x y is (source_as (erased defs x) (erased defs a.exp) l h f) (source_as (erased defs y) (erased defs b.exp) r k g)))
      (breach at Y1) tt

  equation_keeps : (w : Within) (at : Span) → operator_of sign ≡ operator.Equation → Kept defs D (Unit {0}) e (equation_row w at sign l r)
  equation_keeps w at is =
      keeps_if D (Claim defs D) (Writes defs (Unit {0}) e) (inferable l) _ _
      (λ _. λ a f. keeps_if D (Claim defs D) (Writes defs (Unit {0}) e) (inferable r) _ _
      (λ _. λ b g. compared_keeps at a b is f.same g.same)
      (λ _. λ b g. equated_written a.exp b.exp is f.same g.same))
      (λ _. keeps_if D (Claim defs D) (Writes defs (Unit {0}) e) (inferable r) _ _ (λ _. λ b g a f. equated_written a.exp b.exp is f.same g.same) (λ _. tt))

  member_written : (x y : IlExp) → operator_of sign ≡ operator.Membership → IsErasedTo (erased defs x) l → IsErasedTo (erased defs y) r → IsWritten (Unit {0}) (erased defs (il.Member x y)) e
  member_written x y is f g =
      binary_written (Unit {0}) (erased defs (il.Member x y)) e sign (erased defs x) (erased defs y) l r (erased-Member defs x y ∙ ap (λ z. binary z (erased defs x) (erased defs y)) (member_sign sign is)) at' f g

  membership_keeps : (w : Within) (at : Span) → operator_of sign ≡ operator.Membership → Kept defs D (Unit {0}) e (membership_row w at l r)
  membership_keeps w at is =
      keeps_if D (Claim defs D) (Writes defs (Unit {0}) e) (inferable r) _ _
      (λ _. λ b g. keeps_list D (Claim defs D) (Writes defs (Unit {0}) e) (place r) b.ty (λ x. Asks (asked w l x) (λ a. give (il.Member a.exp b.exp) ty.Bool))
      (λ x. λ a f. member_written a.exp b.exp is f.same g.same))
      (λ _. keeps_if D (Claim defs D) (Writes defs (Unit {0}) e) (inferable l) _ _ (λ _. λ a f b g. member_written a.exp b.exp is f.same g.same) (λ _. tt))

  -- ---- numbers

  both_keep : (w : Within) (next : NumTy → IlExp → IlExp → Step)
      → ((n : NumTy) (x y : IlExp) → IsErasedTo (erased defs x) l → IsErasedTo (erased defs y) r → Kept defs D (Unit {0}) e (next n x y)) → Kept defs D (Unit {0}) e (both_numeric w l r next)
  both_keep w next h = λ a f. keeps_number D (Claim defs D) (Writes defs (Unit {0}) e) (place l) a.ty
      (λ m. numeric w r (λ b n. next (wider m n) (injected m (wider m n) a.exp) (injected n (wider m n) b.exp)))
      (λ m. λ b g. keeps_number D (Claim defs D) (Writes defs (Unit {0}) e) (place r) b.ty
      (λ n. next (wider m n) (injected m (wider m n) a.exp) (injected n (wider m n) b.exp))
      (λ n. h (wider m n) (injected m (wider m n) a.exp) (injected n (wider m n) b.exp)
      (source_as (erased defs (injected m (wider m n) a.exp)) (erased defs a.exp) l (erased-injected defs m (wider m n) a.exp) f.same)
      (source_as (erased defs (injected n (wider m n) b.exp)) (erased defs b.exp) r (erased-injected defs n (wider m n) b.exp) g.same)))

  order_keeps : (w : Within) → operator_of sign ≡ operator.Order → Kept defs D (Unit {0}) e (order_row w sign l r)
  order_keeps w is = both_keep w (λ n x y. give (ordered sign x y) ty.Bool) (λ n x y f g. binary_written (Unit {0}) (erased defs (ordered sign x y)) e sign (erased defs x) (erased defs y) l r (erased-ordered defs sign x y is) at' f g)

  arithmetic_keeps : (w : Within) → operator_of sign ≡ operator.Arithmetic → Kept defs D (Unit {0}) e (arithmetic_row w sign l r)
  arithmetic_keeps w is = both_keep w (λ n x y. give (reckoned sign n x y) (number_type n)) (λ n x y f g. operation_written (Unit {0}) (erased defs (reckoned sign n x y)) e sign (erased defs x) (erased defs y) l r (erased-reckoned defs sign n x y is) at' f g)

  power_written : (n : NumTy) (x y : IlExp) → operator_of sign ≡ operator.Power → IsErasedTo (erased defs x) l → IsErasedTo (erased defs y) r → IsWritten (Unit {0}) (erased defs (il.Pow n x y)) e
  power_written n x y is f g =
      operation_written (Unit {0}) (erased defs (il.Pow n x y)) e sign (erased defs x) (erased defs y) l r (erased-Pow defs n x y ∙ ap (λ z. operation z (erased defs x) (erased defs y)) (power_sign sign is)) at' f g

  power_keeps : (w : Within) → operator_of sign ≡ operator.Power → Kept defs D (Unit {0}) e (power_row w l r)
  power_keeps w is = λ a f. keeps_number D (Claim defs D) (Writes defs (Unit {0}) e) (place l) a.ty
      (λ n. Asks (asked w r ty.Nat) (λ b. give (il.Pow n a.exp b.exp) (number_type n))) (λ n. λ b g. power_written n a.exp b.exp is f.same g.same)

  -- ---- `++`

  pub joined_written : (Alone : Type 0) (join : IlExp → IlExp → IlExp) (x y : IlExp) → operator_of sign ≡ operator.Concatenation
      → erased defs (join x y) ≡ binary mark.PlusPlus (erased defs x) (erased defs y) → IsErasedTo (erased defs x) l → IsErasedTo (erased defs y) r → IsWritten Alone (erased defs (join x y)) e
  joined_written Alone join x y is j f g =
      binary_written Alone (erased defs (join x y)) e sign (erased defs x) (erased defs y) l r (j ∙ ap (λ z. binary z (erased defs x) (erased defs y)) (joining_sign sign is)) at' f g

  concatenated_keeps : (at : Span) (a b : Made) → operator_of sign ≡ operator.Concatenation → IsErasedTo (erased defs a.exp) l → IsErasedTo (erased defs b.exp) r → Kept defs D (Unit {0}) e (concatenated at a b)
  concatenated_keeps at a b is f g =
      keeps_larger D (Claim defs D) (Writes defs (Unit {0}) e) a.ty b.ty (λ t. as_joined at t (λ join. raised a t (λ x. raised b t (λ y. give (join x y) t))))
      (λ t. keeps_joined defs D (Claim defs D) (Writes defs (Unit {0}) e) at t (λ join. raised a t (λ x. raised b t (λ y. give (join x y) t)))
      (λ join j. keeps_both_raised defs D (Claim defs D) (Writes defs (Unit {0}) e) a b t (λ x y. give (join x y) t)
      (λ x y h k. joined_written (Unit {0}) join x y is (j x y) (source_as (erased defs x) (erased defs a.exp) l h f) (source_as (erased defs y) (erased defs b.exp) r k g))))
      (breach at Y5) tt

  -- ---- all operators

  pub binary_keeps : (w : Within) (at : Span) (o : Operator) → operator_of sign ≡ o → Kept defs D (Unit {0}) e (binary_row w at sign l r o)
  binary_keeps w at operator.Logic is = logic_keeps w is
  binary_keeps w at operator.Equation is = equation_keeps w at is
  binary_keeps w at operator.Order is = order_keeps w is
  binary_keeps w at operator.Membership is = membership_keeps w at is
  binary_keeps w at operator.Concatenation is = λ a f b g. concatenated_keeps at a b is f.same g.same
  binary_keeps w at operator.Arithmetic is = arithmetic_keeps w is
  binary_keeps w at operator.Power is = power_keeps w is
  binary_keeps w at operator.Other is = tt

module _ (defs : List IlDef) (D : Decls) where
  pub negation_keeps : (w : Within) (e inner : Exp) → opened e ≡ Node-F.Neg inner → Kept defs D (Unit {0}) e (negation_row w inner)
  negation_keeps w e inner is = λ m f. keeps_number D (Claim defs D) (Writes defs (Unit {0}) e) (place inner) m.ty (λ n. give (il.Neg (injected n number.Int m.exp)) ty.Int)
      (λ n. negation_written (Unit {0}) (erased defs (il.Neg (injected n number.Int m.exp))) e (erased defs (injected n number.Int m.exp)) inner (erased-Neg defs (injected n number.Int m.exp)) is
      (source_as (erased defs (injected n number.Int m.exp)) (erased defs m.exp) inner (erased-injected defs n number.Int m.exp) f.same))
