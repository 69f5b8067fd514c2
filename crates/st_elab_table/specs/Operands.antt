-- The table: operators between inferred operands.
use Rattle.std.specs.Prelude.{if◌then◌else◌}
use Rattle.st_num.specs.declared.span.Span.{Span}
use Rattle.st_num.specs.declared.mark.Mark.{Mark}
use Rattle.st_num.specs.declared.rule.RuleId.TheVariants.{Y1, Y3, Y5}
use Rattle.st_el.specs.declared.expression.Exp.{Exp}
use Rattle.st_il.specs.declared.ty.Ty.TheVariants as ty
use Rattle.st_il.specs.declared.ty.NumTy.{NumTy}
use Rattle.st_il.specs.declared.ty.NumTy.TheVariants as number
use Rattle.st_il.specs.declared.expression.IlExp.{IlExp}
use Rattle.st_il.specs.declared.expression.IlExp.TheVariants as il
use Rattle.st_dims.specs.declared.within.Within.{Within}
use Rattle.st_elab_table.specs.declared.operator.Operator.{Operator}
use Rattle.st_elab_table.specs.declared.operator.Operator.TheVariants as operator
use Rattle.st_elab_table.specs.Operators.{connected, equated, ordered, reckoned}
use Rattle.st_elab_table.specs.Forms.{place, inferable}
use Rattle.st_elab_table.specs.Questions.{Made, Step, Asks}
use Rattle.st_elab_table.specs.Steps.{breach, give, asked, found, as_list, as_number, larger, raised, injected, wider, number_type, as_joined}

-- ---- logic, equations and membership

-- two truth values, joined by a sign of logic
abbrev pub logic_row : Within → Mark → Exp → Exp → Step
logic_row w sign l r =
    Asks (asked w l ty.Bool)
    (λ a. Asks (asked w r ty.Bool) (λ b. give (connected sign a.exp b.exp) ty.Bool))

-- both sides have types of their own, and are compared at the larger one
abbrev pub compared : Span → Mark → Made → Made → Step
compared at sign a b =
    larger a.ty b.ty
    (λ t. raised a t (λ x. raised b t (λ y. give (equated sign x y) ty.Bool)))
    (breach at Y1)

-- the right side of an equation, beside a left one whose type is inferred
abbrev pub beside : Within → Span → Mark → Exp → Made → Step
beside w at sign r a =
    if inferable r then Asks (found w r) (compared at sign a)
    else Asks (asked w r a.ty) (λ b. give (equated sign a.exp b.exp) ty.Bool)

-- An equation by `=` or `=/=`. A side that is not inferable is asked at the type of the other;
-- Y3 where neither is inferable.
abbrev pub equation_row : Within → Span → Mark → Exp → Exp → Step
equation_row w at sign l r =
    if inferable l then Asks (found w l) (beside w at sign r)
    else if inferable r
    then Asks (found w r) (λ b.
    Asks (asked w l b.ty) (λ a. give (equated sign a.exp b.exp) ty.Bool))
    else breach at Y3

-- A membership. An inferable list says the type of the element,
-- or else the element that of the list; Y3 where neither is inferable.
abbrev pub membership_row : Within → Span → Exp → Exp → Step
membership_row w at e l =
    if inferable l
    then Asks (found w l) (λ b. as_list (place l) b.ty (λ x.
    Asks (asked w e x) (λ a. give (il.Member a.exp b.exp) ty.Bool)))
    else if inferable e
    then Asks (found w e) (λ a.
    Asks (asked w l (ty.List a.ty)) (λ b. give (il.Member a.exp b.exp) ty.Bool))
    else breach at Y3

-- ---- numbers

-- an operand whose type is inferred, and is a number type
abbrev pub numeric : Within → Exp → (Made → NumTy → Step) → Step
numeric w e next = Asks (found w e) (λ m. as_number (place e) m.ty (next m))

-- two numbers, a `nat` beside an `int` injected
abbrev pub both_numeric : Within → Exp → Exp → (NumTy → IlExp → IlExp → Step) → Step
both_numeric w l r next =
    numeric w l (λ a m. numeric w r (λ b n.
    next (wider m n) (injected m (wider m n) a.exp) (injected n (wider m n) b.exp)))

-- two numbers, compared by size
abbrev pub order_row : Within → Mark → Exp → Exp → Step
order_row w sign l r = both_numeric w l r (λ n x y. give (ordered sign x y) ty.Bool)

-- arithmetic on two numbers, of the wider type of the two
abbrev pub arithmetic_row : Within → Mark → Exp → Exp → Step
arithmetic_row w sign l r = both_numeric w l r (λ n x y. give (reckoned sign n x y) (number_type n))

-- A power. The exponent is asked at `nat` and does not change the type of the other operand.
abbrev pub power_row : Within → Exp → Exp → Step
power_row w l r =
    numeric w l (λ a n. Asks (asked w r ty.Nat) (λ b. give (il.Pow n a.exp b.exp) (number_type n)))

-- a prefix `-`, whose operand is injected into `int`
abbrev pub negation_row : Within → Exp → Step
negation_row w e = numeric w e (λ m n. give (il.Neg (injected n number.Int m.exp)) ty.Int)

-- ---- `++`

-- two lists or records of inferred types, put together at the larger one
abbrev pub concatenated : Span → Made → Made → Step
concatenated at a b =
    larger a.ty b.ty
    (λ t. as_joined at t (λ join. raised a t (λ x. raised b t (λ y. give (join x y) t))))
    (breach at Y5)

-- `++` between two sides whose types are inferred
abbrev pub inferred_concatenation : Within → Span → Exp → Exp → Step
inferred_concatenation w at l r = Asks (found w l) (λ a. Asks (found w r) (concatenated at a))

-- two operands of a sign, by the kind of operator that it is
abbrev pub binary_row : Within → Span → Mark → Exp → Exp → Operator → Step
binary_row w at sign l r operator.Logic = logic_row w sign l r
binary_row w at sign l r operator.Equation = equation_row w at sign l r
binary_row w at sign l r operator.Order = order_row w sign l r
binary_row w at sign l r operator.Membership = membership_row w at l r
binary_row w at sign l r operator.Concatenation = inferred_concatenation w at l r
binary_row w at sign l r operator.Arithmetic = arithmetic_row w sign l r
binary_row w at sign l r operator.Power = power_row w l r
binary_row w at sign l r operator.Other = breach at Y3
