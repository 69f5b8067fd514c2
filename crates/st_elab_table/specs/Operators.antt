-- What a sign between two operands asks of them, and what it makes of them.
use Rattle.st_num.specs.declared.mark.Mark.{Mark}
use Rattle.st_num.specs.declared.mark.Mark.TheVariants as mark
use Rattle.st_il.specs.declared.ty.NumTy.{NumTy}
use Rattle.st_il.specs.declared.expression.IlExp.{IlExp}
use Rattle.st_il.specs.declared.expression.IlExp.TheVariants as il
use Rattle.st_elab_table.specs.declared.operator.Operator.{Operator}
use Rattle.st_elab_table.specs.declared.operator.Operator.TheVariants as operator

-- the kind of operator that a sign between two operands is
abbrev pub operator_of : Mark → Operator
operator_of mark.And = operator.Logic
operator_of mark.Or = operator.Logic
operator_of mark.Implies = operator.Logic
operator_of mark.Equivalent = operator.Logic
operator_of mark.Equal = operator.Equation
operator_of mark.NotEqual = operator.Equation
operator_of mark.Less = operator.Order
operator_of mark.Greater = operator.Order
operator_of mark.LessOrEqual = operator.Order
operator_of mark.GreaterOrEqual = operator.Order
operator_of mark.ElementOf = operator.Membership
operator_of mark.PlusPlus = operator.Concatenation
operator_of mark.Plus = operator.Arithmetic
operator_of mark.Minus = operator.Arithmetic
operator_of mark.Star = operator.Arithmetic
operator_of mark.Slash = operator.Arithmetic
operator_of mark.Backslash = operator.Arithmetic
operator_of mark.Caret = operator.Power
operator_of _ = operator.Other

-- two truth values, joined by this sign of logic
abbrev pub connected : Mark → IlExp → IlExp → IlExp
connected mark.Or x y = il.Or x y
connected mark.Implies x y = il.Imp x y
connected mark.Equivalent x y = il.Iff x y
connected _ x y = il.And x y

-- two values of one type, compared by `=` or `=/=`
abbrev pub equated : Mark → IlExp → IlExp → IlExp
equated mark.NotEqual x y = il.Ne x y
equated _ x y = il.Eq x y

-- two numbers, compared by size with this sign
abbrev pub ordered : Mark → IlExp → IlExp → IlExp
ordered mark.Greater x y = il.Gt x y
ordered mark.LessOrEqual x y = il.Le x y
ordered mark.GreaterOrEqual x y = il.Ge x y
ordered _ x y = il.Lt x y

-- arithmetic on two numbers of this type, by this sign
abbrev pub reckoned : Mark → NumTy → IlExp → IlExp → IlExp
reckoned mark.Minus n x y = il.Sub n x y
reckoned mark.Star n x y = il.Mul n x y
reckoned mark.Slash n x y = il.Div n x y
reckoned mark.Backslash n x y = il.Rem n x y
reckoned _ n x y = il.Add n x y
