-- The signs of the operators of the internal language.
use Rattle.st_num.specs.declared.mark.Mark.{Mark}
use Rattle.st_num.specs.declared.mark.Mark.TheVariants as mark
use Rattle.st_il.specs.declared.expression.IlExp.TheOpen.{IlExp-F}

-- the sign between the two operands of an expression; it means nothing where there are not two
abbrev pub sign_at : {E K L P : Type 0} → IlExp-F E K L P → Mark
sign_at (IlExp-F.And x y) = mark.And
sign_at (IlExp-F.Or x y) = mark.Or
sign_at (IlExp-F.Imp x y) = mark.Implies
sign_at (IlExp-F.Iff x y) = mark.Equivalent
sign_at (IlExp-F.Add n x y) = mark.Plus
sign_at (IlExp-F.Sub n x y) = mark.Minus
sign_at (IlExp-F.Mul n x y) = mark.Star
sign_at (IlExp-F.Div n x y) = mark.Slash
sign_at (IlExp-F.Rem n x y) = mark.Backslash
sign_at (IlExp-F.Pow n x y) = mark.Caret
sign_at (IlExp-F.Eq x y) = mark.Equal
sign_at (IlExp-F.Ne x y) = mark.NotEqual
sign_at (IlExp-F.Lt x y) = mark.Less
sign_at (IlExp-F.Gt x y) = mark.Greater
sign_at (IlExp-F.Le x y) = mark.LessOrEqual
sign_at (IlExp-F.Ge x y) = mark.GreaterOrEqual
sign_at (IlExp-F.Member x y) = mark.ElementOf
sign_at _ = mark.PlusPlus
