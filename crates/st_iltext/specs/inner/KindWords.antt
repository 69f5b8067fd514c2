-- The words of kinds of expressions, and the expressions of a kind.
use Rattle.std.specs.Prelude.{ℕ, List, codes}
use Rattle.st_il.specs.declared.ty.NumTy.{NumTy}
use Rattle.st_il.specs.declared.expression.IlExp.{IlExp}
use Rattle.st_il.specs.declared.expression.IlExp.TheVariants as exp
use Rattle.st_iltext.specs.declared.kind.Unary.{Unary}
use Rattle.st_iltext.specs.declared.kind.Unary.TheVariants.{Not, Neg, Present, Len}
use Rattle.st_iltext.specs.declared.kind.Binary.{Binary}
use Rattle.st_iltext.specs.declared.kind.Binary.TheVariants.{And, Or, Imp, Iff, Eq, Ne, Lt, Gt, Le, Ge, Member, Cat, Join, At}
use Rattle.st_iltext.specs.declared.kind.Arithmetic.{Arithmetic}
use Rattle.st_iltext.specs.declared.kind.Arithmetic.TheVariants.{Add, Sub, Mul, Div, Rem, Pow}
use Rattle.st_iltext.specs.declared.kind.Kind.{Kind}
use Rattle.st_iltext.specs.declared.kind.Kind.TheVariants as kind

-- the word of an operator of one operand
abbrev pub unary_word : Unary → List ℕ
unary_word Not = codes "not"
unary_word Neg = codes "neg"
unary_word Present = codes "some"
unary_word Len = codes "len"

-- the word of an operator of two operands
abbrev pub binary_word : Binary → List ℕ
binary_word And = codes "and"
binary_word Or = codes "or"
binary_word Imp = codes "imp"
binary_word Iff = codes "iff"
binary_word Eq = codes "eq"
binary_word Ne = codes "ne"
binary_word Lt = codes "lt"
binary_word Gt = codes "gt"
binary_word Le = codes "le"
binary_word Ge = codes "ge"
binary_word Member = codes "member"
binary_word Cat = codes "cat"
binary_word Join = codes "join"
binary_word At = codes "at"

-- the word of an operator of arithmetic
abbrev pub arithmetic_word : Arithmetic → List ℕ
arithmetic_word Add = codes "add"
arithmetic_word Sub = codes "sub"
arithmetic_word Mul = codes "mul"
arithmetic_word Div = codes "div"
arithmetic_word Rem = codes "rem"
arithmetic_word Pow = codes "pow"

-- the word that begins an expression of a kind
abbrev pub kind_word : Kind → List ℕ
kind_word kind.Var = codes "v"
kind_word (kind.Unary op) = unary_word op
kind_word (kind.Binary op) = binary_word op
kind_word (kind.Arithmetic op) = arithmetic_word op
kind_word kind.Case = codes "case"
kind_word kind.Fields = codes "fields"
kind_word kind.Call = codes "call"
kind_word kind.Dot = codes "dot"
kind_word kind.Set = codes "set"
kind_word kind.Extend = codes "extend"
kind_word kind.Tuple = codes "tuple"
kind_word kind.List = codes "list"
kind_word kind.Empty = codes "none"
kind_word kind.Absent = codes "absent"
kind_word kind.Slice = codes "slice"
kind_word kind.Up = codes "up"
kind_word kind.Iter = codes "iter"

-- the expression of an operator of one operand
abbrev pub unary_exp : Unary → IlExp → IlExp
unary_exp Not x = exp.Not x
unary_exp Neg x = exp.Neg x
unary_exp Present x = exp.Present x
unary_exp Len x = exp.Len x

-- the expression of an operator of two operands
abbrev pub binary_exp : Binary → IlExp → IlExp → IlExp
binary_exp And x y = exp.And x y
binary_exp Or x y = exp.Or x y
binary_exp Imp x y = exp.Imp x y
binary_exp Iff x y = exp.Iff x y
binary_exp Eq x y = exp.Eq x y
binary_exp Ne x y = exp.Ne x y
binary_exp Lt x y = exp.Lt x y
binary_exp Gt x y = exp.Gt x y
binary_exp Le x y = exp.Le x y
binary_exp Ge x y = exp.Ge x y
binary_exp Member x y = exp.Member x y
binary_exp Cat x y = exp.Cat x y
binary_exp Join x y = exp.Join x y
binary_exp At x y = exp.At x y

-- the expression of an operator of arithmetic
abbrev pub arithmetic_exp : Arithmetic → NumTy → IlExp → IlExp → IlExp
arithmetic_exp Add n x y = exp.Add n x y
arithmetic_exp Sub n x y = exp.Sub n x y
arithmetic_exp Mul n x y = exp.Mul n x y
arithmetic_exp Div n x y = exp.Div n x y
arithmetic_exp Rem n x y = exp.Rem n x y
arithmetic_exp Pow n x y = exp.Pow n x y
