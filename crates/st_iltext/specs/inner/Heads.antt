-- The words that begin the texts of expressions.
use Rattle.std.specs.Prelude.{ℕ, List, [], codes}
use Rattle.st_il.specs.declared.expression.IlExp.TheOpen.{IlExp-F}

-- the word that begins the text of an operator
abbrev pub operator_head_at : {A B C D : Type 0} → IlExp-F A B C D → List ℕ
operator_head_at (IlExp-F.Not e) = codes "not"
operator_head_at (IlExp-F.And e f) = codes "and"
operator_head_at (IlExp-F.Or e f) = codes "or"
operator_head_at (IlExp-F.Imp e f) = codes "imp"
operator_head_at (IlExp-F.Iff e f) = codes "iff"
operator_head_at (IlExp-F.Neg e) = codes "neg"
operator_head_at (IlExp-F.Add n e f) = codes "add"
operator_head_at (IlExp-F.Sub n e f) = codes "sub"
operator_head_at (IlExp-F.Mul n e f) = codes "mul"
operator_head_at (IlExp-F.Div n e f) = codes "div"
operator_head_at (IlExp-F.Rem n e f) = codes "rem"
operator_head_at (IlExp-F.Pow n e f) = codes "pow"
operator_head_at (IlExp-F.Eq e f) = codes "eq"
operator_head_at (IlExp-F.Ne e f) = codes "ne"
operator_head_at (IlExp-F.Lt e f) = codes "lt"
operator_head_at (IlExp-F.Gt e f) = codes "gt"
operator_head_at (IlExp-F.Le e f) = codes "le"
operator_head_at (IlExp-F.Ge e f) = codes "ge"
operator_head_at (IlExp-F.Member e f) = codes "member"
operator_head_at (IlExp-F.Cat e f) = codes "cat"
operator_head_at (IlExp-F.Join e f) = codes "join"
operator_head_at _ = []

-- the word that begins the text of an expression that stands in parentheses
abbrev pub head_at : {A B C D : Type 0} → IlExp-F A B C D → List ℕ
head_at (IlExp-F.Var x) = codes "v"
head_at (IlExp-F.Case t tag es) = codes "case"
head_at (IlExp-F.Fields t es) = codes "fields"
head_at (IlExp-F.Dot e f) = codes "dot"
head_at (IlExp-F.Set e path f) = codes "set"
head_at (IlExp-F.Extend e path f) = codes "extend"
head_at (IlExp-F.Tuple es) = codes "tuple"
head_at (IlExp-F.List t items) = codes "list"
head_at (IlExp-F.Empty t) = codes "none"
head_at (IlExp-F.Present e) = codes "some"
head_at (IlExp-F.Absent t) = codes "absent"
head_at (IlExp-F.Len e) = codes "len"
head_at (IlExp-F.IlExp::At e f) = codes "at"
head_at (IlExp-F.IlExp::Slice e f g) = codes "slice"
head_at (IlExp-F.Call f es) = codes "call"
head_at (IlExp-F.Up t e) = codes "up"
head_at (IlExp-F.Iter k xs e) = codes "iter"
head_at level = operator_head_at level
