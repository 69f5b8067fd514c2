-- The names that stand in a definition. The name of a function has its `$`.
use Rattle.std.specs.Prelude.{ℕ, List, [], ◌∷◌, ◌++◌, map}
use Rattle.std.specs.List.{flat_map}
use Rattle.st_il.specs.declared.ty.Ty.{Ty, fold-Ty}
use Rattle.st_il.specs.declared.ty.Ty.TheOpen.{Ty-F}
use Rattle.st_il.specs.declared.expression.IlExp.{IlExp, fold-IlExp}
use Rattle.st_il.specs.declared.expression.IlExp.TheOpen.{IlExp-F, Iteration-F, ListItem-F, PathSeg-F}
use Rattle.st_il.specs.declared.expression.Iteration.{Iteration, fold-Iteration}
use Rattle.st_il.specs.declared.expression.ListItem.{ListItem, fold-ListItem}
use Rattle.st_il.specs.declared.expression.PathSeg.{PathSeg, fold-PathSeg}
use Rattle.st_il.specs.declared.expression.IlPrem.{IlPrem, fold-IlPrem}
use Rattle.st_il.specs.declared.expression.IlPrem.TheOpen.{IlPrem-F}

-- a name, as its bytes
abbrev pub Name : Type 0
Name = List ℕ

-- the name of a function as it is written, with its `$`
abbrev pub fun_name : Name → Name
fun_name name = 36 ∷ name

-- the names in several parts, those of one behind those of another
abbrev pub in_all : List (List Name) → List Name
in_all parts = flat_map (λ (part : List Name). part) parts

-- ---- types

-- the names in a level of a type whose parts have these names in them
abbrev pub type_names_at : Ty-F (List Name) → List Name
type_names_at (Ty-F.Name name) = name ∷ []
type_names_at (Ty-F.List inner) = inner
type_names_at (Ty-F.Opt inner) = inner
type_names_at (Ty-F.Tuple parts) = in_all parts
type_names_at type = []

-- the names in a type
abbrev pub type_names : Ty → List Name
type_names = fold-Ty (List Name) type_names_at

-- ---- expressions

-- the names in a level of an expression whose parts have these names in them
abbrev pub exp_names_at : IlExp-F (List Name) (List Name) (List Name) (List Name) → List Name
exp_names_at (IlExp-F.Bool truth) = []
exp_names_at (IlExp-F.Number n) = []
exp_names_at (IlExp-F.Text text) = []
exp_names_at (IlExp-F.Var x) = []
exp_names_at (IlExp-F.Not x) = x
exp_names_at (IlExp-F.And x y) = x ++ y
exp_names_at (IlExp-F.Or x y) = x ++ y
exp_names_at (IlExp-F.Imp x y) = x ++ y
exp_names_at (IlExp-F.Iff x y) = x ++ y
exp_names_at (IlExp-F.Neg x) = x
exp_names_at (IlExp-F.Add n x y) = x ++ y
exp_names_at (IlExp-F.Sub n x y) = x ++ y
exp_names_at (IlExp-F.Mul n x y) = x ++ y
exp_names_at (IlExp-F.Div n x y) = x ++ y
exp_names_at (IlExp-F.Rem n x y) = x ++ y
exp_names_at (IlExp-F.Pow n x y) = x ++ y
exp_names_at (IlExp-F.Eq x y) = x ++ y
exp_names_at (IlExp-F.Ne x y) = x ++ y
exp_names_at (IlExp-F.Lt x y) = x ++ y
exp_names_at (IlExp-F.Gt x y) = x ++ y
exp_names_at (IlExp-F.Le x y) = x ++ y
exp_names_at (IlExp-F.Ge x y) = x ++ y
exp_names_at (IlExp-F.Member x y) = x ++ y
exp_names_at (IlExp-F.Case type tag xs) = type ∷ in_all xs
exp_names_at (IlExp-F.Fields type xs) = type ∷ in_all xs
exp_names_at (IlExp-F.Dot x field) = x
exp_names_at (IlExp-F.Set x path y) = x ++ in_all path ++ y
exp_names_at (IlExp-F.Extend x path y) = x ++ in_all path ++ y
exp_names_at (IlExp-F.Tuple xs) = in_all xs
exp_names_at (IlExp-F.List type items) = type_names type ++ in_all items
exp_names_at (IlExp-F.Cat x y) = x ++ y
exp_names_at (IlExp-F.Join x y) = x ++ y
exp_names_at (IlExp-F.Empty type) = type_names type
exp_names_at (IlExp-F.Present x) = x
exp_names_at (IlExp-F.Absent type) = type_names type
exp_names_at (IlExp-F.Len x) = x
exp_names_at (IlExp-F.IlExp::At x y) = x ++ y
exp_names_at (IlExp-F.IlExp::Slice x y z) = x ++ y ++ z
exp_names_at (IlExp-F.Call name xs) = fun_name name ∷ in_all xs
exp_names_at (IlExp-F.Up type x) = type_names type ++ x
exp_names_at (IlExp-F.Iter count variables x) = count ++ x

-- the names in the count of an iteration, by those in its expression
abbrev pub count_names_at : Iteration-F (List Name) (List Name) (List Name) (List Name)
    → List Name
count_names_at (Iteration-F.Times x) = x
count_names_at (Iteration-F.Below index x) = x
count_names_at count = []

-- the names in a part of a list, by those in its expression
abbrev pub item_names_at : ListItem-F (List Name) (List Name) (List Name) (List Name) → List Name
item_names_at (ListItem-F.One x) = x
item_names_at (ListItem-F.All x) = x

-- the names in a step of a path, by those in its expressions
abbrev pub step_names_at : PathSeg-F (List Name) (List Name) (List Name) (List Name) → List Name
step_names_at (PathSeg-F.Field field) = []
step_names_at (PathSeg-F.PathSeg::At x) = x
step_names_at (PathSeg-F.PathSeg::Slice x y) = x ++ y

-- the names in an expression
abbrev pub exp_names : IlExp → List Name
exp_names =
    fold-IlExp (List Name) (List Name) (List Name) (List Name)
    exp_names_at count_names_at item_names_at step_names_at

-- the names in the count of an iteration
abbrev pub count_names : Iteration → List Name
count_names =
    fold-Iteration (List Name) (List Name) (List Name) (List Name)
    exp_names_at count_names_at item_names_at step_names_at

-- the names in a part of a list
abbrev pub item_names : ListItem → List Name
item_names =
    fold-ListItem (List Name) (List Name) (List Name) (List Name)
    exp_names_at count_names_at item_names_at step_names_at

-- the names in a step of a path
abbrev pub step_names : PathSeg → List Name
step_names =
    fold-PathSeg (List Name) (List Name) (List Name) (List Name)
    exp_names_at count_names_at item_names_at step_names_at

-- ---- premises

-- the names in a level of a premise, by those in the premise that it repeats
abbrev pub prem_names_at : IlPrem-F (List Name) → List Name
prem_names_at (IlPrem-F.If x) = exp_names x
prem_names_at (IlPrem-F.Goal relation xs) = relation ∷ in_all (map exp_names xs)
prem_names_at IlPrem-F.Otherwise = []
prem_names_at (IlPrem-F.Each count variables body) = count_names count ++ body

-- the names in a premise
abbrev pub prem_names : IlPrem → List Name
prem_names = fold-IlPrem (List Name) prem_names_at
