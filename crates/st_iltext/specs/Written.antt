-- What is asked of an internal language beside the form of its text: how many parts there are,
-- in which order names stand, and how large numbers are.
use Rattle.std.specs.Prelude.{ℕ, ◌^◌, List, [], ◌∷◌, length, map, Bool, true, nat_lt, nat_le, ◌&&◌}
use Rattle.std.specs.List.{list_all}
use Rattle.std.specs.Ordering.{is_le}
use Rattle.st_il.specs.Order.{text_cmp}
use Rattle.st_il.specs.declared.ty.Ty.{Ty, fold-Ty}
use Rattle.st_il.specs.declared.ty.Ty.TheOpen.{Ty-F}
use Rattle.st_il.specs.declared.expression.IlExp.{IlExp, fold-IlExp}
use Rattle.st_il.specs.declared.expression.IlExp.TheOpen.{IlExp-F, Iteration-F, ListItem-F, PathSeg-F}
use Rattle.st_il.specs.declared.expression.Iteration.{Iteration, fold-Iteration}
use Rattle.st_il.specs.declared.expression.ListItem.{ListItem, fold-ListItem}
use Rattle.st_il.specs.declared.expression.PathSeg.{PathSeg, fold-PathSeg}
use Rattle.st_il.specs.declared.expression.IlPrem.{IlPrem, fold-IlPrem}
use Rattle.st_il.specs.declared.expression.IlPrem.TheOpen.{IlPrem-F}
use Rattle.st_il.specs.declared.definition.Alternative.{Alternative}
use Rattle.st_il.specs.declared.definition.Alternative.TheVariants.{Case, Incl}
use Rattle.st_il.specs.declared.definition.IlDef.{IlDef}
use Rattle.st_il.specs.declared.definition.IlDef.TheVariants.{Syntax, Var, Relation, Rule, Fun, Clause}
use Rattle.st_il.specs.declared.definition.Listed.{Listed}
use Rattle.st_il.specs.declared.definition.SyntaxBody.{SyntaxBody}
use Rattle.st_il.specs.declared.definition.SyntaxBody.TheVariants.{Alias, Variant, Fields}

-- all of these are so
abbrev pub all_true : List Bool → Bool
all_true bs = list_all (λ (b : Bool). b) bs

-- names stand in byte order behind this one
abbrev pub follow : List ℕ → List (List ℕ) → Bool
follow x [] = true
follow x (y ∷ ys) = is_le (text_cmp x y) && follow y ys

-- names stand in byte order; a name may stand twice
abbrev pub are_in_order : List (List ℕ) → Bool
are_in_order [] = true
are_in_order (x ∷ xs) = follow x xs

-- ---- types: a tuple has two parts or more

-- in a level whose parts are so, a tuple has two parts or more
abbrev pub ty_written_at : Ty-F Bool → Bool
ty_written_at (Ty-F.List t) = t
ty_written_at (Ty-F.Opt t) = t
ty_written_at (Ty-F.Tuple ts) = nat_le 2 (length ts) && all_true ts
ty_written_at _ = true

-- each tuple in a type has two parts or more
abbrev pub ty_written : Ty → Bool
ty_written = fold-Ty Bool ty_written_at

-- ---- expressions

-- a tuple has two parts or more, a path a step, names stand in byte order, a number is small
abbrev pub exp_written_at : IlExp-F Bool Bool Bool Bool → Bool
exp_written_at (IlExp-F.Bool b) = true
exp_written_at (IlExp-F.Number n) = nat_lt n (2 ^ 128)
exp_written_at (IlExp-F.Text s) = true
exp_written_at (IlExp-F.Var x) = true
exp_written_at (IlExp-F.Not e) = e
exp_written_at (IlExp-F.And e f) = e && f
exp_written_at (IlExp-F.Or e f) = e && f
exp_written_at (IlExp-F.Imp e f) = e && f
exp_written_at (IlExp-F.Iff e f) = e && f
exp_written_at (IlExp-F.Neg e) = e
exp_written_at (IlExp-F.Add n e f) = e && f
exp_written_at (IlExp-F.Sub n e f) = e && f
exp_written_at (IlExp-F.Mul n e f) = e && f
exp_written_at (IlExp-F.Div n e f) = e && f
exp_written_at (IlExp-F.Rem n e f) = e && f
exp_written_at (IlExp-F.Pow n e f) = e && f
exp_written_at (IlExp-F.Eq e f) = e && f
exp_written_at (IlExp-F.Ne e f) = e && f
exp_written_at (IlExp-F.Lt e f) = e && f
exp_written_at (IlExp-F.Gt e f) = e && f
exp_written_at (IlExp-F.Le e f) = e && f
exp_written_at (IlExp-F.Ge e f) = e && f
exp_written_at (IlExp-F.Member e f) = e && f
exp_written_at (IlExp-F.Case t tag es) = all_true es
exp_written_at (IlExp-F.Fields t es) = all_true es
exp_written_at (IlExp-F.Dot e f) = e
exp_written_at (IlExp-F.Set e path f) = e && nat_le 1 (length path) && all_true path && f
exp_written_at (IlExp-F.Extend e path f) = e && nat_le 1 (length path) && all_true path && f
exp_written_at (IlExp-F.Tuple es) = nat_le 2 (length es) && all_true es
exp_written_at (IlExp-F.List t items) = ty_written t && all_true items
exp_written_at (IlExp-F.Cat e f) = e && f
exp_written_at (IlExp-F.Join e f) = e && f
exp_written_at (IlExp-F.Empty t) = ty_written t
exp_written_at (IlExp-F.Present e) = e
exp_written_at (IlExp-F.Absent t) = ty_written t
exp_written_at (IlExp-F.Len e) = e
exp_written_at (IlExp-F.IlExp::At e f) = e && f
exp_written_at (IlExp-F.IlExp::Slice e f g) = e && f && g
exp_written_at (IlExp-F.Call f es) = all_true es
exp_written_at (IlExp-F.Up t e) = ty_written t && e
exp_written_at (IlExp-F.Iter k xs e) = k && are_in_order xs && e

-- the same of how often an iteration goes
abbrev pub iteration_written_at : Iteration-F Bool Bool Bool Bool → Bool
iteration_written_at (Iteration-F.Times e) = e
iteration_written_at (Iteration-F.Below i e) = e
iteration_written_at _ = true

-- the same of an item of a list
abbrev pub item_written_at : ListItem-F Bool Bool Bool Bool → Bool
item_written_at (ListItem-F.One e) = e
item_written_at (ListItem-F.All e) = e

-- the same of a step of a path
abbrev pub segment_written_at : PathSeg-F Bool Bool Bool Bool → Bool
segment_written_at (PathSeg-F.Field f) = true
segment_written_at (PathSeg-F.PathSeg::At e) = e
segment_written_at (PathSeg-F.PathSeg::Slice e f) = e && f

-- each level of an expression is so
abbrev pub exp_written : IlExp → Bool
exp_written =
    fold-IlExp Bool Bool Bool Bool
    exp_written_at iteration_written_at item_written_at segment_written_at

-- each level of what an iteration counts is so
abbrev pub iteration_written : Iteration → Bool
iteration_written =
    fold-Iteration Bool Bool Bool Bool
    exp_written_at iteration_written_at item_written_at segment_written_at

-- each level of an item of a list is so
abbrev pub item_written : ListItem → Bool
item_written =
    fold-ListItem Bool Bool Bool Bool
    exp_written_at iteration_written_at item_written_at segment_written_at

-- each level of a step of a path is so
abbrev pub segment_written : PathSeg → Bool
segment_written =
    fold-PathSeg Bool Bool Bool Bool
    exp_written_at iteration_written_at item_written_at segment_written_at

-- ---- premises

-- the same of a premise, by what holds of the premise that it iterates, if any
abbrev pub prem_written_at : IlPrem-F Bool → Bool
prem_written_at (IlPrem-F.If e) = exp_written e
prem_written_at (IlPrem-F.Goal r es) = list_all exp_written es
prem_written_at IlPrem-F.Otherwise = true
prem_written_at (IlPrem-F.Each k xs p) = iteration_written k && are_in_order xs && p

-- each level of a premise is so
abbrev pub prem_written : IlPrem → Bool
prem_written = fold-IlPrem Bool prem_written_at

-- ---- definitions: a variant has an alternative, and variables stand in byte order

-- the same of an alternative
abbrev pub alternative_written : Alternative → Bool
alternative_written (Case tag operands) = list_all ty_written operands
alternative_written (Incl y) = true

-- the same of a field
abbrev pub field_written : List ℕ × Ty → Bool
field_written field = ty_written field.1

-- the same of a body; a variant has an alternative
abbrev pub body_written : SyntaxBody → Bool
body_written (Alias t) = ty_written t
body_written (Variant alternatives) =
    nat_le 1 (length alternatives) && list_all alternative_written alternatives
body_written (Fields fields) = list_all field_written fields

-- the name of a variable
abbrev pub name_of : Listed → List ℕ
name_of x = x.name

-- the same of a variable
abbrev pub listed_written : Listed → Bool
listed_written x = ty_written x.ty

-- the same of variables, which stand in byte order
abbrev pub variables_written : List Listed → Bool
variables_written xs = are_in_order (map name_of xs) && list_all listed_written xs

-- A definition is written in the one spelling: tuples have two parts or more, variants and paths
-- one, variables and the names of an iteration stand in byte order, numbers are below 2 ^ 128.
abbrev pub written : IlDef → Bool
written (Syntax d) = body_written d.body
written (Var x t) = ty_written t
written (Relation d) = list_all ty_written d.holes
written (Rule d) =
    variables_written d.variables && list_all exp_written d.conclusion
    && list_all prem_written d.premises
written (Fun d) = list_all ty_written d.params && ty_written d.result
written (Clause d) =
    variables_written d.variables && list_all exp_written d.args && exp_written d.result
    && list_all prem_written d.premises
