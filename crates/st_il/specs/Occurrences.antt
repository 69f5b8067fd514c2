-- The variables that occur in expressions and premises.
use Rattle.std.specs.Prelude.{ℕ, List, map, Bool, false, not, ◌&&◌, ◌||◌}
use Rattle.std.specs.List.{list_any}
use Rattle.st_num.specs.Names.{same_name}
use Rattle.st_il.specs.declared.expression.IlExp.{IlExp, fold-IlExp}
use Rattle.st_il.specs.declared.expression.IlExp.TheOpen.{IlExp-F, Iteration-F, ListItem-F, PathSeg-F}
use Rattle.st_il.specs.declared.expression.Iteration.{Iteration, fold-Iteration}
use Rattle.st_il.specs.declared.expression.ListItem.{ListItem, fold-ListItem}
use Rattle.st_il.specs.declared.expression.PathSeg.{PathSeg, fold-PathSeg}
use Rattle.st_il.specs.declared.expression.IlPrem.{IlPrem, fold-IlPrem}
use Rattle.st_il.specs.declared.expression.IlPrem.TheOpen.{IlPrem-F}

-- an iteration: whether the name is its index, and whether it occurs in its count
pub record Counted : Type 0 where
  pub is_index : Bool
  pub in_count : Bool

-- the name occurs in one of several parts
abbrev pub in_any : List Bool → Bool
in_any parts = list_any (λ (part : Bool). part) parts

-- the name occurs in a level, of whose parts it is known whether it occurs in them
abbrev pub occurs_at : List ℕ → IlExp-F Bool Counted Bool Bool → Bool
occurs_at name (IlExp-F.Bool truth) = false
occurs_at name (IlExp-F.Number n) = false
occurs_at name (IlExp-F.Text text) = false
occurs_at name (IlExp-F.Var other) = same_name name other
occurs_at name (IlExp-F.Not x) = x
occurs_at name (IlExp-F.And x y) = x || y
occurs_at name (IlExp-F.Or x y) = x || y
occurs_at name (IlExp-F.Imp x y) = x || y
occurs_at name (IlExp-F.Iff x y) = x || y
occurs_at name (IlExp-F.Neg x) = x
occurs_at name (IlExp-F.Add n x y) = x || y
occurs_at name (IlExp-F.Sub n x y) = x || y
occurs_at name (IlExp-F.Mul n x y) = x || y
occurs_at name (IlExp-F.Div n x y) = x || y
occurs_at name (IlExp-F.Rem n x y) = x || y
occurs_at name (IlExp-F.Pow n x y) = x || y
occurs_at name (IlExp-F.Eq x y) = x || y
occurs_at name (IlExp-F.Ne x y) = x || y
occurs_at name (IlExp-F.Lt x y) = x || y
occurs_at name (IlExp-F.Gt x y) = x || y
occurs_at name (IlExp-F.Le x y) = x || y
occurs_at name (IlExp-F.Ge x y) = x || y
occurs_at name (IlExp-F.Member x y) = x || y
occurs_at name (IlExp-F.Case t tag xs) = in_any xs
occurs_at name (IlExp-F.Fields t xs) = in_any xs
occurs_at name (IlExp-F.Dot x field) = x
occurs_at name (IlExp-F.Set x path y) = x || in_any path || y
occurs_at name (IlExp-F.Extend x path y) = x || in_any path || y
occurs_at name (IlExp-F.Tuple xs) = in_any xs
occurs_at name (IlExp-F.List t items) = in_any items
occurs_at name (IlExp-F.Cat x y) = x || y
occurs_at name (IlExp-F.Join x y) = x || y
occurs_at name (IlExp-F.Empty t) = false
occurs_at name (IlExp-F.Present x) = x
occurs_at name (IlExp-F.Absent t) = false
occurs_at name (IlExp-F.Len x) = x
occurs_at name (IlExp-F.IlExp::At x y) = x || y
occurs_at name (IlExp-F.IlExp::Slice x y z) = x || y || z
occurs_at name (IlExp-F.Call f xs) = in_any xs
occurs_at name (IlExp-F.Up t x) = x
occurs_at name (IlExp-F.Iter k names x) = k.in_count || not k.is_index && x

-- whether the name is the index of an iteration, and whether it occurs in its count
abbrev pub occurs_count_at : List ℕ → Iteration-F Bool Counted Bool Bool → Counted
occurs_count_at name Iteration-F.Star = record { is_index = false; in_count = false }
occurs_count_at name Iteration-F.Plus = record { is_index = false; in_count = false }
occurs_count_at name Iteration-F.Quest = record { is_index = false; in_count = false }
occurs_count_at name (Iteration-F.Times x) = record { is_index = false; in_count = x }
occurs_count_at name (Iteration-F.Below index x) =
    record { is_index = same_name name index; in_count = x }

-- the name occurs in a part of a list, by what is known of its expression
abbrev pub occurs_item_at : ListItem-F Bool Counted Bool Bool → Bool
occurs_item_at (ListItem-F.One x) = x
occurs_item_at (ListItem-F.All x) = x

-- the name occurs in a step of a path, by what is known of its expressions
abbrev pub occurs_step_at : PathSeg-F Bool Counted Bool Bool → Bool
occurs_step_at (PathSeg-F.Field field) = false
occurs_step_at (PathSeg-F.PathSeg::At x) = x
occurs_step_at (PathSeg-F.PathSeg::Slice x y) = x || y

-- The name occurs as a variable. An index is none in the body that it belongs to.
abbrev pub occurs : List ℕ → IlExp → Bool
occurs name =
    fold-IlExp Bool Counted Bool Bool
    (occurs_at name) (occurs_count_at name) occurs_item_at occurs_step_at

-- whether the name is the index of an iteration, and whether it occurs in its count
abbrev pub occurs_in_count : List ℕ → Iteration → Counted
occurs_in_count name =
    fold-Iteration Bool Counted Bool Bool
    (occurs_at name) (occurs_count_at name) occurs_item_at occurs_step_at

-- the name occurs in a part of a list
abbrev pub occurs_in_item : List ℕ → ListItem → Bool
occurs_in_item name =
    fold-ListItem Bool Counted Bool Bool
    (occurs_at name) (occurs_count_at name) occurs_item_at occurs_step_at

-- the name occurs in a step of a path
abbrev pub occurs_in_step : List ℕ → PathSeg → Bool
occurs_in_step name =
    fold-PathSeg Bool Counted Bool Bool
    (occurs_at name) (occurs_count_at name) occurs_item_at occurs_step_at

-- ---- premises

-- the name occurs in a premise, by what is known of the premise that it repeats
abbrev pub occurs_prem_at : List ℕ → IlPrem-F Bool → Bool
occurs_prem_at name (IlPrem-F.If x) = occurs name x
occurs_prem_at name (IlPrem-F.Goal relation xs) = in_any (map (occurs name) xs)
occurs_prem_at name IlPrem-F.Otherwise = false
occurs_prem_at name (IlPrem-F.Each k names x) =
    (occurs_in_count name k).in_count || not (occurs_in_count name k).is_index && x

-- The name occurs as a variable. An index is none in the premise that it belongs to.
abbrev pub occurs_in_prem : List ℕ → IlPrem → Bool
occurs_in_prem name = fold-IlPrem Bool (occurs_prem_at name)
