-- Erasure: the source that an expression of the internal language was written as, by cases.
use Rattle.std.specs.Prelude.{ℕ, List, [], ◌∷◌, length, map, ◌++◌, Option, Some, None}
use Rattle.st_num.specs.declared.mark.Mark.{Mark}
use Rattle.st_num.specs.declared.mark.Mark.TheVariants as mark
use Rattle.st_el.specs.declared.expression.Exp.{Exp}
use Rattle.st_el.specs.declared.expression.Node.{Node}
use Rattle.st_el.specs.declared.expression.Node.TheVariants as node
use Rattle.st_el.specs.declared.expression.Count.{Count}
use Rattle.st_el.specs.declared.expression.Count.TheOpen.{Node-F}
use Rattle.st_el.specs.declared.expression.Count.TheVariants as times
use Rattle.st_el.specs.declared.expression.Seg.{Seg}
use Rattle.st_el.specs.declared.expression.Seg.TheVariants as seg
use Rattle.st_il.specs.declared.definition.Il.{Il}
use Rattle.st_il.specs.declared.definition.IlDef.{IlDef}
use Rattle.st_il.specs.declared.template.Template.{Template}
use Rattle.st_il.specs.declared.expression.IlExp.{IlExp, fold-IlExp}
use Rattle.st_il.specs.declared.expression.IlExp.TheOpen.{IlExp-F, Iteration-F, ListItem-F, PathSeg-F}
use Rattle.st_il.specs.declared.expression.Iteration.{Iteration, fold-Iteration}
use Rattle.st_il.specs.declared.expression.ListItem.{ListItem, fold-ListItem}
use Rattle.st_il.specs.declared.expression.PathSeg.{PathSeg, fold-PathSeg}
use Rattle.st_erase.specs.declared.erased.Erased.{Erased}
use Rattle.st_erase.specs.declared.erased.ErasedKind.{ErasedKind}
use Rattle.st_erase.specs.declared.erased.ErasedKind.TheVariants as kind
use Rattle.st_erase.specs.Places.{exp, opened, whole, count}
use Rattle.st_erase.specs.Filling.{filled, sequence}
use Rattle.st_erase.specs.Records.{fields_of}
use Rattle.st_il.specs.Tags.{template_of}

-- ---- forms of source

-- the source with this at its top, which is no arithmetic
abbrev pub plain_form : Node → Erased
plain_form n = record { exp = exp n; kind = kind.Plain }

-- the source with a sign of arithmetic at its top
abbrev pub arithmetic : Node → Erased
arithmetic n = record { exp = exp n; kind = kind.Arithmetic }

-- the source of a part that was left out
abbrev pub absent : Erased
absent = record { exp = exp node.Eps; kind = kind.Absent }

-- two sides of a sign of logic, comparison, membership or `++`
abbrev pub binary : Mark → Erased → Erased → Erased
binary sign left right = plain_form (node.Binary (whole left) sign (whole right))

-- the source of arithmetic on two operands, which need no `$( )` of their own
abbrev pub operation : Mark → Erased → Erased → Erased
operation sign left right = arithmetic (node.Binary left.exp sign right.exp)

-- ---- lists

-- a sequence or a sign of notation in parentheses, and any other expression as it is
abbrev pub lifted_at : Exp → Node-F Count Node Seg Exp → Exp
lifted_at e (Node-F.Seq parts) = exp (node.Paren e)
lifted_at e (Node-F.Infix left sign right) = exp (node.Paren e)
lifted_at e _ = e

-- The element of a one-element list or option stands in parentheses
-- where it is a sequence or has a sign of notation.
abbrev pub lifted : Exp → Exp
lifted e = lifted_at e (opened e)

-- what an item of a list is: whether it is one element, and its source
pub data Item : Type 0 where
  one : Exp → Item
  all : Exp → Item

-- the expression in an item of a list
abbrev pub source : Item → Exp
source (one e) = e
source (all e) = e

-- the source of a list of these items
abbrev pub list_of : List Item → Erased
list_of [] = plain_form node.Eps
list_of (one e ∷ []) = record { exp = lifted e; kind = kind.Plain }
list_of (all e ∷ []) = record { exp = e; kind = kind.Plain }
list_of (item ∷ next ∷ items) =
    record { exp = sequence (map source (item ∷ next ∷ items)); kind = kind.Run }

-- ---- records

-- the value of a field where it is written: a part that was left out is not
abbrev pub written : ErasedKind → Exp → List Exp
written kind.Absent e = []
written kind.Plain e = e ∷ []
written kind.Arithmetic e = e ∷ []
written kind.Run e = e ∷ []

-- a field of a record where it is written: a part that was left out is not
abbrev pub field_by : List ℕ → Erased → List (List ℕ × Exp)
field_by name x = map (λ (e : Exp). (name, e)) (written x.kind (whole x))

-- the fields of a record that are written, with these names and values in order
abbrev pub fields : List (List ℕ) → List Erased → List (List ℕ × Exp)
fields [] xs = []
fields (name ∷ names) [] = []
fields (name ∷ names) (x ∷ xs) = field_by name x ++ fields names xs

-- ---- cases

-- the source of a case by the template of its tag; it is `eps` where there is none
abbrev pub case_by : Option Template → List Erased → Erased
case_by None xs = plain_form node.Eps
case_by (Some t) xs = record { exp = filled t xs; kind = kind.Plain }

module _ (defs : List IlDef) where
  -- the source of an expression, where its parts are erased
  abbrev pub exp_at : IlExp-F Erased Count Item Seg → Erased
  exp_at (IlExp-F.Bool b) = plain_form (node.Bool b)
  exp_at (IlExp-F.Number n) = plain_form (node.Number n)
  exp_at (IlExp-F.Text s) = plain_form (node.Text s)
  exp_at (IlExp-F.Var x) = plain_form (node.Name x)
  exp_at (IlExp-F.Not x) = plain_form (node.Not (whole x))
  exp_at (IlExp-F.And x y) = binary mark.And x y
  exp_at (IlExp-F.Or x y) = binary mark.Or x y
  exp_at (IlExp-F.Imp x y) = binary mark.Implies x y
  exp_at (IlExp-F.Iff x y) = binary mark.Equivalent x y
  exp_at (IlExp-F.Neg x) = arithmetic (node.Neg x.exp)
  exp_at (IlExp-F.Add n x y) = operation mark.Plus x y
  exp_at (IlExp-F.Sub n x y) = operation mark.Minus x y
  exp_at (IlExp-F.Mul n x y) = operation mark.Star x y
  exp_at (IlExp-F.Div n x y) = operation mark.Slash x y
  exp_at (IlExp-F.Rem n x y) = operation mark.Backslash x y
  exp_at (IlExp-F.Pow n x y) = operation mark.Caret x y
  exp_at (IlExp-F.Eq x y) = binary mark.Equal x y
  exp_at (IlExp-F.Ne x y) = binary mark.NotEqual x y
  exp_at (IlExp-F.Lt x y) = binary mark.Less x y
  exp_at (IlExp-F.Gt x y) = binary mark.Greater x y
  exp_at (IlExp-F.Le x y) = binary mark.LessOrEqual x y
  exp_at (IlExp-F.Ge x y) = binary mark.GreaterOrEqual x y
  exp_at (IlExp-F.Member x y) = binary mark.ElementOf x y
  exp_at (IlExp-F.Case ty tag xs) = case_by (template_of tag) xs
  exp_at (IlExp-F.Fields ty xs) =
      plain_form (node.Fields (fields (fields_of (length defs) defs ty) xs))
  exp_at (IlExp-F.Dot x field) = plain_form (node.Dot (whole x) field)
  exp_at (IlExp-F.Set x path y) = plain_form (node.Update (whole x) path (whole y))
  exp_at (IlExp-F.Extend x path y) = plain_form (node.Extend (whole x) path (whole y))
  exp_at (IlExp-F.Tuple xs) = plain_form (node.Tuple (map whole xs))
  exp_at (IlExp-F.List ty items) = list_of items
  exp_at (IlExp-F.Cat x y) = binary mark.PlusPlus x y
  exp_at (IlExp-F.Join x y) = binary mark.PlusPlus x y
  exp_at (IlExp-F.Empty ty) = plain_form node.Eps
  exp_at (IlExp-F.Present x) = record { exp = lifted (whole x); kind = kind.Plain }
  exp_at (IlExp-F.Absent ty) = absent
  exp_at (IlExp-F.Len x) = plain_form (node.Len (whole x))
  exp_at (IlExp-F.IlExp::At x y) = plain_form (node.At (whole x) (whole y))
  exp_at (IlExp-F.IlExp::Slice x y z) = plain_form (node.Slice (whole x) (whole y) (whole z))
  exp_at (IlExp-F.Call f xs) = plain_form (node.Call f (map whole xs))
  exp_at (IlExp-F.Up ty x) = x
  exp_at (IlExp-F.Iter k names x) = plain_form (node.Iter (whole x) k)

  -- the source of how often an iteration goes, where its expression is erased
  abbrev pub iteration_at : Iteration-F Erased Count Item Seg → Count
  iteration_at Iteration-F.Star = times.Star
  iteration_at Iteration-F.Plus = times.Plus
  iteration_at Iteration-F.Quest = times.Quest
  iteration_at (Iteration-F.Times x) = times.Times (count x)
  iteration_at (Iteration-F.Below i x) = times.Below i (count x)

  -- what an item of a list is, where its expression is erased
  abbrev pub item_at : ListItem-F Erased Count Item Seg → Item
  item_at (ListItem-F.One x) = one (whole x)
  item_at (ListItem-F.All x) = all (whole x)

  -- the source of a step of a path, where its expressions are erased
  abbrev pub segment_at : PathSeg-F Erased Count Item Seg → Seg
  segment_at (PathSeg-F.Field f) = seg.Field f
  segment_at (PathSeg-F.PathSeg::At x) = seg.At (whole x)
  segment_at (PathSeg-F.PathSeg::Slice x y) = seg.Slice (whole x) (whole y)

  -- the source of an expression
  abbrev pub erased : IlExp → Erased
  erased = fold-IlExp Erased Count Item Seg exp_at iteration_at item_at segment_at

  -- the source of how often an iteration goes
  abbrev pub erased_iteration : Iteration → Count
  erased_iteration = fold-Iteration Erased Count Item Seg exp_at iteration_at item_at segment_at

  -- what an item of a list is, with its source
  abbrev pub erased_item : ListItem → Item
  erased_item = fold-ListItem Erased Count Item Seg exp_at iteration_at item_at segment_at

  -- the source of a step of a path
  abbrev pub erased_segment : PathSeg → Seg
  erased_segment = fold-PathSeg Erased Count Item Seg exp_at iteration_at item_at segment_at

-- the source of an expression that stands by itself
abbrev pub erased_exp : Il → IlExp → Exp
erased_exp il e = whole (erased il.defs e)
