-- Induction over expressions: what holds of an expression where it holds of its parts holds of each.
use Rattle.std.proofs.Common.{sym, subst, List, [], ◌∷◌, ◌++◌, map}
use Rattle.std.specs.List.{AllByRecursion}
use Rattle.st_il.specs.declared.expression.IlExp.{IlExp, out-IlExp, roll-IlExp, out-roll-IlExp, map-IlExp, ind-IlExp}
use Rattle.st_il.specs.declared.expression.IlExp.TheOpen.{IlExp-F, Iteration-F, ListItem-F, PathSeg-F}
use Rattle.st_il.specs.declared.expression.Iteration.{Iteration, out-roll-Iteration, map-Iteration}
use Rattle.st_il.specs.declared.expression.ListItem.{ListItem, out-roll-ListItem, map-ListItem}
use Rattle.st_il.specs.declared.expression.PathSeg.{PathSeg, out-roll-PathSeg, map-PathSeg}
use Rattle.st_il.specs.Names.{flattened}
use Rattle.st_semantics.specs.Operands.{operands_at, item_exp, segment_exps, item_at, segment_at}
use Rattle.st_semantics.specs.Iterations.{count_at, count_of}
use Rattle.st_elab_typed.proofs.Members.{Each-append}

-- a level of an expression
abbrev pub Level : Type 0
Level = IlExp-F IlExp Iteration ListItem PathSeg

-- The parts of a level: its operands, or the body of an iteration and its count.
abbrev pub parts_at : Level → List IlExp
parts_at (IlExp-F.Iter how xs body) = body ∷ count_of how
parts_at y = operands_at item_exp segment_exps y

module _ (P : IlExp → Type 0) where
  abbrev Such : Type 0
  Such = (x : IlExp) × P x

  -- P holds of the count of an iteration, of a part of a list, and of what stands in a step of a path
  abbrev OfCount : Iteration → Type 0
  OfCount how = AllByRecursion P (count_of how)

  abbrev OfItem : ListItem → Type 0
  OfItem item = P (item_exp item)

  abbrev OfStep : PathSeg → Type 0
  OfStep s = AllByRecursion P (segment_exps s)

  abbrev SuchCount : Type 0
  SuchCount = (x : Iteration) × OfCount x

  abbrev SuchItem : Type 0
  SuchItem = (x : ListItem) × OfItem x

  abbrev SuchStep : Type 0
  SuchStep = (x : PathSeg) × OfStep x

  abbrev exp_first : IlExp-F Such SuchCount SuchItem SuchStep → Level
  exp_first y = map-IlExp Such SuchCount SuchItem SuchStep IlExp Iteration ListItem PathSeg (λ z. z.0) (λ z. z.0) (λ z. z.0) (λ z. z.0) y

  abbrev count_first : Iteration-F Such SuchCount SuchItem SuchStep → Iteration-F IlExp Iteration ListItem PathSeg
  count_first y = map-Iteration Such SuchCount SuchItem SuchStep IlExp Iteration ListItem PathSeg (λ z. z.0) (λ z. z.0) (λ z. z.0) (λ z. z.0) y

  abbrev item_first : ListItem-F Such SuchCount SuchItem SuchStep → ListItem-F IlExp Iteration ListItem PathSeg
  item_first y = map-ListItem Such SuchCount SuchItem SuchStep IlExp Iteration ListItem PathSeg (λ z. z.0) (λ z. z.0) (λ z. z.0) (λ z. z.0) y

  abbrev step_first : PathSeg-F Such SuchCount SuchItem SuchStep → PathSeg-F IlExp Iteration ListItem PathSeg
  step_first y = map-PathSeg Such SuchCount SuchItem SuchStep IlExp Iteration ListItem PathSeg (λ z. z.0) (λ z. z.0) (λ z. z.0) (λ z. z.0) y

  each_such : (ys : List Such) → AllByRecursion P (map (λ (y : Such). y.0) ys)
  each_such [] = tt
  each_such (y ∷ ys) = (y.1, each_such ys)

  items_such : (ys : List SuchItem) → AllByRecursion P (map item_exp (map (λ (y : SuchItem). y.0) ys))
  items_such [] = tt
  items_such (y ∷ ys) = (y.1, items_such ys)

  path_such : (ys : List SuchStep) → AllByRecursion P (flattened (map segment_exps (map (λ (y : SuchStep). y.0) ys)))
  path_such [] = tt
  path_such (y ∷ ys) = Each-append P (segment_exps y.0) (flattened (map segment_exps (map (λ (y : SuchStep). y.0) ys))) y.1 (path_such ys)

  along_such : (a : Such) (path : List SuchStep) (b : Such) → AllByRecursion P (a.0 ∷ flattened (map segment_exps (map (λ (y : SuchStep). y.0) path)) ++ b.0 ∷ [])
  along_such a path b = (a.1, Each-append P (flattened (map segment_exps (map (λ (y : SuchStep). y.0) path))) (b.0 ∷ []) (path_such path) (b.1, tt))

  parts_such : (y : IlExp-F Such SuchCount SuchItem SuchStep) → AllByRecursion P (parts_at (exp_first y))
  parts_such (IlExp-F.Bool truth) = tt
  parts_such (IlExp-F.Number n) = tt
  parts_such (IlExp-F.Text text) = tt
  parts_such (IlExp-F.Var name) = tt
  parts_such (IlExp-F.Not a) = (a.1, tt)
  parts_such (IlExp-F.And a b) = (a.1, (b.1, tt))
  parts_such (IlExp-F.Or a b) = (a.1, (b.1, tt))
  parts_such (IlExp-F.Imp a b) = (a.1, (b.1, tt))
  parts_such (IlExp-F.Iff a b) = (a.1, (b.1, tt))
  parts_such (IlExp-F.Neg a) = (a.1, tt)
  parts_such (IlExp-F.Add n a b) = (a.1, (b.1, tt))
  parts_such (IlExp-F.Sub n a b) = (a.1, (b.1, tt))
  parts_such (IlExp-F.Mul n a b) = (a.1, (b.1, tt))
  parts_such (IlExp-F.Div n a b) = (a.1, (b.1, tt))
  parts_such (IlExp-F.Rem n a b) = (a.1, (b.1, tt))
  parts_such (IlExp-F.Pow n a b) = (a.1, (b.1, tt))
  parts_such (IlExp-F.Eq a b) = (a.1, (b.1, tt))
  parts_such (IlExp-F.Ne a b) = (a.1, (b.1, tt))
  parts_such (IlExp-F.Lt a b) = (a.1, (b.1, tt))
  parts_such (IlExp-F.Gt a b) = (a.1, (b.1, tt))
  parts_such (IlExp-F.Le a b) = (a.1, (b.1, tt))
  parts_such (IlExp-F.Ge a b) = (a.1, (b.1, tt))
  parts_such (IlExp-F.Member a b) = (a.1, (b.1, tt))
  parts_such (IlExp-F.Case t tag xs) = each_such xs
  parts_such (IlExp-F.Fields t xs) = each_such xs
  parts_such (IlExp-F.Dot a field) = (a.1, tt)
  parts_such (IlExp-F.Set a path b) = along_such a path b
  parts_such (IlExp-F.Extend a path b) = along_such a path b
  parts_such (IlExp-F.Tuple xs) = each_such xs
  parts_such (IlExp-F.List t items) = items_such items
  parts_such (IlExp-F.Cat a b) = (a.1, (b.1, tt))
  parts_such (IlExp-F.Join a b) = (a.1, (b.1, tt))
  parts_such (IlExp-F.Empty t) = tt
  parts_such (IlExp-F.Present a) = (a.1, tt)
  parts_such (IlExp-F.Absent t) = tt
  parts_such (IlExp-F.Len a) = (a.1, tt)
  parts_such (IlExp-F.IlExp::At a b) = (a.1, (b.1, tt))
  parts_such (IlExp-F.IlExp::Slice a b c) = (a.1, (b.1, (c.1, tt)))
  parts_such (IlExp-F.Call f xs) = each_such xs
  parts_such (IlExp-F.Up t a) = (a.1, tt)
  parts_such (IlExp-F.Iter k names a) = (a.1, k.1)

  count_such : (y : Iteration-F Such SuchCount SuchItem SuchStep) → AllByRecursion P (count_at (count_first y))
  count_such Iteration-F.Star = tt
  count_such Iteration-F.Plus = tt
  count_such Iteration-F.Quest = tt
  count_such (Iteration-F.Times a) = (a.1, tt)
  count_such (Iteration-F.Below index a) = (a.1, tt)

  item_such : (y : ListItem-F Such SuchCount SuchItem SuchStep) → P (item_at (item_first y))
  item_such (ListItem-F.One a) = a.1
  item_such (ListItem-F.All a) = a.1

  step_such : (y : PathSeg-F Such SuchCount SuchItem SuchStep) → AllByRecursion P (segment_at (step_first y))
  step_such (PathSeg-F.Field name) = tt
  step_such (PathSeg-F.PathSeg::At a) = (a.1, tt)
  step_such (PathSeg-F.PathSeg::Slice a b) = (a.1, (b.1, tt))

  -- What holds of an expression where it holds of its parts holds of each.
  pub exp_induction : ((x : IlExp) → AllByRecursion P (parts_at (out-IlExp x)) → P x) → (x : IlExp) → P x
  exp_induction step =
      ind-IlExp P OfCount OfItem OfStep
      (λ x y e. step (roll-IlExp x) (subst (λ z. AllByRecursion P (parts_at z)) (sym (out-roll-IlExp x)) (subst (λ z. AllByRecursion P (parts_at z)) e (parts_such y))))
      (λ x y e. subst (λ z. AllByRecursion P (count_at z)) (sym (out-roll-Iteration x)) (subst (λ z. AllByRecursion P (count_at z)) e (count_such y)))
      (λ x y e. subst (λ z. P (item_at z)) (sym (out-roll-ListItem x)) (subst (λ z. P (item_at z)) e (item_such y)))
      (λ x y e. subst (λ z. AllByRecursion P (segment_at z)) (sym (out-roll-PathSeg x)) (subst (λ z. AllByRecursion P (segment_at z)) e (step_such y)))
