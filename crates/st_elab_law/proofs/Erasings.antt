-- What each form of the internal language is erased to.
use Rattle.std.proofs.Common.{◌≡◌, ◌∙◌, ap, ℕ, List, map, Bool}
use Rattle.std.specs.Prelude.{length}
use Rattle.st_num.specs.declared.mark.Mark.TheVariants as mark
use Rattle.st_el.specs.declared.expression.Node.TheVariants as node
use Rattle.st_el.specs.declared.expression.Count.{Count}
use Rattle.st_el.specs.declared.expression.Count.TheVariants as times
use Rattle.st_el.specs.declared.expression.Seg.{Seg}
use Rattle.st_el.specs.declared.expression.Seg.TheVariants as seg
use Rattle.st_il.specs.declared.definition.IlDef.{IlDef}
use Rattle.st_il.specs.declared.ty.Ty.{Ty}
use Rattle.st_il.specs.declared.ty.NumTy.{NumTy}
use Rattle.st_il.specs.declared.expression.IlExp.{IlExp, out-IlExp, map-IlExp, fold_out-IlExp}
use Rattle.st_il.specs.declared.expression.IlExp.TheVariants as il
use Rattle.st_il.specs.declared.expression.IlExp.TheOpen.{IlExp-F, Iteration-F, ListItem-F, PathSeg-F}
use Rattle.st_il.specs.declared.expression.Iteration.{Iteration, out-Iteration, map-Iteration, fold_out-Iteration}
use Rattle.st_il.specs.declared.expression.Iteration.TheVariants as iteration
use Rattle.st_il.specs.declared.expression.ListItem.{ListItem, out-ListItem, map-ListItem, fold_out-ListItem}
use Rattle.st_il.specs.declared.expression.ListItem.TheVariants as part
use Rattle.st_il.specs.declared.expression.PathSeg.{PathSeg, out-PathSeg, map-PathSeg, fold_out-PathSeg}
use Rattle.st_il.specs.declared.expression.PathSeg.TheVariants as step
use Rattle.st_erase.specs.declared.erased.Erased.{Erased}
use Rattle.st_erase.specs.declared.erased.ErasedKind.TheVariants as kind
use Rattle.st_erase.specs.Places.{whole, count}
use Rattle.st_erase.specs.Records.{fields_of}
use Rattle.st_il.specs.Tags.{template_of}
use Rattle.st_erase.specs.Erasure.{plain_form, arithmetic, absent, binary, operation, lifted, Item, one, all, list_of, fields, case_by, exp_at, iteration_at, item_at, segment_at, erased, erased_iteration, erased_item, erased_segment}

module _ (defs : List IlDef) where
  abbrev Parts : Type 0
  Parts = IlExp-F Erased Count Item Seg

  abbrev exp_parts : IlExp-F IlExp Iteration ListItem PathSeg → Parts
  exp_parts = map-IlExp IlExp Iteration ListItem PathSeg Erased Count Item Seg (erased defs) (erased_iteration defs) (erased_item defs) (erased_segment defs)

  exp-is : (x : IlExp) (y : IlExp-F IlExp Iteration ListItem PathSeg) → out-IlExp x ≡ y → erased defs x ≡ exp_at defs (exp_parts y)
  exp-is x y is =
      fold_out-IlExp Erased Count Item Seg (exp_at defs) (iteration_at defs) (item_at defs) (segment_at defs) x ∙ ap (λ z. exp_at defs (exp_parts z)) is

  abbrev iteration_parts : Iteration-F IlExp Iteration ListItem PathSeg → Iteration-F Erased Count Item Seg
  iteration_parts = map-Iteration IlExp Iteration ListItem PathSeg Erased Count Item Seg (erased defs) (erased_iteration defs) (erased_item defs) (erased_segment defs)

  iteration-is : (x : Iteration) (y : Iteration-F IlExp Iteration ListItem PathSeg) → out-Iteration x ≡ y → erased_iteration defs x ≡ iteration_at defs (iteration_parts y)
  iteration-is x y is =
      fold_out-Iteration Erased Count Item Seg (exp_at defs) (iteration_at defs) (item_at defs) (segment_at defs) x ∙ ap (λ z. iteration_at defs (iteration_parts z)) is

  abbrev item_parts : ListItem-F IlExp Iteration ListItem PathSeg → ListItem-F Erased Count Item Seg
  item_parts = map-ListItem IlExp Iteration ListItem PathSeg Erased Count Item Seg (erased defs) (erased_iteration defs) (erased_item defs) (erased_segment defs)

  item-is : (x : ListItem) (y : ListItem-F IlExp Iteration ListItem PathSeg) → out-ListItem x ≡ y → erased_item defs x ≡ item_at defs (item_parts y)
  item-is x y is =
      fold_out-ListItem Erased Count Item Seg (exp_at defs) (iteration_at defs) (item_at defs) (segment_at defs) x ∙ ap (λ z. item_at defs (item_parts z)) is

  abbrev segment_parts : PathSeg-F IlExp Iteration ListItem PathSeg → PathSeg-F Erased Count Item Seg
  segment_parts = map-PathSeg IlExp Iteration ListItem PathSeg Erased Count Item Seg (erased defs) (erased_iteration defs) (erased_item defs) (erased_segment defs)

  segment-is : (x : PathSeg) (y : PathSeg-F IlExp Iteration ListItem PathSeg) → out-PathSeg x ≡ y → erased_segment defs x ≡ segment_at defs (segment_parts y)
  segment-is x y is =
      fold_out-PathSeg Erased Count Item Seg (exp_at defs) (iteration_at defs) (item_at defs) (segment_at defs) x ∙ ap (λ z. segment_at defs (segment_parts z)) is

  pub erased-Bool : (truth : Bool) → erased defs (il.Bool truth) ≡ plain_form (node.Bool truth)
  erased-Bool truth = exp-is _ _ (il.outs-Bool truth)

  pub erased-Number : (n : ℕ) → erased defs (il.Number n) ≡ plain_form (node.Number n)
  erased-Number n = exp-is _ _ (il.outs-Number n)

  pub erased-Text : (text : List ℕ) → erased defs (il.Text text) ≡ plain_form (node.Text text)
  erased-Text text = exp-is _ _ (il.outs-Text text)

  pub erased-Var : (name : List ℕ) → erased defs (il.Var name) ≡ plain_form (node.Name name)
  erased-Var name = exp-is _ _ (il.outs-Var name)

  pub erased-Not : (x : IlExp) → erased defs (il.Not x) ≡ plain_form (node.Not (whole (erased defs x)))
  erased-Not x = exp-is _ _ (il.outs-Not x)

  pub erased-Neg : (x : IlExp) → erased defs (il.Neg x) ≡ arithmetic (node.Neg (erased defs x).exp)
  erased-Neg x = exp-is _ _ (il.outs-Neg x)

  pub erased-And : (x : IlExp) (y : IlExp) → erased defs (il.And x y) ≡ binary mark.And (erased defs x) (erased defs y)
  erased-And x y = exp-is _ _ (il.outs-And x y)

  pub erased-Or : (x : IlExp) (y : IlExp) → erased defs (il.Or x y) ≡ binary mark.Or (erased defs x) (erased defs y)
  erased-Or x y = exp-is _ _ (il.outs-Or x y)

  pub erased-Imp : (x : IlExp) (y : IlExp) → erased defs (il.Imp x y) ≡ binary mark.Implies (erased defs x) (erased defs y)
  erased-Imp x y = exp-is _ _ (il.outs-Imp x y)

  pub erased-Iff : (x : IlExp) (y : IlExp) → erased defs (il.Iff x y) ≡ binary mark.Equivalent (erased defs x) (erased defs y)
  erased-Iff x y = exp-is _ _ (il.outs-Iff x y)

  pub erased-Eq : (x : IlExp) (y : IlExp) → erased defs (il.Eq x y) ≡ binary mark.Equal (erased defs x) (erased defs y)
  erased-Eq x y = exp-is _ _ (il.outs-Eq x y)

  pub erased-Ne : (x : IlExp) (y : IlExp) → erased defs (il.Ne x y) ≡ binary mark.NotEqual (erased defs x) (erased defs y)
  erased-Ne x y = exp-is _ _ (il.outs-Ne x y)

  pub erased-Lt : (x : IlExp) (y : IlExp) → erased defs (il.Lt x y) ≡ binary mark.Less (erased defs x) (erased defs y)
  erased-Lt x y = exp-is _ _ (il.outs-Lt x y)

  pub erased-Gt : (x : IlExp) (y : IlExp) → erased defs (il.Gt x y) ≡ binary mark.Greater (erased defs x) (erased defs y)
  erased-Gt x y = exp-is _ _ (il.outs-Gt x y)

  pub erased-Le : (x : IlExp) (y : IlExp) → erased defs (il.Le x y) ≡ binary mark.LessOrEqual (erased defs x) (erased defs y)
  erased-Le x y = exp-is _ _ (il.outs-Le x y)

  pub erased-Ge : (x : IlExp) (y : IlExp) → erased defs (il.Ge x y) ≡ binary mark.GreaterOrEqual (erased defs x) (erased defs y)
  erased-Ge x y = exp-is _ _ (il.outs-Ge x y)

  pub erased-Member : (x : IlExp) (y : IlExp) → erased defs (il.Member x y) ≡ binary mark.ElementOf (erased defs x) (erased defs y)
  erased-Member x y = exp-is _ _ (il.outs-Member x y)

  pub erased-Cat : (x : IlExp) (y : IlExp) → erased defs (il.Cat x y) ≡ binary mark.PlusPlus (erased defs x) (erased defs y)
  erased-Cat x y = exp-is _ _ (il.outs-Cat x y)

  pub erased-Join : (x : IlExp) (y : IlExp) → erased defs (il.Join x y) ≡ binary mark.PlusPlus (erased defs x) (erased defs y)
  erased-Join x y = exp-is _ _ (il.outs-Join x y)

  pub erased-Add : (n : NumTy) (x : IlExp) (y : IlExp) → erased defs (il.Add n x y) ≡ operation mark.Plus (erased defs x) (erased defs y)
  erased-Add n x y = exp-is _ _ (il.outs-Add n x y)

  pub erased-Sub : (n : NumTy) (x : IlExp) (y : IlExp) → erased defs (il.Sub n x y) ≡ operation mark.Minus (erased defs x) (erased defs y)
  erased-Sub n x y = exp-is _ _ (il.outs-Sub n x y)

  pub erased-Mul : (n : NumTy) (x : IlExp) (y : IlExp) → erased defs (il.Mul n x y) ≡ operation mark.Star (erased defs x) (erased defs y)
  erased-Mul n x y = exp-is _ _ (il.outs-Mul n x y)

  pub erased-Div : (n : NumTy) (x : IlExp) (y : IlExp) → erased defs (il.Div n x y) ≡ operation mark.Slash (erased defs x) (erased defs y)
  erased-Div n x y = exp-is _ _ (il.outs-Div n x y)

  pub erased-Rem : (n : NumTy) (x : IlExp) (y : IlExp) → erased defs (il.Rem n x y) ≡ operation mark.Backslash (erased defs x) (erased defs y)
  erased-Rem n x y = exp-is _ _ (il.outs-Rem n x y)

  pub erased-Pow : (n : NumTy) (x : IlExp) (y : IlExp) → erased defs (il.Pow n x y) ≡ operation mark.Caret (erased defs x) (erased defs y)
  erased-Pow n x y = exp-is _ _ (il.outs-Pow n x y)

  pub erased-Case : (t : List ℕ) (tag : List ℕ) (xs : List IlExp) → erased defs (il.Case t tag xs) ≡ case_by (template_of tag) (map (erased defs) xs)
  erased-Case t tag xs = exp-is _ _ (il.outs-Case t tag xs)

  pub erased-Fields : (t : List ℕ) (xs : List IlExp) → erased defs (il.Fields t xs) ≡ plain_form (node.Fields (fields (fields_of (length defs) defs t) (map (erased defs) xs)))
  erased-Fields t xs = exp-is _ _ (il.outs-Fields t xs)

  pub erased-Dot : (x : IlExp) (field : List ℕ) → erased defs (il.Dot x field) ≡ plain_form (node.Dot (whole (erased defs x)) field)
  erased-Dot x field = exp-is _ _ (il.outs-Dot x field)

  pub erased-Set : (x : IlExp) (path : List PathSeg) (y : IlExp) → erased defs (il.Set x path y) ≡ plain_form (node.Update (whole (erased defs x)) (map (erased_segment defs) path) (whole (erased defs y)))
  erased-Set x path y = exp-is _ _ (il.outs-Set x path y)

  pub erased-Extend : (x : IlExp) (path : List PathSeg) (y : IlExp) → erased defs (il.Extend x path y) ≡ plain_form (node.Extend (whole (erased defs x)) (map (erased_segment defs) path) (whole (erased defs y)))
  erased-Extend x path y = exp-is _ _ (il.outs-Extend x path y)

  pub erased-Tuple : (xs : List IlExp) → erased defs (il.Tuple xs) ≡ plain_form (node.Tuple (map whole (map (erased defs) xs)))
  erased-Tuple xs = exp-is _ _ (il.outs-Tuple xs)

  pub erased-List : (t : Ty) (items : List ListItem) → erased defs (il.List t items) ≡ list_of (map (erased_item defs) items)
  erased-List t items = exp-is _ _ (il.outs-List t items)

  pub erased-Empty : (t : Ty) → erased defs (il.Empty t) ≡ plain_form node.Eps
  erased-Empty t = exp-is _ _ (il.outs-Empty t)

  pub erased-Present : (x : IlExp) → erased defs (il.Present x) ≡ record { exp = lifted (whole (erased defs x)); kind = kind.Plain }
  erased-Present x = exp-is _ _ (il.outs-Present x)

  pub erased-Absent : (t : Ty) → erased defs (il.Absent t) ≡ absent
  erased-Absent t = exp-is _ _ (il.outs-Absent t)

  pub erased-Len : (x : IlExp) → erased defs (il.Len x) ≡ plain_form (node.Len (whole (erased defs x)))
  erased-Len x = exp-is _ _ (il.outs-Len x)

  pub erased-At : (x : IlExp) (y : IlExp) → erased defs (il.At x y) ≡ plain_form (node.At (whole (erased defs x)) (whole (erased defs y)))
  erased-At x y = exp-is _ _ (il.outs-At x y)

  pub erased-Slice : (x : IlExp) (y : IlExp) (z : IlExp) → erased defs (il.Slice x y z) ≡ plain_form (node.Slice (whole (erased defs x)) (whole (erased defs y)) (whole (erased defs z)))
  erased-Slice x y z = exp-is _ _ (il.outs-Slice x y z)

  pub erased-Call : (f : List ℕ) (xs : List IlExp) → erased defs (il.Call f xs) ≡ plain_form (node.Call f (map whole (map (erased defs) xs)))
  erased-Call f xs = exp-is _ _ (il.outs-Call f xs)

  pub erased-Up : (t : Ty) (x : IlExp) → erased defs (il.Up t x) ≡ erased defs x
  erased-Up t x = exp-is _ _ (il.outs-Up t x)

  pub erased-Iter : (k : Iteration) (names : List (List ℕ)) (x : IlExp) → erased defs (il.Iter k names x) ≡ plain_form (node.Iter (whole (erased defs x)) (erased_iteration defs k))
  erased-Iter k names x = exp-is _ _ (il.outs-Iter k names x)

  -- ---- parts

  pub iteration-Star : erased_iteration defs iteration.Star ≡ times.Star
  iteration-Star = iteration-is _ _ (iteration.outs-Star)

  pub iteration-Plus : erased_iteration defs iteration.Plus ≡ times.Plus
  iteration-Plus = iteration-is _ _ (iteration.outs-Plus)

  pub iteration-Quest : erased_iteration defs iteration.Quest ≡ times.Quest
  iteration-Quest = iteration-is _ _ (iteration.outs-Quest)

  pub iteration-Times : (x : IlExp) → erased_iteration defs (iteration.Times x) ≡ times.Times (count (erased defs x))
  iteration-Times x = iteration-is _ _ (iteration.outs-Times x)

  pub iteration-Below : (i : List ℕ) (x : IlExp) → erased_iteration defs (iteration.Below i x) ≡ times.Below i (count (erased defs x))
  iteration-Below i x = iteration-is _ _ (iteration.outs-Below i x)

  pub item-One : (x : IlExp) → erased_item defs (part.One x) ≡ one (whole (erased defs x))
  item-One x = item-is _ _ (part.outs-One x)

  pub item-All : (x : IlExp) → erased_item defs (part.All x) ≡ all (whole (erased defs x))
  item-All x = item-is _ _ (part.outs-All x)

  pub segment-Field : (name : List ℕ) → erased_segment defs (step.Field name) ≡ seg.Field name
  segment-Field name = segment-is _ _ (step.outs-Field name)

  pub segment-At : (x : IlExp) → erased_segment defs (step.At x) ≡ seg.At (whole (erased defs x))
  segment-At x = segment-is _ _ (step.outs-At x)

  pub segment-Slice : (x : IlExp) (y : IlExp) → erased_segment defs (step.Slice x y) ≡ seg.Slice (whole (erased defs x)) (whole (erased defs y))
  segment-Slice x y = segment-is _ _ (step.outs-Slice x y)
