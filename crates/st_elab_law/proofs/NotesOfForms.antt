-- What is noted of each form of the internal language.
use Rattle.std.proofs.Common.{◌≡◌, ◌∙◌, ap, ℕ, List, [], ◌∷◌, map, Bool, true, false}
use Rattle.st_num.specs.declared.dim.Kind.TheVariants as kind
use Rattle.st_il.specs.declared.ty.Ty.{Ty}
use Rattle.st_il.specs.declared.ty.NumTy.{NumTy}
use Rattle.st_il.specs.declared.expression.IlExp.{IlExp, out-IlExp, map-IlExp, fold_out-IlExp}
use Rattle.st_il.specs.declared.expression.IlExp.TheVariants as il
use Rattle.st_il.specs.declared.expression.IlExp.TheOpen.{IlExp-F, Iteration-F, ListItem-F, PathSeg-F}
use Rattle.st_il.specs.declared.expression.Iteration.{Iteration, out-Iteration, map-Iteration, fold_out-Iteration}
use Rattle.st_il.specs.declared.expression.Iteration.TheVariants as iteration
use Rattle.st_il.specs.declared.expression.ListItem.{ListItem, out-ListItem, map-ListItem, fold_out-ListItem}
use Rattle.st_il.specs.declared.expression.ListItem.TheVariants as part
use Rattle.st_il.specs.declared.expression.PathSeg.{PathSeg, out-PathSeg, map-PathSeg, fold_out-PathSeg}
use Rattle.st_il.specs.declared.expression.PathSeg.TheVariants as step
use Rattle.st_elab_law.specs.Notes.{Notes, nothing, beside, all_of}
use Rattle.st_elab_law.specs.Noted.{Round, variable, iterated, over_list, noted_at, round_at, noted_item_at, noted_step_at, noted, round_of, noted_item, noted_step}

exp-is : (x : IlExp) (y : IlExp-F IlExp Iteration ListItem PathSeg) → out-IlExp x ≡ y
    → noted x ≡ noted_at (map-IlExp IlExp Iteration ListItem PathSeg Notes Round Notes Notes noted round_of noted_item noted_step y)
exp-is x y is =
    fold_out-IlExp Notes Round Notes Notes noted_at round_at noted_item_at noted_step_at x
    ∙ ap (λ z. noted_at (map-IlExp IlExp Iteration ListItem PathSeg Notes Round Notes Notes noted round_of noted_item noted_step z)) is

round-is : (x : Iteration) (y : Iteration-F IlExp Iteration ListItem PathSeg) → out-Iteration x ≡ y
    → round_of x ≡ round_at (map-Iteration IlExp Iteration ListItem PathSeg Notes Round Notes Notes noted round_of noted_item noted_step y)
round-is x y is =
    fold_out-Iteration Notes Round Notes Notes noted_at round_at noted_item_at noted_step_at x
    ∙ ap (λ z. round_at (map-Iteration IlExp Iteration ListItem PathSeg Notes Round Notes Notes noted round_of noted_item noted_step z)) is

item-is : (x : ListItem) (y : ListItem-F IlExp Iteration ListItem PathSeg) → out-ListItem x ≡ y
    → noted_item x ≡ noted_item_at (map-ListItem IlExp Iteration ListItem PathSeg Notes Round Notes Notes noted round_of noted_item noted_step y)
item-is x y is =
    fold_out-ListItem Notes Round Notes Notes noted_at round_at noted_item_at noted_step_at x
    ∙ ap (λ z. noted_item_at (map-ListItem IlExp Iteration ListItem PathSeg Notes Round Notes Notes noted round_of noted_item noted_step z)) is

step-is : (x : PathSeg) (y : PathSeg-F IlExp Iteration ListItem PathSeg) → out-PathSeg x ≡ y
    → noted_step x ≡ noted_step_at (map-PathSeg IlExp Iteration ListItem PathSeg Notes Round Notes Notes noted round_of noted_item noted_step y)
step-is x y is =
    fold_out-PathSeg Notes Round Notes Notes noted_at round_at noted_item_at noted_step_at x
    ∙ ap (λ z. noted_step_at (map-PathSeg IlExp Iteration ListItem PathSeg Notes Round Notes Notes noted round_of noted_item noted_step z)) is

-- ---- expressions

pub noted-Bool : (truth : Bool) → noted (il.Bool truth) ≡ nothing
noted-Bool truth = exp-is _ _ (il.outs-Bool truth)

pub noted-Number : (n : ℕ) → noted (il.Number n) ≡ nothing
noted-Number n = exp-is _ _ (il.outs-Number n)

pub noted-Text : (text : List ℕ) → noted (il.Text text) ≡ nothing
noted-Text text = exp-is _ _ (il.outs-Text text)

pub noted-Var : (name : List ℕ) → noted (il.Var name) ≡ variable name
noted-Var name = exp-is _ _ (il.outs-Var name)

pub noted-Not : (x : IlExp) → noted (il.Not x) ≡ noted x
noted-Not x = exp-is _ _ (il.outs-Not x)

pub noted-And : (x y : IlExp) → noted (il.And x y) ≡ beside (noted x) (noted y)
noted-And x y = exp-is _ _ (il.outs-And x y)

pub noted-Or : (x y : IlExp) → noted (il.Or x y) ≡ beside (noted x) (noted y)
noted-Or x y = exp-is _ _ (il.outs-Or x y)

pub noted-Imp : (x y : IlExp) → noted (il.Imp x y) ≡ beside (noted x) (noted y)
noted-Imp x y = exp-is _ _ (il.outs-Imp x y)

pub noted-Iff : (x y : IlExp) → noted (il.Iff x y) ≡ beside (noted x) (noted y)
noted-Iff x y = exp-is _ _ (il.outs-Iff x y)

pub noted-Neg : (x : IlExp) → noted (il.Neg x) ≡ noted x
noted-Neg x = exp-is _ _ (il.outs-Neg x)

pub noted-Add : (n : NumTy) (x y : IlExp) → noted (il.Add n x y) ≡ beside (noted x) (noted y)
noted-Add n x y = exp-is _ _ (il.outs-Add n x y)

pub noted-Sub : (n : NumTy) (x y : IlExp) → noted (il.Sub n x y) ≡ beside (noted x) (noted y)
noted-Sub n x y = exp-is _ _ (il.outs-Sub n x y)

pub noted-Mul : (n : NumTy) (x y : IlExp) → noted (il.Mul n x y) ≡ beside (noted x) (noted y)
noted-Mul n x y = exp-is _ _ (il.outs-Mul n x y)

pub noted-Div : (n : NumTy) (x y : IlExp) → noted (il.Div n x y) ≡ beside (noted x) (noted y)
noted-Div n x y = exp-is _ _ (il.outs-Div n x y)

pub noted-Rem : (n : NumTy) (x y : IlExp) → noted (il.Rem n x y) ≡ beside (noted x) (noted y)
noted-Rem n x y = exp-is _ _ (il.outs-Rem n x y)

pub noted-Pow : (n : NumTy) (x y : IlExp) → noted (il.Pow n x y) ≡ beside (noted x) (noted y)
noted-Pow n x y = exp-is _ _ (il.outs-Pow n x y)

pub noted-Eq : (x y : IlExp) → noted (il.Eq x y) ≡ beside (noted x) (noted y)
noted-Eq x y = exp-is _ _ (il.outs-Eq x y)

pub noted-Ne : (x y : IlExp) → noted (il.Ne x y) ≡ beside (noted x) (noted y)
noted-Ne x y = exp-is _ _ (il.outs-Ne x y)

pub noted-Lt : (x y : IlExp) → noted (il.Lt x y) ≡ beside (noted x) (noted y)
noted-Lt x y = exp-is _ _ (il.outs-Lt x y)

pub noted-Gt : (x y : IlExp) → noted (il.Gt x y) ≡ beside (noted x) (noted y)
noted-Gt x y = exp-is _ _ (il.outs-Gt x y)

pub noted-Le : (x y : IlExp) → noted (il.Le x y) ≡ beside (noted x) (noted y)
noted-Le x y = exp-is _ _ (il.outs-Le x y)

pub noted-Ge : (x y : IlExp) → noted (il.Ge x y) ≡ beside (noted x) (noted y)
noted-Ge x y = exp-is _ _ (il.outs-Ge x y)

pub noted-Member : (x y : IlExp) → noted (il.Member x y) ≡ beside (noted x) (noted y)
noted-Member x y = exp-is _ _ (il.outs-Member x y)

pub noted-Case : (t tag : List ℕ) (xs : List IlExp) → noted (il.Case t tag xs) ≡ all_of (map noted xs)
noted-Case t tag xs = exp-is _ _ (il.outs-Case t tag xs)

pub noted-Fields : (t : List ℕ) (xs : List IlExp) → noted (il.Fields t xs) ≡ all_of (map noted xs)
noted-Fields t xs = exp-is _ _ (il.outs-Fields t xs)

pub noted-Dot : (x : IlExp) (field : List ℕ) → noted (il.Dot x field) ≡ noted x
noted-Dot x field = exp-is _ _ (il.outs-Dot x field)

pub noted-Set : (x : IlExp) (path : List PathSeg) (y : IlExp) → noted (il.Set x path y) ≡ beside (beside (noted x) (all_of (map noted_step path))) (noted y)
noted-Set x path y = exp-is _ _ (il.outs-Set x path y)

pub noted-Extend : (x : IlExp) (path : List PathSeg) (y : IlExp) → noted (il.Extend x path y) ≡ beside (beside (noted x) (all_of (map noted_step path))) (noted y)
noted-Extend x path y = exp-is _ _ (il.outs-Extend x path y)

pub noted-Tuple : (xs : List IlExp) → noted (il.Tuple xs) ≡ all_of (map noted xs)
noted-Tuple xs = exp-is _ _ (il.outs-Tuple xs)

pub noted-List : (t : Ty) (items : List ListItem) → noted (il.List t items) ≡ all_of (map noted_item items)
noted-List t items = exp-is _ _ (il.outs-List t items)

pub noted-Cat : (x y : IlExp) → noted (il.Cat x y) ≡ beside (noted x) (noted y)
noted-Cat x y = exp-is _ _ (il.outs-Cat x y)

pub noted-Join : (x y : IlExp) → noted (il.Join x y) ≡ beside (noted x) (noted y)
noted-Join x y = exp-is _ _ (il.outs-Join x y)

pub noted-Empty : (t : Ty) → noted (il.Empty t) ≡ nothing
noted-Empty t = exp-is _ _ (il.outs-Empty t)

pub noted-Present : (x : IlExp) → noted (il.Present x) ≡ noted x
noted-Present x = exp-is _ _ (il.outs-Present x)

pub noted-Absent : (t : Ty) → noted (il.Absent t) ≡ nothing
noted-Absent t = exp-is _ _ (il.outs-Absent t)

pub noted-Len : (x : IlExp) → noted (il.Len x) ≡ noted x
noted-Len x = exp-is _ _ (il.outs-Len x)

pub noted-At : (x y : IlExp) → noted (il.At x y) ≡ beside (noted x) (noted y)
noted-At x y = exp-is _ _ (il.outs-At x y)

pub noted-Slice : (x y z : IlExp) → noted (il.Slice x y z) ≡ beside (beside (noted x) (noted y)) (noted z)
noted-Slice x y z = exp-is _ _ (il.outs-Slice x y z)

pub noted-Call : (f : List ℕ) (xs : List IlExp) → noted (il.Call f xs) ≡ all_of (map noted xs)
noted-Call f xs = exp-is _ _ (il.outs-Call f xs)

pub noted-Up : (t : Ty) (x : IlExp) → noted (il.Up t x) ≡ noted x
noted-Up t x = exp-is _ _ (il.outs-Up t x)

pub noted-Iter : (k : Iteration) (names : List (List ℕ)) (x : IlExp) → noted (il.Iter k names x) ≡ iterated (round_of k) (noted x)
noted-Iter k names x = exp-is _ _ (il.outs-Iter k names x)

-- ---- parts

pub round-Star : round_of iteration.Star ≡ over_list true nothing
round-Star = round-is _ _ iteration.outs-Star

pub round-Plus : round_of iteration.Plus ≡ over_list true nothing
round-Plus = round-is _ _ iteration.outs-Plus

pub round-Quest : round_of iteration.Quest ≡ record { kind = kind.Opt; index = []; must = true; count = nothing }
round-Quest = round-is _ _ iteration.outs-Quest

pub round-Times : (x : IlExp) → round_of (iteration.Times x) ≡ over_list false (noted x)
round-Times x = round-is _ _ (iteration.outs-Times x)

pub round-Below : (i : List ℕ) (x : IlExp) → round_of (iteration.Below i x) ≡ record { kind = kind.List; index = i ∷ []; must = false; count = noted x }
round-Below i x = round-is _ _ (iteration.outs-Below i x)

pub item-One : (x : IlExp) → noted_item (part.One x) ≡ noted x
item-One x = item-is _ _ (part.outs-One x)

pub item-All : (x : IlExp) → noted_item (part.All x) ≡ noted x
item-All x = item-is _ _ (part.outs-All x)

pub step-Field : (name : List ℕ) → noted_step (step.Field name) ≡ nothing
step-Field name = step-is _ _ (step.outs-Field name)

pub step-At : (x : IlExp) → noted_step (step.At x) ≡ noted x
step-At x = step-is _ _ (step.outs-At x)

pub step-Slice : (x y : IlExp) → noted_step (step.Slice x y) ≡ beside (noted x) (noted y)
step-Slice x y = step-is _ _ (step.outs-Slice x y)
