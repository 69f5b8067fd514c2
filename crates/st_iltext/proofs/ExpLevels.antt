-- The trees and the conditions of expressions, level by level.
use Rattle.std.proofs.Common.{◌≡◌, ℕ, ◌^◌, List, [], ◌∷◌, map, length, codes, Bool, true, ◌&&◌, nat_lt, nat_le, sym, ap, ap₂, ◌∙◌}
use Rattle.std.specs.Fmt.{decimal}
use Rattle.std.specs.List.{list_all}
use Rattle.st_il.specs.declared.ty.Ty.{Ty}
use Rattle.st_il.specs.declared.ty.NumTy.{NumTy}
use Rattle.st_il.specs.declared.expression.IlExp.{IlExp, roll-IlExp, map-IlExp, fold-roll-IlExp}
use Rattle.st_il.specs.declared.expression.IlExp.TheOpen.{IlExp-F, Iteration-F, ListItem-F, PathSeg-F}
use Rattle.st_il.specs.declared.expression.IlExp.TheOpen.{Below as BelowCount}
use Rattle.st_il.specs.declared.expression.IlExp.TheVariants as exp
use Rattle.st_il.specs.declared.expression.Iteration.{Iteration, roll-Iteration, map-Iteration, fold-roll-Iteration}
use Rattle.st_il.specs.declared.expression.Iteration.TheVariants as count
use Rattle.st_il.specs.declared.expression.ListItem.{ListItem, roll-ListItem, map-ListItem, fold-roll-ListItem}
use Rattle.st_il.specs.declared.expression.ListItem.TheVariants as item
use Rattle.st_il.specs.declared.expression.PathSeg.{PathSeg, roll-PathSeg, map-PathSeg, fold-roll-PathSeg}
use Rattle.st_il.specs.declared.expression.PathSeg.TheVariants as step
use Rattle.st_text.specs.Text.{TextTree, word, quote}
use Rattle.st_iltext.specs.declared.kind.Unary.{Unary}
use Rattle.st_iltext.specs.declared.kind.Unary.TheVariants as unary
use Rattle.st_iltext.specs.declared.kind.Binary.{Binary}
use Rattle.st_iltext.specs.declared.kind.Binary.TheVariants as binary
use Rattle.st_iltext.specs.declared.kind.Arithmetic.{Arithmetic}
use Rattle.st_iltext.specs.declared.kind.Arithmetic.TheVariants as arithmetic
use Rattle.st_iltext.specs.Expressions.{form, group, names, truth, number_type, ty_tree, exp_at, item_at, iteration_at, segment_at, exp_tree, item_tree, iteration_tree, segment_tree}
use Rattle.st_iltext.specs.Written.{ty_written, are_in_order, exp_written_at, iteration_written_at, item_written_at, segment_written_at, exp_written, iteration_written, item_written, segment_written}
use Rattle.st_iltext.specs.inner.KindWords.{unary_word, binary_word, arithmetic_word, unary_exp, binary_exp, arithmetic_exp}
use Rattle.st_iltext.proofs.Rows.{all_map, count_map}

pub exp-tree : (l : IlExp-F IlExp Iteration ListItem PathSeg) → exp_tree (roll-IlExp l)
    ≡ exp_at (map-IlExp IlExp Iteration ListItem PathSeg TextTree TextTree TextTree TextTree exp_tree iteration_tree item_tree segment_tree l)
exp-tree l = fold-roll-IlExp TextTree TextTree TextTree TextTree exp_at iteration_at item_at segment_at l

pub exp-written : (l : IlExp-F IlExp Iteration ListItem PathSeg) → exp_written (roll-IlExp l)
    ≡ exp_written_at (map-IlExp IlExp Iteration ListItem PathSeg Bool Bool Bool Bool exp_written iteration_written item_written segment_written l)
exp-written l = fold-roll-IlExp Bool Bool Bool Bool exp_written_at iteration_written_at item_written_at segment_written_at l

pub iteration-tree : (l : Iteration-F IlExp Iteration ListItem PathSeg) → iteration_tree (roll-Iteration l)
    ≡ iteration_at (map-Iteration IlExp Iteration ListItem PathSeg TextTree TextTree TextTree TextTree exp_tree iteration_tree item_tree segment_tree l)
iteration-tree l = fold-roll-Iteration TextTree TextTree TextTree TextTree exp_at iteration_at item_at segment_at l

pub iteration-written : (l : Iteration-F IlExp Iteration ListItem PathSeg) → iteration_written (roll-Iteration l)
    ≡ iteration_written_at (map-Iteration IlExp Iteration ListItem PathSeg Bool Bool Bool Bool exp_written iteration_written item_written segment_written l)
iteration-written l = fold-roll-Iteration Bool Bool Bool Bool exp_written_at iteration_written_at item_written_at segment_written_at l

pub item-tree : (l : ListItem-F IlExp Iteration ListItem PathSeg) → item_tree (roll-ListItem l)
    ≡ item_at (map-ListItem IlExp Iteration ListItem PathSeg TextTree TextTree TextTree TextTree exp_tree iteration_tree item_tree segment_tree l)
item-tree l = fold-roll-ListItem TextTree TextTree TextTree TextTree exp_at iteration_at item_at segment_at l

pub item-written : (l : ListItem-F IlExp Iteration ListItem PathSeg) → item_written (roll-ListItem l)
    ≡ item_written_at (map-ListItem IlExp Iteration ListItem PathSeg Bool Bool Bool Bool exp_written iteration_written item_written segment_written l)
item-written l = fold-roll-ListItem Bool Bool Bool Bool exp_written_at iteration_written_at item_written_at segment_written_at l

pub segment-tree : (l : PathSeg-F IlExp Iteration ListItem PathSeg) → segment_tree (roll-PathSeg l)
    ≡ segment_at (map-PathSeg IlExp Iteration ListItem PathSeg TextTree TextTree TextTree TextTree exp_tree iteration_tree item_tree segment_tree l)
segment-tree l = fold-roll-PathSeg TextTree TextTree TextTree TextTree exp_at iteration_at item_at segment_at l

pub segment-written : (l : PathSeg-F IlExp Iteration ListItem PathSeg) → segment_written (roll-PathSeg l)
    ≡ segment_written_at (map-PathSeg IlExp Iteration ListItem PathSeg Bool Bool Bool Bool exp_written iteration_written item_written segment_written l)
segment-written l = fold-roll-PathSeg Bool Bool Bool Bool exp_written_at iteration_written_at item_written_at segment_written_at l

pub unary-tree : (op : Unary) (x : IlExp) → exp_tree (unary_exp op x) ≡ form (unary_word op) (exp_tree x ∷ [])
unary-tree unary.Not x = ap exp_tree (sym (exp.rolls-Not x)) ∙ exp-tree (IlExp-F.Not x)
unary-tree unary.Neg x = ap exp_tree (sym (exp.rolls-Neg x)) ∙ exp-tree (IlExp-F.Neg x)
unary-tree unary.Present x = ap exp_tree (sym (exp.rolls-Present x)) ∙ exp-tree (IlExp-F.Present x)
unary-tree unary.Len x = ap exp_tree (sym (exp.rolls-Len x)) ∙ exp-tree (IlExp-F.Len x)

pub unary-written : (op : Unary) (x : IlExp) → exp_written (unary_exp op x) ≡ exp_written x
unary-written unary.Not x = ap exp_written (sym (exp.rolls-Not x)) ∙ exp-written (IlExp-F.Not x)
unary-written unary.Neg x = ap exp_written (sym (exp.rolls-Neg x)) ∙ exp-written (IlExp-F.Neg x)
unary-written unary.Present x = ap exp_written (sym (exp.rolls-Present x)) ∙ exp-written (IlExp-F.Present x)
unary-written unary.Len x = ap exp_written (sym (exp.rolls-Len x)) ∙ exp-written (IlExp-F.Len x)

pub binary-tree : (op : Binary) (x y : IlExp) → exp_tree (binary_exp op x y) ≡ form (binary_word op) (exp_tree x ∷ exp_tree y ∷ [])
binary-tree binary.And x y = ap exp_tree (sym (exp.rolls-And x y)) ∙ exp-tree (IlExp-F.And x y)
binary-tree binary.Or x y = ap exp_tree (sym (exp.rolls-Or x y)) ∙ exp-tree (IlExp-F.Or x y)
binary-tree binary.Imp x y = ap exp_tree (sym (exp.rolls-Imp x y)) ∙ exp-tree (IlExp-F.Imp x y)
binary-tree binary.Iff x y = ap exp_tree (sym (exp.rolls-Iff x y)) ∙ exp-tree (IlExp-F.Iff x y)
binary-tree binary.Eq x y = ap exp_tree (sym (exp.rolls-Eq x y)) ∙ exp-tree (IlExp-F.Eq x y)
binary-tree binary.Ne x y = ap exp_tree (sym (exp.rolls-Ne x y)) ∙ exp-tree (IlExp-F.Ne x y)
binary-tree binary.Lt x y = ap exp_tree (sym (exp.rolls-Lt x y)) ∙ exp-tree (IlExp-F.Lt x y)
binary-tree binary.Gt x y = ap exp_tree (sym (exp.rolls-Gt x y)) ∙ exp-tree (IlExp-F.Gt x y)
binary-tree binary.Le x y = ap exp_tree (sym (exp.rolls-Le x y)) ∙ exp-tree (IlExp-F.Le x y)
binary-tree binary.Ge x y = ap exp_tree (sym (exp.rolls-Ge x y)) ∙ exp-tree (IlExp-F.Ge x y)
binary-tree binary.Member x y = ap exp_tree (sym (exp.rolls-Member x y)) ∙ exp-tree (IlExp-F.Member x y)
binary-tree binary.Cat x y = ap exp_tree (sym (exp.rolls-Cat x y)) ∙ exp-tree (IlExp-F.Cat x y)
binary-tree binary.Join x y = ap exp_tree (sym (exp.rolls-Join x y)) ∙ exp-tree (IlExp-F.Join x y)
binary-tree binary.At x y = ap exp_tree (sym (exp.rolls-At x y)) ∙ exp-tree (IlExp-F.IlExp::At x y)

pub binary-written : (op : Binary) (x y : IlExp) → exp_written (binary_exp op x y) ≡ (exp_written x && exp_written y)
binary-written binary.And x y = ap exp_written (sym (exp.rolls-And x y)) ∙ exp-written (IlExp-F.And x y)
binary-written binary.Or x y = ap exp_written (sym (exp.rolls-Or x y)) ∙ exp-written (IlExp-F.Or x y)
binary-written binary.Imp x y = ap exp_written (sym (exp.rolls-Imp x y)) ∙ exp-written (IlExp-F.Imp x y)
binary-written binary.Iff x y = ap exp_written (sym (exp.rolls-Iff x y)) ∙ exp-written (IlExp-F.Iff x y)
binary-written binary.Eq x y = ap exp_written (sym (exp.rolls-Eq x y)) ∙ exp-written (IlExp-F.Eq x y)
binary-written binary.Ne x y = ap exp_written (sym (exp.rolls-Ne x y)) ∙ exp-written (IlExp-F.Ne x y)
binary-written binary.Lt x y = ap exp_written (sym (exp.rolls-Lt x y)) ∙ exp-written (IlExp-F.Lt x y)
binary-written binary.Gt x y = ap exp_written (sym (exp.rolls-Gt x y)) ∙ exp-written (IlExp-F.Gt x y)
binary-written binary.Le x y = ap exp_written (sym (exp.rolls-Le x y)) ∙ exp-written (IlExp-F.Le x y)
binary-written binary.Ge x y = ap exp_written (sym (exp.rolls-Ge x y)) ∙ exp-written (IlExp-F.Ge x y)
binary-written binary.Member x y = ap exp_written (sym (exp.rolls-Member x y)) ∙ exp-written (IlExp-F.Member x y)
binary-written binary.Cat x y = ap exp_written (sym (exp.rolls-Cat x y)) ∙ exp-written (IlExp-F.Cat x y)
binary-written binary.Join x y = ap exp_written (sym (exp.rolls-Join x y)) ∙ exp-written (IlExp-F.Join x y)
binary-written binary.At x y = ap exp_written (sym (exp.rolls-At x y)) ∙ exp-written (IlExp-F.IlExp::At x y)

pub arithmetic-tree : (op : Arithmetic) (n : NumTy) (x y : IlExp) → exp_tree (arithmetic_exp op n x y) ≡ form (arithmetic_word op) (number_type n ∷ exp_tree x ∷ exp_tree y ∷ [])
arithmetic-tree arithmetic.Add n x y = ap exp_tree (sym (exp.rolls-Add n x y)) ∙ exp-tree (IlExp-F.Add n x y)
arithmetic-tree arithmetic.Sub n x y = ap exp_tree (sym (exp.rolls-Sub n x y)) ∙ exp-tree (IlExp-F.Sub n x y)
arithmetic-tree arithmetic.Mul n x y = ap exp_tree (sym (exp.rolls-Mul n x y)) ∙ exp-tree (IlExp-F.Mul n x y)
arithmetic-tree arithmetic.Div n x y = ap exp_tree (sym (exp.rolls-Div n x y)) ∙ exp-tree (IlExp-F.Div n x y)
arithmetic-tree arithmetic.Rem n x y = ap exp_tree (sym (exp.rolls-Rem n x y)) ∙ exp-tree (IlExp-F.Rem n x y)
arithmetic-tree arithmetic.Pow n x y = ap exp_tree (sym (exp.rolls-Pow n x y)) ∙ exp-tree (IlExp-F.Pow n x y)

pub arithmetic-written : (op : Arithmetic) (n : NumTy) (x y : IlExp) → exp_written (arithmetic_exp op n x y) ≡ (exp_written x && exp_written y)
arithmetic-written arithmetic.Add n x y = ap exp_written (sym (exp.rolls-Add n x y)) ∙ exp-written (IlExp-F.Add n x y)
arithmetic-written arithmetic.Sub n x y = ap exp_written (sym (exp.rolls-Sub n x y)) ∙ exp-written (IlExp-F.Sub n x y)
arithmetic-written arithmetic.Mul n x y = ap exp_written (sym (exp.rolls-Mul n x y)) ∙ exp-written (IlExp-F.Mul n x y)
arithmetic-written arithmetic.Div n x y = ap exp_written (sym (exp.rolls-Div n x y)) ∙ exp-written (IlExp-F.Div n x y)
arithmetic-written arithmetic.Rem n x y = ap exp_written (sym (exp.rolls-Rem n x y)) ∙ exp-written (IlExp-F.Rem n x y)
arithmetic-written arithmetic.Pow n x y = ap exp_written (sym (exp.rolls-Pow n x y)) ∙ exp-written (IlExp-F.Pow n x y)

pub tree-Bool : (b : Bool) → exp_tree (exp.Bool b) ≡ truth b
tree-Bool b = ap exp_tree (sym (exp.rolls-Bool b)) ∙ exp-tree (IlExp-F.Bool b)

pub written-Bool : (b : Bool) → exp_written (exp.Bool b) ≡ true
written-Bool b = ap exp_written (sym (exp.rolls-Bool b)) ∙ exp-written (IlExp-F.Bool b)

pub tree-Number : (n : ℕ) → exp_tree (exp.Number n) ≡ word (decimal n)
tree-Number n = ap exp_tree (sym (exp.rolls-Number n)) ∙ exp-tree (IlExp-F.Number n)

pub written-Number : (n : ℕ) → exp_written (exp.Number n) ≡ nat_lt n (2 ^ 128)
written-Number n = ap exp_written (sym (exp.rolls-Number n)) ∙ exp-written (IlExp-F.Number n)

pub tree-Text : (s : List ℕ) → exp_tree (exp.Text s) ≡ quote s
tree-Text s = ap exp_tree (sym (exp.rolls-Text s)) ∙ exp-tree (IlExp-F.Text s)

pub written-Text : (s : List ℕ) → exp_written (exp.Text s) ≡ true
written-Text s = ap exp_written (sym (exp.rolls-Text s)) ∙ exp-written (IlExp-F.Text s)

pub tree-Var : (x : List ℕ) → exp_tree (exp.Var x) ≡ form (codes "v") (quote x ∷ [])
tree-Var x = ap exp_tree (sym (exp.rolls-Var x)) ∙ exp-tree (IlExp-F.Var x)

pub written-Var : (x : List ℕ) → exp_written (exp.Var x) ≡ true
written-Var x = ap exp_written (sym (exp.rolls-Var x)) ∙ exp-written (IlExp-F.Var x)

pub tree-Case : (t tag : List ℕ) (es : List IlExp) → exp_tree (exp.Case t tag es) ≡ form (codes "case") (quote t ∷ quote tag ∷ map exp_tree es)
tree-Case t tag es = ap exp_tree (sym (exp.rolls-Case t tag es)) ∙ exp-tree (IlExp-F.Case t tag es)

pub written-Case : (t tag : List ℕ) (es : List IlExp) → exp_written (exp.Case t tag es) ≡ list_all exp_written es
written-Case t tag es = ap exp_written (sym (exp.rolls-Case t tag es)) ∙ exp-written (IlExp-F.Case t tag es) ∙ all_map exp_written es

pub tree-Fields : (t : List ℕ) (es : List IlExp) → exp_tree (exp.Fields t es) ≡ form (codes "fields") (quote t ∷ map exp_tree es)
tree-Fields t es = ap exp_tree (sym (exp.rolls-Fields t es)) ∙ exp-tree (IlExp-F.Fields t es)

pub written-Fields : (t : List ℕ) (es : List IlExp) → exp_written (exp.Fields t es) ≡ list_all exp_written es
written-Fields t es = ap exp_written (sym (exp.rolls-Fields t es)) ∙ exp-written (IlExp-F.Fields t es) ∙ all_map exp_written es

pub tree-Call : (f : List ℕ) (es : List IlExp) → exp_tree (exp.Call f es) ≡ form (codes "call") (quote f ∷ map exp_tree es)
tree-Call f es = ap exp_tree (sym (exp.rolls-Call f es)) ∙ exp-tree (IlExp-F.Call f es)

pub written-Call : (f : List ℕ) (es : List IlExp) → exp_written (exp.Call f es) ≡ list_all exp_written es
written-Call f es = ap exp_written (sym (exp.rolls-Call f es)) ∙ exp-written (IlExp-F.Call f es) ∙ all_map exp_written es

pub tree-Dot : (x : IlExp) (f : List ℕ) → exp_tree (exp.Dot x f) ≡ form (codes "dot") (exp_tree x ∷ quote f ∷ [])
tree-Dot x f = ap exp_tree (sym (exp.rolls-Dot x f)) ∙ exp-tree (IlExp-F.Dot x f)

pub written-Dot : (x : IlExp) (f : List ℕ) → exp_written (exp.Dot x f) ≡ exp_written x
written-Dot x f = ap exp_written (sym (exp.rolls-Dot x f)) ∙ exp-written (IlExp-F.Dot x f)

pub tree-Set : (x : IlExp) (path : List PathSeg) (y : IlExp) → exp_tree (exp.Set x path y) ≡ form (codes "set") (exp_tree x ∷ group (map segment_tree path) ∷ exp_tree y ∷ [])
tree-Set x path y = ap exp_tree (sym (exp.rolls-Set x path y)) ∙ exp-tree (IlExp-F.Set x path y)

pub written-Set : (x : IlExp) (path : List PathSeg) (y : IlExp) → exp_written (exp.Set x path y) ≡ (exp_written x && nat_le 1 (length path) && list_all segment_written path && exp_written y)
written-Set x path y = ap exp_written (sym (exp.rolls-Set x path y)) ∙ exp-written (IlExp-F.Set x path y) ∙ ap₂ (λ (n : ℕ) b. exp_written x && nat_le 1 n && b && exp_written y) (count_map segment_written path) (all_map segment_written path)

pub tree-Extend : (x : IlExp) (path : List PathSeg) (y : IlExp) → exp_tree (exp.Extend x path y) ≡ form (codes "extend") (exp_tree x ∷ group (map segment_tree path) ∷ exp_tree y ∷ [])
tree-Extend x path y = ap exp_tree (sym (exp.rolls-Extend x path y)) ∙ exp-tree (IlExp-F.Extend x path y)

pub written-Extend : (x : IlExp) (path : List PathSeg) (y : IlExp) → exp_written (exp.Extend x path y) ≡ (exp_written x && nat_le 1 (length path) && list_all segment_written path && exp_written y)
written-Extend x path y = ap exp_written (sym (exp.rolls-Extend x path y)) ∙ exp-written (IlExp-F.Extend x path y) ∙ ap₂ (λ (n : ℕ) b. exp_written x && nat_le 1 n && b && exp_written y) (count_map segment_written path) (all_map segment_written path)

pub tree-Tuple : (es : List IlExp) → exp_tree (exp.Tuple es) ≡ form (codes "tuple") (map exp_tree es)
tree-Tuple es = ap exp_tree (sym (exp.rolls-Tuple es)) ∙ exp-tree (IlExp-F.Tuple es)

pub written-Tuple : (es : List IlExp) → exp_written (exp.Tuple es) ≡ (nat_le 2 (length es) && list_all exp_written es)
written-Tuple es = ap exp_written (sym (exp.rolls-Tuple es)) ∙ exp-written (IlExp-F.Tuple es) ∙ ap₂ (λ (n : ℕ) b. nat_le 2 n && b) (count_map exp_written es) (all_map exp_written es)

pub tree-List : (t : Ty) (items : List ListItem) → exp_tree (exp.List t items) ≡ form (codes "list") (ty_tree t ∷ map item_tree items)
tree-List t items = ap exp_tree (sym (exp.rolls-List t items)) ∙ exp-tree (IlExp-F.List t items)

pub written-List : (t : Ty) (items : List ListItem) → exp_written (exp.List t items) ≡ (ty_written t && list_all item_written items)
written-List t items = ap exp_written (sym (exp.rolls-List t items)) ∙ exp-written (IlExp-F.List t items) ∙ ap (λ b. ty_written t && b) (all_map item_written items)

pub tree-Empty : (t : Ty) → exp_tree (exp.Empty t) ≡ form (codes "none") (ty_tree t ∷ [])
tree-Empty t = ap exp_tree (sym (exp.rolls-Empty t)) ∙ exp-tree (IlExp-F.Empty t)

pub written-Empty : (t : Ty) → exp_written (exp.Empty t) ≡ ty_written t
written-Empty t = ap exp_written (sym (exp.rolls-Empty t)) ∙ exp-written (IlExp-F.Empty t)

pub tree-Absent : (t : Ty) → exp_tree (exp.Absent t) ≡ form (codes "absent") (ty_tree t ∷ [])
tree-Absent t = ap exp_tree (sym (exp.rolls-Absent t)) ∙ exp-tree (IlExp-F.Absent t)

pub written-Absent : (t : Ty) → exp_written (exp.Absent t) ≡ ty_written t
written-Absent t = ap exp_written (sym (exp.rolls-Absent t)) ∙ exp-written (IlExp-F.Absent t)

pub tree-Slice : (x y z : IlExp) → exp_tree (exp.Slice x y z) ≡ form (codes "slice") (exp_tree x ∷ exp_tree y ∷ exp_tree z ∷ [])
tree-Slice x y z = ap exp_tree (sym (exp.rolls-Slice x y z)) ∙ exp-tree (IlExp-F.IlExp::Slice x y z)

pub written-Slice : (x y z : IlExp) → exp_written (exp.Slice x y z) ≡ (exp_written x && exp_written y && exp_written z)
written-Slice x y z = ap exp_written (sym (exp.rolls-Slice x y z)) ∙ exp-written (IlExp-F.IlExp::Slice x y z)

pub tree-Up : (t : Ty) (x : IlExp) → exp_tree (exp.Up t x) ≡ form (codes "up") (ty_tree t ∷ exp_tree x ∷ [])
tree-Up t x = ap exp_tree (sym (exp.rolls-Up t x)) ∙ exp-tree (IlExp-F.Up t x)

pub written-Up : (t : Ty) (x : IlExp) → exp_written (exp.Up t x) ≡ (ty_written t && exp_written x)
written-Up t x = ap exp_written (sym (exp.rolls-Up t x)) ∙ exp-written (IlExp-F.Up t x)

pub tree-Iter : (k : Iteration) (xs : List (List ℕ)) (x : IlExp) → exp_tree (exp.Iter k xs x) ≡ form (codes "iter") (iteration_tree k ∷ names xs ∷ exp_tree x ∷ [])
tree-Iter k xs x = ap exp_tree (sym (exp.rolls-Iter k xs x)) ∙ exp-tree (IlExp-F.Iter k xs x)

pub written-Iter : (k : Iteration) (xs : List (List ℕ)) (x : IlExp) → exp_written (exp.Iter k xs x) ≡ (iteration_written k && are_in_order xs && exp_written x)
written-Iter k xs x = ap exp_written (sym (exp.rolls-Iter k xs x)) ∙ exp-written (IlExp-F.Iter k xs x)

pub tree-Star : iteration_tree count.Star ≡ word (codes "*")
tree-Star = ap iteration_tree (sym count.rolls-Star) ∙ iteration-tree Iteration-F.Star

pub written-Star : iteration_written count.Star ≡ true
written-Star = ap iteration_written (sym count.rolls-Star) ∙ iteration-written Iteration-F.Star

pub tree-Plus : iteration_tree count.Plus ≡ word (codes "+")
tree-Plus = ap iteration_tree (sym count.rolls-Plus) ∙ iteration-tree Iteration-F.Plus

pub written-Plus : iteration_written count.Plus ≡ true
written-Plus = ap iteration_written (sym count.rolls-Plus) ∙ iteration-written Iteration-F.Plus

pub tree-Quest : iteration_tree count.Quest ≡ word (codes "?")
tree-Quest = ap iteration_tree (sym count.rolls-Quest) ∙ iteration-tree Iteration-F.Quest

pub written-Quest : iteration_written count.Quest ≡ true
written-Quest = ap iteration_written (sym count.rolls-Quest) ∙ iteration-written Iteration-F.Quest

pub count-tree-Times : (x : IlExp) → iteration_tree (count.Times x) ≡ form (codes "^") (exp_tree x ∷ [])
count-tree-Times x = ap iteration_tree (sym (count.rolls-Times x)) ∙ iteration-tree (Iteration-F.Times x)

pub count-written-Times : (x : IlExp) → iteration_written (count.Times x) ≡ exp_written x
count-written-Times x = ap iteration_written (sym (count.rolls-Times x)) ∙ iteration-written (Iteration-F.Times x)

pub count-tree-Below : (i : List ℕ) (x : IlExp) → iteration_tree (count.Below i x) ≡ form (codes "^") (quote i ∷ exp_tree x ∷ [])
count-tree-Below i x = ap iteration_tree (sym (count.rolls-Below i x)) ∙ iteration-tree (BelowCount i x)

pub count-written-Below : (i : List ℕ) (x : IlExp) → iteration_written (count.Below i x) ≡ exp_written x
count-written-Below i x = ap iteration_written (sym (count.rolls-Below i x)) ∙ iteration-written (BelowCount i x)

pub item-tree-One : (x : IlExp) → item_tree (item.One x) ≡ form (codes "one") (exp_tree x ∷ [])
item-tree-One x = ap item_tree (sym (item.rolls-One x)) ∙ item-tree (ListItem-F.One x)

pub item-written-One : (x : IlExp) → item_written (item.One x) ≡ exp_written x
item-written-One x = ap item_written (sym (item.rolls-One x)) ∙ item-written (ListItem-F.One x)

pub item-tree-All : (x : IlExp) → item_tree (item.All x) ≡ form (codes "all") (exp_tree x ∷ [])
item-tree-All x = ap item_tree (sym (item.rolls-All x)) ∙ item-tree (ListItem-F.All x)

pub item-written-All : (x : IlExp) → item_written (item.All x) ≡ exp_written x
item-written-All x = ap item_written (sym (item.rolls-All x)) ∙ item-written (ListItem-F.All x)

pub step-tree-Field : (f : List ℕ) → segment_tree (step.Field f) ≡ form (codes "f") (quote f ∷ [])
step-tree-Field f = ap segment_tree (sym (step.rolls-Field f)) ∙ segment-tree (PathSeg-F.Field f)

pub step-written-Field : (f : List ℕ) → segment_written (step.Field f) ≡ true
step-written-Field f = ap segment_written (sym (step.rolls-Field f)) ∙ segment-written (PathSeg-F.Field f)

pub step-tree-At : (x : IlExp) → segment_tree (step.At x) ≡ form (codes "i") (exp_tree x ∷ [])
step-tree-At x = ap segment_tree (sym (step.rolls-At x)) ∙ segment-tree (PathSeg-F.PathSeg::At x)

pub step-written-At : (x : IlExp) → segment_written (step.At x) ≡ exp_written x
step-written-At x = ap segment_written (sym (step.rolls-At x)) ∙ segment-written (PathSeg-F.PathSeg::At x)

pub step-tree-Slice : (x y : IlExp) → segment_tree (step.Slice x y) ≡ form (codes "s") (exp_tree x ∷ exp_tree y ∷ [])
step-tree-Slice x y = ap segment_tree (sym (step.rolls-Slice x y)) ∙ segment-tree (PathSeg-F.PathSeg::Slice x y)

pub step-written-Slice : (x y : IlExp) → segment_written (step.Slice x y) ≡ (exp_written x && exp_written y)
step-written-Slice x y = ap segment_written (sym (step.rolls-Slice x y)) ∙ segment-written (PathSeg-F.PathSeg::Slice x y)
