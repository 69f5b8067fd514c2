-- The trees of types, expressions and premises: a line for each form.
use Rattle.std.specs.Prelude.{ℕ, List, [], ◌∷◌, map, Bool, true, false, codes}
use Rattle.std.specs.Fmt.{decimal}
use Rattle.st_il.specs.declared.ty.Ty.{Ty, fold-Ty}
use Rattle.st_il.specs.declared.ty.Ty.TheOpen.{Ty-F}
use Rattle.st_il.specs.declared.ty.NumTy.{NumTy}
use Rattle.st_il.specs.declared.ty.NumTy.TheVariants.{Nat, Int}
use Rattle.st_il.specs.declared.expression.IlExp.{IlExp, fold-IlExp}
use Rattle.st_il.specs.declared.expression.IlExp.TheOpen.{IlExp-F, Iteration-F, ListItem-F, PathSeg-F}
use Rattle.st_il.specs.declared.expression.Iteration.{Iteration, fold-Iteration}
use Rattle.st_il.specs.declared.expression.ListItem.{ListItem, fold-ListItem}
use Rattle.st_il.specs.declared.expression.PathSeg.{PathSeg, fold-PathSeg}
use Rattle.st_il.specs.declared.expression.IlPrem.{IlPrem, fold-IlPrem}
use Rattle.st_il.specs.declared.expression.IlPrem.TheOpen.{IlPrem-F}
use Rattle.st_text.specs.Text.{TextTree, word, quote, list, more}
use Rattle.st_text.specs.Trees.{row_of}

-- a list of these trees
abbrev pub group : List TextTree → TextTree
group trees = list (row_of trees)

-- a list that this word begins, with these trees behind it
abbrev pub form : List ℕ → List TextTree → TextTree
form head trees = list (more (word head) (row_of trees))

-- the list of these names, quoted
abbrev pub names : List (List ℕ) → TextTree
names xs = group (map quote xs)

-- the tree of a type whose parts have these trees
abbrev pub ty_at : Ty-F TextTree → TextTree
ty_at Ty-F.Bool = word (codes "bool")
ty_at Ty-F.Nat = word (codes "nat")
ty_at Ty-F.Int = word (codes "int")
ty_at Ty-F.Text = word (codes "text")
ty_at (Ty-F.Name x) = form (codes "n") (quote x ∷ [])
ty_at (Ty-F.List t) = form (codes "l") (t ∷ [])
ty_at (Ty-F.Opt t) = form (codes "o") (t ∷ [])
ty_at (Ty-F.Tuple ts) = form (codes "t") ts

-- the tree of a type
abbrev pub ty_tree : Ty → TextTree
ty_tree = fold-Ty TextTree ty_at

-- the word of a number type
abbrev pub number_type : NumTy → TextTree
number_type Nat = word (codes "nat")
number_type Int = word (codes "int")

-- the word of a truth value
abbrev pub truth : Bool → TextTree
truth true = word (codes "true")
truth false = word (codes "false")

-- the tree of how often an iteration goes, where its parts have these trees
abbrev pub iteration_at : Iteration-F TextTree TextTree TextTree TextTree → TextTree
iteration_at Iteration-F.Star = word (codes "*")
iteration_at Iteration-F.Plus = word (codes "+")
iteration_at Iteration-F.Quest = word (codes "?")
iteration_at (Iteration-F.Times e) = form (codes "^") (e ∷ [])
iteration_at (Iteration-F.Below i e) = form (codes "^") (quote i ∷ e ∷ [])

-- the tree of an item of a list: one element, or all elements of an expression
abbrev pub item_at : ListItem-F TextTree TextTree TextTree TextTree → TextTree
item_at (ListItem-F.One e) = form (codes "one") (e ∷ [])
item_at (ListItem-F.All e) = form (codes "all") (e ∷ [])

-- the tree of a step of a path: a field, an index or a slice
abbrev pub segment_at : PathSeg-F TextTree TextTree TextTree TextTree → TextTree
segment_at (PathSeg-F.Field f) = form (codes "f") (quote f ∷ [])
segment_at (PathSeg-F.PathSeg::At e) = form (codes "i") (e ∷ [])
segment_at (PathSeg-F.PathSeg::Slice e f) = form (codes "s") (e ∷ f ∷ [])

-- the tree of an expression whose parts have these trees
abbrev pub exp_at : IlExp-F TextTree TextTree TextTree TextTree → TextTree
exp_at (IlExp-F.Bool b) = truth b
exp_at (IlExp-F.Number n) = word (decimal n)
exp_at (IlExp-F.Text s) = quote s
exp_at (IlExp-F.Var x) = form (codes "v") (quote x ∷ [])
exp_at (IlExp-F.Not e) = form (codes "not") (e ∷ [])
exp_at (IlExp-F.And e f) = form (codes "and") (e ∷ f ∷ [])
exp_at (IlExp-F.Or e f) = form (codes "or") (e ∷ f ∷ [])
exp_at (IlExp-F.Imp e f) = form (codes "imp") (e ∷ f ∷ [])
exp_at (IlExp-F.Iff e f) = form (codes "iff") (e ∷ f ∷ [])
exp_at (IlExp-F.Neg e) = form (codes "neg") (e ∷ [])
exp_at (IlExp-F.Add n e f) = form (codes "add") (number_type n ∷ e ∷ f ∷ [])
exp_at (IlExp-F.Sub n e f) = form (codes "sub") (number_type n ∷ e ∷ f ∷ [])
exp_at (IlExp-F.Mul n e f) = form (codes "mul") (number_type n ∷ e ∷ f ∷ [])
exp_at (IlExp-F.Div n e f) = form (codes "div") (number_type n ∷ e ∷ f ∷ [])
exp_at (IlExp-F.Rem n e f) = form (codes "rem") (number_type n ∷ e ∷ f ∷ [])
exp_at (IlExp-F.Pow n e f) = form (codes "pow") (number_type n ∷ e ∷ f ∷ [])
exp_at (IlExp-F.Eq e f) = form (codes "eq") (e ∷ f ∷ [])
exp_at (IlExp-F.Ne e f) = form (codes "ne") (e ∷ f ∷ [])
exp_at (IlExp-F.Lt e f) = form (codes "lt") (e ∷ f ∷ [])
exp_at (IlExp-F.Gt e f) = form (codes "gt") (e ∷ f ∷ [])
exp_at (IlExp-F.Le e f) = form (codes "le") (e ∷ f ∷ [])
exp_at (IlExp-F.Ge e f) = form (codes "ge") (e ∷ f ∷ [])
exp_at (IlExp-F.Member e f) = form (codes "member") (e ∷ f ∷ [])
exp_at (IlExp-F.Case t tag es) = form (codes "case") (quote t ∷ quote tag ∷ es)
exp_at (IlExp-F.Fields t es) = form (codes "fields") (quote t ∷ es)
exp_at (IlExp-F.Dot e f) = form (codes "dot") (e ∷ quote f ∷ [])
exp_at (IlExp-F.Set e path f) = form (codes "set") (e ∷ group path ∷ f ∷ [])
exp_at (IlExp-F.Extend e path f) = form (codes "extend") (e ∷ group path ∷ f ∷ [])
exp_at (IlExp-F.Tuple es) = form (codes "tuple") es
exp_at (IlExp-F.List t items) = form (codes "list") (ty_tree t ∷ items)
exp_at (IlExp-F.Cat e f) = form (codes "cat") (e ∷ f ∷ [])
exp_at (IlExp-F.Join e f) = form (codes "join") (e ∷ f ∷ [])
exp_at (IlExp-F.Empty t) = form (codes "none") (ty_tree t ∷ [])
exp_at (IlExp-F.Present e) = form (codes "some") (e ∷ [])
exp_at (IlExp-F.Absent t) = form (codes "absent") (ty_tree t ∷ [])
exp_at (IlExp-F.Len e) = form (codes "len") (e ∷ [])
exp_at (IlExp-F.IlExp::At e f) = form (codes "at") (e ∷ f ∷ [])
exp_at (IlExp-F.IlExp::Slice e f g) = form (codes "slice") (e ∷ f ∷ g ∷ [])
exp_at (IlExp-F.Call f es) = form (codes "call") (quote f ∷ es)
exp_at (IlExp-F.Up t e) = form (codes "up") (ty_tree t ∷ e ∷ [])
exp_at (IlExp-F.Iter k xs e) = form (codes "iter") (k ∷ names xs ∷ e ∷ [])

-- the tree of an expression
abbrev pub exp_tree : IlExp → TextTree
exp_tree = fold-IlExp TextTree TextTree TextTree TextTree exp_at iteration_at item_at segment_at

-- the tree of how often an iteration goes
abbrev pub iteration_tree : Iteration → TextTree
iteration_tree =
    fold-Iteration TextTree TextTree TextTree TextTree exp_at iteration_at item_at segment_at

-- the tree of an item of a list
abbrev pub item_tree : ListItem → TextTree
item_tree = fold-ListItem TextTree TextTree TextTree TextTree exp_at iteration_at item_at segment_at

-- the tree of a step of a path
abbrev pub segment_tree : PathSeg → TextTree
segment_tree =
    fold-PathSeg TextTree TextTree TextTree TextTree exp_at iteration_at item_at segment_at

-- the tree of a premise, by that of the premise that it iterates, if any
abbrev pub prem_at : IlPrem-F TextTree → TextTree
prem_at (IlPrem-F.If e) = form (codes "if") (exp_tree e ∷ [])
prem_at (IlPrem-F.Goal r es) = form (codes "goal") (quote r ∷ map exp_tree es)
prem_at IlPrem-F.Otherwise = form (codes "otherwise") []
prem_at (IlPrem-F.Each k xs p) = form (codes "each") (iteration_tree k ∷ names xs ∷ p ∷ [])

-- the tree of a premise
abbrev pub prem_tree : IlPrem → TextTree
prem_tree = fold-IlPrem TextTree prem_at
