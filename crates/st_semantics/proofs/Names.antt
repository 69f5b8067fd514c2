-- Lists of names, and which names an expression and a premise have.
use Rattle.std.proofs.Common.{◌≡◌, refl, sym, ◌∙◌, ap, ap₂, subst, List, [], ◌∷◌, ◌++◌, map, ◌⊎◌, inl, inr, Bool, true, false, not, ◌&&◌, ◌||◌, Option, Some, None, bytes_eq, append_assoc, if◌then◌else◌}
use Rattle.std.proofs.lemmas.List.Folds.{list_any-append}
use Rattle.std.proofs.lemmas.Slice.Eq.{bytes_eq-Decides}
use Rattle.st_il.specs.declared.definition.SyntaxDef.{SyntaxDef}
use Rattle.st_il.specs.declared.expression.IlExp.{IlExp, out-IlExp, fold_out-IlExp, map-IlExp}
use Rattle.st_il.specs.declared.expression.IlExp.TheOpen.{IlExp-F, Iteration-F, ListItem-F, PathSeg-F}
use Rattle.st_il.specs.declared.expression.IlPrem.{IlPrem, out-IlPrem, fold_out-IlPrem, map-IlPrem}
use Rattle.st_il.specs.declared.expression.IlPrem.TheOpen.{IlPrem-F}
use Rattle.st_il.specs.declared.expression.Iteration.{Iteration, out-Iteration, fold-Iteration, fold_out-Iteration, map-Iteration}
use Rattle.st_il.specs.declared.expression.ListItem.{ListItem, out-ListItem, fold-ListItem, fold_out-ListItem, map-ListItem}
use Rattle.st_il.specs.declared.expression.PathSeg.{PathSeg, out-PathSeg, fold-PathSeg, fold_out-PathSeg, map-PathSeg}
use Rattle.st_il.specs.declared.value.Env.{Env}
use Rattle.st_il.specs.Names.{Name, flattened, has_name, all_known, without}
use Rattle.st_semantics.specs.Environments.{AgreeOn, value_in}
use Rattle.st_semantics.specs.Operands.{item_at, segment_at, item_exp, segment_exps}
use Rattle.st_semantics.specs.Forms.{Form, Strict, Variable, Calls, Iterates, form_at, HasForm, by_itself, structure, absent_list, absent_option}
use Rattle.st_semantics.specs.Iterations.{count_of, index_of, count_at, index_at}
use Rattle.st_semantics.specs.Variables.{Counted, counted_at, vars, vars_at, vars_of, prem_vars, prem_vars_at}

pub bytes-same : (x : Name) → bytes_eq x x ≡ true
bytes-same x = (bytes_eq-Decides x x).1 refl

pub bytes-path : (x y : Name) → bytes_eq x y ≡ true → x ≡ y
bytes-path x y h = (bytes_eq-Decides x y).0 h

pub or-left : (a b : Bool) → a ≡ true → (a || b) ≡ true
or-left true b h = refl
or-left false b h = cc

pub or-right : (a b : Bool) → b ≡ true → (a || b) ≡ true
or-right true b h = refl
or-right false b h = h

pub or-cases : (a b : Bool) → (a || b) ≡ true → (a ≡ true) ⊎ (b ≡ true)
or-cases true b h = inl refl
or-cases false b h = inr h

pub and-both : (a b : Bool) → (a && b) ≡ true → (a ≡ true) × (b ≡ true)
and-both true b e = (refl, e)
and-both false b e = cc

pub true_false : true ≡ false → ⊥
true_false e = cc

-- all names of the first list are in the second
abbrev pub Within : List Name → List Name → Type 0
Within xs ys = (x : Name) → has_name xs x ≡ true → has_name ys x ≡ true

pub within-left : (xs ys : List Name) → Within xs (xs ++ ys)
within-left xs ys x h = list_any-append (bytes_eq x) xs ys ∙ or-left (has_name xs x) (has_name ys x) h

pub within-right : (xs ys : List Name) → Within ys (xs ++ ys)
within-right xs ys x h = list_any-append (bytes_eq x) xs ys ∙ or-right (has_name xs x) (has_name ys x) h

pub within-cases : (xs ys : List Name) (x : Name) → has_name (xs ++ ys) x ≡ true → (has_name xs x ≡ true) ⊎ (has_name ys x ≡ true)
within-cases xs ys x h = or-cases (has_name xs x) (has_name ys x) (sym (list_any-append (bytes_eq x) xs ys) ∙ h)

pub within-both : (xs ys zs : List Name) → Within xs zs → Within ys zs → Within (xs ++ ys) zs
within-both xs ys zs p q x h = elim (within-cases xs ys x h) [ inl a ↦ p x a | inr a ↦ q x a ]

pub no_names : (top : List Name) → Within [] top
no_names top y j = cc

pub agree-left : (xs ys : List Name) (a b : Env) → AgreeOn (xs ++ ys) a b → AgreeOn xs a b
agree-left xs ys a b g x h = g x (within-left xs ys x h)

pub agree-right : (xs ys : List Name) (a b : Env) → AgreeOn (xs ++ ys) a b → AgreeOn ys a b
agree-right xs ys a b g x h = g x (within-right xs ys x h)

-- the first name, and those behind it
pub agree-head : (x : Name) (xs : List Name) (a b : Env) → AgreeOn (x ∷ xs) a b → value_in a x ≡ value_in b x
agree-head x xs a b g = g x (or-left (bytes_eq x x) (has_name xs x) (bytes-same x))

pub agree-tail : (x : Name) (xs : List Name) (a b : Env) → AgreeOn (x ∷ xs) a b → AgreeOn xs a b
agree-tail x xs a b g y h = g y (or-right (bytes_eq y x) (has_name xs y) h)

-- names that are all bound
pub known-within : (bound xs : List Name) → all_known bound xs ≡ true → Within xs bound
known-within bound [] k x h = cc
known-within bound (y ∷ ys) k x h = elim (or-cases (bytes_eq x y) (has_name ys x) h) [
  | inl e ↦ subst (λ z. has_name bound z ≡ true) (sym (bytes-path x y e)) (and-both (has_name bound y) (all_known bound ys) k).0
  | inr e ↦ known-within bound ys (and-both (has_name bound y) (all_known bound ys) k).1 x e
]

-- a name that is none of some others stays where those are left out
without_step : (x y : Name) (rest : List Name) (c old : Bool) → (bytes_eq x y || old) ≡ true → (bytes_eq x y ≡ true → c ≡ true) → (old ≡ true → has_name rest x ≡ true)
    → has_name (if c then y ∷ rest else rest) x ≡ true
without_step x y rest true old h first later = elim (or-cases (bytes_eq x y) old h) [ inl a ↦ or-left (bytes_eq x y) (has_name rest x) a | inr a ↦ or-right (bytes_eq x y) (has_name rest x) (later a) ]
without_step x y rest false old h first later = elim (or-cases (bytes_eq x y) old h) [ inl a ↦ absurd (true_false (sym (first a))) | inr a ↦ later a ]

pub without-other : (some xs : List Name) (x : Name) → has_name some x ≡ false → has_name xs x ≡ true → has_name (without some xs) x ≡ true
without-other some [] x n h = h
without-other some (y ∷ ys) x n h =
    without_step x y (without some ys) (not (has_name some y)) (has_name ys x) h
    (λ e. ap (λ z. not (has_name some z)) (sym (bytes-path x y e)) ∙ ap not n) (without-other some ys x n)

-- ---- the names of an expression, by its form

abbrev pub form_vars : Form → List Name
form_vars (Strict es f) = vars_of es
form_vars (Variable x) = x ∷ []
form_vars (Calls fun es) = vars_of es
form_vars (Iterates how xs body) = vars_of (count_of how) ++ xs ++ without (index_of how) (vars body)

abbrev item_vars : ListItem → List Name
item_vars = fold-ListItem (List Name) Counted (List Name) (List (List Name)) vars_at counted_at item_at segment_at

abbrev segment_vars : PathSeg → List (List Name)
segment_vars = fold-PathSeg (List Name) Counted (List Name) (List (List Name)) vars_at counted_at item_at segment_at

abbrev counted : Iteration → Counted
counted = fold-Iteration (List Name) Counted (List Name) (List (List Name)) vars_at counted_at item_at segment_at

item-vars : (i : ListItem) → item_vars i ≡ vars (item_exp i)
item-vars i = fold_out-ListItem (List Name) Counted (List Name) (List (List Name)) vars_at counted_at item_at segment_at i ∙ at (out-ListItem i)
  where
    at : (y : ListItem-F IlExp Iteration ListItem PathSeg)
        → item_at (map-ListItem IlExp Iteration ListItem PathSeg (List Name) Counted (List Name) (List (List Name)) vars counted item_vars segment_vars y) ≡ vars (item_at y)
    at (ListItem-F.One e) = refl
    at (ListItem-F.All e) = refl

items-vars : (is : List ListItem) → map item_vars is ≡ map vars (map item_exp is)
items-vars [] = refl
items-vars (i ∷ is) = ap₂ (λ a b. a ∷ b) (item-vars i) (items-vars is)

segment-vars : (s : PathSeg) → segment_vars s ≡ map vars (segment_exps s)
segment-vars s = fold_out-PathSeg (List Name) Counted (List Name) (List (List Name)) vars_at counted_at item_at segment_at s ∙ at (out-PathSeg s)
  where
    at : (y : PathSeg-F IlExp Iteration ListItem PathSeg)
        → segment_at (map-PathSeg IlExp Iteration ListItem PathSeg (List Name) Counted (List Name) (List (List Name)) vars counted item_vars segment_vars y) ≡ map vars (segment_at y)
    at (PathSeg-F.Field name) = refl
    at (PathSeg-F.PathSeg::At e) = refl
    at (PathSeg-F.PathSeg::Slice e g) = refl

map-append : {A B : Type 0} (f : A → B) (xs ys : List A) → map f (xs ++ ys) ≡ map f xs ++ map f ys
map-append f [] ys = refl
map-append f (x ∷ xs) ys = ap (λ z. f x ∷ z) (map-append f xs ys)

path-vars : (path : List PathSeg) (last : IlExp) → flattened (map (λ s. s) (map segment_vars path)) ++ vars last ∷ [] ≡ map vars (flattened (map segment_exps path) ++ last ∷ [])
path-vars path last = ap (λ z. z ++ vars last ∷ []) (at path) ∙ sym (map-append vars (flattened (map segment_exps path)) (last ∷ []))
  where
    at : (path : List PathSeg) → flattened (map (λ s. s) (map segment_vars path)) ≡ map vars (flattened (map segment_exps path))
    at [] = refl
    at (s ∷ ss) = ap₂ (λ a b. a ++ b) (segment-vars s) (at ss) ∙ sym (map-append vars (segment_exps s) (flattened (map segment_exps ss)))

pub map-same : {A : Type 0} (xs : List A) → map (λ (x : A). x) xs ≡ xs
map-same [] = refl
map-same (x ∷ xs) = ap (λ z. x ∷ z) (map-same xs)

iterated-vars : (how : Iteration) (xs body : List Name) → (counted how).count ++ xs ++ without (counted how).index body ≡ vars_of (count_of how) ++ xs ++ without (index_of how) body
iterated-vars how xs body = ap (λ (z : Counted). z.count ++ xs ++ without z.index body) (fold_out-Iteration (List Name) Counted (List Name) (List (List Name)) vars_at counted_at item_at segment_at how) ∙ at (out-Iteration how)
  where
    at : (y : Iteration-F IlExp Iteration ListItem PathSeg) → (let z : Counted = counted_at (map-Iteration IlExp Iteration ListItem PathSeg (List Name) Counted (List Name) (List (List Name)) vars counted item_vars segment_vars y) in z.count ++ xs ++ without z.index body) ≡ flattened (map vars (count_at y)) ++ xs ++ without (index_at y) body
    at Iteration-F.Star = refl
    at Iteration-F.Plus = refl
    at Iteration-F.Quest = refl
    at (Iteration-F.Times e) = refl
    at (Iteration-F.Below index e) = refl

vars-out : (e : IlExp) → vars e ≡ vars_at (map-IlExp IlExp Iteration ListItem PathSeg (List Name) Counted (List Name) (List (List Name)) vars counted item_vars segment_vars (out-IlExp e))
vars-out e = fold_out-IlExp (List Name) Counted (List Name) (List (List Name)) vars_at counted_at item_at segment_at e

vars-level : (e : IlExp) (y : IlExp-F IlExp Iteration ListItem PathSeg) → out-IlExp e ≡ y → vars e ≡ vars_at (map-IlExp IlExp Iteration ListItem PathSeg (List Name) Counted (List Name) (List (List Name)) vars counted item_vars segment_vars y)
vars-level e y h = vars-out e ∙ ap (λ z. vars_at (map-IlExp IlExp Iteration ListItem PathSeg (List Name) Counted (List Name) (List (List Name)) vars counted item_vars segment_vars z)) h

abbrev IsTold : IlExp-F IlExp Iteration ListItem PathSeg → Option Form → Type 0
IsTold y None = Unit {0}
IsTold y (Some f) = vars_at (map-IlExp IlExp Iteration ListItem PathSeg (List Name) Counted (List Name) (List (List Name)) vars counted item_vars segment_vars y) ≡ form_vars f

told-vars : (y : IlExp-F IlExp Iteration ListItem PathSeg) → IsTold y (form_at y)
told-vars (IlExp-F.Bool truth) = refl
told-vars (IlExp-F.Number n) = refl
told-vars (IlExp-F.Text text) = refl
told-vars (IlExp-F.Var x) = refl
told-vars (IlExp-F.Not e) = refl
told-vars (IlExp-F.And e g) = refl
told-vars (IlExp-F.Or e g) = refl
told-vars (IlExp-F.Imp e g) = refl
told-vars (IlExp-F.Iff e g) = refl
told-vars (IlExp-F.Neg e) = refl
told-vars (IlExp-F.Add type e g) = refl
told-vars (IlExp-F.Sub type e g) = refl
told-vars (IlExp-F.Mul type e g) = refl
told-vars (IlExp-F.Div type e g) = refl
told-vars (IlExp-F.Rem type e g) = refl
told-vars (IlExp-F.Pow type e g) = refl
told-vars (IlExp-F.Eq e g) = refl
told-vars (IlExp-F.Ne e g) = refl
told-vars (IlExp-F.Lt e g) = refl
told-vars (IlExp-F.Gt e g) = refl
told-vars (IlExp-F.Le e g) = refl
told-vars (IlExp-F.Ge e g) = refl
told-vars (IlExp-F.Member e g) = refl
told-vars (IlExp-F.Case type tag es) = refl
told-vars (IlExp-F.Fields type es) = tt
told-vars (IlExp-F.Dot e name) = refl
told-vars (IlExp-F.Set e path g) = ap (λ z. vars e ++ flattened z) (path-vars path g)
told-vars (IlExp-F.Extend e path g) = ap (λ z. vars e ++ flattened z) (path-vars path g)
told-vars (IlExp-F.Tuple es) = refl
told-vars (IlExp-F.List type items) = ap flattened (map-same (map item_vars items) ∙ items-vars items)
told-vars (IlExp-F.Cat e g) = refl
told-vars (IlExp-F.Join e g) = refl
told-vars (IlExp-F.Empty type) = refl
told-vars (IlExp-F.Present e) = refl
told-vars (IlExp-F.Absent type) = tt
told-vars (IlExp-F.Len e) = refl
told-vars (IlExp-F.IlExp::At e g) = refl
told-vars (IlExp-F.IlExp::Slice e g h) = refl
told-vars (IlExp-F.Call fun es) = refl
told-vars (IlExp-F.Up type e) = refl
told-vars (IlExp-F.Iter how names body) = iterated-vars how names (vars body)

-- an expression has the names of its form
pub vars-form : (defs : List SyntaxDef) (e : IlExp) (f : Form) → HasForm defs e f → vars e ≡ form_vars f
vars-form defs e f (by_itself is) = vars-out e ∙ subst (IsTold (out-IlExp e)) is (told-vars (out-IlExp e))
vars-form defs e f (structure type es declared is has long k) = vars-level e (IlExp-F.Fields type es) is ∙ ap form_vars (sym k)
vars-form defs e f (absent_list type element is means k) = vars-level e (IlExp-F.Absent type) is ∙ ap form_vars (sym k)
vars-form defs e f (absent_option type element is means k) = vars-level e (IlExp-F.Absent type) is ∙ ap form_vars (sym k)

-- ---- the names of a premise, by its level

pub prem-level : (p : IlPrem) (y : IlPrem-F IlPrem) → out-IlPrem p ≡ y → prem_vars p ≡ prem_vars_at (map-IlPrem IlPrem (List Name) prem_vars y)
prem-level p y h = fold_out-IlPrem (List Name) prem_vars_at p ∙ ap (λ z. prem_vars_at (map-IlPrem IlPrem (List Name) prem_vars z)) h

pub vars_of-append : (es gs : List IlExp) → vars_of (es ++ gs) ≡ vars_of es ++ vars_of gs
vars_of-append [] gs = refl
vars_of-append (e ∷ es) gs = ap (λ z. vars e ++ z) (vars_of-append es gs) ∙ sym (append_assoc (vars e) (vars_of es) (vars_of gs))
