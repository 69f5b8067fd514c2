-- The patterns of the tests are some, have a form, and bind all their variables.
use Rattle.std.proofs.Common.{◌≡◌, refl, sym, ◌∙◌, ap, ap₂, subst, List, [], ◌∷◌, ◌++◌, map, filter, inl, inr, Bool, true, false, ◌&&◌, ◌||◌, if◌then◌else◌, bytes_eq, append-nil}
use Rattle.st_il.specs.declared.definition.SyntaxDef.{SyntaxDef}
use Rattle.st_il.specs.declared.expression.IlExp.{IlExp, out-IlExp, fold_out-IlExp, map-IlExp}
use Rattle.st_il.specs.declared.expression.IlExp.TheOpen.{IlExp-F}
use Rattle.st_il.specs.declared.expression.IlExp.TheVariants as exp
use Rattle.st_il.specs.declared.expression.Iteration.{Iteration, fold-Iteration, fold_out-Iteration, map-Iteration}
use Rattle.st_il.specs.declared.expression.Iteration.TheVariants as iteration
use Rattle.st_il.specs.declared.expression.ListItem.{ListItem, fold-ListItem, fold_out-ListItem, map-ListItem}
use Rattle.st_il.specs.declared.expression.ListItem.TheVariants as item
use Rattle.st_il.specs.declared.expression.PathSeg.{PathSeg, fold-PathSeg}
use Rattle.st_il.specs.declared.ty.Ty.TheVariants as ty
use Rattle.st_il.specs.Names.{Name, has_name, all_known, flattened, among, without}
use Rattle.st_semantics.specs.Operands.{item_at, item_exp, segment_at}
use Rattle.st_semantics.specs.Forms.{Strict, Variable, Iterates, form_at, listing, by_itself}
use Rattle.st_semantics.specs.Iterations.{count_of, count_at, index_of, index_at}
use Rattle.st_semantics.specs.Formed.{IsFormed, AreFormed}
use Rattle.st_semantics.specs.Formed as formed
use Rattle.st_semantics.specs.Variables.{vars, vars_of}
use Rattle.st_semantics.specs.Patterns.{Told, told, told_at, told_item, simple_count_at, has_simple_count, all_patterns, is_pattern, Bound, BoundCount, bound_at, bound_count_at, binds, bound_by}
use Rattle.st_semantics.proofs.Names.{Within, bytes-same, vars-form, or-left, or-right, within-cases, within-left, within-right, known-within}
use Rattle.st_semantics.proofs.PatternParts.{told_segment, told-level}
use Rattle.st_semantics.proofs.PatternForms.{bound as what_is_bound}
use Rattle.st_match_tests.specs.Open.{part_of, list_of, IsOpen, AreOpen}

-- all elements of a variable
abbrev all_of : Name → IlExp
all_of x = exp.Iter iteration.Star (x ∷ []) (exp.Var x)

no_count : count_of iteration.Star ≡ []
no_count = ap count_at iteration.outs-Star

no_index : index_of iteration.Star ≡ []
no_index = ap index_at iteration.outs-Star

item_is : (x : Name) → item_exp (part_of x) ≡ all_of x
item_is x = ap item_at (item.outs-All (all_of x))

-- ---- forms

module _ (defs : List SyntaxDef) where
  variable_formed : (x : Name) → IsFormed defs (exp.Var x)
  variable_formed x = formed.variable x (by_itself (ap form_at (exp.outs-Var x)))

  iteration_formed : (x : Name) → IsFormed defs (all_of x)
  iteration_formed x =
      formed.iteration iteration.Star (x ∷ []) (exp.Var x) (by_itself (ap form_at (exp.outs-Iter iteration.Star (x ∷ []) (exp.Var x))))
      (subst (AreFormed defs) (sym no_count) formed.none) (variable_formed x)

  parts_formed : (xs : List Name) → AreFormed defs (map item_exp (map part_of xs))
  parts_formed [] = formed.none
  parts_formed (x ∷ xs) = formed.more (subst (IsFormed defs) (sym (item_is x)) (iteration_formed x)) (parts_formed xs)

  list_formed : (xs : List Name) → IsFormed defs (list_of xs)
  list_formed xs = formed.strict (map item_exp (map part_of xs)) (listing (map part_of xs)) (by_itself (ap form_at (exp.outs-List ty.Nat (map part_of xs)))) (parts_formed xs)

-- ---- patterns

star_simple : has_simple_count iteration.Star ≡ true
star_simple = fold_out-Iteration Told Bool Told (List Told) told_at simple_count_at item_at segment_at iteration.Star
    ∙ ap (λ z. simple_count_at (map-Iteration IlExp Iteration ListItem PathSeg Told Bool Told (List Told) told has_simple_count told_item told_segment z)) iteration.outs-Star

variable_pattern : (x : Name) → is_pattern (exp.Var x) ≡ true
variable_pattern x = ap (λ (t : Told). t.pattern) (told-level (exp.Var x) (IlExp-F.Var x) (exp.outs-Var x))

iteration_pattern : (x : Name) → is_pattern (all_of x) ≡ true
iteration_pattern x =
    ap (λ (t : Told). t.pattern) (told-level (all_of x) (IlExp-F.Iter iteration.Star (x ∷ []) (exp.Var x)) (exp.outs-Iter iteration.Star (x ∷ []) (exp.Var x)))
    ∙ ap₂ (λ a b. a && b) star_simple (variable_pattern x)

item_told : (x : Name) → told_item (part_of x) ≡ told (all_of x)
item_told x = fold_out-ListItem Told Bool Told (List Told) told_at simple_count_at item_at segment_at (part_of x)
    ∙ ap (λ z. item_at (map-ListItem IlExp Iteration ListItem PathSeg Told Bool Told (List Told) told has_simple_count told_item told_segment z)) (item.outs-All (all_of x))

parts_patterns : (xs : List Name) → all_patterns (map told_item (map part_of xs)) ≡ true
parts_patterns [] = refl
parts_patterns (x ∷ xs) = ap₂ (λ a b. a && b) (ap (λ (t : Told). t.pattern) (item_told x) ∙ iteration_pattern x) (parts_patterns xs)

list_pattern : (xs : List Name) → is_pattern (list_of xs) ≡ true
list_pattern xs =
    ap (λ (t : Told). t.pattern) (told-level (list_of xs) (IlExp-F.List ty.Nat (map part_of xs)) (exp.outs-List ty.Nat (map part_of xs))) ∙ parts_patterns xs

-- ---- variables

-- each name twice
abbrev twice : List Name → List Name
twice [] = []
twice (x ∷ xs) = x ∷ x ∷ twice xs

variable_vars : (x : Name) → vars (exp.Var x) ≡ x ∷ []
variable_vars x = vars-form [] (exp.Var x) (Variable x) (by_itself (ap form_at (exp.outs-Var x)))

iteration_vars : (x : Name) → vars (all_of x) ≡ x ∷ x ∷ []
iteration_vars x =
    vars-form [] (all_of x) (Iterates iteration.Star (x ∷ []) (exp.Var x)) (by_itself (ap form_at (exp.outs-Iter iteration.Star (x ∷ []) (exp.Var x))))
    ∙ (ap₂ (λ a b. vars_of a ++ (x ∷ []) ++ without b (vars (exp.Var x))) no_count no_index ∙ ap (λ z. (x ∷ []) ++ without [] z) (variable_vars x))

parts_vars : (xs : List Name) → vars_of (map item_exp (map part_of xs)) ≡ twice xs
parts_vars [] = refl
parts_vars (x ∷ xs) = ap₂ (λ a b. a ++ b) (ap vars (item_is x) ∙ iteration_vars x) (parts_vars xs)

list_vars : (xs : List Name) → vars (list_of xs) ≡ twice xs
list_vars xs = vars-form [] (list_of xs) (Strict (map item_exp (map part_of xs)) (listing (map part_of xs))) (by_itself (ap form_at (exp.outs-List ty.Nat (map part_of xs)))) ∙ parts_vars xs

-- ---- what is bound

abbrev item_bound : ListItem → Bound
item_bound = fold-ListItem Bound BoundCount Bound (List Bound) bound_at bound_count_at item_at segment_at

abbrev segment_bound : PathSeg → List Bound
segment_bound = fold-PathSeg Bound BoundCount Bound (List Bound) bound_at bound_count_at item_at segment_at

abbrev count_bound : Iteration → BoundCount
count_bound = fold-Iteration Bound BoundCount Bound (List Bound) bound_at bound_count_at item_at segment_at

bound-level : (e : IlExp) (y : IlExp-F IlExp Iteration ListItem PathSeg) → out-IlExp e ≡ y
    → what_is_bound e ≡ bound_at (map-IlExp IlExp Iteration ListItem PathSeg Bound BoundCount Bound (List Bound) what_is_bound count_bound item_bound segment_bound y)
bound-level e y h = fold_out-IlExp Bound BoundCount Bound (List Bound) bound_at bound_count_at item_at segment_at e
    ∙ ap (λ z. bound_at (map-IlExp IlExp Iteration ListItem PathSeg Bound BoundCount Bound (List Bound) what_is_bound count_bound item_bound segment_bound z)) h

star_bound : count_bound iteration.Star ≡ record { own = []; index = [] }
star_bound = fold_out-Iteration Bound BoundCount Bound (List Bound) bound_at bound_count_at item_at segment_at iteration.Star
    ∙ ap (λ z. bound_count_at (map-Iteration IlExp Iteration ListItem PathSeg Bound BoundCount Bound (List Bound) what_is_bound count_bound item_bound segment_bound z)) iteration.outs-Star

variable_bound : (x : Name) → binds (exp.Var x) ≡ x ∷ []
variable_bound x = ap (λ (b : Bound). b.names) (bound-level (exp.Var x) (IlExp-F.Var x) (exp.outs-Var x))

kept : (x : Name) → among (x ∷ []) (x ∷ []) ≡ x ∷ []
kept x = ap (λ b. if b || false then x ∷ [] else []) (bytes-same x)

iteration_bound : (x : Name) → binds (all_of x) ≡ x ∷ []
iteration_bound x =
    ap (λ (b : Bound). b.names) (bound-level (all_of x) (IlExp-F.Iter iteration.Star (x ∷ []) (exp.Var x)) (exp.outs-Iter iteration.Star (x ∷ []) (exp.Var x)))
    ∙ (ap₂ (λ (b : BoundCount) z. b.own ++ among (x ∷ []) (without b.index z)) star_bound (variable_bound x) ∙ kept x)

item_binds : (x : Name) → item_bound (part_of x) ≡ what_is_bound (all_of x)
item_binds x = fold_out-ListItem Bound BoundCount Bound (List Bound) bound_at bound_count_at item_at segment_at (part_of x)
    ∙ ap (λ z. item_at (map-ListItem IlExp Iteration ListItem PathSeg Bound BoundCount Bound (List Bound) what_is_bound count_bound item_bound segment_bound z)) (item.outs-All (all_of x))

parts_bound : (xs : List Name) → flattened (map (λ (b : Bound). b.names) (map (λ (b : Bound). b) (map item_bound (map part_of xs)))) ≡ xs
parts_bound [] = refl
parts_bound (x ∷ xs) = ap₂ (λ a b. a ++ b) (ap (λ (b : Bound). b.names) (item_binds x) ∙ iteration_bound x) (parts_bound xs)

list_bound : (xs : List Name) → binds (list_of xs) ≡ xs
list_bound xs = ap (λ (b : Bound). b.names) (bound-level (list_of xs) (IlExp-F.List ty.Nat (map part_of xs)) (exp.outs-List ty.Nat (map part_of xs))) ∙ parts_bound xs

-- ---- all of it

all_there : (xs ys : List Name) → ((y : Name) → has_name ys y ≡ true → has_name xs y ≡ true) → all_known xs (twice ys) ≡ true
all_there xs [] h = refl
all_there xs (y ∷ ys) h =
    let here : has_name xs y ≡ true = h y (or-left (bytes_eq y y) (has_name ys y) (bytes-same y)) in
    ap₂ (λ a b. a && b) here (ap₂ (λ a b. a && b) here (all_there xs ys (λ z k. h z (or-right (bytes_eq z y) (has_name ys z) k))))

pub list_open : (xs : List Name) → IsOpen (list_of xs)
list_open xs = record {
  pattern = list_pattern xs;
  formed = λ defs. list_formed defs xs;
  known = ap₂ (λ a b. all_known a b) (list_bound xs) (list_vars xs) ∙ all_there xs xs (λ y k. k);
}

-- ---- two patterns

known_all : (bound xs : List Name) → Within xs bound → all_known bound xs ≡ true
known_all bound [] w = refl
known_all bound (x ∷ xs) w = ap₂ (λ a b. a && b) (w x (or-left (bytes_eq x x) (has_name xs x) (bytes-same x))) (known_all bound xs (λ y k. w y (or-right (bytes_eq y x) (has_name xs y) k)))

pub both_open : (p q : IlExp) → IsOpen p → IsOpen q → AreOpen (p ∷ q ∷ [])
both_open p q a b = record {
  patterns = ap₂ (λ y z. y && z) a.pattern (ap (λ z. z && true) b.pattern);
  formed = λ defs. formed.more (a.formed defs) (formed.more (b.formed defs) formed.none);
  known = subst (λ z. all_known z (vars_of (p ∷ q ∷ [])) ≡ true) (sym names) (known_all (binds p ++ binds q) (vars_of (p ∷ q ∷ [])) within);
}
  where
    second : bound_by (q ∷ []) ≡ binds q
    second = ap (λ z. flattened (map binds (if z then q ∷ [] else []))) b.pattern ∙ append-nil (binds q)

    names : bound_by (p ∷ q ∷ []) ≡ binds p ++ binds q
    names = ap (λ z. flattened (map binds (if z then p ∷ filter is_pattern (q ∷ []) else filter is_pattern (q ∷ [])))) a.pattern ∙ ap (λ z. binds p ++ z) second

    later : (x : Name) → has_name (vars q ++ []) x ≡ true → has_name (vars q) x ≡ true
    later x k = subst (λ z. has_name z x ≡ true) (append-nil (vars q)) k

    within : Within (vars_of (p ∷ q ∷ [])) (binds p ++ binds q)
    within x k = elim (within-cases (vars p) (vars q ++ []) x k) [
      | inl i ↦ within-left (binds p) (binds q) x (known-within (binds p) (vars p) a.known x i)
      | inr i ↦ within-right (binds p) (binds q) x (known-within (binds q) (vars q) b.known x (later x i))
    ]
