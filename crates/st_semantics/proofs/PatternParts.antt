-- The parts of a pattern are patterns, and so it comes to the same whatever calls come to.
use Rattle.std.proofs.Common.{◌≡◌, refl, sym, ◌∙◌, ap, ap₂, subst, List, [], ◌∷◌, map, Bool, true, false, ◌&&◌, Some, None, Option}
use Rattle.std.specs.List.{list_all}
use Rattle.st_il.specs.declared.definition.SyntaxDef.{SyntaxDef}
use Rattle.st_il.specs.declared.expression.IlExp.{IlExp, out-IlExp, fold_out-IlExp, map-IlExp}
use Rattle.st_il.specs.declared.expression.IlExp.TheOpen.{IlExp-F, Iteration-F, ListItem-F}
use Rattle.st_il.specs.declared.expression.Iteration.{Iteration, out-Iteration, fold_out-Iteration, map-Iteration}
use Rattle.st_il.specs.declared.expression.ListItem.{ListItem, out-ListItem, fold_out-ListItem, map-ListItem}
use Rattle.st_il.specs.declared.expression.PathSeg.{PathSeg, fold-PathSeg}
use Rattle.st_il.specs.declared.value.Env.{Env}
use Rattle.st_semantics.specs.declared.outcome.Outcome.{Outcome}
use Rattle.st_semantics.specs.declared.outcome.Outcomes.{Outcomes}
use Rattle.st_semantics.specs.Operands.{item_at, segment_at, item_exp}
use Rattle.st_semantics.specs.Forms.{Form, Strict, Variable, Calls, Iterates, form_at, HasForm, by_itself, structure, absent_list, absent_option}
use Rattle.st_semantics.specs.Iterations.{count_of, count_at}
use Rattle.st_semantics.specs.Evaluation.{Answers, Task, tasks, each_task, Gives, GivesAll, strict, variable, call, iteration_ends, iteration, none, stop, next}
use Rattle.st_semantics.specs.Patterns.{Told, told, told_at, told_item, simple_count_at, all_patterns, is_pattern, is_simple, has_simple_count}
use Rattle.st_semantics.proofs.Names.{and-both}

abbrev pub told_segment : PathSeg → List Told
told_segment = fold-PathSeg Told Bool Told (List Told) told_at simple_count_at item_at segment_at

-- the parts of a form are patterns, and it is no call
abbrev pub form_patterns : Form → Type 0
form_patterns (Strict es f) = list_all is_pattern es ≡ true
form_patterns (Variable x) = Unit {0}
form_patterns (Calls fun es) = ⊥
form_patterns (Iterates how xs body) = (list_all is_pattern (count_of how) ≡ true) × (is_pattern body ≡ true)

parts : (es : List IlExp) → all_patterns (map told es) ≡ true → list_all is_pattern es ≡ true
parts [] h = refl
parts (e ∷ es) h =
    let b = and-both (told e).pattern (all_patterns (map told es)) h in
    ap₂ (λ x y. x && y) b.0 (parts es b.1)

one_part : (e : IlExp) → is_pattern e ≡ true → list_all is_pattern (e ∷ []) ≡ true
one_part e h = ap (λ z. z && true) h

item-told : (i : ListItem) → told_item i ≡ told (item_exp i)
item-told i = fold_out-ListItem Told Bool Told (List Told) told_at simple_count_at item_at segment_at i ∙ at (out-ListItem i)
  where
    at : (y : ListItem-F IlExp Iteration ListItem PathSeg) → item_at (map-ListItem IlExp Iteration ListItem PathSeg Told Bool Told (List Told) told has_simple_count told_item told_segment y) ≡ told (item_at y)
    at (ListItem-F.One e) = refl
    at (ListItem-F.All e) = refl

items-told : (is : List ListItem) → map told_item is ≡ map told (map item_exp is)
items-told [] = refl
items-told (i ∷ is) = ap₂ (λ a b. a ∷ b) (item-told i) (items-told is)

told-out : (e : IlExp) → told e ≡ told_at (map-IlExp IlExp Iteration ListItem PathSeg Told Bool Told (List Told) told has_simple_count told_item told_segment (out-IlExp e))
told-out e = fold_out-IlExp Told Bool Told (List Told) told_at simple_count_at item_at segment_at e

pub told-level : (e : IlExp) (y : IlExp-F IlExp Iteration ListItem PathSeg) → out-IlExp e ≡ y → told e ≡ told_at (map-IlExp IlExp Iteration ListItem PathSeg Told Bool Told (List Told) told has_simple_count told_item told_segment y)
told-level e y h = told-out e ∙ ap (λ z. told_at (map-IlExp IlExp Iteration ListItem PathSeg Told Bool Told (List Told) told has_simple_count told_item told_segment z)) h

abbrev SimpleIsPattern : Told → Type 0
SimpleIsPattern t = t.simple ≡ true → t.pattern ≡ true

simple-at : (y : IlExp-F IlExp Iteration ListItem PathSeg) → SimpleIsPattern (told_at (map-IlExp IlExp Iteration ListItem PathSeg Told Bool Told (List Told) told has_simple_count told_item told_segment y))
simple-at (IlExp-F.Bool truth) h = cc
simple-at (IlExp-F.Number n) h = refl
simple-at (IlExp-F.Text text) h = cc
simple-at (IlExp-F.Var x) h = refl
simple-at (IlExp-F.Not e) h = cc
simple-at (IlExp-F.And e g) h = cc
simple-at (IlExp-F.Or e g) h = cc
simple-at (IlExp-F.Imp e g) h = cc
simple-at (IlExp-F.Iff e g) h = cc
simple-at (IlExp-F.Neg e) h = cc
simple-at (IlExp-F.Add type e g) h = cc
simple-at (IlExp-F.Sub type e g) h = cc
simple-at (IlExp-F.Mul type e g) h = cc
simple-at (IlExp-F.Div type e g) h = cc
simple-at (IlExp-F.Rem type e g) h = cc
simple-at (IlExp-F.Pow type e g) h = cc
simple-at (IlExp-F.Eq e g) h = cc
simple-at (IlExp-F.Ne e g) h = cc
simple-at (IlExp-F.Lt e g) h = cc
simple-at (IlExp-F.Gt e g) h = cc
simple-at (IlExp-F.Le e g) h = cc
simple-at (IlExp-F.Ge e g) h = cc
simple-at (IlExp-F.Member e g) h = cc
simple-at (IlExp-F.Case type tag es) h = cc
simple-at (IlExp-F.Fields type es) h = cc
simple-at (IlExp-F.Dot e name) h = cc
simple-at (IlExp-F.Set e path g) h = cc
simple-at (IlExp-F.Extend e path g) h = cc
simple-at (IlExp-F.Tuple es) h = cc
simple-at (IlExp-F.List type items) h = cc
simple-at (IlExp-F.Cat e g) h = cc
simple-at (IlExp-F.Join e g) h = cc
simple-at (IlExp-F.Empty type) h = cc
simple-at (IlExp-F.Present e) h = cc
simple-at (IlExp-F.Absent type) h = cc
simple-at (IlExp-F.Len e) h = cc
simple-at (IlExp-F.IlExp::At e g) h = cc
simple-at (IlExp-F.IlExp::Slice e g i) h = cc
simple-at (IlExp-F.Call fun es) h = cc
simple-at (IlExp-F.Up type e) h = cc
simple-at (IlExp-F.Iter how names body) h = cc

-- a variable or a number is a pattern
pub simple-pattern : (e : IlExp) → is_simple e ≡ true → is_pattern e ≡ true
simple-pattern e = subst SimpleIsPattern (sym (told-out e)) (simple-at (out-IlExp e))

simple-parts : (es : List IlExp) → list_all is_simple es ≡ true → list_all is_pattern es ≡ true
simple-parts [] h = refl
simple-parts (e ∷ es) h =
    let b = and-both (is_simple e) (list_all is_simple es) h in
    ap₂ (λ x y. x && y) (simple-pattern e b.0) (simple-parts es b.1)

count-simple : (how : Iteration) → has_simple_count how ≡ list_all is_simple (count_of how)
count-simple how = fold_out-Iteration Told Bool Told (List Told) told_at simple_count_at item_at segment_at how ∙ at (out-Iteration how)
  where
    at : (y : Iteration-F IlExp Iteration ListItem PathSeg) → simple_count_at (map-Iteration IlExp Iteration ListItem PathSeg Told Bool Told (List Told) told has_simple_count told_item told_segment y) ≡ list_all is_simple (count_at y)
    at Iteration-F.Star = refl
    at Iteration-F.Plus = refl
    at Iteration-F.Quest = refl
    at (Iteration-F.Times e) = refl
    at (Iteration-F.Below index e) = refl

no : false ≡ true → ⊥
no e = cc

abbrev IsTold : IlExp-F IlExp Iteration ListItem PathSeg → Option Form → Type 0
IsTold y None = (told_at (map-IlExp IlExp Iteration ListItem PathSeg Told Bool Told (List Told) told has_simple_count told_item told_segment y)).pattern ≡ true → Unit {0}
IsTold y (Some f) = (told_at (map-IlExp IlExp Iteration ListItem PathSeg Told Bool Told (List Told) told has_simple_count told_item told_segment y)).pattern ≡ true → form_patterns f

two_parts : (e g : IlExp) → (is_pattern e && is_pattern g) ≡ true → list_all is_pattern (e ∷ g ∷ []) ≡ true
two_parts e g h =
    let b = and-both (is_pattern e) (is_pattern g) h in
    ap₂ (λ x y. x && (y && true)) b.0 b.1

iterated_parts : (how : Iteration) (body : IlExp) → (has_simple_count how && is_pattern body) ≡ true → (list_all is_pattern (count_of how) ≡ true) × (is_pattern body ≡ true)
iterated_parts how body h =
    let b = and-both (has_simple_count how) (is_pattern body) h in
    (simple-parts (count_of how) (sym (count-simple how) ∙ b.0), b.1)

told-parts : (y : IlExp-F IlExp Iteration ListItem PathSeg) → IsTold y (form_at y)
told-parts (IlExp-F.Bool truth) = λ h. refl
told-parts (IlExp-F.Number n) = λ h. refl
told-parts (IlExp-F.Text text) = λ h. refl
told-parts (IlExp-F.Var x) = λ h. tt
told-parts (IlExp-F.Not e) = λ h. absurd (no h)
told-parts (IlExp-F.And e g) = λ h. absurd (no h)
told-parts (IlExp-F.Or e g) = λ h. absurd (no h)
told-parts (IlExp-F.Imp e g) = λ h. absurd (no h)
told-parts (IlExp-F.Iff e g) = λ h. absurd (no h)
told-parts (IlExp-F.Neg e) = λ h. absurd (no h)
told-parts (IlExp-F.Add type e g) = λ h. absurd (no h)
told-parts (IlExp-F.Sub type e g) = λ h. absurd (no h)
told-parts (IlExp-F.Mul type e g) = λ h. absurd (no h)
told-parts (IlExp-F.Div type e g) = λ h. absurd (no h)
told-parts (IlExp-F.Rem type e g) = λ h. absurd (no h)
told-parts (IlExp-F.Pow type e g) = λ h. absurd (no h)
told-parts (IlExp-F.Eq e g) = λ h. absurd (no h)
told-parts (IlExp-F.Ne e g) = λ h. absurd (no h)
told-parts (IlExp-F.Lt e g) = λ h. absurd (no h)
told-parts (IlExp-F.Gt e g) = λ h. absurd (no h)
told-parts (IlExp-F.Le e g) = λ h. absurd (no h)
told-parts (IlExp-F.Ge e g) = λ h. absurd (no h)
told-parts (IlExp-F.Member e g) = λ h. absurd (no h)
told-parts (IlExp-F.Case type tag es) = λ h. parts es h
told-parts (IlExp-F.Fields type es) = λ h. tt
told-parts (IlExp-F.Dot e name) = λ h. absurd (no h)
told-parts (IlExp-F.Set e path g) = λ h. absurd (no h)
told-parts (IlExp-F.Extend e path g) = λ h. absurd (no h)
told-parts (IlExp-F.Tuple es) = λ h. parts es h
told-parts (IlExp-F.List type items) = λ h. parts (map item_exp items) (ap all_patterns (sym (items-told items)) ∙ h)
told-parts (IlExp-F.Cat e g) = λ h. two_parts e g h
told-parts (IlExp-F.Join e g) = λ h. absurd (no h)
told-parts (IlExp-F.Empty type) = λ h. refl
told-parts (IlExp-F.Present e) = λ h. one_part e h
told-parts (IlExp-F.Absent type) = λ h. tt
told-parts (IlExp-F.Len e) = λ h. absurd (no h)
told-parts (IlExp-F.IlExp::At e g) = λ h. absurd (no h)
told-parts (IlExp-F.IlExp::Slice e g i) = λ h. absurd (no h)
told-parts (IlExp-F.Call fun es) = λ h. absurd (no h)
told-parts (IlExp-F.Up type e) = λ h. one_part e h
told-parts (IlExp-F.Iter how names body) = λ h. iterated_parts how body h

-- the form of a pattern has patterns as its parts
pub pattern-form : (defs : List SyntaxDef) (e : IlExp) (f : Form) → HasForm defs e f → is_pattern e ≡ true → form_patterns f
pattern-form defs e f (by_itself is) h = subst (IsTold (out-IlExp e)) is (told-parts (out-IlExp e)) (sym (ap (λ (t : Told). t.pattern) (told-out e)) ∙ h)
pattern-form defs e f (structure type es declared is has long k) h =
    subst form_patterns (sym k) (parts es (sym (ap (λ (t : Told). t.pattern) (told-level e (IlExp-F.Fields type es) is)) ∙ h))
pattern-form defs e f (absent_list type element is means k) h = subst form_patterns (sym k) refl
pattern-form defs e f (absent_option type element is means k) h = subst form_patterns (sym k) refl

abbrev pub TasksArePatterns : List Task → Type 0
TasksArePatterns [] = Unit {0}
TasksArePatterns (t ∷ ts) = (is_pattern t.1 ≡ true) × TasksArePatterns ts

pub tasks_patterns : (env : Env) (es : List IlExp) → list_all is_pattern es ≡ true → TasksArePatterns (tasks env es)
tasks_patterns env [] h = tt
tasks_patterns env (e ∷ es) h = let b = and-both (is_pattern e) (list_all is_pattern es) h in (b.0, tasks_patterns env es b.1)

pub each_patterns : (envs : List Env) (e : IlExp) → is_pattern e ≡ true → TasksArePatterns (each_task envs e)
each_patterns [] e h = tt
each_patterns (env ∷ envs) e h = (h, each_patterns envs e h)

-- It comes to the same, whatever calls come to.
module _ (defs : List SyntaxDef) (C D : Answers) where
  mutual
    pub Gives-pattern : {env : Env} {e : IlExp} {o : Outcome} → is_pattern e ≡ true → Gives defs D env e o → Gives defs C env e o
    Gives-pattern {env = env} {e = e} w (strict es f r fe all oe) = strict es f r fe (GivesAll-pattern (tasks_patterns env es (pattern-form defs e (Strict es f) fe w)) all) oe
    Gives-pattern w (variable x fe oe) = variable x fe oe
    Gives-pattern {e = e} w (call f args r fe all c) = absurd (pattern-form defs e (Calls f args) fe w)
    Gives-pattern {env = env} {e = e} w (iteration_ends k xs body r fe all way) =
        iteration_ends k xs body r fe (GivesAll-pattern (tasks_patterns env (count_of k) (pattern-form defs e (Iterates k xs body) fe w).0) all) way
    Gives-pattern {env = env} {e = e} w (iteration k xs body r envs s fe all way every oe) =
        let both = pattern-form defs e (Iterates k xs body) fe w in
        iteration k xs body r envs s fe (GivesAll-pattern (tasks_patterns env (count_of k) both.0) all) way
        (GivesAll-pattern (each_patterns envs body both.1) every) oe

    pub GivesAll-pattern : {ts : List Task} {r : Outcomes} → TasksArePatterns ts → GivesAll defs D ts r → GivesAll defs C ts r
    GivesAll-pattern w (none e) = none e
    GivesAll-pattern w (stop o g b e) = stop o (Gives-pattern w.0 g) b e
    GivesAll-pattern w (next x rest g all e) = next x rest (Gives-pattern w.0 g) (GivesAll-pattern w.1 all) e
