-- An outcome depends only on the values of the variables that occur.
use Rattle.std.proofs.Common.{◌≡◌, ℕ, zero, suc, ◌+◌, pos, refl, ◌∙◌, ap, ap₂, subst, List, [], ◌∷◌, ◌++◌, Bool, true, false, ◌&&◌, ◌||◌, if◌then◌else◌, Option, Some, None, bytes_eq}
use Rattle.st_num.specs.declared.dim.Kind.{Kind}
use Rattle.st_il.specs.declared.definition.SyntaxDef.{SyntaxDef}
use Rattle.st_il.specs.declared.expression.IlExp.{IlExp}
use Rattle.st_il.specs.declared.expression.IlExp.TheOpen.{Iteration-F}
use Rattle.st_il.specs.declared.expression.IlPrem.{IlPrem, out-IlPrem, map-IlPrem}
use Rattle.st_il.specs.declared.expression.IlPrem.TheOpen.{IlPrem-F}
use Rattle.st_il.specs.declared.expression.Iteration.{Iteration, out-Iteration}
use Rattle.st_il.specs.declared.expression.ListItem.{ListItem}
use Rattle.st_il.specs.declared.expression.PathSeg.{PathSeg}
use Rattle.st_il.specs.declared.value.Env.{Env}
use Rattle.st_il.specs.declared.value.Value.{Value}
use Rattle.st_il.specs.declared.value.Value.TheVariants as value
use Rattle.st_semantics.specs.declared.outcome.Outcome.{Outcome}
use Rattle.st_semantics.specs.declared.outcome.Outcome.TheVariants.{Val}
use Rattle.st_semantics.specs.declared.outcome.Outcomes.{Outcomes}
use Rattle.st_semantics.specs.declared.outcome.Outcomes.TheVariants.{Values, Stopped}
use Rattle.st_il.specs.Names.{Name, without}
use Rattle.st_semantics.specs.Environments.{Entry, AgreeOn, lookup}
use Rattle.st_semantics.specs.Parts.{given}
use Rattle.st_semantics.specs.Forms.{Form, Strict, Variable, Calls, Iterates, HasForm}
use Rattle.st_semantics.specs.Iterations.{count_of, index_of, index_at, kind_of, may_be, Column, column_of, before, columns, all_long, size_of, heads, tails, bound_to, counted_to, rows, Spread, Misfit, Over, spread_rows, spread_long, spread}
use Rattle.st_semantics.specs.Evaluation.{Answers, Task, tasks, each_task, Ends, Goes, way, way_over, Gives, GivesAll, strict, variable, call, iteration_ends, iteration, none, stop, next}
use Rattle.st_semantics.specs.Variables.{vars, vars_of, prem_vars, prem_vars_at, prems_vars}
use Rattle.st_semantics.specs.Holding as h
use Rattle.st_semantics.specs.Holding.{Meaning, value_by, HaveValues, Instance, instances, each_instance, Derives, AreElements, Holds, HoldAll}
use Rattle.st_semantics.proofs.Names.{agree-left, agree-right, agree-head, agree-tail, without-other, form_vars, vars-form, prem-level}

columns-agree : (k : Kind) (xs : List Name) (a b : Env) → AgreeOn xs a b → columns k xs a.entries ≡ columns k xs b.entries
columns-agree k [] a b g = refl
columns-agree k (x ∷ xs) a b g = ap₂ (λ p q. before (column_of k p) q) (agree-head x xs a b g) (columns-agree k xs a b (agree-tail x xs a b g))

pub bound-agree : (x : Name) (xs : List Name) (hs : List Value) (a b : List Entry) → lookup x a ≡ lookup x b → lookup x (bound_to xs hs a) ≡ lookup x (bound_to xs hs b)
bound-agree x [] hs a b g = g
bound-agree x (n ∷ ns) [] a b g = g
bound-agree x (n ∷ ns) (y ∷ ys) a b g = ap (λ z. if bytes_eq x n then Some y else z) (bound-agree x ns ys a b g)

-- environments agree one by one
abbrev pub EnvsAgree : List Name → List Env → List Env → Type 0
EnvsAgree names [] [] = Unit {0}
EnvsAgree names (a ∷ as') (b ∷ bs) = AgreeOn names a b × EnvsAgree names as' bs
EnvsAgree names [] (b ∷ bs) = ⊥
EnvsAgree names (a ∷ as') [] = ⊥

abbrev pub SpreadAgree : List Name → Spread → Spread → Type 0
SpreadAgree names Misfit Misfit = Unit {0}
SpreadAgree names (Over as') (Over bs) = EnvsAgree names as' bs
SpreadAgree names Misfit (Over bs) = ⊥
SpreadAgree names (Over as') Misfit = ⊥

index_choice : (c : Bool) (y : Value) (p q : Option Value) → (c ≡ false → p ≡ q) → (if c then Some y else p) ≡ (if c then Some y else q)
index_choice true y p q g = refl
index_choice false y p q g = g refl

-- no name, or one
abbrev pub IsShort : List Name → Type 0
IsShort [] = Unit {0}
IsShort (i ∷ []) = Unit {0}
IsShort (i ∷ j ∷ more) = ⊥

pub index_short : (how : Iteration) → IsShort (index_of how)
index_short how = at (out-Iteration how)
  where
    at : (y : Iteration-F IlExp Iteration ListItem PathSeg) → IsShort (index_at y)
    at Iteration-F.Star = tt
    at Iteration-F.Plus = tt
    at Iteration-F.Quest = tt
    at (Iteration-F.Times e) = tt
    at (Iteration-F.Below index e) = tt

or_none : (c : Bool) → c ≡ false → (c || false) ≡ false
or_none true h = h
or_none false h = refl

row-agree : (index : List Name) → IsShort index → (names xs : List Name) (hs : List Value) (n : ℕ) (a b : Env) → AgreeOn (without index names) a b
    → AgreeOn names (record { entries = counted_to index n (bound_to xs hs a.entries) }) (record { entries = counted_to index n (bound_to xs hs b.entries) })
row-agree [] s names xs hs n a b g x h = bound-agree x xs hs a.entries b.entries (g x (without-other [] names x refl h))
row-agree (i ∷ []) s names xs hs n a b g x h =
    index_choice (bytes_eq x i) (value.Num (pos n)) (lookup x (bound_to xs hs a.entries)) (lookup x (bound_to xs hs b.entries))
    (λ other. bound-agree x xs hs a.entries b.entries (g x (without-other (i ∷ []) names x (or_none (bytes_eq x i) other) h)))
row-agree (i ∷ j ∷ more) s names xs hs n a b g x h = absurd s

rows-agree : (index : List Name) → IsShort index → (names xs : List Name) (a b : Env) → AgreeOn (without index names) a b
    → (n k : ℕ) (cs : List Column) → EnvsAgree names (rows index xs a.entries n k cs) (rows index xs b.entries n k cs)
rows-agree index s names xs a b g zero k cs = tt
rows-agree index s names xs a b g (suc n) k cs = (row-agree index s names xs (heads cs) k a b g, rows-agree index s names xs a b g n (k + 1) (tails cs))

module _ (index : List Name) (short : IsShort index) (names xs : List Name) (a b : Env) (g : AgreeOn (without index names) a b) where
  spread_rows-agree : (fit : Bool) (n : ℕ) (cs : List Column) → SpreadAgree names (spread_rows fit (rows index xs a.entries n 0 cs)) (spread_rows fit (rows index xs b.entries n 0 cs))
  spread_rows-agree false n cs = tt
  spread_rows-agree true n cs = rows-agree index short names xs a b g n 0 cs

  long-agree : (may : ℕ → Bool) (n : Option ℕ) (cs : Option (List Column)) → SpreadAgree names (spread_long may index xs a.entries n cs) (spread_long may index xs b.entries n cs)
  long-agree may None cs = tt
  long-agree may (Some n) None = tt
  long-agree may (Some n) (Some cs) = spread_rows-agree (all_long n cs && may n) n cs

pub spread-agree : (how : Iteration) (names xs : List Name) (a b : Env) (count : List Value) → AgreeOn xs a b → AgreeOn (without (index_of how) names) a b
    → SpreadAgree names (spread how xs a count) (spread how xs b count)
spread-agree how names xs a b count gx g =
    subst (λ z. SpreadAgree names (spread how xs a count) (spread_long (may_be how) (index_of how) xs b.entries (size_of count z) z))
    (columns-agree (kind_of how) xs a b gx)
    (long-agree (index_of how) (index_short how) names xs a b g (may_be how) (size_of count (columns (kind_of how) xs a.entries)) (columns (kind_of how) xs a.entries))

pub over_agree : (names : List Name) (s t : Spread) (as' : List Env) → SpreadAgree names s t → s ≡ Over as' → (bs : List Env) × (t ≡ Over bs) × EnvsAgree names as' bs
over_agree names Misfit Misfit as' g e = cc
over_agree names Misfit (Over bs) as' g e = absurd g
over_agree names (Over cs) Misfit as' g e = absurd g
over_agree names (Over cs) (Over bs) as' g e = let same : cs ≡ as' = cc in (bs, refl, subst (λ z. EnvsAgree names z bs) same g)

ends_agree : (names : List Name) (s t : Spread) (o : Outcome) → SpreadAgree names s t → way_over s ≡ Ends o → way_over t ≡ Ends o
ends_agree names Misfit Misfit o g e = e
ends_agree names Misfit (Over bs) o g e = absurd g
ends_agree names (Over cs) Misfit o g e = absurd g
ends_agree names (Over cs) (Over bs) o g e = cc

goes_agree : (names : List Name) (s t : Spread) (as' : List Env) → SpreadAgree names s t → way_over s ≡ Goes as' → (bs : List Env) × (way_over t ≡ Goes bs) × EnvsAgree names as' bs
goes_agree names Misfit Misfit as' g e = cc
goes_agree names Misfit (Over bs) as' g e = absurd g
goes_agree names (Over cs) Misfit as' g e = absurd g
goes_agree names (Over cs) (Over bs) as' g e = let same : cs ≡ as' = cc in (bs, refl, subst (λ z. EnvsAgree names z bs) same g)

module _ (k : Iteration) (names xs : List Name) (a b : Env) (gx : AgreeOn xs a b) (g : AgreeOn (without (index_of k) names) a b) where
  way_ends : (r : Outcomes) (o : Outcome) → way k xs a r ≡ Ends o → way k xs b r ≡ Ends o
  way_ends (Values cs) o e = ends_agree names (spread k xs a cs) (spread k xs b cs) o (spread-agree k names xs a b cs gx g) e
  way_ends (Stopped s) o e = e

  way_goes : (r : Outcomes) (as' : List Env) → way k xs a r ≡ Goes as' → (bs : List Env) × (way k xs b r ≡ Goes bs) × EnvsAgree names as' bs
  way_goes (Values cs) as' e = goes_agree names (spread k xs a cs) (spread k xs b cs) as' (spread-agree k names xs a b cs gx g) e
  way_goes (Stopped s) as' e = cc

abbrev TasksAgree : List Task → List Task → Type 0
TasksAgree [] [] = Unit {0}
TasksAgree (t ∷ ts) (u ∷ us) = (t.1 ≡ u.1) × AgreeOn (vars t.1) t.0 u.0 × TasksAgree ts us
TasksAgree [] (u ∷ us) = ⊥
TasksAgree (t ∷ ts) [] = ⊥

tasks-agree : (es : List IlExp) (a b : Env) → AgreeOn (vars_of es) a b → TasksAgree (tasks a es) (tasks b es)
tasks-agree [] a b g = tt
tasks-agree (e ∷ es) a b g = (refl, agree-left (vars e) (vars_of es) a b g, tasks-agree es a b (agree-right (vars e) (vars_of es) a b g))

each-agree : (e : IlExp) (as' bs : List Env) → EnvsAgree (vars e) as' bs → TasksAgree (each_task as' e) (each_task bs e)
each-agree e [] [] g = tt
each-agree e [] (b ∷ bs) g = absurd g
each-agree e (a ∷ as') [] g = absurd g
each-agree e (a ∷ as') (b ∷ bs) g = (refl, g.0, each-agree e as' bs g.1)

module _ (defs : List SyntaxDef) (e : IlExp) (a b : Env) (g : AgreeOn (vars e) a b) where
  form-agree : (f : Form) → HasForm defs e f → AgreeOn (form_vars f) a b
  form-agree f h = subst (λ z. AgreeOn z a b) (vars-form defs e f h) g

  module _ (k : Iteration) (xs : List Name) (body : IlExp) (h : HasForm defs e (Iterates k xs body)) where
    agree_first : AgreeOn (vars_of (count_of k) ++ xs) a b
    agree_first = agree-left (vars_of (count_of k) ++ xs) (without (index_of k) (vars body)) a b (form-agree (Iterates k xs body) h)

    agree_counts : AgreeOn (vars_of (count_of k)) a b
    agree_counts = agree-left (vars_of (count_of k)) xs a b agree_first

    agree_names : AgreeOn xs a b
    agree_names = agree-right (vars_of (count_of k)) xs a b agree_first

    agree_body : AgreeOn (without (index_of k) (vars body)) a b
    agree_body = agree-right (vars_of (count_of k) ++ xs) (without (index_of k) (vars body)) a b (form-agree (Iterates k xs body) h)

-- An expression comes to the same outcome in environments that agree on its variables.
module _ (defs : List SyntaxDef) (C : Answers) where
  mutual
    pub Gives-agree : {a : Env} {e : IlExp} {o : Outcome} → Gives defs C a e o → (b : Env) → AgreeOn (vars e) a b → Gives defs C b e o
    Gives-agree {a = a} {e = e} (strict es f r fe all oe) b g = strict es f r fe (GivesAll-agree all (tasks b es) (tasks-agree es a b (form-agree defs e a b g (Strict es f) fe))) oe
    Gives-agree {a = a} {e = e} (variable x fe oe) b g = variable x fe (oe ∙ ap given (agree-head x [] a b (form-agree defs e a b g (Variable x) fe)))
    Gives-agree {a = a} {e = e} (call f args r fe all c) b g = call f args r fe (GivesAll-agree all (tasks b args) (tasks-agree args a b (form-agree defs e a b g (Calls f args) fe))) c
    Gives-agree {a = a} {e = e} {o = o} (iteration_ends k xs body r fe all w) b g =
        iteration_ends k xs body r fe (GivesAll-agree all (tasks b (count_of k)) (tasks-agree (count_of k) a b (agree_counts defs e a b g k xs body fe)))
        (way_ends k (vars body) xs a b (agree_names defs e a b g k xs body fe) (agree_body defs e a b g k xs body fe) r o w)
    Gives-agree {a = a} {e = e} (iteration k xs body r envs s fe all w every oe) b g =
        let other : (bs : List Env) × (way k xs b r ≡ Goes bs) × EnvsAgree (vars body) envs bs = way_goes k (vars body) xs a b (agree_names defs e a b g k xs body fe) (agree_body defs e a b g k xs body fe) r envs w in
        iteration k xs body r other.0 s fe (GivesAll-agree all (tasks b (count_of k)) (tasks-agree (count_of k) a b (agree_counts defs e a b g k xs body fe))) other.1
        (GivesAll-agree every (each_task other.0 body) (each-agree body envs other.0 other.2)) oe

    pub GivesAll-agree : {ts : List Task} {r : Outcomes} → GivesAll defs C ts r → (us : List Task) → TasksAgree ts us → GivesAll defs C us r
    GivesAll-agree (none e) [] g = none e
    GivesAll-agree (none e) (u ∷ us) g = absurd g
    GivesAll-agree (stop o x b e) [] g = absurd g
    GivesAll-agree (stop {t = t} o x b e) (u ∷ us) g = stop o (subst (λ z. Gives defs C u.0 z o) g.0 (Gives-agree x u.0 g.1)) b e
    GivesAll-agree (next y rest x all e) [] g = absurd g
    GivesAll-agree (next {t = t} y rest x all e) (u ∷ us) g = next y rest (subst (λ z. Gives defs C u.0 z (Val y)) g.0 (Gives-agree x u.0 g.1)) (GivesAll-agree all us g.2) e

  pub tasks_agree : (es : List IlExp) (a b : Env) {r : Outcomes} → AgreeOn (vars_of es) a b → GivesAll defs C (tasks a es) r → GivesAll defs C (tasks b es) r
  tasks_agree es a b g all = GivesAll-agree all (tasks b es) (tasks-agree es a b g)

-- where a meaning depends on the variables alone, so do values and premises
abbrev pub Local : Meaning → Type 0
Local V = (a b : Env) (e : IlExp) (x : Value) → AgreeOn (vars e) a b → V a e x → V b e x

pub value_by-local : (defs : List SyntaxDef) (C : Answers) → Local (value_by defs C)
value_by-local defs C a b e x g h = Gives-agree defs C h b g

module _ (V : Meaning) (local : Local V) where
  pub HaveValues-agree : (es : List IlExp) (xs : List Value) (a b : Env) → AgreeOn (vars_of es) a b → HaveValues V (tasks a es) xs → HaveValues V (tasks b es) xs
  HaveValues-agree [] [] a b g h = h
  HaveValues-agree [] (x ∷ xs) a b g h = h
  HaveValues-agree (e ∷ es) [] a b g h = h
  HaveValues-agree (e ∷ es) (x ∷ xs) a b g h =
      (local a b e x (agree-left (vars e) (vars_of es) a b g) h.0, HaveValues-agree es xs a b (agree-right (vars e) (vars_of es) a b g) h.1)

abbrev pub InstancesAgree : List Instance → List Instance → Type 0
InstancesAgree [] [] = Unit {0}
InstancesAgree (t ∷ ts) (u ∷ us) = (t.1 ≡ u.1) × AgreeOn (prem_vars t.1) t.0 u.0 × InstancesAgree ts us
InstancesAgree [] (u ∷ us) = ⊥
InstancesAgree (t ∷ ts) [] = ⊥

pub instances-agree : (ps : List IlPrem) (a b : Env) → AgreeOn (prems_vars ps) a b → InstancesAgree (instances a ps) (instances b ps)
instances-agree [] a b g = tt
instances-agree (p ∷ ps) a b g = (refl, agree-left (prem_vars p) (prems_vars ps) a b g, instances-agree ps a b (agree-right (prem_vars p) (prems_vars ps) a b g))

pub each_instance-agree : (p : IlPrem) (as' bs : List Env) → EnvsAgree (prem_vars p) as' bs → InstancesAgree (each_instance as' p) (each_instance bs p)
each_instance-agree p [] [] g = tt
each_instance-agree p [] (b ∷ bs) g = absurd g
each_instance-agree p (a ∷ as') [] g = absurd g
each_instance-agree p (a ∷ as') (b ∷ bs) g = (refl, g.0, each_instance-agree p as' bs g.1)

pub prem_agree : (p : IlPrem) (y : IlPrem-F IlPrem) → out-IlPrem p ≡ y → (a b : Env) → AgreeOn (prem_vars p) a b → AgreeOn (prem_vars_at (map-IlPrem IlPrem (List Name) prem_vars y)) a b
prem_agree p y h a b g = subst (λ z. AgreeOn z a b) (prem-level p y h) g

module _ (V : Meaning) (local : Local V) (O : Type 0) (D : Derives) where
  mutual
    -- A premise holds in environments that agree on its variables.
    pub Holds-agree : {a : Env} {p : IlPrem} → Holds V O D a p → (b : Env) → AgreeOn (prem_vars p) a b → Holds V O D b p
    Holds-agree {a = a} {p = p} (h.condition e eq x) b g = h.condition e eq (local a b e (value.Bool true) (prem_agree p (IlPrem-F.If e) eq a b g) x)
    Holds-agree (h.otherwise eq o) b g = h.otherwise eq o
    Holds-agree {a = a} {p = p} (h.goal r es xs eq hv d) b g = h.goal r es xs eq (HaveValues-agree V local es xs a b (prem_agree p (IlPrem-F.Goal r es) eq a b g) hv) d
    Holds-agree {a = a} {p = p} (h.each k xs body envs eq (cs, hv, sp) all) b g =
        let all_names : AgreeOn (vars_of (count_of k) ++ xs ++ without (index_of k) (prem_vars body)) a b = prem_agree p (IlPrem-F.Each k xs body) eq a b g in
        let first : AgreeOn (vars_of (count_of k) ++ xs) a b = agree-left (vars_of (count_of k) ++ xs) (without (index_of k) (prem_vars body)) a b all_names in
        let rest : AgreeOn (without (index_of k) (prem_vars body)) a b = agree-right (vars_of (count_of k) ++ xs) (without (index_of k) (prem_vars body)) a b all_names in
        let other : (bs : List Env) × (spread k xs b cs ≡ Over bs) × EnvsAgree (prem_vars body) envs bs =
        over_agree (prem_vars body) (spread k xs a cs) (spread k xs b cs) envs
        (spread-agree k (prem_vars body) xs a b cs (agree-right (vars_of (count_of k)) xs a b first) rest) sp in
        h.each k xs body other.0 eq (cs, HaveValues-agree V local (count_of k) cs a b (agree-left (vars_of (count_of k)) xs a b first) hv, other.1)
        (HoldAll-agree all (each_instance other.0 body) (each_instance-agree body envs other.0 other.2))

    pub HoldAll-agree : {ps : List Instance} → HoldAll V O D ps → (qs : List Instance) → InstancesAgree ps qs → HoldAll V O D qs
    HoldAll-agree h.done [] g = h.done
    HoldAll-agree h.done (q ∷ qs) g = absurd g
    HoldAll-agree (h.more x xs) [] g = absurd g
    HoldAll-agree (h.more x xs) (q ∷ qs) g = h.more (subst (λ z. Holds V O D q.0 z) g.0 (Holds-agree x q.0 g.1)) (HoldAll-agree xs qs g.2)
