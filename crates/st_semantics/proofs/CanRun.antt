-- The rules M3 and M4 give that each premise of a clause can be met at its place, since no goal holds
-- there; so does an executable order of a rule without relation premises.
use Rattle.std.proofs.Common.{◌≡◌, refl, sym, ◌∙◌, ap, ap₂, subst, List, [], ◌∷◌, ◌++◌, ◌⊎◌, inl, inr, Bool, true, false, not, ◌&&◌, if◌then◌else◌, Option, Some, None, is_some, bytes_eq, append_assoc, append-nil, All}
use Rattle.std.specs.List.{list_all}
use Rattle.std.proofs.lemmas.List.Elements.{All-head, All-tail}
use Rattle.std.proofs.lemmas.List.Folds.{list_all-append}
use Rattle.st_il.specs.declared.definition.ClauseDef.{ClauseDef}
use Rattle.st_il.specs.declared.definition.Il.{Il}
use Rattle.st_il.specs.declared.definition.Listed.{Listed}
use Rattle.st_il.specs.declared.expression.IlExp.{IlExp, out-IlExp}
use Rattle.st_il.specs.declared.expression.IlExp.TheOpen.{IlExp-F, Iteration-F}
use Rattle.st_il.specs.declared.expression.IlPrem.{IlPrem, out-IlPrem, fold-IlPrem, fold_out-IlPrem, map-IlPrem}
use Rattle.st_il.specs.declared.expression.IlPrem.TheOpen.{IlPrem-F}
use Rattle.st_il.specs.declared.expression.Iteration.{Iteration, out-Iteration}
use Rattle.st_il.specs.declared.expression.ListItem.{ListItem}
use Rattle.st_il.specs.declared.expression.PathSeg.{PathSeg}
use Rattle.st_il.specs.declared.value.Value.{Value}
use Rattle.st_num.specs.declared.rule.RuleId.TheVariants.{M3, M4}
use Rattle.st_il.specs.Names.{Name, has_name, all_known, among, without}
use Rattle.st_il.specs.Definitions.{clauses_in}
use Rattle.st_semantics.specs.Iterations.{count_of, index_of, count_at}
use Rattle.st_semantics.specs.Variables.{vars, vars_of, prem_vars, prems_vars, cites, cites_at}
use Rattle.st_semantics.specs.Patterns.{Told, is_pattern, bound_by}
use Rattle.st_semantics.specs.OpenParts.{is_doubly_open}
use Rattle.st_semantics.specs.Holding.{Derives}
use Rattle.st_semantics.specs.Calls.{no_goal}
use Rattle.st_semantics.specs.Reaching.{bound_behind}
use Rattle.st_semantics.specs.Executable as run
use Rattle.st_semantics.specs.Executable.{Class, Test, Equation, class_of, class_of_condition, class_of_equation, class_of_sides, is_matched, class_of_each, is_anchored, is_countable, is_variable_at, bound_inside, runs_at}
use Rattle.st_semantics.specs.Orders.{run_on}
use Rattle.st_semantics.specs.ModeRules.{patterns_have_one_open}
use Rattle.st_semantics.specs.Breaches.{ClauseKeeps, ClausesKeep}
use Rattle.st_semantics.specs.Kinds.{IsKinded, ClausesAreKinded}
use Rattle.st_semantics.specs.Kinds as kinded
use Rattle.st_semantics.proofs.Modes.{keeps_both}
use Rattle.st_semantics.proofs.Names.{Within, within-left, within-right, within-both, known-within, and-both, or-cases, bytes-path}
use Rattle.st_semantics.proofs.PatternParts.{told-level as pattern-level}
use Rattle.st_semantics.proofs.Elements.{All-back}
use Rattle.st_semantics.proofs.Runs.{CountRuns, Runs, test, left, right, otherwise, goal, each}
use Rattle.st_semantics.proofs.Clauses.{CanRun, ClauseCanRun, AllCanRun}

-- ---- more names that are bound

pub known-wider : (few many xs : List Name) → Within few many → all_known few xs ≡ true → all_known many xs ≡ true
known-wider few many [] w h = refl
known-wider few many (x ∷ xs) w h =
    let b = and-both (has_name few x) (all_known few xs) h in
    ap₂ (λ p q. p && q) (w x b.0) (known-wider few many xs w b.1)

pub within-index : (index few many : List Name) → Within few many → Within (index ++ few) (index ++ many)
within-index index few many w = within-both index few (index ++ many) (within-left index many) (λ x h. within-right index many x (w x h))

count-wider : (few many : List Name) (how : Iteration) → Within few many → CountRuns few how → CountRuns many how
count-wider few many how w (inl k) = inl (known-wider few many (vars_of (count_of how)) w k)
count-wider few many how w (inr p) = inr p

pub Runs-wider : {D : Derives} {few : List Name} {ls : List Listed} {p : IlPrem} → Runs D few ls p → (many : List Name) → Within few many → Runs D many ls p
Runs-wider {few = few} (test e is k) many w = test e is (known-wider few many (vars e) w k)
Runs-wider {few = few} (left e a b is eq k f) many w = left e a b is eq (known-wider few many (vars a) w k) f
Runs-wider {few = few} (right e a b is eq k f) many w = right e a b is eq (known-wider few many (vars b) w k) f
Runs-wider (otherwise is) many w = otherwise is
Runs-wider (goal relation es is none) many w = goal relation es is none
Runs-wider {few = few} (each how xs body is c k r) many w =
    each how xs body is (count-wider few many how w c) k (Runs-wider r (index_of how ++ many) (within-index (index_of how) few many w))

-- ---- the class of a premise, by its level

abbrev pub runs_of : Il → IlPrem → run.Runs
runs_of il = fold-IlPrem run.Runs (runs_at il)

pub runs-level : (il : Il) (p : IlPrem) (y : IlPrem-F IlPrem) → out-IlPrem p ≡ y → runs_of il p ≡ runs_at il (map-IlPrem IlPrem run.Runs (runs_of il) y)
runs-level il p y is = fold_out-IlPrem run.Runs (runs_at il) p ∙ ap (λ z. runs_at il (map-IlPrem IlPrem run.Runs (runs_of il) z)) is

pub class-level : (il : Il) (bound : List Name) (p : IlPrem) (y : IlPrem-F IlPrem) → out-IlPrem p ≡ y → class_of il bound p ≡ (runs_at il (map-IlPrem IlPrem run.Runs (runs_of il) y)).class bound
class-level il bound p y is = ap (λ (z : run.Runs). z.class bound) (runs-level il p y is)

is-cited : (p : IlPrem) (y : IlPrem-F IlPrem) → out-IlPrem p ≡ y → cites p ≡ cites_at (map-IlPrem IlPrem Bool cites y)
is-cited p y is = fold_out-IlPrem Bool cites_at p ∙ ap (λ z. cites_at (map-IlPrem IlPrem Bool cites z)) is

-- ---- conditions

matched : (bound : List Name) (e g : IlExp) → is_matched bound e g ≡ true → (all_known bound (vars e) ≡ true) × (is_pattern g ≡ true)
matched bound e g h = at (all_known bound (vars e)) (is_pattern g) _ h
  where
    at : (a b c : Bool) → (a && b && c) ≡ true → (a ≡ true) × (b ≡ true)
    at true true c h = (refl, refl)
    at true false c h = cc
    at false b c h = cc

condition-runs : (D : Derives) (bound : List Name) (ls : List Listed) (p : IlPrem) (e : IlExp) (c : Class) → out-IlPrem p ≡ IlPrem-F.If e → class_of_condition bound e ≡ Some c → Runs D bound ls p
condition-runs D bound ls p e c is h = whole (all_known bound (vars e)) refl h
  where
    sides : (y : IlExp-F IlExp Iteration ListItem PathSeg) → out-IlExp e ≡ y → class_of_equation bound y ≡ Some c → Runs D bound ls p
    sides (IlExp-F.Eq a b) eq h = first (is_matched bound a b) refl (is_matched bound b a) refl h
      where
        first : (m : Bool) → is_matched bound a b ≡ m → (n : Bool) → is_matched bound b a ≡ n → (if m then Some (Equation b) else if n then Some (Equation a) else None) ≡ Some c → Runs D bound ls p
        first true m n k h = let x = matched bound a b m in left e a b is eq x.0 x.1
        first false m true k h = let x = matched bound b a k in right e a b is eq x.0 x.1
        first false m false k h = cc
    sides _ eq h = cc

    whole : (k : Bool) → all_known bound (vars e) ≡ k → (if k then Some Test else class_of_equation bound (out-IlExp e)) ≡ Some c → Runs D bound ls p
    whole true k h = test e is k
    whole false k h = sides (out-IlExp e) refl h

-- ---- iterated premises

abbrev pub IsShort : List IlExp → Type 0
IsShort [] = Unit {0}
IsShort (e ∷ []) = Unit {0}
IsShort (e ∷ g ∷ more) = ⊥

pub count_short : (how : Iteration) → IsShort (count_of how)
count_short how = at (out-Iteration how)
  where
    at : (y : Iteration-F IlExp Iteration ListItem PathSeg) → IsShort (count_at y)
    at Iteration-F.Star = tt
    at Iteration-F.Plus = tt
    at Iteration-F.Quest = tt
    at (Iteration-F.Times e) = tt
    at (Iteration-F.Below index e) = tt

variable-pattern : (e : IlExp) (y : IlExp-F IlExp Iteration ListItem PathSeg) → out-IlExp e ≡ y → is_variable_at y ≡ true → is_pattern e ≡ true
variable-pattern e (IlExp-F.Var x) is h = ap (λ (t : Told). t.pattern) (pattern-level e (IlExp-F.Var x) is)
variable-pattern e _ is h = cc

count-runs : (bound : List Name) (es : List IlExp) → IsShort es → list_all (is_countable bound) es ≡ true → (all_known bound (vars_of es) ≡ true) ⊎ (list_all is_pattern es ≡ true)
count-runs bound [] s h = inl refl
count-runs bound (e ∷ g ∷ more) s h = absurd s
count-runs bound (e ∷ []) s h = elim (or-cases (all_known bound (vars e)) (is_variable_at (out-IlExp e)) (and-both (is_countable bound e) true h).0) [
  | inl k ↦ inl (list_all-append (has_name bound) (vars e) [] ∙ ap (λ z. z && true) k)
  | inr v ↦ inr (ap (λ z. z && true) (variable-pattern e (out-IlExp e) refl v))
]

among-within : (some xs : List Name) → Within (among some xs) some
among-within some [] x h = cc
among-within some (y ∷ ys) x h = at (has_name some y) refl (among-within some ys x) h
  where
    at : (b : Bool) → has_name some y ≡ b → (has_name (among some ys) x ≡ true → has_name some x ≡ true) → has_name (if b then y ∷ among some ys else among some ys) x ≡ true → has_name some x ≡ true
    at true k ih h = elim (or-cases (bytes_eq x y) (has_name (among some ys) x) h) [ inl e ↦ subst (λ z. has_name some z ≡ true) (sym (bytes-path x y e)) k | inr later ↦ ih later ]
    at false k ih h = ih h

pub inside-within : (bound : List Name) (how : Iteration) (xs others : List Name) → all_known bound others ≡ true → Within (bound_inside bound how xs others) (index_of how ++ bound)
inside-within bound how xs others k =
    within-both (among bound xs ++ others) (index_of how) (index_of how ++ bound)
    (within-both (among bound xs) others (index_of how ++ bound) (λ x h. within-right (index_of how) bound x (among-within bound xs x h)) (λ x h. within-right (index_of how) bound x (known-within bound others k x h)))
    (within-left (index_of how) bound)

-- where it is told whether goals are cited: none is, or none holds
abbrev pub NoneHolds : Derives → Bool → Type 0
NoneHolds D cited = (cited ≡ false) ⊎ ((relation : Name) (vs : List Value) → D relation vs → ⊥)

-- A premise that is executable, and in which no goal holds, can be met.
pub class_runs : (il : Il) (D : Derives) {ls : List Listed} {p : IlPrem} → IsKinded ls p → (bound : List Name) (c : Class) → class_of il bound p ≡ Some c → NoneHolds D (cites p) → Runs D bound ls p
class_runs il D {ls = ls} {p = p} (kinded.condition e is) bound c h n = condition-runs D bound ls p e c is (sym (class-level il bound p (IlPrem-F.If e) is) ∙ h)
class_runs il D {p = p} (kinded.goal relation es is) bound c h (inl n) = let bad : true ≡ false = sym (is-cited p (IlPrem-F.Goal relation es) is) ∙ n in cc
class_runs il D (kinded.goal relation es is) bound c h (inr none) = goal relation es is (none relation)
class_runs il D (kinded.otherwise is) bound c h n = otherwise is
class_runs il D {ls = ls} {p = p} (kinded.each how xs body is kind deeper) bound c h n =
    let others : List Name = without xs (without (index_of how) (runs_of il body).vars) in
    let t = tests (is_anchored bound how xs) (list_all (is_countable bound) (count_of how)) (all_known bound others) ((runs_of il body).class (bound_inside bound how xs others)) (sym (class-level il bound p (IlPrem-F.Each how xs body) is) ∙ h) in
    each how xs body is (count-runs bound (count_of how) (count_short how) t.0) kind
    (Runs-wider (class_runs il D deeper (bound_inside bound how xs others) c t.2 (subst (NoneHolds D) (is-cited p (IlPrem-F.Each how xs body) is) n))
    (index_of how ++ bound) (inside-within bound how xs others t.1))
  where
    tests : (a b d : Bool) (class : Option Class) → (if a && b && d then class else None) ≡ Some c → (b ≡ true) × (d ≡ true) × (class ≡ Some c)
    tests true true true class h = (refl, refl, h)
    tests true true false class h = cc
    tests true false d class h = cc
    tests false b d class h = cc

-- ---- several premises

some_class : (o : Option Class) → is_some o ≡ true → (c : Class) × (o ≡ Some c)
some_class (Some c) h = (c, refl)
some_class None h = cc

pub run_split : (il : Il) (asked : List Name) (before : List IlPrem) (bound : List Name) (p : IlPrem) (after : List IlPrem) → run_on il bound (before ++ p ∷ after) asked ≡ true
    → (c : Class) × (class_of il (bound ++ prems_vars before) p ≡ Some c)
run_split il asked [] bound p after h =
    let found = some_class (class_of il bound p) (and-both (is_some (class_of il bound p)) (run_on il (bound ++ prem_vars p) after asked) h).0 in
    (found.0, subst (λ z. class_of il z p ≡ Some found.0) (sym (append-nil bound)) found.1)
run_split il asked (q ∷ before) bound p after h =
    let more = run_split il asked before (bound ++ prem_vars q) p after (and-both (is_some (class_of il bound q)) (run_on il (bound ++ prem_vars q) (before ++ p ∷ after) asked) h).1 in
    (more.0, subst (λ z. class_of il z p ≡ Some more.0) (append_assoc bound (prem_vars q) (prems_vars before)) more.1)

not_cited : (before : List IlPrem) (p : IlPrem) (after : List IlPrem) → list_all (λ (q : IlPrem). not (cites q)) (before ++ p ∷ after) ≡ true → cites p ≡ false
not_cited [] p after h = not_true (cites p) (and-both (not (cites p)) _ h).0
  where
    not_true : (a : Bool) → not a ≡ true → a ≡ false
    not_true true e = cc
    not_true false e = refl
not_cited (q ∷ before) p after h = not_cited before p after (and-both (not (cites q)) _ h).1

-- as with all premises, so with each
none_holds : (D : Derives) (before : List IlPrem) (p : IlPrem) (after : List IlPrem) → NoneHolds D (not (list_all (λ (q : IlPrem). not (cites q)) (before ++ p ∷ after))) → NoneHolds D (cites p)
none_holds D before p after (inl plain) = inl (not_cited before p after (not_true (list_all (λ (q : IlPrem). not (cites q)) (before ++ p ∷ after)) plain))
  where
    not_true : (a : Bool) → not a ≡ false → a ≡ true
    not_true true e = refl
    not_true false e = cc
none_holds D before p after (inr none) = inr none

-- Premises that are run in this order, and in which no goal holds, can be met in it.
pub can_run : (il : Il) (D : Derives) (ls : List Listed) (heads : List IlExp) (ps : List IlPrem) (asked : List Name) → run_on il (vars_of heads) ps asked ≡ true → All (IsKinded ls) ps
    → NoneHolds D (not (list_all (λ (q : IlPrem). not (cites q)) ps)) → CanRun D ls heads ps
can_run il D ls heads ps asked h kinds plain = record {
  premises = λ before p after e.
      let found = run_split il asked before (vars_of heads) p after (subst (λ z. run_on il (vars_of heads) z asked ≡ true) e h) in
      class_runs il D (All-head (IsKinded ls) p after (All-back (IsKinded ls) before (p ∷ after) (subst (All (IsKinded ls)) e kinds))) (bound_behind heads before) found.0 found.1
      (none_holds D before p after (subst (λ z. NoneHolds D (not (list_all (λ (q : IlPrem). not (cites q)) z))) e plain));
}

first_of_four : (a b c d : Bool) → (a && b && c && d) ≡ true → a ≡ true
first_of_four true b c d h = refl
first_of_four false b c d h = cc

clause_can_run : (il : Il) (c : ClauseDef) → ClauseKeeps il (M3 ∷ M4 ∷ []) c → All (IsKinded c.variables) c.premises → ClauseCanRun c
clause_can_run il c keep kinds =
    let both = keeps_both il c [] keep in (
      first_of_four (list_all is_pattern c.args) (all_known (bound_by c.args) (vars_of c.args)) (list_all (λ (e : IlExp). not (is_doubly_open e)) c.args) (patterns_have_one_open il (vars_of c.args) c.premises) both.1,
      can_run il no_goal c.variables c.args c.premises [] both.0 kinds (inr (λ relation vs d. d)),
    )

all_can_run : (il : Il) (cs : List ClauseDef) → All (ClauseKeeps il (M3 ∷ M4 ∷ [])) cs → All (λ (c : ClauseDef). All (IsKinded c.variables) c.premises) cs → AllCanRun cs
all_can_run il [] keep kinds = tt
all_can_run il (c ∷ cs) keep kinds = (
  clause_can_run il c (All-head (ClauseKeeps il (M3 ∷ M4 ∷ [])) c cs keep) (All-head (λ (c : ClauseDef). All (IsKinded c.variables) c.premises) c cs kinds),
  all_can_run il cs (All-tail (ClauseKeeps il (M3 ∷ M4 ∷ [])) c cs keep) (All-tail (λ (c : ClauseDef). All (IsKinded c.variables) c.premises) c cs kinds),
)

-- the clauses of an internal language that keeps the rules can be met
pub clauses_can_be_run : (il : Il) → ClausesKeep il (M3 ∷ M4 ∷ []) → ClausesAreKinded il → AllCanRun (clauses_in il.defs)
clauses_can_be_run il keep kinds = all_can_run il (clauses_in il.defs) keep kinds
