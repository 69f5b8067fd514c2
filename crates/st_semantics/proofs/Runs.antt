-- When a premise can be met with some variables bound: what M3 and M4 give, as far as depths need it.
-- A goal may stand in it where none of its relation holds.
use Rattle.std.proofs.Common.{◌≡◌, refl, sym, ◌∙◌, ap, subst, List, [], ◌∷◌, ◌++◌, ◌⊎◌, inl, inr, Bool, true, false, ◌&&◌, if◌then◌else◌, Some, filter}
use Rattle.std.specs.List.{list_all}
use Rattle.std.proofs.lemmas.List.Folds.{list_all-append}
use Rattle.st_il.specs.declared.definition.Listed.{Listed}
use Rattle.st_il.specs.declared.definition.SyntaxDef.{SyntaxDef}
use Rattle.st_il.specs.declared.expression.IlExp.{IlExp, out-IlExp}
use Rattle.st_il.specs.declared.expression.IlExp.TheOpen.{IlExp-F}
use Rattle.st_il.specs.declared.expression.IlPrem.{IlPrem, out-IlPrem}
use Rattle.st_il.specs.declared.expression.IlPrem.TheOpen.{IlPrem-F}
use Rattle.st_il.specs.declared.expression.Iteration.{Iteration}
use Rattle.st_il.specs.declared.value.Value.{Value}
use Rattle.st_il.specs.Names.{Name, has_name, all_known}
use Rattle.st_semantics.specs.Iterations.{count_of, index_of}
use Rattle.st_semantics.specs.Scopes.{listed_inside}
use Rattle.st_semantics.specs.Variables.{vars, vars_of}
use Rattle.st_semantics.specs.Patterns.{is_pattern}
use Rattle.st_semantics.specs.Depth.{evaluated, side_at}
use Rattle.st_semantics.specs.Holding.{Derives}
use Rattle.st_semantics.specs.Forms.{HasForm, Strict}
use Rattle.st_semantics.specs.Parts.{Operation}
use Rattle.st_semantics.specs.Kinds.{AreOfItsKind}
use Rattle.st_semantics.proofs.Names.{and-both, vars-form}

-- the count of an iteration is bound, or it is a pattern
abbrev pub CountRuns : List Name → Iteration → Type 0
CountRuns bound how = (all_known bound (vars_of (count_of how)) ≡ true) ⊎ (list_all is_pattern (count_of how) ≡ true)

pub data Runs (D : Derives) : List Name → List Listed → IlPrem → Type 0 where
  test : {bound : List Name} {ls : List Listed} {p : IlPrem} (e : IlExp) → out-IlPrem p ≡ IlPrem-F.If e → all_known bound (vars e) ≡ true → Runs D bound ls p
  left : {bound : List Name} {ls : List Listed} {p : IlPrem} (e a b : IlExp) → out-IlPrem p ≡ IlPrem-F.If e → out-IlExp e ≡ IlExp-F.Eq a b → all_known bound (vars a) ≡ true
      → is_pattern b ≡ true → Runs D bound ls p
  right : {bound : List Name} {ls : List Listed} {p : IlPrem} (e a b : IlExp) → out-IlPrem p ≡ IlPrem-F.If e → out-IlExp e ≡ IlExp-F.Eq a b → all_known bound (vars b) ≡ true
      → is_pattern a ≡ true → Runs D bound ls p
  otherwise : {bound : List Name} {ls : List Listed} {p : IlPrem} → out-IlPrem p ≡ IlPrem-F.Otherwise → Runs D bound ls p
  goal : {bound : List Name} {ls : List Listed} {p : IlPrem} (relation : Name) (es : List IlExp) → out-IlPrem p ≡ IlPrem-F.Goal relation es → ((vs : List Value) → D relation vs → ⊥) → Runs D bound ls p
  each : {bound : List Name} {ls : List Listed} {p : IlPrem} (how : Iteration) (xs : List Name) (body : IlPrem) → out-IlPrem p ≡ IlPrem-F.Each how xs body
      → CountRuns bound how → AreOfItsKind how xs ls → Runs D (index_of how ++ bound) (listed_inside how xs ls) body → Runs D bound ls p

-- how a condition can be met
abbrev pub ConditionRuns : List Name → IlExp → Type 0
ConditionRuns bound e =
    (all_known bound (vars e) ≡ true)
    ⊎ ((a : IlExp) × (b : IlExp) × (out-IlExp e ≡ IlExp-F.Eq a b) × (all_known bound (vars a) ≡ true) × (is_pattern b ≡ true))
    ⊎ ((a : IlExp) × (b : IlExp) × (out-IlExp e ≡ IlExp-F.Eq a b) × (all_known bound (vars b) ≡ true) × (is_pattern a ≡ true))

pub condition_runs : {D : Derives} {bound : List Name} {ls : List Listed} {p : IlPrem} → Runs D bound ls p → (e : IlExp) → out-IlPrem p ≡ IlPrem-F.If e → ConditionRuns bound e
condition_runs {bound = bound} (test e' eq k) e h = let same : e' ≡ e = cc in subst (ConditionRuns bound) same (inl k)
condition_runs {bound = bound} (left e' a b eq o k f) e h = let same : e' ≡ e = cc in subst (ConditionRuns bound) same (inr (inl (a, b, o, k, f)))
condition_runs {bound = bound} (right e' a b eq o k f) e h = let same : e' ≡ e = cc in subst (ConditionRuns bound) same (inr (inr (a, b, o, k, f)))
condition_runs (otherwise eq) e h = cc
condition_runs (goal r es eq none) e h = cc
condition_runs (each k xs body eq c s r) e h = cc

-- a goal in it does not hold
pub no_goal_runs : {D : Derives} {bound : List Name} {ls : List Listed} {p : IlPrem} → Runs D bound ls p → (relation : Name) (es : List IlExp) → out-IlPrem p ≡ IlPrem-F.Goal relation es → (vs : List Value) → D relation vs → ⊥
no_goal_runs (test e' eq k) r es h vs d = cc
no_goal_runs (left e' a b eq o k f) r es h vs d = cc
no_goal_runs (right e' a b eq o k f) r es h vs d = cc
no_goal_runs (otherwise eq) r es h vs d = cc
no_goal_runs {D = D} (goal r' es' eq none) r es h vs d = let same : r' ≡ r = cc in none vs (subst (λ z. D z vs) (sym same) d)
no_goal_runs (each k xs body eq c s rs) r es h vs d = cc

abbrev pub EachRuns : Derives → List Name → List Listed → Iteration → List Name → IlPrem → Type 0
EachRuns D bound ls k xs body = CountRuns bound k × AreOfItsKind k xs ls × Runs D (index_of k ++ bound) (listed_inside k xs ls) body

pub each_runs : {D : Derives} {bound : List Name} {ls : List Listed} {p : IlPrem} → Runs D bound ls p → (k : Iteration) (xs : List Name) (body : IlPrem) → out-IlPrem p ≡ IlPrem-F.Each k xs body → EachRuns D bound ls k xs body
each_runs (test e' eq known) k xs body h = cc
each_runs (left e' a b eq o known f) k xs body h = cc
each_runs (right e' a b eq o known f) k xs body h = cc
each_runs (otherwise eq) k xs body h = cc
each_runs (goal r es eq none) k xs body h = cc
each_runs {D = D} {bound = bound} {ls = ls} (each k' xs' body' eq c s r) k xs body h =
    let kk : k' ≡ k = cc in
    let xx : xs' ≡ xs = cc in
    let bb : body' ≡ body = cc in
    subst (EachRuns D bound ls k xs) bb (subst (λ z. EachRuns D bound ls k z body') xx (subst (λ z. EachRuns D bound ls z xs' body') kk (c, s, r)))

-- ---- the side that is evaluated

pub evaluated_whole : (bound : List Name) (e : IlExp) → all_known bound (vars e) ≡ true → evaluated bound e ≡ Some e
evaluated_whole bound e k = ap (λ z. if z then Some e else side_at bound (out-IlExp e)) k

pub evaluated_side : (bound : List Name) (e : IlExp) → all_known bound (vars e) ≡ false → evaluated bound e ≡ side_at bound (out-IlExp e)
evaluated_side bound e k = ap (λ z. if z then Some e else side_at bound (out-IlExp e)) k

joint : (a b : Bool) → a ≡ true → b ≡ true → (a && b) ≡ true
joint true b p q = q
joint false b p q = cc

pub known_both : (defs : List SyntaxDef) (bound : List Name) (e a b : IlExp) (f : Operation) → HasForm defs e (Strict (a ∷ b ∷ []) f) → all_known bound (vars a) ≡ true → all_known bound (vars b) ≡ true → all_known bound (vars e) ≡ true
known_both defs bound e a b f h p q =
    ap (all_known bound) (vars-form defs e (Strict (a ∷ b ∷ []) f) h) ∙ (list_all-append (has_name bound) (vars a) (vars b ++ [])
    ∙ joint (all_known bound (vars a)) (all_known bound (vars b ++ [])) p (list_all-append (has_name bound) (vars b) [] ∙ joint (all_known bound (vars b)) true q refl))

pub known_count : (bound : List Name) (es : List IlExp) → all_known bound (vars_of es) ≡ true → filter (λ (e : IlExp). all_known bound (vars e)) es ≡ es
known_count bound [] h = refl
known_count bound (e ∷ es) h =
    let b : (all_known bound (vars e) ≡ true) × (all_known bound (vars_of es) ≡ true) =
    and-both (all_known bound (vars e)) (all_known bound (vars_of es)) (sym (list_all-append (has_name bound) (vars e) (vars_of es)) ∙ h) in
    ap (λ z. if z then e ∷ filter (λ (e' : IlExp). all_known bound (vars e')) es else filter (λ (e' : IlExp). all_known bound (vars e')) es) b.0 ∙ ap (λ z. e ∷ z) (known_count bound es b.1)
