-- Outcomes, built form by form, and one after another.
use Rattle.std.proofs.Common.{◌≡◌, ℕ, zero, suc, ◌+◌, ◌-◌, ◌<◌, ◌≤◌, refl, sym, ◌∙◌, ap, subst, List, [], ◌∷◌, ◌++◌, drop, length, get_or, arith, add-one, drop-cons, append_assoc}
use Rattle.std.proofs.lemmas.List.{drop_all}
use Rattle.std.specs.Borrow.{Bor}
use Rattle.st_il.specs.declared.definition.SyntaxDef.{SyntaxDef}
use Rattle.st_il.specs.declared.expression.IlExp.{IlExp, out-IlExp}
use Rattle.st_il.specs.declared.expression.IlExp.TheOpen.{IlExp-F}
use Rattle.st_il.specs.declared.expression.Iteration.{Iteration}
use Rattle.st_il.specs.declared.value.Env.{Env}
use Rattle.st_il.specs.declared.value.Value.{Value}
use Rattle.st_semantics.specs.declared.outcome.Outcome.{Outcome}
use Rattle.st_semantics.specs.declared.outcome.Outcome.TheVariants.{Val, NoValue}
use Rattle.st_semantics.specs.declared.outcome.Outcomes.{Outcomes}
use Rattle.st_semantics.specs.declared.outcome.Outcomes.TheVariants.{Values, Stopped}
use Rattle.st_il.specs.Names.{Name}
use Rattle.st_semantics.specs.Environments.{Entry, value_in}
use Rattle.st_semantics.specs.Operands.{operands_at, item_exp, segment_exps}
use Rattle.st_semantics.specs.Parts.{Operation, given}
use Rattle.st_semantics.specs.Forms.{Strict, Iterates, form_at, HasForm, by_itself}
use Rattle.st_semantics.specs.Formed.{IsFormed}
use Rattle.st_semantics.specs.Iterations.{Column, count_of, heads, tails, bound_to, counted_to, rows, spread, Misfit, Over, gathered}
use Rattle.st_semantics.specs.Evaluation.{Answers, Task, tasks, each_task, then_all, applied, Stops, Called, way_over, Gives, GivesAll, strict, variable, call, iteration_ends, iteration, none, stop, next}
use Rattle.st_match.specs.inner.Prefix.{behind_values}
use Rattle.st_match.specs.declared.scope.Bound.{Bound}
use Rattle.st_match.specs.inner.Scope.{scope_env, entries_of, columns_from}
use Rattle.st_semantics.specs.References.{exps_now}
use Rattle.st_match.proofs.FormLevels.{IsPlain, plain_strict}

pub behind_values-then : (xs : List Value) (v : Value) (r : Outcomes) → behind_values xs (then_all v r) ≡ behind_values (xs ++ v ∷ []) r
behind_values-then xs v (Values ys) = ap Values (sym (append_assoc xs (v ∷ []) ys))
behind_values-then xs v (Stopped o) = refl

pub behind_values-none : (r : Outcomes) → behind_values [] r ≡ r
behind_values-none (Values ys) = refl
behind_values-none (Stopped o) = refl

-- the first of the expressions that are left
exps_now-drop : (es : List (Bor IlExp)) (i : ℕ) (x : Bor IlExp) → i < length es → x ≡ get_or es i x → exps_now (drop i es) ≡ x.now ∷ exps_now (drop (i + 1) es)
exps_now-drop es i x h is =
    ap exps_now (drop-cons es i x h ∙ (ap (λ z. z ∷ drop (suc i) es) (sym is) ∙ ap (λ n. x ∷ drop n es) (sym (add-one i))))

-- ---- the columns of an iteration, one element further

drop-suc : (k : ℕ) (c : Column) → drop 1 (drop k c) ≡ drop (suc k) c
drop-suc zero c = refl
drop-suc (suc k) [] = refl
drop-suc (suc k) (v ∷ vs) = drop-suc k vs

tails-first : (c : Column) (cs : List Column) → tails (c ∷ cs) ≡ drop 1 c ∷ tails cs
tails-first [] cs = refl
tails-first (v ∷ vs) cs = refl

tails-from : (k : ℕ) (cs : List Column) → tails (columns_from k cs) ≡ columns_from (k + 1) cs
tails-from k [] = refl
tails-from k (c ∷ cs) =
    tails-first (drop k c) (columns_from k cs)
    ∙ (ap (λ z. z ∷ tails (columns_from k cs)) (drop-suc k c ∙ ap (λ n. drop n c) (sym (add-one k))) ∙ ap (λ z. drop (k + 1) c ∷ z) (tails-from k cs))

pub columns_from-all : (cs : List Column) → columns_from 0 cs ≡ cs
columns_from-all [] = refl
columns_from-all (c ∷ cs) = ap (λ z. c ∷ z) (columns_from-all cs)

module _ (index : List Name) (xs : List Name) (env : List Entry) (cs : List Column) where
  -- the environment of an element
  abbrev pub row_at : ℕ → Env
  row_at k = record { entries = counted_to index k (bound_to xs (heads (columns_from k cs)) env) }

  -- the environments from an element on
  abbrev pub rows_left : ℕ → ℕ → List Env
  rows_left size k = rows index xs env (size - k) k (columns_from k cs)

  rows_left-first : (size k : ℕ) → k < size → rows_left size k ≡ row_at k ∷ rows_left size (k + 1)
  rows_left-first size k h =
      let one : size - k ≡ suc (size - (k + 1)) = omega arith in
      ap (λ n. rows index xs env n k (columns_from k cs)) one
      ∙ ap (λ z. row_at k ∷ rows index xs env (size - (k + 1)) (k + 1) z) (tails-from k cs)

  rows_left-end : (size k : ℕ) → size ≤ k → rows_left size k ≡ []
  rows_left-end size k h =
      let none_left : size - k ≡ 0 = omega arith in
      ap (λ n. rows index xs env n k (columns_from k cs)) none_left

  pub rows_left-all : (size : ℕ) → rows_left size 0 ≡ rows index xs env size 0 cs
  rows_left-all size =
      let whole : size - 0 ≡ size = omega arith in
      ap (λ n. rows index xs env n 0 (columns_from 0 cs)) whole ∙ ap (λ z. rows index xs env size 0 z) (columns_from-all cs)

module _ (defs : List SyntaxDef) (C : Answers) where
  -- ---- forms

  pub gives_strict : (env : Env) (e : IlExp) (r : Outcomes) (o : Outcome) → IsFormed defs e → IsPlain defs e
      → GivesAll defs C (tasks env (operands_at item_exp segment_exps (out-IlExp e))) r
      → ((es : List IlExp) (f : Operation) → HasForm defs e (Strict es f) → o ≡ applied f r) → Gives defs C env e o
  gives_strict env e r o is plain all op =
      let s = plain_strict defs e is plain in
      strict (operands_at item_exp segment_exps (out-IlExp e)) s.operation r s.form all (op (operands_at item_exp segment_exps (out-IlExp e)) s.operation s.form)

  pub gives_variable : (env : Env) (e : IlExp) (x : Name) (o : Outcome) → out-IlExp e ≡ IlExp-F.Var x → o ≡ given (value_in env x) → Gives defs C env e o
  gives_variable env e x o is k = variable x (by_itself (ap form_at is)) k

  pub gives_call : (env : Env) (e : IlExp) (fun : Name) (args : List IlExp) (r : Outcomes) (o : Outcome) → out-IlExp e ≡ IlExp-F.Call fun args
      → GivesAll defs C (tasks env args) r → Called C fun r o → Gives defs C env e o
  gives_call env e fun args r o is all c = call fun args r (by_itself (ap form_at is)) all c

  module _ (env : Env) (how : Iteration) (xs : List Name) (body : IlExp) where
    -- what an iteration with this body comes to
    abbrev pub Iterated : Outcome → Type 0
    Iterated o = (e : IlExp) → HasForm defs e (Iterates how xs body) → Gives defs C env e o

    pub iterated_stopped : (o : Outcome) → GivesAll defs C (tasks env (count_of how)) (Stopped o) → Iterated o
    iterated_stopped o all e h = iteration_ends how xs body (Stopped o) h all refl

    pub iterated_misfit : (count : List Value) → GivesAll defs C (tasks env (count_of how)) (Values count) → spread how xs env count ≡ Misfit → Iterated NoValue
    iterated_misfit count all m e h = iteration_ends how xs body (Values count) h all (ap way_over m)

    pub iterated_over : (count : List Value) (envs : List Env) (s : Outcomes) (o : Outcome) → GivesAll defs C (tasks env (count_of how)) (Values count) → spread how xs env count ≡ Over envs
        → GivesAll defs C (each_task envs body) s → o ≡ applied (gathered how) s → Iterated o
    iterated_over count envs s o all m every k e h = iteration how xs body (Values count) envs s h all (ap way_over m) every k

  -- ---- one after another

  pub moved_all : {ts us : List Task} {r s : Outcomes} → ts ≡ us → r ≡ s → GivesAll defs C ts r → GivesAll defs C us s
  moved_all {us = us} {r = r} p q g = subst (GivesAll defs C us) q (subst (λ z. GivesAll defs C z r) p g)

  pub outcomes_start : (env : Env) (es : List (Bor IlExp)) (vs : List Value) (r : Outcomes) → vs ≡ []
      → GivesAll defs C (tasks env (exps_now es)) r → GivesAll defs C (tasks env (exps_now es)) (behind_values vs r)
  outcomes_start env es vs r empty all = moved_all refl (sym (behind_values-none r) ∙ ap (λ z. behind_values z r) (sym empty)) all

  pub outcomes_next : (env : Env) (es : List (Bor IlExp)) (i : ℕ) (x : Bor IlExp) (v : Value) (r : Outcomes) → i < length es → x ≡ get_or es i x
      → Gives defs C env x.now (Val v) → GivesAll defs C (tasks env (exps_now (drop (i + 1) es))) r → GivesAll defs C (tasks env (exps_now (drop i es))) (then_all v r)
  outcomes_next env es i x v r h is g all = subst (λ ts. GivesAll defs C (tasks env ts) (then_all v r)) (sym (exps_now-drop es i x h is)) (next v r g all refl)

  pub outcomes_stop : (env : Env) (es : List (Bor IlExp)) (i : ℕ) (x : Bor IlExp) (o : Outcome) → i < length es → x ≡ get_or es i x → Stops o
      → Gives defs C env x.now o → GivesAll defs C (tasks env (exps_now (drop i es))) (Stopped o)
  outcomes_stop env es i x o h is bad g = subst (λ ts. GivesAll defs C (tasks env ts) (Stopped o)) (sym (exps_now-drop es i x h is)) (stop o g bad refl)

  pub outcomes_end : (env : Env) (es : List (Bor IlExp)) (i : ℕ) → length es ≤ i → GivesAll defs C (tasks env (exps_now (drop i es))) (Values [])
  outcomes_end env es i h = subst (λ z. GivesAll defs C (tasks env (exps_now z)) (Values [])) (sym (drop_all i es h)) (none refl)

  module _ (index : List Name) (xs : List Name) (env : List Entry) (cs : List Column) (body : IlExp) where
    pub elements_start : (size : ℕ) (vs : List Value) (r : Outcomes) → vs ≡ [] → GivesAll defs C (each_task (rows_left index xs env cs size 0) body) r
        → GivesAll defs C (each_task (rows index xs env size 0 cs) body) (behind_values vs r)
    elements_start size vs r empty all =
        moved_all (ap (λ envs. each_task envs body) (rows_left-all index xs env cs size)) (sym (behind_values-none r) ∙ ap (λ z. behind_values z r) (sym empty)) all

    -- what the body comes to where the variables of an element are bound
    pub at_row : (bs : List Bound) (k : ℕ) (o p : Outcome) → entries_of bs ≡ counted_to index k (bound_to xs (heads (columns_from k cs)) env) → o ≡ p
        → Gives defs C (scope_env bs) body o → Gives defs C (row_at index xs env cs k) body p
    at_row bs k o p e q g = subst (λ (z : List Entry). Gives defs C (record { entries = z }) body p) e (subst (Gives defs C (scope_env bs) body) q g)

    pub elements_next : (size k : ℕ) (v : Value) (r : Outcomes) → k < size → Gives defs C (row_at index xs env cs k) body (Val v)
        → GivesAll defs C (each_task (rows_left index xs env cs size (k + 1)) body) r → GivesAll defs C (each_task (rows_left index xs env cs size k) body) (then_all v r)
    elements_next size k v r h g all =
        subst (λ envs. GivesAll defs C (each_task envs body) (then_all v r)) (sym (rows_left-first index xs env cs size k h)) (next v r g all refl)

    pub elements_stop : (size k : ℕ) (o : Outcome) → k < size → Stops o → Gives defs C (row_at index xs env cs k) body o
        → GivesAll defs C (each_task (rows_left index xs env cs size k) body) (Stopped o)
    elements_stop size k o h bad g =
        subst (λ envs. GivesAll defs C (each_task envs body) (Stopped o)) (sym (rows_left-first index xs env cs size k h)) (stop o g bad refl)

    pub elements_end : (size k : ℕ) → size ≤ k → GivesAll defs C (each_task (rows_left index xs env cs size k) body) (Values [])
    elements_end size k h =
        subst (λ envs. GivesAll defs C (each_task envs body) (Values [])) (sym (rows_left-end index xs env cs size k h)) (none refl)
