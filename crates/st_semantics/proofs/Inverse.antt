-- What the parts of an expression come to, where it has a value.
use Rattle.std.proofs.Common.{◌≡◌, refl, sym, ap, subst, List, Option, Some, None, true}
use Rattle.st_il.specs.declared.definition.SyntaxDef.{SyntaxDef}
use Rattle.st_il.specs.declared.expression.IlExp.{IlExp}
use Rattle.st_il.specs.declared.expression.IlPrem.{IlPrem, out-IlPrem}
use Rattle.st_il.specs.declared.expression.IlPrem.TheOpen.{IlPrem-F}
use Rattle.st_il.specs.declared.expression.Iteration.{Iteration}
use Rattle.st_il.specs.declared.value.Env.{Env}
use Rattle.st_il.specs.declared.value.Value.{Value}
use Rattle.st_il.specs.declared.value.Value.TheVariants as value
use Rattle.st_semantics.specs.declared.outcome.Outcome.TheVariants.{Val}
use Rattle.st_semantics.specs.declared.outcome.Outcomes.{Outcomes}
use Rattle.st_semantics.specs.declared.outcome.Outcomes.TheVariants.{Values, Stopped}
use Rattle.st_il.specs.Names.{Name}
use Rattle.st_semantics.specs.Environments.{value_in}
use Rattle.st_semantics.specs.Parts.{Operation, given}
use Rattle.st_semantics.specs.Forms.{HasForm, Strict, Variable, Calls, Iterates}
use Rattle.st_semantics.specs.Iterations.{count_of, spread, Spread, Misfit, Over, gathered}
use Rattle.st_semantics.specs.Evaluation.{Answers, Task, tasks, each_task, applied, Called, Ends, Goes, way, way_over, Gives, GivesAll, strict, variable, call, iteration_ends, iteration}
use Rattle.st_semantics.specs.Holding as h
use Rattle.st_semantics.specs.Holding.{Meaning, value_by, HaveValues, Derives, AreElements, each_instance, Holds, HoldAll}
use Rattle.st_semantics.proofs.Singles.{HasForm-single}
use Rattle.st_semantics.proofs.Values.{have_values, not_value}

-- the elements are those of a spread
over_of : (s : Spread) (envs : List Env) → way_over s ≡ Goes envs → s ≡ Over envs
over_of Misfit envs e = cc
over_of (Over es) envs e = let same : es ≡ envs = cc in ap Over same

ends_none : (s : Spread) (v : Value) → way_over s ≡ Ends (Val v) → ⊥
ends_none Misfit v e = cc
ends_none (Over es) v e = cc

module _ (defs : List SyntaxDef) (C : Answers) where
  -- several expressions of which something was made
  pub values_of_all : (ts : List Task) (r : Outcomes) (f : Operation) (v : Value) → GivesAll defs C ts r → Val v ≡ applied f r → (vs : List Value) × (r ≡ Values vs) × (f vs ≡ Val v)
  values_of_all ts (Values vs) f v all e = (vs, refl, sym e)
  values_of_all ts (Stopped o) f v all e = absurd (not_value defs C ts (Stopped o) v all (ap Stopped (sym e)))

  -- the operands of a strict form have values
  abbrev pub Operands : Env → List IlExp → Operation → Value → Type 0
  Operands env es f v = (vs : List Value) × HaveValues (value_by defs C) (tasks env es) vs × (f vs ≡ Val v)

  operands_by : (env : Env) (es : List IlExp) (f : Operation) (v : Value) (r : Outcomes) → GivesAll defs C (tasks env es) r → Val v ≡ applied f r → Operands env es f v
  operands_by env es f v r all e =
      let w = values_of_all (tasks env es) r f v all e in
      (w.0, have_values defs C (tasks env es) r all w.0 w.1, w.2)

  pub operands : (env : Env) (e : IlExp) (es : List IlExp) (f : Operation) (v : Value) → HasForm defs e (Strict es f) → Gives defs C env e (Val v) → Operands env es f v
  operands env e es f v h (strict es' g r fe all oe) =
      let same = HasForm-single defs e _ _ fe h in
      let ee : es' ≡ es = cc in
      let gg : g ≡ f = cc in
      operands_by env es f v r (subst (λ z. GivesAll defs C (tasks env z) r) ee all) (subst (λ z. Val v ≡ applied z r) gg oe)
  operands env e es f v h (variable x fe oe) = let same = HasForm-single defs e _ _ fe h in cc
  operands env e es f v h (call g es' r fe all c) = let same = HasForm-single defs e _ _ fe h in cc
  operands env e es f v h (iteration_ends k xs body r fe all we) = let same = HasForm-single defs e _ _ fe h in cc
  operands env e es f v h (iteration k xs body r envs s fe all we every oe) = let same = HasForm-single defs e _ _ fe h in cc

  given_is : (o : Option Value) (v : Value) → Val v ≡ given o → o ≡ Some v
  given_is None v e = cc
  given_is (Some w) v e = let same : v ≡ w = cc in ap Some (sym same)

  -- a variable has its value
  pub variable_value : (env : Env) (e : IlExp) (x : Name) (v : Value) → HasForm defs e (Variable x) → Gives defs C env e (Val v) → value_in env x ≡ Some v
  variable_value env e x v h (strict es g r fe all oe) = let same = HasForm-single defs e _ _ fe h in cc
  variable_value env e x v h (variable y fe oe) =
      let same = HasForm-single defs e _ _ fe h in
      let name : y ≡ x = cc in
      given_is (value_in env x) v (subst (λ z. Val v ≡ given (value_in env z)) name oe)
  variable_value env e x v h (call g es r fe all c) = let same = HasForm-single defs e _ _ fe h in cc
  variable_value env e x v h (iteration_ends k xs body r fe all we) = let same = HasForm-single defs e _ _ fe h in cc
  variable_value env e x v h (iteration k xs body r envs s fe all we every oe) = let same = HasForm-single defs e _ _ fe h in cc

  -- a call comes to its value with the values of its arguments
  called_by : (ts : List Task) (fun : Name) (r : Outcomes) (v : Value) → GivesAll defs C ts r → Called C fun r (Val v) → (vs : List Value) × C fun vs (Val v)
  called_by ts fun (Values vs) v all c = (vs, c)
  called_by ts fun (Stopped o) v all c = absurd (not_value defs C ts (Stopped o) v all (ap Stopped (sym c)))

  pub called_value : (env : Env) (e : IlExp) (fun : Name) (args : List IlExp) (v : Value) → HasForm defs e (Calls fun args) → Gives defs C env e (Val v) → (vs : List Value) × C fun vs (Val v)
  called_value env e fun args v h (strict es g r fe all oe) = let same = HasForm-single defs e _ _ fe h in cc
  called_value env e fun args v h (variable y fe oe) = let same = HasForm-single defs e _ _ fe h in cc
  called_value env e fun args v h (call g es r fe all c) =
      let same = HasForm-single defs e _ _ fe h in
      let name : g ≡ fun = cc in
      called_by (tasks env es) fun r v all (subst (λ z. Called C z r (Val v)) name c)
  called_value env e fun args v h (iteration_ends k ys g r fe all we) = let same = HasForm-single defs e _ _ fe h in cc
  called_value env e fun args v h (iteration k ys g r envs s fe all we every oe) = let same = HasForm-single defs e _ _ fe h in cc

  -- an iteration has its elements, and its body a value at each
  pub record Elements (env : Env) (k : Iteration) (xs : List Name) (body : IlExp) (v : Value) : Type 0 where
    pub count : List Value
    pub envs : List Env
    pub values : List Value
    pub counted : HaveValues (value_by defs C) (tasks env (count_of k)) count
    pub over : spread k xs env count ≡ Over envs
    pub each : HaveValues (value_by defs C) (each_task envs body) values
    pub makes : gathered k values ≡ Val v

  pub way_values : (k : Iteration) (xs : List Name) (env : Env) (r : Outcomes) (envs : List Env) → GivesAll defs C (tasks env (count_of k)) r → way k xs env r ≡ Goes envs
      → (count : List Value) × (r ≡ Values count) × (spread k xs env count ≡ Over envs)
  way_values k xs env (Values count) envs all e = (count, refl, over_of (spread k xs env count) envs e)
  way_values k xs env (Stopped o) envs all e = cc

  way_no_value : (k : Iteration) (xs : List Name) (env : Env) (r : Outcomes) (v : Value) → GivesAll defs C (tasks env (count_of k)) r → way k xs env r ≡ Ends (Val v) → ⊥
  way_no_value k xs env (Values count) v all e = ends_none (spread k xs env count) v e
  way_no_value k xs env (Stopped o) v all e = let same : o ≡ Val v = cc in not_value defs C (tasks env (count_of k)) (Stopped o) v all (ap Stopped same)

  abbrev pub elements_of : (env : Env) (k : Iteration) (xs : List Name) (body : IlExp) (v : Value) (r s : Outcomes) (envs : List Env) → GivesAll defs C (tasks env (count_of k)) r → way k xs env r ≡ Goes envs
      → GivesAll defs C (each_task envs body) s → Val v ≡ applied (gathered k) s → Elements env k xs body v
  elements_of env k xs body v r s envs all we every oe =
      let c = way_values k xs env r envs all we in
      let w = values_of_all (each_task envs body) s (gathered k) v every oe in
      record {
        count = c.0;
        envs = envs;
        values = w.0;
        counted = have_values defs C (tasks env (count_of k)) r all c.0 c.1;
        over = c.2;
        each = have_values defs C (each_task envs body) s every w.0 w.1;
        makes = w.2;
      }

  pub elements_in : (env : Env) (e : IlExp) (k : Iteration) (xs : List Name) (body : IlExp) (v : Value) → HasForm defs e (Iterates k xs body) → Gives defs C env e (Val v) → Elements env k xs body v
  elements_in env e k xs body v h (strict es g r fe all oe) = let same = HasForm-single defs e _ _ fe h in cc
  elements_in env e k xs body v h (variable y fe oe) = let same = HasForm-single defs e _ _ fe h in cc
  elements_in env e k xs body v h (call g es r fe all c) = let same = HasForm-single defs e _ _ fe h in cc
  elements_in env e k xs body v h (iteration_ends k' ys g r fe all we) = absurd (way_no_value k' ys env r v all we)
  elements_in env e k xs body v h (iteration k' ys g r envs s fe all we every oe) =
      let same = HasForm-single defs e _ _ fe h in
      let kk : k' ≡ k = cc in
      let xx : ys ≡ xs = cc in
      let bb : g ≡ body = cc in
      subst (λ z. Elements env k xs z v) bb (subst (λ z. Elements env k z g v) xx (subst (λ z. Elements env z ys g v) kk (elements_of env k' ys g v r s envs all we every oe)))

  pub not_ended : (env : Env) (k : Iteration) (xs : List Name) (r : Outcomes) (v : Value) → GivesAll defs C (tasks env (count_of k)) r → way k xs env r ≡ Ends (Val v) → ⊥
  not_ended env k xs r v all we = way_no_value k xs env r v all we

-- ---- premises that hold

module _ (V : Meaning) (O : Type 0) (D : Derives) where
  pub holds_condition : (env : Env) (p : IlPrem) (e : IlExp) → Holds V O D env p → out-IlPrem p ≡ IlPrem-F.If e → V env e (value.Bool true)
  holds_condition env p e (h.condition e' eq g) k = let same : e' ≡ e = cc in subst (λ z. V env z (value.Bool true)) same g
  holds_condition env p e (h.otherwise eq o) k = cc
  holds_condition env p e (h.goal r es xs eq hv d) k = cc
  holds_condition env p e (h.each i xs body envs eq el all) k = cc

  -- a goal holds only where it is derived
  pub holds_goal : (env : Env) (p : IlPrem) (relation : Name) (es : List IlExp) → Holds V O D env p → out-IlPrem p ≡ IlPrem-F.Goal relation es → (vs : List Value) × D relation vs
  holds_goal env p relation es (h.condition e eq g) k = cc
  holds_goal env p relation es (h.otherwise eq o) k = cc
  holds_goal env p relation es (h.goal r gs xs eq hv d) k = let same : r ≡ relation = cc in (xs, subst (λ z. D z xs) same d)
  holds_goal env p relation es (h.each i xs body envs eq el all) k = cc

  abbrev pub EachHolds : Env → Iteration → List Name → IlPrem → Type 0
  EachHolds env k xs body = (envs : List Env) × AreElements V k xs env envs × HoldAll V O D (each_instance envs body)

  pub holds_each : (env : Env) (p : IlPrem) (k : Iteration) (xs : List Name) (body : IlPrem) → Holds V O D env p → out-IlPrem p ≡ IlPrem-F.Each k xs body → EachHolds env k xs body
  holds_each env p k xs body (h.condition e eq g) i = cc
  holds_each env p k xs body (h.otherwise eq o) i = cc
  holds_each env p k xs body (h.goal r es zs eq hv d) i = cc
  holds_each env p k xs body (h.each k' xs' body' envs eq el all) i =
      let kk : k' ≡ k = cc in
      let xx : xs' ≡ xs = cc in
      let bb : body' ≡ body = cc in
      subst (EachHolds env k xs) bb (subst (λ z. EachHolds env k z body') xx (subst (λ z. EachHolds env z xs' body') kk (envs, el, all)))
