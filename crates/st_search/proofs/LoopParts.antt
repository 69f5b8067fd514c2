-- Iterated premises that can be run: what is bound of them, what they ask, what stands for them, and
-- that lists are the same whose elements are.
use Rattle.std.proofs.Common.{◌≡◌, ℕ, zero, refl, sym, ◌∙◌, ap, subst, List, [], ◌∷◌, ◌++◌, inl, inr, Bool, true, false, Some, append-nil, bytes_eq}
use Rattle.std.specs.List.{list_all, list_any}
use Rattle.st_il.specs.declared.definition.Il.{Il}
use Rattle.st_il.specs.declared.definition.Listed.{Listed}
use Rattle.st_il.specs.declared.expression.IlExp.{IlExp, out-IlExp}
use Rattle.st_il.specs.declared.expression.IlExp.TheOpen.{IlExp-F}
use Rattle.st_il.specs.declared.expression.Iteration.{Iteration}
use Rattle.st_il.specs.declared.expression.ListItem.{ListItem}
use Rattle.st_il.specs.declared.expression.PathSeg.{PathSeg}
use Rattle.st_il.specs.declared.expression.IlPrem.{IlPrem, out-IlPrem}
use Rattle.st_il.specs.declared.expression.IlPrem.TheOpen.{IlPrem-F}
use Rattle.st_il.specs.declared.tree.Child.{Child}
use Rattle.st_il.specs.declared.value.Env.{Env}
use Rattle.st_il.specs.declared.value.Value.{Value}
use Rattle.st_semantics.specs.declared.outcome.Outcome.{Outcome}
use Rattle.st_semantics.specs.declared.outcome.Outcome.TheVariants.{NoValue}
use Rattle.st_semantics.specs.declared.outcome.Outcomes.{Outcomes}
use Rattle.st_semantics.specs.declared.outcome.Outcomes.TheVariants.{Values, Stopped}
use Rattle.st_il.specs.Names.{Name, has_name, all_known, without}
use Rattle.st_il.specs.Definitions.{syntaxes}
use Rattle.st_semantics.specs.Environments.{value_in, AgreeOn}
use Rattle.st_semantics.specs.Parts.{given}
use Rattle.st_semantics.specs.Forms.{form_at, HasForm, Variable, by_itself}
use Rattle.st_semantics.specs.Iterations.{count_of, index_of}
use Rattle.st_semantics.specs.Scopes.{listed_inside}
use Rattle.st_semantics.specs.Evaluation.{Task, Gives, GivesAll, none, stop, next, then_all, variable}
use Rattle.st_semantics.specs.Variables.{vars, vars_of, prem_vars, cites}
use Rattle.st_semantics.specs.Holding as h
use Rattle.st_semantics.specs.Holding.{Meaning, HaveValues, AreElements, Holds, HoldAll, each_instance}
use Rattle.st_semantics.specs.Depth.{Setting, Passed, Unfolds}
use Rattle.st_semantics.specs.Calls.{CallAt, no_goal, has_value}
use Rattle.st_semantics.specs.Derivation.{Root, Exclusion, Proved, plain, goal, each}
use Rattle.st_semantics.specs.Goals.{Goal}
use Rattle.st_semantics.specs.Chains.{Reaches}
use Rattle.st_semantics.specs.Chains as chain
use Rattle.st_semantics.specs.Laws.{IsStable, CallsAreSingle}
use Rattle.st_semantics.specs.Executable.{is_anchored, is_countable, is_variable_at}
use Rattle.st_semantics.proofs.Names.{and-both, or-cases, or-left, or-right, bytes-same, known-within, prem-level, vars-form, without-other}
use Rattle.st_semantics.proofs.Agree.{EnvsAgree}
use Rattle.st_semantics.proofs.Acceptance.{cites-level}
use Rattle.st_semantics.proofs.Bindings.{IsReached, EachBinds}
use Rattle.st_semantics.proofs.CanRun.{IsShort, count_short}
use Rattle.st_semantics.proofs.Choice.{agree_both}
use Rattle.st_semantics.proofs.Columns.{list_agrees, counts_same}
use Rattle.st_semantics.proofs.Inverse.{variable_value}
use Rattle.st_semantics.proofs.PatternValues.{one_name}
use Rattle.st_semantics.proofs.Premises.{without-parts}
use Rattle.st_algo.specs.declared.algorithm.AlgoStep.{AlgoStep, out-AlgoStep, map-AlgoStep, fold_out-AlgoStep}
use Rattle.st_algo.specs.declared.algorithm.AlgoStep.TheOpen.{AlgoStep-F}
use Rattle.st_eval.proofs.Unfolded.{IsUnfolded, IsPlain, one_value}
use Rattle.st_search.specs.inner.Asking.{AsksGoal}
use Rattle.st_search.specs.inner.RunBy as run
use Rattle.st_search.specs.inner.RunBy.{IsIterated, IsRunBy}
use Rattle.st_search.specs.inner.Walks.{AllAgreeOn, asks_at, step_asks}
use Rattle.st_search.proofs.Values.{value-local, value-single, no_value}

-- ---- what is bound

any_name : (bound xs : List Name) → list_any (has_name bound) xs ≡ true → (x : Name) × (has_name xs x ≡ true) × (has_name bound x ≡ true)
any_name bound [] h = cc
any_name bound (x ∷ xs) h = elim (or-cases (has_name bound x) (list_any (has_name bound) xs) h) [
  | inl first ↦ (x, or-left (bytes_eq x x) (has_name xs x) (bytes-same x), first)
  | inr later ↦ (let more = any_name bound xs later in (more.0, or-right (bytes_eq more.0 x) (has_name xs more.0) more.1, more.2))
]

any_count : (bound : List Name) (es : List IlExp) → IsShort es → list_any (λ (e : IlExp). all_known bound (vars e)) es ≡ true → (e : IlExp) × (es ≡ e ∷ []) × (all_known bound (vars e) ≡ true)
any_count bound [] s h = cc
any_count bound (e ∷ g ∷ more) s h = absurd s
any_count bound (e ∷ []) s h = elim (or-cases (all_known bound (vars e)) false h) [ inl k ↦ (e, refl, k) | inr bad ↦ cc ]

reached_by : (bound : List Name) (how : Iteration) (xs : List Name) → is_anchored bound how xs ≡ true → IsReached bound how xs
reached_by bound how xs h = elim (or-cases (list_any (has_name bound) xs) (list_any (λ (e : IlExp). all_known bound (vars e)) (count_of how)) h) [
  | inl names ↦ inl (any_name bound xs names)
  | inr count ↦ inr (any_count bound (count_of how) (count_short how) count)
]

-- an iterated premise that can be run can be unfolded
pub unfolded_by : (il : Il) (bound : List Name) (ls : List Listed) (p : IlPrem) (how : Iteration) (xs : List Name) (body : IlPrem) → IsIterated il bound ls p how xs body → IsUnfolded bound ls p how xs body
unfolded_by il bound ls p how xs body i = record {
  is = i.is;
  binds = record { reached = reached_by bound how xs i.anchored; counted = i.countable; own = i.own; others = i.others };
  listed = i.listed;
  apart = i.apart;
}

-- what has a value at some depth has one value, by its variables
pub plain_some : (il : Il) → IsStable il → CallsAreSingle il → IsPlain (has_value il)
plain_some il stable single = record {
  local = value-local il;
  single = value-single il stable single;
  named = λ env e x v is at. (zero, variable x (by_itself (ap form_at is)) (sym (ap given at)));
}

-- ---- environments that agree one by one

pub agree_in : (names : List Name) (as' bs : List Env) → EnvsAgree names as' bs → AllAgreeOn names as' bs
agree_in names [] [] g = tt
agree_in names [] (b ∷ bs) g = absurd g
agree_in names (a ∷ as') [] g = absurd g
agree_in names (a ∷ as') (b ∷ bs) g = (g.0, agree_in names as' bs g.1)

pub agree_out : (names : List Name) (as' bs : List Env) → AllAgreeOn names as' bs → EnvsAgree names as' bs
agree_out names [] [] g = tt
agree_out names [] (b ∷ bs) g = absurd g
agree_out names (a ∷ as') [] g = absurd g
agree_out names (a ∷ as') (b ∷ bs) g = (g.0, agree_out names as' bs g.1)

pub agree_fewer : (many few : List Name) → ((x : Name) → has_name few x ≡ true → has_name many x ≡ true) → (as' bs : List Env) → EnvsAgree many as' bs → EnvsAgree few as' bs
agree_fewer many few w [] [] g = tt
agree_fewer many few w [] (b ∷ bs) g = absurd g
agree_fewer many few w (a ∷ as') [] g = absurd g
agree_fewer many few w (a ∷ as') (b ∷ bs) g = (λ x i. g.0 x (w x i), agree_fewer many few w as' bs g.1)

-- two that agree with the same ones agree
pub agree_across : (names : List Name) (as' bs cs : List Env) → EnvsAgree names as' bs → EnvsAgree names as' cs → EnvsAgree names bs cs
agree_across names [] [] [] g k = tt
agree_across names [] [] (c ∷ cs) g k = absurd k
agree_across names [] (b ∷ bs) cs g k = absurd g
agree_across names (a ∷ as') [] cs g k = absurd g
agree_across names (a ∷ as') (b ∷ bs) [] g k = absurd k
agree_across names (a ∷ as') (b ∷ bs) (c ∷ cs) g k = (λ x i. sym (g.0 x i) ∙ k.0 x i, agree_across names as' bs cs g.1 k.1)

-- ---- expressions without values

stopped_values : (vs : List Value) (o : Outcome) → Values vs ≡ Stopped o → ⊥
stopped_values vs o e = cc

-- where one of some expressions has no value at n, they have no values
pub values_none : (il : Il) → IsStable il → CallsAreSingle il → (n : ℕ) (ts : List Task) (r : Outcomes) → GivesAll (syntaxes il) (CallAt il n) ts r → r ≡ Stopped NoValue → (vs : List Value) → HaveValues (has_value il) ts vs → ⊥
values_none il stable single n ts r (none e) is vs have = stopped_values [] NoValue (sym e ∙ is)
values_none il stable single n ts r (stop o x b e) is [] have = absurd have
values_none il stable single n (t ∷ ts) r (stop o x b e) is (v ∷ vs) have =
    let both : Stopped o ≡ Stopped NoValue = sym e ∙ is in
    let same : o ≡ NoValue = cc in
    no_value il stable single n t.0 t.1 v (subst (λ z. Gives (syntaxes il) (CallAt il n) t.0 t.1 z) same x) have.0
values_none il stable single n ts r (next y rest x all e) is [] have = absurd have
values_none il stable single n (t ∷ ts) r (next y rest x all e) is (v ∷ vs) have = values_none il stable single n ts rest all (behind rest (sym e ∙ is)) vs have.1
  where
    behind : (rest : Outcomes) → then_all y rest ≡ Stopped NoValue → rest ≡ Stopped NoValue
    behind (Values ws) e = absurd (stopped_values (y ∷ ws) NoValue e)
    behind (Stopped o) e = e

-- ---- goals that are asked

module _ (s : Setting) (bound : List Name) (ls : List Listed) (env : Env) (p : IlPrem) (how : Iteration) (xs : List Name) (body : IlPrem) (is : out-IlPrem p ≡ IlPrem-F.Each how xs body) (next : Goal) where
  abbrev pub AsksIn : Iteration → List Name → IlPrem → Type 0
  AsksIn k ys b =
      (before : List Env) × (at : Env) × (after : List Env) × Unfolds s bound k ys env (before ++ at ∷ after) × Passed s bound ls k ys b before
      × AsksGoal s (index_of k ++ bound) (listed_inside k ys ls) at b next

  moved_asks : (k : Iteration) (ys : List Name) (b : IlPrem) → IlPrem-F.Each k ys b ≡ IlPrem-F.Each how xs body → AsksIn k ys b → AsksIn how xs body
  moved_asks k ys b e m =
      let kk : k ≡ how = cc in
      let yy : ys ≡ xs = cc in
      let bb : b ≡ body = cc in
      subst (λ z. AsksIn how xs z) bb (subst (λ z. AsksIn how z b) yy (subst (λ z. AsksIn z ys b) kk m))

  -- an iterated premise asks a goal at one of its elements
  pub asks_each : AsksGoal s bound ls env p next → AsksIn how xs body
  asks_each a = from a.inside
    where
      from : Reaches s a.one a.goal bound ls env p → AsksIn how xs body
      from (chain.here same eq) = let bad : IlPrem-F.Each how xs body ≡ IlPrem-F.Goal next.relation a.holes = sym is ∙ (ap out-IlPrem eq ∙ a.is_goal) in cc
      from (chain.element k ys b before at after eq u passed inside) =
          moved_asks k ys b (sym eq ∙ is) (before, at, after, u, passed, record { one = a.one; goal = a.goal; inside = inside; holes = a.holes; is_goal = a.is_goal; values = a.values })

-- ---- steps that ask goals

step_level : (step : AlgoStep) (y : AlgoStep-F AlgoStep) → out-AlgoStep step ≡ y → step_asks step ≡ asks_at (map-AlgoStep AlgoStep Bool step_asks y)
step_level step y is = fold_out-AlgoStep Bool asks_at step ∙ ap (λ z. asks_at (map-AlgoStep AlgoStep Bool step_asks z)) is

-- a step asks goals where its premise cites a relation
pub asks_cites : {il : Il} {bound : List Name} {ls : List Listed} {p : IlPrem} {step : AlgoStep} → IsRunBy il bound ls p step → step_asks step ≡ cites p
asks_cites {p = p} {step = step} (run.test e is stepped known formed) = step_level step (AlgoStep-F.Test e) stepped ∙ sym (cites-level p (IlPrem-F.If e) is)
asks_cites {p = p} {step = step} (run.binds e side pattern is stepped equation) = step_level step (AlgoStep-F.Let pattern side) stepped ∙ sym (cites-level p (IlPrem-F.If e) is)
asks_cites {p = p} {step = step} (run.goal relation es is stepped judged) = step_level step (out-AlgoStep step) refl ∙ (ap (λ z. asks_at (map-AlgoStep AlgoStep Bool step_asks z)) stepped ∙ sym (cites-level p (IlPrem-F.Goal relation es) is))
asks_cites {p = p} {step = step} (run.otherwise is stepped) = step_level step AlgoStep-F.Otherwise stepped ∙ sym (cites-level p IlPrem-F.Otherwise is)
asks_cites {p = p} {step = step} (run.each how xs body inner stepped iterated inside) =
    step_level step (AlgoStep-F.Loop how xs inner) stepped ∙ (asks_cites inside ∙ sym (cites-level p (IlPrem-F.Each how xs body) iterated.is))

-- ---- what stands for a premise at elements

not_cited : (b : Bool) → b ≡ true → b ≡ false → ⊥
not_cited true g k = cc
not_cited false g k = cc

module _ (il : Il) (V : Meaning) (O : Exclusion) (root : Root) (body : IlPrem) (c : cites body ≡ false) where
  -- a premise that cites nothing holds by itself
  pub proved_hold : (envs : List Env) (cs : List Child) → Proved il V O root (each_instance envs body) cs → HoldAll V (O root) no_goal (each_instance envs body)
  proved_hold [] cs all = h.done
  proved_hold (e ∷ es) cs (plain k x rest) = h.more x (proved_hold es cs rest)
  proved_hold (e ∷ es) cs (goal name gs below is one valid relation have rest) = absurd (not_cited (cites body) (cites-level body (IlPrem-F.Goal name gs) is) c)
  proved_hold (e ∷ es) cs (each how xs b envs inner k is many are all rest) = absurd (not_cited (cites body) k c)

-- ---- the same elements, the same lists

module _ (il : Il) (bound : List Name) (p : IlPrem) (how : Iteration) (xs : List Name) (body : IlPrem) (is : out-IlPrem p ≡ IlPrem-F.Each how xs body) (binds : EachBinds bound how xs body) (a b : Env) (as' bs : List Env)
    (ea : AreElements (has_value il) how xs a as') (eb : AreElements (has_value il) how xs b bs) (bodies : EnvsAgree (prem_vars body) as' bs) (g : AgreeOn bound a b) where
  lists : AgreeOn xs a b
  lists x i =
      let w = without-parts (index_of how) (prem_vars body) x (known-within (without (index_of how) (prem_vars body)) xs binds.own x i) in
      list_agrees how (prem_vars body) xs a b ea.0 eb.0 as' bs ea.2 eb.2 bodies x i w.1 w.0

  counts : AgreeOn (vars_of (count_of how)) a b
  counts = at (count_of how) refl (count_short how) binds.counted
    where
      by_variable : (e : IlExp) (y : IlExp-F IlExp Iteration ListItem PathSeg) → out-IlExp e ≡ y → is_variable_at y ≡ true → count_of how ≡ e ∷ [] → AgreeOn (vars e) a b
      by_variable e (IlExp-F.Var x) eq v one =
          let form : HasForm (syntaxes il) e (Variable x) = by_itself (ap form_at eq) in
          let c = one_value (has_value il) a (count_of how) e ea.0 one ea.1 in
          let t = one_value (has_value il) b (count_of how) e eb.0 one eb.1 in
          let same : c.0 ≡ t.0 = counts_same how (prem_vars body) xs a b ea.0 eb.0 as' bs ea.2 eb.2 bodies c.0 t.0 c.1 t.1 in
          subst (λ z. AgreeOn z a b) (sym (vars-form (syntaxes il) e (Variable x) form))
          (λ y i. subst (λ z. value_in a z ≡ value_in b z) (sym (one_name y x i))
          (variable_value (syntaxes il) (CallAt il c.2.0) a e x c.0 form c.2.1 ∙ (ap Some same ∙ sym (variable_value (syntaxes il) (CallAt il t.2.0) b e x t.0 form t.2.1))))
      by_variable e _ eq v one = cc

      at : (es : List IlExp) → count_of how ≡ es → IsShort es → list_all (is_countable bound) es ≡ true → AgreeOn (vars_of es) a b
      at [] eq s k = λ x i. cc
      at (e ∷ f ∷ more) eq s k = absurd s
      at (e ∷ []) eq s k = subst (λ z. AgreeOn z a b) (sym (append-nil (vars e))) (elim (or-cases (all_known bound (vars e)) (is_variable_at (out-IlExp e)) (and-both (is_countable bound e) true k).0) [
        | inl known ↦ λ x i. g x (known-within bound (vars e) known x i)
        | inr v ↦ by_variable e (out-IlExp e) refl v eq
      ])

  inner : AgreeOn (without (index_of how) (prem_vars body)) a b
  inner x i = at (has_name xs x) refl
    where
      at : (c : Bool) → has_name xs x ≡ c → value_in a x ≡ value_in b x
      at true k = lists x k
      at false k = g x (known-within bound (without xs (without (index_of how) (prem_vars body))) binds.others x (without-other xs (without (index_of how) (prem_vars body)) x k i))

  -- environments with the same elements agree on the variables of the premise
  pub prem_same : AgreeOn (prem_vars p) a b
  prem_same =
      subst (λ z. AgreeOn z a b) (sym (prem-level p (IlPrem-F.Each how xs body) is))
      (agree_both (vars_of (count_of how) ++ xs) (without (index_of how) (prem_vars body)) a b (agree_both (vars_of (count_of how)) xs a b counts lists) inner)
