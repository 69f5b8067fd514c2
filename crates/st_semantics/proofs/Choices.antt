-- The clauses of an internal language that keeps the rules are chosen under one environment at most,
-- and so each call comes to one outcome at most.
use Rattle.std.proofs.Common.{◌≡◌, ℕ, zero, suc, ◌<◌, length, arith, refl, sym, ◌∙◌, ap, subst, List, [], ◌∷◌, ◌++◌, map, filter, inl, inr, Bool, true, false, not, ◌&&◌, if◌then◌else◌, bytes_eq, append_assoc, append-nil, All}
use Rattle.std.specs.Prelude.{Contains}
use Rattle.std.specs.List.{list_all, slice_index_or}
use Rattle.std.proofs.lemmas.List.Elements.{All-head, All-tail}
use Rattle.st_il.specs.declared.definition.ClauseDef.{ClauseDef}
use Rattle.st_il.specs.declared.definition.Il.{Il}
use Rattle.st_il.specs.declared.expression.IlExp.{IlExp}
use Rattle.st_il.specs.declared.expression.IlPrem.{IlPrem}
use Rattle.st_il.specs.declared.value.Env.{Env}
use Rattle.st_il.specs.declared.value.Value.{Value}
use Rattle.st_num.specs.declared.rule.RuleId.TheVariants.{M3, M4, M6}
use Rattle.st_semantics.specs.declared.outcome.Outcome.{Outcome}
use Rattle.st_il.specs.Names.{Name, has_name, all_known, flattened}
use Rattle.st_il.specs.Definitions.{syntaxes, clauses_in, clauses_of, clauses_from}
use Rattle.st_semantics.specs.Environments.{AgreeOn, listed_names}
use Rattle.st_semantics.specs.Evaluation.{Answers, tasks}
use Rattle.st_semantics.specs.Variables.{vars, vars_of, prem_vars, prems_vars}
use Rattle.st_semantics.specs.Patterns.{is_pattern, binds, bound_by}
use Rattle.st_semantics.specs.OpenParts.{is_doubly_open}
use Rattle.st_semantics.specs.Holding as h
use Rattle.st_semantics.specs.Holding.{value_by, HaveValues, instances, Holds, HoldAll}
use Rattle.st_semantics.specs.Reaching.{bound_behind}
use Rattle.st_semantics.specs.Calls.{no_goal, Chosen, TooDeep, Decides, CallAt}
use Rattle.st_semantics.specs.Executable.{class_of}
use Rattle.st_semantics.specs.ModeRules.{has_one_open, patterns_have_one_open}
use Rattle.st_semantics.specs.Breaches.{ClauseKeeps, ClausesKeep}
use Rattle.st_semantics.specs.Kinds.{NamesOccurring, ClausesNameOccurring, ListsOccurring}
use Rattle.st_semantics.specs.Laws.{LawOfChoice}
use Rattle.st_semantics.proofs.Modes.{keeps_both, keeps_third}
use Rattle.st_semantics.specs.Orders.{run_on}
use Rattle.st_semantics.proofs.Names.{Within, within-cases, within-left, within-right, and-both, known-within}
use Rattle.st_semantics.proofs.Agree.{Gives-agree}
use Rattle.st_semantics.proofs.Singles.{IsSingle, Gives-single}
use Rattle.st_semantics.proofs.Elements.{All-back}
use Rattle.st_semantics.proofs.Clauses.{hold_first, bound_more}
use Rattle.st_semantics.proofs.CanRun.{run_split}
use Rattle.st_semantics.proofs.PatternForms.{AllSingly}
use Rattle.st_semantics.proofs.PatternValues.{pattern_agrees}
use Rattle.st_semantics.proofs.Low.{typed_low}
use Rattle.st_semantics.proofs.EqualEnvironments.{environments_equal}
use Rattle.st_semantics.proofs.Bindings.{Binds, class_binds}
use Rattle.st_semantics.proofs.Choice.{agree_both, binds_agree, holds_not_deep}

-- what a clause binds
pub record ClauseBinds (c : ClauseDef) : Type 0 where
  pub patterns : list_all is_pattern c.args ≡ true
  pub singly : AllSingly c.args
  pub args : all_known (bound_by c.args) (vars_of c.args) ≡ true
  pub premises : (before : List IlPrem) (p : IlPrem) (after : List IlPrem) → c.premises ≡ before ++ p ∷ after → Binds (bound_behind c.args before) p
  pub result : all_known (bound_behind c.args c.premises) (vars c.result) ≡ true

abbrev pub AllBind : List ClauseDef → Type 0
AllBind [] = Unit {0}
AllBind (c ∷ cs) = ClauseBinds c × AllBind cs

-- ---- from the rules

patterns_split : (il : Il) (before : List IlPrem) (bound : List Name) (p : IlPrem) (after : List IlPrem) → patterns_have_one_open il bound (before ++ p ∷ after) ≡ true
    → has_one_open (class_of il (bound ++ prems_vars before) p) ≡ true
patterns_split il [] bound p after h = subst (λ z. has_one_open (class_of il z p) ≡ true) (sym (append-nil bound)) (and-both (has_one_open (class_of il bound p)) (patterns_have_one_open il (bound ++ prem_vars p) after) h).0
patterns_split il (q ∷ before) bound p after h =
    subst (λ z. has_one_open (class_of il z p) ≡ true) (append_assoc bound (prem_vars q) (prems_vars before))
    (patterns_split il before (bound ++ prem_vars q) p after (and-both (has_one_open (class_of il bound q)) (patterns_have_one_open il (bound ++ prem_vars q) (before ++ p ∷ after)) h).1)

singly_of : (es : List IlExp) → list_all (λ (e : IlExp). not (is_doubly_open e)) es ≡ true → AllSingly es
singly_of [] h = tt
singly_of (e ∷ es) h =
    let b = and-both (not (is_doubly_open e)) (list_all (λ (e : IlExp). not (is_doubly_open e)) es) h in
    (not_false (is_doubly_open e) b.0, singly_of es b.1)
  where
    not_false : (b : Bool) → not b ≡ true → b ≡ false
    not_false true h = cc
    not_false false h = refl

four : (a b c d : Bool) → (a && b && c && d) ≡ true → (a ≡ true) × (b ≡ true) × (c ≡ true) × (d ≡ true)
four true true true true h = (refl, refl, refl, refl)
four true true true false h = cc
four true true false d h = cc
four true false c d h = cc
four false b c d h = cc

clause_binds : (il : Il) (c : ClauseDef) → ClauseKeeps il (M3 ∷ M4 ∷ M6 ∷ []) c → All NamesOccurring c.premises → ClauseBinds c
clause_binds il c keep named =
    let both = keeps_both il c (M6 ∷ []) keep in
    let m4 = four (list_all is_pattern c.args) (all_known (bound_by c.args) (vars_of c.args)) (list_all (λ (e : IlExp). not (is_doubly_open e)) c.args) (patterns_have_one_open il (vars_of c.args) c.premises) both.1 in
    record {
      patterns = m4.0;
      singly = singly_of c.args m4.2;
      args = m4.1;
      premises = λ before p after e.
          let found = run_split il [] before (vars_of c.args) p after (subst (λ z. run_on il (vars_of c.args) z [] ≡ true) e both.0) in
          let open_ok = patterns_split il before (vars_of c.args) p after (subst (λ z. patterns_have_one_open il (vars_of c.args) z ≡ true) e m4.3) in
          class_binds il (All-head NamesOccurring p after (All-back NamesOccurring before (p ∷ after) (subst (All NamesOccurring) e named))) (bound_behind c.args before) found.0 found.1
          (subst (λ z. has_one_open z ≡ true) found.1 open_ok);
      result = keeps_third il c keep;
    }

pub all_bind : (il : Il) (cs : List ClauseDef) → All (ClauseKeeps il (M3 ∷ M4 ∷ M6 ∷ [])) cs → All (λ (c : ClauseDef). All NamesOccurring c.premises) cs → AllBind cs
all_bind il [] keep named = tt
all_bind il (c ∷ cs) keep named = (
  clause_binds il c (All-head (ClauseKeeps il (M3 ∷ M4 ∷ M6 ∷ [])) c cs keep) (All-head (λ (c : ClauseDef). All NamesOccurring c.premises) c cs named),
  all_bind il cs (All-tail (ClauseKeeps il (M3 ∷ M4 ∷ M6 ∷ [])) c cs keep) (All-tail (λ (c : ClauseDef). All NamesOccurring c.premises) c cs named),
)

-- ---- one clause

-- the premises before one, and that one
pub front_hold : (il : Il) (C : Answers) (a : Env) (before : List IlPrem) (p : IlPrem) (after : List IlPrem) → HoldAll (value_by (syntaxes il) C) (Unit {0}) no_goal (instances a (before ++ p ∷ after))
    → HoldAll (value_by (syntaxes il) C) (Unit {0}) no_goal (instances a before) × Holds (value_by (syntaxes il) C) (Unit {0}) no_goal a p
front_hold il C a [] p after all = (h.done, (hold_first (a, p) (instances a after) all).0)
front_hold il C a (q ∷ before) p after all =
    let x = hold_first (a, q) (instances a (before ++ p ∷ after)) all in
    let rest = front_hold il C a before p after x.1 in
    (h.more x.0 rest.0, rest.1)

module _ (il : Il) (C : Answers) (one : IsSingle C) where
  args_agree : (a b : Env) (es : List IlExp) (vs : List Value) → list_all is_pattern es ≡ true → AllSingly es → HaveValues (value_by (syntaxes il) C) (tasks a es) vs → HaveValues (value_by (syntaxes il) C) (tasks b es) vs
      → AgreeOn (bound_by es) a b
  args_agree a b [] vs h s p q x i = cc
  args_agree a b (e ∷ es) [] h s p q x i = absurd p
  args_agree a b (e ∷ es) (v ∷ vs) h s p q x i =
      let w = and-both (is_pattern e) (list_all is_pattern es) h in
      let names : bound_by (e ∷ es) ≡ binds e ++ bound_by es = ap (λ z. flattened (map binds (if z then e ∷ filter is_pattern es else filter is_pattern es))) w.0 in
      elim (within-cases (binds e) (bound_by es) x (subst (λ z. has_name z x ≡ true) names i)) [
        | inl here ↦ pattern_agrees (syntaxes il) C p.0 v refl w.0 s.0 b q.0 x here
        | inr later ↦ args_agree a b es vs w.1 s.1 p.1 q.1 x later
      ]

  module _ (c : ClauseDef) (runs : ClauseBinds c) (vs : List Value) (a b : Env) where
    -- what the arguments bind
    pub first_agree : HaveValues (value_by (syntaxes il) C) (tasks a c.args) vs → HaveValues (value_by (syntaxes il) C) (tasks b c.args) vs → AgreeOn (bound_behind c.args []) a b
    first_agree p q =
        subst (λ z. AgreeOn z a b) (sym (append-nil (vars_of c.args)))
        (λ x i. args_agree a b c.args vs runs.patterns runs.singly p q x (known-within (bound_by c.args) (vars_of c.args) runs.args x i))

    -- what all premises up to some place bind
    pub premises_agree : (ps earlier after : List IlPrem) → c.premises ≡ earlier ++ (ps ++ after) → AgreeOn (bound_behind c.args earlier) a b
        → HoldAll (value_by (syntaxes il) C) (Unit {0}) no_goal (instances a ps) → HoldAll (value_by (syntaxes il) C) (Unit {0}) no_goal (instances b ps) → AgreeOn (bound_behind c.args (earlier ++ ps)) a b
    premises_agree [] earlier after eq g ha hb = subst (λ z. AgreeOn (bound_behind c.args z) a b) (sym (append-nil earlier)) g
    premises_agree (p ∷ ps) earlier after eq g ha hb =
        let x = hold_first (a, p) (instances a ps) ha in
        let y = hold_first (b, p) (instances b ps) hb in
        let here : AgreeOn (prem_vars p) a b = binds_agree (syntaxes il) C one (runs.premises earlier p (ps ++ after) eq) a b g x.0 y.0 in
        let next : AgreeOn (bound_behind c.args (earlier ++ (p ∷ []))) a b =
        λ n i. agree_both (bound_behind c.args earlier) (prem_vars p) a b g here n
        (bound_more c.args earlier p (bound_behind c.args earlier ++ prem_vars p) (within-left (bound_behind c.args earlier) (prem_vars p)) (within-right (bound_behind c.args earlier) (prem_vars p)) n i) in
        subst (λ z. AgreeOn (bound_behind c.args z) a b) (append_assoc earlier (p ∷ []) ps)
        (premises_agree ps (earlier ++ (p ∷ [])) after (eq ∙ sym (append_assoc earlier (p ∷ []) (ps ++ after))) next x.1 y.1)

  -- the environments that choose a clause agree on what it binds
  pub one_environment : (c : ClauseDef) → ClauseBinds c → (vs : List Value) (a b : Env) → Chosen il C c vs a → Chosen il C c vs b → AgreeOn (bound_behind c.args c.premises) a b
  one_environment c runs vs a b ca cb = premises_agree c runs vs a b c.premises [] [] (sym (append-nil c.premises)) (first_agree c runs vs a b ca.heads_are cb.heads_are) ca.hold cb.hold

  -- a clause that is chosen does not meet Deep
  pub not_both : (c : ClauseDef) → ClauseBinds c → (vs : List Value) (env : Env) → Chosen il C c vs env → TooDeep il C c vs → ⊥
  not_both c runs vs env ch t =
      let all = subst (λ z. HoldAll (value_by (syntaxes il) C) (Unit {0}) no_goal (instances env z)) t.split ch.hold in
      let front = front_hold il C env t.before t.premise t.after all in
      let g = premises_agree c runs vs t.env env t.before [] (t.premise ∷ t.after) t.split (first_agree c runs vs t.env env t.reached.heads_are ch.heads_are) t.reached.hold front.0 in
      holds_not_deep il C one t.deep env (runs.premises t.before t.premise t.after t.split) (typed_low (syntaxes il) c.variables env ch.typed) g front.1

  -- ---- calls

  decides_single : (cs : List ClauseDef) → AllBind cs → (vs : List Value) (o p : Outcome) → Decides il C cs vs o → Decides il C cs vs p → o ≡ p
  decides_single [] r vs o p a b = a ∙ sym b
  decides_single (c ∷ cs) r vs o p (inl a) (inl b) =
      let g = one_environment c r.0 vs a.0 b.0 a.1 b.1 in
      Gives-single (syntaxes il) C one b.0 c.result o p
      (Gives-agree (syntaxes il) C a.2 b.0 (λ x i. g x (known-within (bound_behind c.args c.premises) (vars c.result) r.0.result x i))) b.2
  decides_single (c ∷ cs) r vs o p (inl a) (inr (inl b)) = absurd (not_both c r.0 vs a.0 a.1 b.0)
  decides_single (c ∷ cs) r vs o p (inl a) (inr (inr b)) = absurd (b.0 a.0 a.1)
  decides_single (c ∷ cs) r vs o p (inr (inl a)) (inl b) = absurd (not_both c r.0 vs b.0 b.1 a.0)
  decides_single (c ∷ cs) r vs o p (inr (inl a)) (inr (inl b)) = a.1 ∙ sym b.1
  decides_single (c ∷ cs) r vs o p (inr (inl a)) (inr (inr b)) = absurd (b.1 a.0)
  decides_single (c ∷ cs) r vs o p (inr (inr a)) (inl b) = absurd (a.0 b.0 b.1)
  decides_single (c ∷ cs) r vs o p (inr (inr a)) (inr (inl b)) = absurd (a.1 b.0)
  decides_single (c ∷ cs) r vs o p (inr (inr a)) (inr (inr b)) = decides_single cs r.1 vs o p a.2 b.2

clauses_bind : (cs : List ClauseDef) (fun : Name) → AllBind cs → AllBind (clauses_from fun cs)
clauses_bind [] fun r = tt
clauses_bind (c ∷ cs) fun r = go (clauses_bind cs fun r.1) (bytes_eq fun c.fun)
  where
    go : AllBind (clauses_from fun cs) → (b : Bool) → AllBind (if b then c ∷ clauses_from fun cs else clauses_from fun cs)
    go ih true = (r.0, ih)
    go ih false = ih

-- A call comes to one outcome at most.
pub calls_single : (il : Il) → AllBind (clauses_in il.defs) → (n : ℕ) → IsSingle (CallAt il n)
calls_single il r zero fun vs o p a b = a ∙ sym b
calls_single il r (suc n) fun vs o p a b = decides_single il (CallAt il n) (calls_single il r n) (clauses_of il fun) (clauses_bind (clauses_in il.defs) fun r) vs o p a b

-- The same, from the rules.
pub clauses_single : (il : Il) → ClausesKeep il (M3 ∷ M4 ∷ M6 ∷ []) → ClausesNameOccurring il → (n : ℕ) → IsSingle (CallAt il n)
clauses_single il keep named n = calls_single il (all_bind il (clauses_in il.defs) keep named) n

clause_at : (cs : List ClauseDef) → AllBind cs → (c : ClauseDef) → Contains cs c → ClauseBinds c
clause_at cs r c (k, less, is) = at cs r k less is
  where
    at : (cs : List ClauseDef) → AllBind cs → (k : ℕ) → k < length cs → slice_index_or cs k c ≡ c → ClauseBinds c
    at [] r k less is = absurd (omega (arith, less))
    at (d ∷ ds) r zero less is = subst ClauseBinds is r.0
    at (d ∷ ds) r (suc k) less is = at ds r.1 k (omega (arith, less)) is

-- all that is listed is bound
listed_bound : (c : ClauseDef) → ClauseBinds c → ListsOccurring c → Within (listed_names c.variables) (bound_behind c.args c.premises)
listed_bound c r occur x i = elim (within-cases (bound_behind c.args c.premises) (vars c.result) x (known-within (bound_behind c.args c.premises ++ vars c.result) (listed_names c.variables) occur x i)) [
  | inl here ↦ here
  | inr later ↦ known-within (bound_behind c.args c.premises) (vars c.result) r.result x later
]

pub law_of_choice : LawOfChoice
law_of_choice il keep named =
    let binding = all_bind il (clauses_in il.defs) keep named in (
      λ n c among vs a b p q.
          let r = clause_at (clauses_in il.defs) binding c among in
          let g = one_environment il (CallAt il n) (calls_single il binding n) c r vs a b p q in
          (g, λ occur. environments_equal (syntaxes il) c.variables a b p.typed q.typed (λ x i. g x (listed_bound c r occur x i))),
      λ n c among vs env ch deep. not_both il (CallAt il n) (calls_single il binding n) c (clause_at (clauses_in il.defs) binding c among) vs env ch deep,
      calls_single il binding,
      λ n env e o p a b. Gives-single (syntaxes il) (CallAt il n) (calls_single il binding n) env e o p a b,
    )
