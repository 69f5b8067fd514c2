-- A clause that is tried premise by premise: it goes on, it is passed over, it meets Deep, or it is
-- chosen.
use Rattle.std.proofs.Common.{◌≡◌, ℕ, refl, sym, ◌∙◌, ap, ap₂, subst, List, [], ◌∷◌, ◌++◌, filter, ◌⊎◌, inl, inr, Bool, true, false, not, ◌&&◌, if◌then◌else◌, Option, Some, None, bytes_eq, append_assoc, append-nil, All}
use Rattle.std.specs.List.{list_all}
use Rattle.std.proofs.lemmas.List.Elements.{All-nil, All-cons, All-head, All-tail}
use Rattle.st_num.specs.declared.rule.RuleId.TheVariants.{M3, M4, M6}
use Rattle.st_il.specs.declared.definition.ClauseDef.{ClauseDef}
use Rattle.st_il.specs.declared.definition.Il.{Il}
use Rattle.st_il.specs.declared.definition.Listed.{Listed}
use Rattle.st_il.specs.declared.definition.SyntaxDef.{SyntaxDef}
use Rattle.st_il.specs.declared.expression.IlExp.{IlExp, out-IlExp}
use Rattle.st_il.specs.declared.expression.IlExp.TheOpen.{IlExp-F}
use Rattle.st_il.specs.declared.expression.Iteration.{Iteration}
use Rattle.st_il.specs.declared.expression.ListItem.{ListItem}
use Rattle.st_il.specs.declared.expression.PathSeg.{PathSeg}
use Rattle.st_il.specs.declared.expression.IlPrem.{IlPrem, out-IlPrem}
use Rattle.st_il.specs.declared.expression.IlPrem.TheOpen.{IlPrem-F}
use Rattle.st_il.specs.declared.value.Env.{Env}
use Rattle.st_il.specs.declared.value.Value.{Value}
use Rattle.st_il.specs.Names.{Name, has_name, all_known, without}
use Rattle.st_il.specs.Definitions.{syntaxes}
use Rattle.st_semantics.specs.Environments.{names_of, value_in, type_of, listed_in, listed_as, listed_names, AgreeOn, TypedIn, EnvOk, HasListed, IsSomeTyped, IsTypedValue}
use Rattle.st_semantics.specs.Iterations.{count_of}
use Rattle.st_semantics.specs.Evaluation.{Answers}
use Rattle.st_semantics.specs.Variables.{vars, vars_of, prem_vars, prems_vars, cites}
use Rattle.st_semantics.specs.Holding as h
use Rattle.st_semantics.specs.Holding.{instances, HoldAll}
use Rattle.st_semantics.specs.Depth as d
use Rattle.st_semantics.specs.Depth.{evaluated, side_at, bound_side, bound_count, Meets, MeetsHere}
use Rattle.st_semantics.specs.Reaching.{Reached, bound_behind, listed_behind}
use Rattle.st_semantics.specs.Calls.{no_goal, in_clause, Chosen, TooDeep, CallAt}
use Rattle.st_semantics.specs.ModeRules.{bound_in_clause}
use Rattle.st_semantics.specs.Breaches.{ClauseKeeps}
use Rattle.st_semantics.specs.Kinds.{NamesOccurring}
use Rattle.st_semantics.specs.Laws.{CallsAreSingle}
use Rattle.st_semantics.proofs.Names.{Within, within-cases, within-left, within-right, and-both, known-within, or-left, or-right, bytes-same}
use Rattle.st_semantics.proofs.Agree.{Gives-agree, tasks_agree, HaveValues-agree, HoldAll-agree, instances-agree, value_by-local}
use Rattle.st_semantics.proofs.Acceptance.{cites-level}
use Rattle.st_semantics.proofs.Restrict.{typed_of, typed_in, listed_same, listed_has}
use Rattle.st_semantics.proofs.Premises.{without-parts}
use Rattle.st_semantics.proofs.Clauses.{append_hold, prems_vars-append}
use Rattle.st_semantics.proofs.Runs.{evaluated_side}
use Rattle.st_semantics.proofs.Low.{AreLow, name_there, listed_there}
use Rattle.st_semantics.proofs.Choice.{holds_not_deep}
use Rattle.st_semantics.proofs.Choices.{ClauseBinds, all_bind, first_agree, premises_agree, front_hold}
use Rattle.st_eval.specs.Steps.{IsRunnable, value_at, MeetsAt, HasOnly, IsMetUpTo, Fails, LawOfArguments, LawOfNext, LawOfFailure, LawOfDeepness, LawOfResults}
use Rattle.st_eval.proofs.InByteOrder.{in_byte_order, is_in_order, in_order_value, in_order_names}

-- ---- lists of names

pub known_all : (known xs : List Name) → ((x : Name) → has_name xs x ≡ true → has_name known x ≡ true) → all_known known xs ≡ true
known_all known [] f = refl
known_all known (x ∷ xs) f = both (has_name known x) (all_known known xs) (f x (or-left (bytes_eq x x) (has_name xs x) (bytes-same x))) (known_all known xs (λ y k. f y (or-right (bytes_eq y x) (has_name xs y) k)))
  where
    both : (a b : Bool) → a ≡ true → b ≡ true → (a && b) ≡ true
    both true b p q = q
    both false b p q = cc

-- what is bound behind one premise more
pub bound_next : (c : ClauseDef) (before : List IlPrem) (p : IlPrem) → bound_in_clause c before ++ prem_vars p ≡ bound_in_clause c (before ++ p ∷ [])
bound_next c before p =
    append_assoc (vars_of c.args) (prems_vars before) (prem_vars p)
    ∙ ap (λ z. vars_of c.args ++ z) (ap (λ z. prems_vars before ++ z) (sym (append-nil (prem_vars p))) ∙ sym (prems_vars-append before (p ∷ [])))

-- the variables of a premise are bound behind it
premise_within : (before : List IlPrem) (p : IlPrem) (after : List IlPrem) → Within (prem_vars p) (prems_vars (before ++ p ∷ after))
premise_within [] p after x k = within-left (prem_vars p) (prems_vars after) x k
premise_within (q ∷ before) p after x k = within-right (prem_vars q) (prems_vars (before ++ p ∷ after)) x (premise_within before p after x k)

front_within : (before after : List IlPrem) → Within (prems_vars before) (prems_vars (before ++ after))
front_within before after x k = subst (λ z. has_name z x ≡ true) (sym (prems_vars-append before after)) (within-left (prems_vars before) (prems_vars after) x k)

-- ---- typed environments

-- an environment of the variables that are listed of some names is typed at these
pub typed_some : (defs : List SyntaxDef) (top : List Name) (ls : List Listed) (env : Env) → EnvOk defs (listed_in top ls) env → (names : List Name) → Within names top → TypedIn defs ls names env
typed_some defs top ls env ok names w x i l e = typed_of defs (listed_in top ls) env ok x l (sym (listed_same top ls x (w x i)) ∙ e)

pub some_typed : (defs : List SyntaxDef) (l : Listed) (o : Option Value) (v : Value) → IsSomeTyped defs (type_of l) o → o ≡ Some v → IsTypedValue defs (type_of l) v
some_typed defs l None v t e = cc
some_typed defs l (Some w) v t e = let same : w ≡ v = cc in subst (IsTypedValue defs (type_of l)) same t

-- no value in it is too high
pub only_low : (il : Il) (ls : List Listed) (names : List Name) (env : Env) → all_known (listed_names ls) names ≡ true → HasOnly il ls names env → AreLow env
only_low il ls names env listed only x v e =
    let named : has_name names x ≡ true = sym (only.names_are x) ∙ name_there x v env.entries e in
    let l = listed_there x ls (known-within (listed_names ls) names listed x named) in
    (some_typed (syntaxes il) l.0 (value_in env x) v (only.typed x named l.0 l.1) e).value.height

-- ---- the same in byte order

module _ (defs : List SyntaxDef) (top : List Listed) (names : List Name) (env : Env) (typed : TypedIn defs top names env) where
  listed_typed : (ls : List Listed) → All (λ (l : Listed). listed_as l.name top ≡ Some l) ls → All (HasListed defs (in_byte_order env)) (listed_in names ls)
  listed_typed [] once = All-nil (HasListed defs (in_byte_order env))
  listed_typed (l ∷ ls) once = at (has_name names l.name) refl (listed_typed ls (All-tail (λ (m : Listed). listed_as m.name top ≡ Some m) l ls once))
    where
      at : (b : Bool) → has_name names l.name ≡ b → All (HasListed defs (in_byte_order env)) (listed_in names ls) → All (HasListed defs (in_byte_order env)) (if b then l ∷ listed_in names ls else listed_in names ls)
      at true k rest =
          All-cons (HasListed defs (in_byte_order env)) l (listed_in names ls)
          (subst (IsSomeTyped defs (type_of l)) (sym (in_order_value env l.name)) (typed l.name k l (All-head (λ (m : Listed). listed_as m.name top ≡ Some m) l ls once))) rest
      at false k rest = rest

  all_typed : (ls : List Listed) → All (λ (l : Listed). listed_as l.name top ≡ Some l) ls → ((x : Name) → has_name (listed_names ls) x ≡ true → has_name names x ≡ true) → All (HasListed defs (in_byte_order env)) ls
  all_typed [] once within = All-nil (HasListed defs (in_byte_order env))
  all_typed (l ∷ ls) once within =
      All-cons (HasListed defs (in_byte_order env)) l ls
      (subst (IsSomeTyped defs (type_of l)) (sym (in_order_value env l.name))
      (typed l.name (within l.name (or-left (bytes_eq l.name l.name) (has_name (listed_names ls) l.name) (bytes-same l.name))) l (All-head (λ (m : Listed). listed_as m.name top ≡ Some m) l ls once)))
      (all_typed ls (All-tail (λ (m : Listed). listed_as m.name top ≡ Some m) l ls once) (λ x k. within x (or-right (bytes_eq x l.name) (has_name (listed_names ls) x) k)))

-- an environment of the variables that are listed of some names
pub some_ok : (il : Il) (ls : List Listed) (names : List Name) (env : Env) → All (λ (l : Listed). listed_as l.name ls ≡ Some l) ls → all_known (listed_names ls) names ≡ true → HasOnly il ls names env
    → EnvOk (syntaxes il) (listed_in names ls) (in_byte_order env)
some_ok il ls names env once listed only = record {
  ordered = is_in_order env;
  no_other = known_all (listed_names (listed_in names ls)) (names_of (in_byte_order env)) (λ x k.
      let named : has_name names x ≡ true = sym (only.names_are x) ∙ in_order_names env x k in
      listed_has names ls x (known-within (listed_names ls) names listed x named) named);
  typed = listed_typed (syntaxes il) ls names env only.typed ls once;
}

-- one of all the listed variables
pub all_ok : (il : Il) (ls : List Listed) (names : List Name) (env : Env) → All (λ (l : Listed). listed_as l.name ls ≡ Some l) ls → all_known (listed_names ls) names ≡ true → Within (listed_names ls) names → HasOnly il ls names env
    → EnvOk (syntaxes il) ls (in_byte_order env)
all_ok il ls names env once listed within only = record {
  ordered = is_in_order env;
  no_other = known_all (listed_names ls) (names_of (in_byte_order env)) (λ x k. known-within (listed_names ls) names listed x (sym (only.names_are x) ∙ in_order_names env x k));
  typed = all_typed (syntaxes il) ls names env only.typed ls once within;
}

-- ---- Deep, in an environment that agrees

module _ (il : Il) (C : Answers) where
  evaluated_known : (bound : List Name) (e part : IlExp) → evaluated bound e ≡ Some part → all_known bound (vars part) ≡ true
  evaluated_known bound e part ev = whole (all_known bound (vars e)) refl
    where
      equation : (x y : IlExp) (k l : Bool) → all_known bound (vars x) ≡ k → all_known bound (vars y) ≡ l → bound_side k l x y ≡ Some part → all_known bound (vars part) ≡ true
      equation x y true l kx ky s = let is : x ≡ part = cc in subst (λ z. all_known bound (vars z) ≡ true) is kx
      equation x y false true kx ky s = let is : y ≡ part = cc in subst (λ z. all_known bound (vars z) ≡ true) is ky
      equation x y false false kx ky s = cc

      sides : (z : IlExp-F IlExp Iteration ListItem PathSeg) → side_at bound z ≡ Some part → all_known bound (vars part) ≡ true
      sides (IlExp-F.Eq x y) s = equation x y (all_known bound (vars x)) (all_known bound (vars y)) refl refl s
      sides _ s = cc

      whole : (k : Bool) → all_known bound (vars e) ≡ k → all_known bound (vars part) ≡ true
      whole true k =
          let both : Some e ≡ Some part = sym (ap (λ z. if z then Some e else side_at bound (out-IlExp e)) k) ∙ ev in
          let is : e ≡ part = cc in
          subst (λ z. all_known bound (vars z) ≡ true) is k
      whole false k = sides (out-IlExp e) (sym (evaluated_side bound e k) ∙ ev)

  counts_known : (bound : List Name) (es : List IlExp) → Within (vars_of (filter (λ (e : IlExp). all_known bound (vars e)) es)) bound
  counts_known bound [] x k = cc
  counts_known bound (e ∷ es) x k = at (all_known bound (vars e)) refl k (counts_known bound es x)
    where
      at : (b : Bool) → all_known bound (vars e) ≡ b → has_name (vars_of (if b then e ∷ filter (λ (e : IlExp). all_known bound (vars e)) es else filter (λ (e : IlExp). all_known bound (vars e)) es)) x ≡ true
          → (has_name (vars_of (filter (λ (e : IlExp). all_known bound (vars e)) es)) x ≡ true → has_name bound x ≡ true) → has_name bound x ≡ true
      at true j k ih = elim (within-cases (vars e) (vars_of (filter (λ (e : IlExp). all_known bound (vars e)) es)) x k) [ inl here ↦ known-within bound (vars e) j x here | inr later ↦ ih later ]
      at false j k ih = ih k

  -- no goal
  abbrev pub IsNoGoal : IlPrem → Type 0
  IsNoGoal p = (relation : Name) (es : List IlExp) → out-IlPrem p ≡ IlPrem-F.Goal relation es → ⊥

  here_agrees : (bound : List Name) (a b : Env) (p : IlPrem) → IsNoGoal p → AgreeOn bound a b → MeetsHere (in_clause il C) bound a p → MeetsHere (in_clause il C) bound b p
  here_agrees bound a b p free g (d.condition e part eq ev deep) =
      d.condition e part eq ev (Gives-agree (syntaxes il) C deep b (λ x i. g x (known-within bound (vars part) (evaluated_known bound e part ev) x i)))
  here_agrees bound a b p free g (d.input relation es eq deep) = absurd (free relation es eq)
  here_agrees bound a b p free g (d.output relation es vs e eq have contains deep) = absurd (free relation es eq)
  here_agrees bound a b p free g (d.count how xs body eq deep) =
      d.count how xs body eq (tasks_agree (syntaxes il) C (bound_count bound how) a b (λ x i. g x (counts_known bound (count_of how) x i)) deep)

  pub Meets-agree : {bound : List Name} {ls : List Listed} {a : Env} {p : IlPrem} → Meets (in_clause il C) bound ls a p → IsNoGoal p → (b : Env) → AgreeOn bound a b → Meets (in_clause il C) bound ls b p
  Meets-agree {bound = bound} {a = a} {p = p} (d.here m) free b g = d.here (here_agrees bound a b p free g m)
  Meets-agree (d.element how xs body before at after eq u passed m) free b g =
      d.element how xs body before at after eq (record { more = u.more; agrees = λ x i. sym (g x i) ∙ u.agrees x i; elements = u.elements }) passed m
  Meets-agree (d.height how xs body eq t) free b g = d.height how xs body eq (record {
    envs = t.envs;
    unfolds = record { more = t.unfolds.more; agrees = λ x i. sym (g x i) ∙ t.unfolds.agrees x i; elements = t.unfolds.elements };
    passed = t.passed;
    x = t.x;
    iterated = t.iterated;
    unbound = t.unbound;
    values = t.values;
    values_are = t.values_are;
    high = t.high;
  })

-- ---- positions among premises

-- two positions are one, or the second is before the first, or the first before the second
abbrev Positions : List IlPrem → IlPrem → List IlPrem → IlPrem → Type 0
Positions bs p ds q =
    ((bs ≡ ds) × (p ≡ q)) ⊎ ((mid : List IlPrem) × (bs ≡ ds ++ q ∷ mid)) ⊎ ((mid : List IlPrem) × (ds ≡ bs ++ p ∷ mid))

positions : (bs : List IlPrem) (p : IlPrem) (cs ds : List IlPrem) (q : IlPrem) (es : List IlPrem) → bs ++ p ∷ cs ≡ ds ++ q ∷ es → Positions bs p ds q
positions [] p cs [] q es e = let same : p ≡ q = cc in inl (refl, same)
positions [] p cs (f ∷ ds) q es e = let same : f ≡ p = cc in inr (inr (ds, ap (λ z. z ∷ ds) same))
positions (b ∷ bs) p cs [] q es e = let same : b ≡ q = cc in inr (inl (bs, ap (λ z. z ∷ bs) same))
positions (b ∷ bs) p cs (f ∷ ds) q es e =
    let first : b ≡ f = cc in
    let rest : bs ++ p ∷ cs ≡ ds ++ q ∷ es = cc in
    further first (positions bs p cs ds q es rest)
  where
    further : b ≡ f → Positions bs p ds q → Positions (b ∷ bs) p (f ∷ ds) q
    further first (inl s) = inl (ap₂ (λ y z. y ∷ z) first s.0, s.1)
    further first (inr (inl s)) = inr (inl (s.0, ap₂ (λ y z. y ∷ z) first s.1))
    further first (inr (inr s)) = inr (inr (s.0, ap₂ (λ y z. y ∷ z) (sym first) s.1))

-- ---- one clause

pub clause_binds : (il : Il) (c : ClauseDef) → IsRunnable il c → ClauseBinds c
clause_binds il c run =
    (all_bind il (c ∷ []) (All-cons (ClauseKeeps il (M3 ∷ M4 ∷ M6 ∷ [])) c [] run.modes (All-nil (ClauseKeeps il (M3 ∷ M4 ∷ M6 ∷ []))))
    (All-cons (λ (c : ClauseDef). All NamesOccurring c.premises) c [] run.names_occurring (All-nil (λ (c : ClauseDef). All NamesOccurring c.premises)))).0

goal_free : (ps before : List IlPrem) (p : IlPrem) (after : List IlPrem) → ps ≡ before ++ p ∷ after → list_all (λ (p : IlPrem). not (cites p)) ps ≡ true → (relation : Name) (es : List IlExp) → out-IlPrem p ≡ IlPrem-F.Goal relation es → ⊥
goal_free [] [] p after e k relation es is = cc
goal_free [] (b ∷ before) p after e k relation es is = cc
goal_free (q ∷ ps) [] p after e k relation es is =
    let same : q ≡ p = cc in
    let free = (and-both (not (cites q)) (list_all (λ (p : IlPrem). not (cites p)) ps) k).0 in
    let goal : cites q ≡ true = ap cites same ∙ cites-level p (IlPrem-F.Goal relation es) is in
    let bad : false ≡ true = sym (ap not goal) ∙ free in cc
goal_free (q ∷ ps) (b ∷ before) p after e k relation es is =
    let rest : ps ≡ before ++ p ∷ after = cc in
    goal_free ps before p after rest (and-both (not (cites q)) (list_all (λ (p : IlPrem). not (cites p)) ps) k).1 relation es is

-- ---- the laws

pub law_of_arguments : (il : Il) → LawOfArguments il
law_of_arguments il n c vs none = (
  λ env ch. none env (typed_in (syntaxes il) c.variables env ch.typed (vars_of c.args)) ch.heads_are,
  λ t. none t.env (typed_some (syntaxes il) (bound_behind c.args t.before) c.variables t.env t.reached.typed (vars_of c.args) (within-left (vars_of c.args) (prems_vars t.before))) t.reached.heads_are,
)

pub law_of_next : (il : Il) → LawOfNext il
law_of_next il n c vs before p env more met holds =
    let g : AgreeOn (bound_in_clause c before) env more = holds.agrees in
    record {
      variables = subst (λ z. HasOnly il c.variables z more) (bound_next c before p) holds.variables;
      arguments = HaveValues-agree (value_at il n) (value_by-local (syntaxes il) (CallAt il n)) c.args vs env more (λ x i. g x (within-left (vars_of c.args) (prems_vars before) x i)) met.arguments;
      hold = append_hold more before (p ∷ [])
          (HoldAll-agree (value_at il n) (value_by-local (syntaxes il) (CallAt il n)) (Unit {0}) no_goal met.hold (instances more before)
          (instances-agree before env more (λ x i. g x (within-right (vars_of c.args) (prems_vars before) x i))))
          (h.more holds.holds h.done);
    }

-- what is bound before a position is listed
pub bound_listed : (il : Il) (c : ClauseDef) (run : IsRunnable il c) (before after : List IlPrem) → c.premises ≡ before ++ after → all_known (listed_names c.variables) (bound_in_clause c before) ≡ true
bound_listed il c run before after split =
    known_all (listed_names c.variables) (bound_in_clause c before) (λ x k. known-within (listed_names c.variables) (bound_in_clause c c.premises) run.listed x
    (elim (within-cases (vars_of c.args) (prems_vars before) x k) [
      | inl here ↦ within-left (vars_of c.args) (prems_vars c.premises) x here
      | inr later ↦ within-right (vars_of c.args) (prems_vars c.premises) x (subst (λ z. has_name (prems_vars z) x ≡ true) (sym split) (front_within before after x later))
    ]))

-- the same, reached as the definitions say
reached_so : (il : Il) (n : ℕ) (c : ClauseDef) (run : IsRunnable il c) (vs : List Value) (before after : List IlPrem) (env : Env) → c.premises ≡ before ++ after → IsMetUpTo il n c vs before env
    → Reached (in_clause il (CallAt il n)) (listed_behind c.variables c.args before) c.args vs before (in_byte_order env)
reached_so il n c run vs before after env split met = record {
  typed = some_ok il c.variables (bound_in_clause c before) env run.once (bound_listed il c run before after split) met.variables;
  heads_are = HaveValues-agree (value_at il n) (value_by-local (syntaxes il) (CallAt il n)) c.args vs env (in_byte_order env) (λ x i. sym (in_order_value env x)) met.arguments;
  hold = HoldAll-agree (value_at il n) (value_by-local (syntaxes il) (CallAt il n)) (Unit {0}) no_goal met.hold (instances (in_byte_order env) before)
      (instances-agree before env (in_byte_order env) (λ x i. sym (in_order_value env x)));
}

pub law_of_deepness : (il : Il) → LawOfDeepness il
law_of_deepness il n c run vs before p after env split met deep = record {
  before = before;
  premise = p;
  after = after;
  split = split;
  env = in_byte_order env;
  reached = reached_so il n c run vs before (p ∷ after) env split met;
  deep = Meets-agree il (CallAt il n) deep (goal_free c.premises before p after split run.without_goals) (in_byte_order env) (λ x i. sym (in_order_value env x));
}

pub law_of_results : (il : Il) → LawOfResults il
law_of_results il n c run vs env o met gives = (
  in_byte_order env,
  record {
    typed = all_ok il c.variables (bound_in_clause c c.premises) env run.once run.listed within met.variables;
    heads_are = (reached_so il n c run vs c.premises [] env (sym (append-nil c.premises)) met).heads_are;
    hold = (reached_so il n c run vs c.premises [] env (sym (append-nil c.premises)) met).hold;
  },
  Gives-agree (syntaxes il) (CallAt il n) gives (in_byte_order env) (λ x i. sym (in_order_value env x)),
)
  where
    within : Within (listed_names c.variables) (bound_in_clause c c.premises)
    within x i = elim (within-cases (bound_in_clause c c.premises) (vars c.result) x (known-within (bound_in_clause c c.premises ++ vars c.result) (listed_names c.variables) run.occurring x i)) [
      | inl here ↦ here
      | inr later ↦ known-within (bound_in_clause c c.premises) (vars c.result) (clause_binds il c run).result x later
    ]

module _ (il : Il) (single : CallsAreSingle il) (n : ℕ) (c : ClauseDef) (run : IsRunnable il c) (vs : List Value) (before : List IlPrem) (p : IlPrem) (after : List IlPrem) (env : Env) (split : c.premises ≡ before ++ p ∷ after)
    (met : IsMetUpTo il n c vs before env) (fails : Fails il n (bound_in_clause c before) c.variables env p) where
  runs : ClauseBinds c
  runs = clause_binds il c run

  not_chosen : (other : Env) → Chosen il (CallAt il n) c vs other → ⊥
  not_chosen other ch =
      let all = subst (λ z. HoldAll (value_at il n) (Unit {0}) no_goal (instances other z)) split ch.hold in
      let front = front_hold il (CallAt il n) other before p after all in
      let g : AgreeOn (bound_in_clause c before) env other =
      premises_agree il (CallAt il n) (single n) c runs vs env other before [] (p ∷ after) split (first_agree il (CallAt il n) (single n) c runs vs env other met.arguments ch.heads_are) met.hold front.0 in
      fails.never other g (typed_in (syntaxes il) c.variables other ch.typed (without (bound_in_clause c before) (prem_vars p))) front.1

  not_too_deep : TooDeep il (CallAt il n) c vs → ⊥
  not_too_deep t = by_position (positions before p after t.before t.premise t.after (sym split ∙ t.split))
    where
      by_position : Positions before p t.before t.premise → ⊥
      by_position (inl s) =
          let hold : HoldAll (value_at il n) (Unit {0}) no_goal (instances t.env before) = subst (λ z. HoldAll (value_at il n) (Unit {0}) no_goal (instances t.env z)) (sym s.0) t.reached.hold in
          let g : AgreeOn (bound_in_clause c before) t.env env =
          premises_agree il (CallAt il n) (single n) c runs vs t.env env before [] (p ∷ after) split (first_agree il (CallAt il n) (single n) c runs vs t.env env t.reached.heads_are met.arguments) hold met.hold in
          let deep : MeetsAt il n (bound_in_clause c before) c.variables t.env p =
          subst (λ z. MeetsAt il n (bound_in_clause c before) c.variables t.env z) (sym s.1) (subst (λ z. MeetsAt il n (bound_in_clause c z) c.variables t.env t.premise) (sym s.0) t.deep) in
          fails.not_deep (Meets-agree il (CallAt il n) deep (goal_free c.premises before p after split run.without_goals) env g)
      by_position (inr (inl s)) =
          let front = front_hold il (CallAt il n) env t.before t.premise s.0 (subst (λ z. HoldAll (value_at il n) (Unit {0}) no_goal (instances env z)) s.1 met.hold) in
          let g : AgreeOn (bound_in_clause c t.before) t.env env =
          premises_agree il (CallAt il n) (single n) c runs vs t.env env t.before [] (t.premise ∷ t.after) t.split (first_agree il (CallAt il n) (single n) c runs vs t.env env t.reached.heads_are met.arguments) t.reached.hold front.0 in
          holds_not_deep il (CallAt il n) (single n) t.deep env (runs.premises t.before t.premise t.after t.split)
          (only_low il c.variables (bound_in_clause c before) env (bound_listed il c run before (p ∷ after) split) met.variables) g front.1
      by_position (inr (inr s)) =
          let front = front_hold il (CallAt il n) t.env before p s.0 (subst (λ z. HoldAll (value_at il n) (Unit {0}) no_goal (instances t.env z)) s.1 t.reached.hold) in
          let g : AgreeOn (bound_in_clause c before) env t.env =
          premises_agree il (CallAt il n) (single n) c runs vs env t.env before [] (p ∷ after) split (first_agree il (CallAt il n) (single n) c runs vs env t.env met.arguments t.reached.heads_are) met.hold front.0 in
          let inside : Within (without (bound_in_clause c before) (prem_vars p)) (bound_behind c.args t.before) = λ x i.
          within-right (vars_of c.args) (prems_vars t.before) x
          (subst (λ z. has_name (prems_vars z) x ≡ true) (sym s.1) (premise_within before p s.0 x ((without-parts (bound_in_clause c before) (prem_vars p) x i).1))) in
          fails.never t.env g (typed_some (syntaxes il) (bound_behind c.args t.before) c.variables t.env t.reached.typed (without (bound_in_clause c before) (prem_vars p)) inside) front.1

pub law_of_failure : (il : Il) → CallsAreSingle il → LawOfFailure il
law_of_failure il single n c run vs before p after env split met fails = (not_chosen il single n c run vs before p after env split met fails, not_too_deep il single n c run vs before p after env split met fails)
