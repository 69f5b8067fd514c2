-- The inputs of a goal have their types where what is bound has.
use Rattle.std.proofs.Common.{◌≡◌, refl, sym, ◌∙◌, ap, subst, ℕ, zero, suc, Bool, true, false, ◌||◌, if◌then◌else◌, List, [], ◌∷◌, ◌++◌, inl, inr, Option, Some, None, bytes_eq, All}
use Rattle.std.specs.Prelude.{IsSomeAnd}
use Rattle.std.proofs.lemmas.List.Elements.{All-head, All-tail, All-nil, All-cons}
use Rattle.st_il.specs.declared.definition.ClauseDef.{ClauseDef}
use Rattle.st_il.specs.declared.definition.FunDef.{FunDef}
use Rattle.st_il.specs.declared.definition.Il.{Il}
use Rattle.st_il.specs.declared.definition.Listed.{Listed}
use Rattle.st_il.specs.declared.definition.RelationDef.{RelationDef}
use Rattle.st_il.specs.declared.expression.IlExp.{IlExp}
use Rattle.st_il.specs.declared.expression.Iteration.{Iteration}
use Rattle.st_il.specs.declared.ty.Ty.{Ty}
use Rattle.st_il.specs.declared.ty.Ty.TheVariants as ty
use Rattle.st_il.specs.declared.value.Env.{Env}
use Rattle.st_il.specs.declared.value.Value.{Value}
use Rattle.st_semantics.specs.declared.outcome.Outcome.TheVariants.{Val, Deep}
use Rattle.st_il.specs.Names.{Name, has_name, all_known, without}
use Rattle.st_il.specs.Definitions.{syntaxes, clauses_in, clauses_of, clauses_from}
use Rattle.st_semantics.specs.Directions.{mask, inputs_by, inputs_of}
use Rattle.st_semantics.specs.Environments.{TypedIn, IsTypedValue, AreTypedValues, IsSomeTyped, value_in, type_of, listed_as, listed_in}
use Rattle.st_semantics.specs.Scopes.{stepped, stepped_all, indices, listed_inside}
use Rattle.st_semantics.specs.Iterations.{count_of, index_of}
use Rattle.st_semantics.specs.Evaluation.{tasks}
use Rattle.st_semantics.specs.Variables.{vars, vars_of}
use Rattle.st_semantics.specs.Forms.{Strict, Variable, Calls, Iterates}
use Rattle.st_semantics.specs.Holding.{HaveValues}
use Rattle.st_semantics.specs.Calls.{Decides, CallAt, has_value_at}
use Rattle.st_semantics.specs.Typing as typing
use Rattle.st_semantics.specs.Typing.{ExpHasType, ExpsHaveTypes, ResultsAreTyped, function_named}
use Rattle.st_semantics.specs.Goals.{AreInputs}
use Rattle.st_semantics.proofs.Names.{within-left, within-right, or-left, bytes-same, bytes-path, without-other, known-within, vars-form}
use Rattle.st_semantics.proofs.Elements.{no_index}
use Rattle.st_semantics.proofs.Restrict.{listed_same}
use Rattle.st_semantics.proofs.TypedValues.{value_typed, law_of_types}
use Rattle.st_eval.specs.Steps.{HasOnly}
use Rattle.st_search.specs.Searchable.{IsTypedGoal}

-- ---- types of expressions by the variables that occur

-- these variables are listed alike
abbrev pub ListedAlike : List Name → List Listed → List Listed → Type 0
ListedAlike names ls ms = (x : Name) → has_name names x ≡ true → listed_as x ls ≡ listed_as x ms

alike_left : (xs ys : List Name) (ls ms : List Listed) → ListedAlike (xs ++ ys) ls ms → ListedAlike xs ls ms
alike_left xs ys ls ms g x h = g x (within-left xs ys x h)

alike_right : (xs ys : List Name) (ls ms : List Listed) → ListedAlike (xs ++ ys) ls ms → ListedAlike ys ls ms
alike_right xs ys ls ms g x h = g x (within-right xs ys x h)

abbrev stepped_some : List Name → Option Listed → Option Listed
stepped_some xs None = None
stepped_some xs (Some l) = Some (stepped xs l)

listed_stepped : (xs : List Name) (ls : List Listed) (x : Name) → listed_as x (stepped_all xs ls) ≡ stepped_some xs (listed_as x ls)
listed_stepped xs [] x = refl
listed_stepped xs (l ∷ ls) x = by (bytes_eq x l.name) (listed_stepped xs ls x)
  where
    by : (b : Bool) → listed_as x (stepped_all xs ls) ≡ stepped_some xs (listed_as x ls) → (if b then Some (stepped xs l) else listed_as x (stepped_all xs ls)) ≡ stepped_some xs (if b then Some l else listed_as x ls)
    by true rest = refl
    by false rest = rest

index_alike : (index : List Name) (x : Name) (ls ms : List Listed) → has_name index x ≡ true → listed_as x (indices index ++ ls) ≡ listed_as x (indices index ++ ms)
index_alike [] x ls ms h = cc
index_alike (i ∷ is) x ls ms h = by (bytes_eq x i) refl (index_alike is x ls ms)
  where
    later : (b : Bool) → b ≡ false → (b || has_name is x) ≡ true → has_name is x ≡ true
    later true k h = cc
    later false k h = h

    by : (b : Bool) → bytes_eq x i ≡ b → (has_name is x ≡ true → listed_as x (indices is ++ ls) ≡ listed_as x (indices is ++ ms)) → (if b then Some (record { name = i; ty = ty.Nat; dim = [] }) else listed_as x (indices is ++ ls)) ≡ (if b then Some (record { name = i; ty = ty.Nat; dim = [] }) else listed_as x (indices is ++ ms))
    by true k rest = refl
    by false k rest = rest (later (bytes_eq x i) k h)

inside_alike : (how : Iteration) (xs names : List Name) (ls ms : List Listed) → ListedAlike (without (index_of how) names) ls ms → ListedAlike names (listed_inside how xs ls) (listed_inside how xs ms)
inside_alike how xs names ls ms g x h = at (has_name (index_of how) x) refl
  where
    at : (b : Bool) → has_name (index_of how) x ≡ b → listed_as x (listed_inside how xs ls) ≡ listed_as x (listed_inside how xs ms)
    at true k = index_alike (index_of how) x (stepped_all xs ls) (stepped_all xs ms) k
    at false k =
        no_index (index_of how) x (stepped_all xs ls) k
        ∙ (listed_stepped xs ls x
        ∙ (ap (stepped_some xs) (g x (without-other (index_of how) names x k h))
        ∙ (sym (listed_stepped xs ms x)
        ∙ sym (no_index (index_of how) x (stepped_all xs ms) k))))

module _ (il : Il) where
  mutual
    -- an expression has its type wherever its variables are listed alike
    pub ExpHasType-alike : {ls : List Listed} {e : IlExp} {t : Ty} → ExpHasType il ls e t → (ms : List Listed) → ListedAlike (vars e) ls ms → ExpHasType il ms e t
    ExpHasType-alike {ls = ls} {e = e} (typing.strict es f ts form parts told) ms g =
        typing.strict es f ts form (ExpsHaveTypes-alike parts ms (subst (λ z. ListedAlike z ls ms) (vars-form (syntaxes il) e (Strict es f) form) g)) told
    ExpHasType-alike (typing.same u h alias) ms g = typing.same u (ExpHasType-alike h ms g) alias
    ExpHasType-alike {ls = ls} {e = e} (typing.variable x l form at is) ms g =
        let alike : ListedAlike (x ∷ []) ls ms = subst (λ z. ListedAlike z ls ms) (vars-form (syntaxes il) e (Variable x) form) g in
        typing.variable x l form (sym (alike x (or-left (bytes_eq x x) false (bytes-same x))) ∙ at) is
    ExpHasType-alike {ls = ls} {e = e} (typing.call fun args declared form found parts is) ms g =
        typing.call fun args declared form found (ExpsHaveTypes-alike parts ms (subst (λ z. ListedAlike z ls ms) (vars-form (syntaxes il) e (Calls fun args) form) g)) is
    ExpHasType-alike {ls = ls} {e = e} (typing.iteration how xs body u form counts kinds inside is) ms g =
        let all : ListedAlike (vars_of (count_of how) ++ xs ++ without (index_of how) (vars body)) ls ms = subst (λ z. ListedAlike z ls ms) (vars-form (syntaxes il) e (Iterates how xs body) form) g in
        let first : ListedAlike (vars_of (count_of how) ++ xs) ls ms = alike_left (vars_of (count_of how) ++ xs) (without (index_of how) (vars body)) ls ms all in
        typing.iteration how xs body u form (ExpsHaveTypes-alike counts ms (alike_left (vars_of (count_of how)) xs ls ms first))
        (λ x i l at. kinds x i l (alike_right (vars_of (count_of how)) xs ls ms first x i ∙ at))
        (ExpHasType-alike inside (listed_inside how xs ms) (inside_alike how xs (vars body) ls ms (alike_right (vars_of (count_of how) ++ xs) (without (index_of how) (vars body)) ls ms all))) is

    pub ExpsHaveTypes-alike : {ls : List Listed} {es : List IlExp} {ts : List Ty} → ExpsHaveTypes il ls es ts → (ms : List Listed) → ListedAlike (vars_of es) ls ms → ExpsHaveTypes il ms es ts
    ExpsHaveTypes-alike typing.none ms g = typing.none
    ExpsHaveTypes-alike {ls = ls} (typing.more {e = e} {es = es} h rest) ms g =
        typing.more (ExpHasType-alike h ms (alike_left (vars e) (vars_of es) ls ms g)) (ExpsHaveTypes-alike rest ms (alike_right (vars e) (vars_of es) ls ms g))

  types_by : (m : List Bool) (ls : List Listed) (es : List IlExp) (ts : List Ty) → ExpsHaveTypes il ls es ts → ExpsHaveTypes il ls (inputs_by m es) (inputs_by m ts)
  types_by [] ls es ts h = typing.none
  types_by (b ∷ m) ls [] [] typing.none = typing.none
  types_by (b ∷ m) ls [] (t ∷ ts) h = elim h [ ]
  types_by (false ∷ m) ls (e ∷ es) [] h = elim h [ ]
  types_by (true ∷ m) ls (e ∷ es) [] h = elim h [ ]
  types_by (true ∷ m) ls (e ∷ es) (t ∷ ts) (typing.more h rest) = typing.more h (types_by m ls es ts rest)
  types_by (false ∷ m) ls (e ∷ es) (t ∷ ts) (typing.more h rest) = types_by m ls es ts rest

-- ---- what is bound

listed_bound : (names : List Name) (ls : List Listed) (x : Name) (l : Listed) → listed_as x (listed_in names ls) ≡ Some l → has_name names x ≡ true
listed_bound names [] x l e = cc
listed_bound names (m ∷ ms) x l e = at (has_name names m.name) refl e (listed_bound names ms x l)
  where
    at : (b : Bool) → has_name names m.name ≡ b → listed_as x (if b then m ∷ listed_in names ms else listed_in names ms) ≡ Some l → (listed_as x (listed_in names ms) ≡ Some l → has_name names x ≡ true) → has_name names x ≡ true
    at true k e later = here (bytes_eq x m.name) refl e
      where
        here : (c : Bool) → bytes_eq x m.name ≡ c → (if c then Some m else listed_as x (listed_in names ms)) ≡ Some l → has_name names x ≡ true
        here true j e = ap (has_name names) (bytes-path x m.name j) ∙ k
        here false j e = later e
    at false k e later = later e

bound_typed : (il : Il) (bound : List Name) (ls : List Listed) (env : Env) → TypedIn (syntaxes il) ls bound env → (x : Name) (l : Listed) → listed_as x (listed_in bound ls) ≡ Some l → IsSomeTyped (syntaxes il) (type_of l) (value_in env x)
bound_typed il bound ls env typed x l e =
    let named = listed_bound bound ls x l e in
    typed x named l (listed_same bound ls x named ∙ e)

-- ---- calls

abbrev Resulting : Il → Ty → ClauseDef → Type 0
Resulting il t c = ExpHasType il c.variables c.result t

of_function : (il : Il) (fun : Name) (t : FunDef) → function_named il fun ≡ Some t → (cs : List ClauseDef) → All (λ (c : ClauseDef). (declared : FunDef) → function_named il c.fun ≡ Some declared → ExpHasType il c.variables c.result declared.result) cs
    → All (Resulting il t.result) (clauses_from fun cs)
of_function il fun t e [] h = All-nil (Resulting il t.result)
of_function il fun t e (c ∷ cs) h = at (bytes_eq fun c.fun) refl (of_function il fun t e cs (All-tail (λ (c : ClauseDef). (declared : FunDef) → function_named il c.fun ≡ Some declared → ExpHasType il c.variables c.result declared.result) c cs h))
  where
    at : (b : Bool) → bytes_eq fun c.fun ≡ b → All (Resulting il t.result) (clauses_from fun cs) → All (Resulting il t.result) (if b then c ∷ clauses_from fun cs else clauses_from fun cs)
    at true k ih = All-cons (Resulting il t.result) c (clauses_from fun cs)
        (All-head (λ (c : ClauseDef). (declared : FunDef) → function_named il c.fun ≡ Some declared → ExpHasType il c.variables c.result declared.result) c cs h t (ap (function_named il) (sym (bytes-path fun c.fun k)) ∙ e)) ih
    at false k ih = ih

module _ (il : Il) (results : ResultsAreTyped il) where
  decides_typed : (n : ℕ) (t : Ty) (cs : List ClauseDef) → All (Resulting il t) cs → (vs : List Value) (v : Value) → Decides il (CallAt il n) cs vs (Val v) → IsTypedValue (syntaxes il) t v
  decides_typed n t [] h vs v d = cc
  decides_typed n t (c ∷ cs) h vs v (inl d) = law_of_types il results n c.variables d.0 c.result t v (All-head (Resulting il t) c cs h) d.1.typed d.2
  decides_typed n t (c ∷ cs) h vs v (inr (inl d)) = let bad : Val v ≡ Deep = d.1 in cc
  decides_typed n t (c ∷ cs) h vs v (inr (inr d)) = decides_typed n t cs (All-tail (Resulting il t) c cs h) vs v d.2

  call_typed : (n : ℕ) (fun : Name) (t : FunDef) (vs : List Value) (v : Value) → function_named il fun ≡ Some t → CallAt il n fun vs (Val v) → IsTypedValue (syntaxes il) t.result v
  call_typed zero fun t vs v e d = let bad : Val v ≡ Deep = d in cc
  call_typed (suc n) fun t vs v e d = decides_typed n t.result (clauses_of il fun) (of_function il fun t e (clauses_in il.defs) results) vs v d

  all_typed : (n : ℕ) {ls : List Listed} {es : List IlExp} {ts : List Ty} → ExpsHaveTypes il ls es ts → (env : Env) → ((x : Name) (l : Listed) → listed_as x ls ≡ Some l → IsSomeTyped (syntaxes il) (type_of l) (value_in env x))
      → (vs : List Value) → HaveValues (has_value_at il n) (tasks env es) vs → AreTypedValues (syntaxes il) ts vs
  all_typed n typing.none env typed [] have = tt
  all_typed n typing.none env typed (v ∷ vs) have = absurd have
  all_typed n (typing.more h rest) env typed [] have = absurd have
  all_typed n (typing.more h rest) env typed (v ∷ vs) have = (value_typed il (CallAt il n) (call_typed n) h env typed v have.0, all_typed n rest env typed vs have.1)

  -- the inputs of a goal are typed
  pub goal_typed : (n : ℕ) (bound : List Name) (ls : List Listed) (env : Env) (relation : Name) (es : List IlExp) (vs : List Value) → IsTypedGoal il ls relation es → HasOnly il ls bound env → all_known bound (vars_of (inputs_of il relation es)) ≡ true
      → HaveValues (has_value_at il n) (tasks env (inputs_of il relation es)) vs → AreInputs il relation vs
  goal_typed n bound ls env relation es vs goal only known have =
      subst (λ z. IsSomeAnd z (λ (r : RelationDef). AreTypedValues (syntaxes il) (inputs_of il relation r.holes) vs)) (sym goal.found)
      (all_typed n (ExpsHaveTypes-alike il (types_by il (mask il relation) ls es goal.declared.holes goal.types) (listed_in bound ls)
      (λ x h. listed_same bound ls x (known-within bound (vars_of (inputs_of il relation es)) known x h)))
      env (bound_typed il bound ls env only.typed) vs have)
