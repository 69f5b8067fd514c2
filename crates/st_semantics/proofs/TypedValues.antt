-- The value of an expression has its type, where operations keep types.
use Rattle.std.proofs.Common.{◌≡◌, ℕ, zero, suc, ◌+◌, ◌≤◌, pos, refl, sym, ◌∙◌, ap, subst, List, [], ◌∷◌, ◌++◌, map, ◌⊎◌, inl, inr, Bool, true, false, if◌then◌else◌, Some, bytes_eq, arith, All}
use Rattle.std.proofs.lemmas.List.Elements.{All-nil, All-cons, All-head, All-tail}
use Rattle.st_num.specs.Number.{IsNumber}
use Rattle.st_il.specs.declared.definition.ClauseDef.{ClauseDef}
use Rattle.st_il.specs.declared.definition.FunDef.{FunDef}
use Rattle.st_il.specs.declared.definition.Il.{Il}
use Rattle.st_il.specs.declared.definition.Listed.{Listed}
use Rattle.st_il.specs.declared.expression.IlExp.{IlExp}
use Rattle.st_il.specs.declared.expression.IlExp.TheOpen.{Iteration-F}
use Rattle.st_il.specs.declared.expression.Iteration.{Iteration, out-Iteration}
use Rattle.st_il.specs.declared.expression.ListItem.{ListItem}
use Rattle.st_il.specs.declared.expression.PathSeg.{PathSeg}
use Rattle.st_il.specs.declared.ty.Ty.{Ty}
use Rattle.st_il.specs.declared.ty.Ty.TheVariants as ty
use Rattle.st_il.specs.declared.value.Env.{Env}
use Rattle.st_il.specs.declared.value.Value.{Value}
use Rattle.st_il.specs.declared.value.Value.TheVariants as value
use Rattle.st_semantics.specs.declared.outcome.Outcome.TheVariants.{Val, Deep}
use Rattle.st_il.specs.Names.{Name, has_name}
use Rattle.st_il.specs.Definitions.{syntaxes, clauses_in, clauses_of, clauses_from}
use Rattle.st_semantics.specs.Environments.{Entry, lookup, value_in, IsTypedValue, AreTypedValues, IsSomeTyped, type_of, listed_as}
use Rattle.st_semantics.specs.Iterations.{count_of, count_at, index_of, index_at, kind_of, Column, columns, size_of, heads, tails, bound_to, counted_to, rows, Over, spread}
use Rattle.st_semantics.specs.Scopes.{indices, stepped_all, listed_inside}
use Rattle.st_semantics.specs.Evaluation.{Answers, tasks, each_task, Gives}
use Rattle.st_semantics.specs.Holding.{value_by, HaveValues}
use Rattle.st_semantics.specs.Depth.{AllTypedIn}
use Rattle.st_semantics.specs.Kinds.{AreOfItsKind}
use Rattle.st_semantics.specs.Calls.{Decides, CallAt}
use Rattle.st_semantics.specs.Typing as typing
use Rattle.st_semantics.specs.Typing.{function_named, ExpHasType, ExpsHaveTypes, ResultsAreTyped}
use Rattle.st_semantics.specs.Laws.{LawOfTypes}
use Rattle.st_semantics.proofs.Names.{bytes-path, bytes-same, or-cases, or-left}
use Rattle.st_semantics.proofs.Agree.{IsShort, index_short}
use Rattle.st_semantics.proofs.Restrict.{typed_of}
use Rattle.st_semantics.proofs.Elements.{EachTyped, elements_typed}
use Rattle.st_semantics.proofs.Columns.{spread_parts, natural_is}
use Rattle.st_semantics.proofs.Inverse.{operands, variable_value, called_value, elements_in}
use Rattle.st_semantics.proofs.TypedParts.{gathered_typed, number_below, natural_typed, number_in_range}
use Rattle.st_semantics.proofs.OperationRows.{law_of_operations}
use Rattle.st_type_table.proofs.UpLaws.{Same-up}

module _ (il : Il) where
  -- each listed variable has a value of its type
  abbrev TypedEnv : List Listed → Env → Type 0
  TypedEnv ls env = (x : Name) (l : Listed) → listed_as x ls ≡ Some l → IsSomeTyped (syntaxes il) (type_of l) (value_in env x)

  abbrev AllTypedEnv : List Listed → List Env → Type 0
  AllTypedEnv ls [] = Unit {0}
  AllTypedEnv ls (env ∷ envs) = TypedEnv ls env × AllTypedEnv ls envs

  -- the index is a number in each row
  abbrev IndexTyped : List Name → List Listed → Env → Type 0
  IndexTyped index ls env = (x : Name) → has_name index x ≡ true → (l : Listed) → listed_as x (indices index ++ ls) ≡ Some l → IsSomeTyped (syntaxes il) (type_of l) (value_in env x)

  abbrev AllIndexTyped : List Name → List Listed → List Env → Type 0
  AllIndexTyped index ls [] = Unit {0}
  AllIndexTyped index ls (env ∷ envs) = IndexTyped index ls env × AllIndexTyped index ls envs

  index_typed : (index : List Name) → IsShort index → (ls : List Listed) (env : List Entry) (k : ℕ) → (has : (i : Name) → has_name index i ≡ true → IsNumber (pos k))
      → IndexTyped index ls (record { entries = counted_to index k env })
  index_typed [] s ls env k has x h l e = cc
  index_typed (i ∷ j ∷ more) s ls env k has x h l e = absurd s
  index_typed (i ∷ []) s ls env k has x h l e = at (bytes_eq x i) (or-cases (bytes_eq x i) false h) e
    where
      number : IsNumber (pos k)
      number = has i (or-left (bytes_eq i i) false (bytes-same i))

      at : (b : Bool) → (b ≡ true) ⊎ (false ≡ true) → (if b then Some (record { name = i; ty = ty.Nat; dim = [] }) else listed_as x ls) ≡ Some l → IsSomeTyped (syntaxes il) (type_of l) (if b then Some (value.Num (pos k)) else lookup x env)
      at true w e =
          let listed : Listed = record { name = i; ty = ty.Nat; dim = [] } in
          let same : listed ≡ l = cc in
          subst (λ z. IsTypedValue (syntaxes il) (type_of z) (value.Num (pos k))) same (natural_typed (syntaxes il) k number)
      at false (inl bad) e = cc
      at false (inr bad) e = cc

  rows_index : (index xs : List Name) → IsShort index → (ls : List Listed) (env : List Entry) (limit : ℕ) → ((i : Name) → has_name index i ≡ true → IsNumber (pos limit)) → (n k : ℕ) (cs : List Column) → k + n ≤ limit
      → AllIndexTyped index ls (rows index xs env n k cs)
  rows_index index xs s ls env limit has zero k cs le = tt
  rows_index index xs s ls env limit has (suc n) k cs le = (
    index_typed index s ls (bound_to xs (heads cs) env) k (λ i h. number_below k limit (omega (arith, le)) (has i h)),
    rows_index index xs s ls env limit has n (k + 1) (tails cs) (omega (arith, le)),
  )

  -- all rows, from the index and the other variables
  all_rows : (index : List Name) (ls : List Listed) (envs : List Env) → AllIndexTyped index ls envs
      → ((x : Name) → has_name index x ≡ false → AllTypedIn il (indices index ++ ls) (x ∷ []) envs) → AllTypedEnv (indices index ++ ls) envs
  all_rows index ls [] h g = tt
  all_rows index ls (env ∷ envs) h g = (λ x l e. at x l e (has_name index x) refl, all_rows index ls envs h.1 (λ x n. (g x n).1))
    where
      at : (x : Name) (l : Listed) → listed_as x (indices index ++ ls) ≡ Some l → (b : Bool) → has_name index x ≡ b → IsSomeTyped (syntaxes il) (type_of l) (value_in env x)
      at x l e true k = h.0 x k l e
      at x l e false k = (g x k).0 x (or-left (bytes_eq x x) false (bytes-same x)) l e

  -- an iteration with an index has a count
  counted_index : (how : Iteration) (i : Name) → has_name (index_of how) i ≡ true → (e : IlExp) × (count_of how ≡ e ∷ [])
  counted_index how i h = at (out-Iteration how) h
    where
      at : (y : Iteration-F IlExp Iteration ListItem PathSeg) → has_name (index_at y) i ≡ true → (e : IlExp) × (count_at y ≡ e ∷ [])
      at Iteration-F.Star h = cc
      at Iteration-F.Plus h = cc
      at Iteration-F.Quest h = cc
      at (Iteration-F.Times e) h = cc
      at (Iteration-F.Below j e) h = (e, refl)

  -- each element of an iteration in a typed environment is typed
  spread_typed : (how : Iteration) (xs : List Name) (ls : List Listed) (env : Env) (count : List Value) (envs : List Env) → AreOfItsKind how xs ls → TypedEnv ls env
      → AreTypedValues (syntaxes il) (map (λ (e : IlExp). ty.Nat) (count_of how)) count → spread how xs env count ≡ Over envs → AllTypedEnv (listed_inside how xs ls) envs
  spread_typed how xs ls env count envs kinded t counts over =
      let p = spread_parts how xs env count envs over in
      all_rows (index_of how) (stepped_all xs ls) envs
      (subst (AllIndexTyped (index_of how) (stepped_all xs ls)) p.5
      (rows_index (index_of how) xs (index_short how) (stepped_all xs ls) env.entries p.0 (λ i h. limit p.0 p.2 i h) p.0 0 p.1 (omega arith)))
      (λ x n. elements_typed il how xs (x ∷ []) ls env count envs kinded (λ y h. subst (λ z. has_name (index_of how) z ≡ false) (sym (one y x h)) n) (λ y h l e. t y l e) over)
    where
      one : (y x : Name) → has_name (x ∷ []) y ≡ true → y ≡ x
      one y x h = elim (or-cases (bytes_eq y x) false h) [ inl k ↦ bytes-path y x k | inr bad ↦ cc ]

      limit : (n : ℕ) → size_of count (columns (kind_of how) xs env.entries) ≡ Some n → (i : Name) → has_name (index_of how) i ≡ true → IsNumber (pos n)
      limit n size i h = at (counted_index how i h) count counts size
        where
          at : ((e : IlExp) × (count_of how ≡ e ∷ [])) → (cs : List Value) → AreTypedValues (syntaxes il) (map (λ (e : IlExp). ty.Nat) (count_of how)) cs → size_of cs (columns (kind_of how) xs env.entries) ≡ Some n → IsNumber (pos n)
          at (e, is) cs typed size = by cs (subst (λ z. AreTypedValues (syntaxes il) (map (λ (e : IlExp). ty.Nat) z) cs) is typed) size
            where
              by : (cs : List Value) → AreTypedValues (syntaxes il) (ty.Nat ∷ []) cs → size_of cs (columns (kind_of how) xs env.entries) ≡ Some n → IsNumber (pos n)
              by [] t size = absurd t
              by (c ∷ []) t size = number_in_range (syntaxes il) ty.Nat n (subst (IsTypedValue (syntaxes il) ty.Nat) (natural_is c n size) t.0)
              by (c ∷ d ∷ cs) t size = absurd t.1

  -- ---- expressions

  module _ (C : Answers) (calls : (fun : Name) (declared : FunDef) (vs : List Value) (v : Value) → function_named il fun ≡ Some declared → C fun vs (Val v) → IsTypedValue (syntaxes il) declared.result v) where
    each_typed_value : (body : IlExp) (u : Ty) (ls : List Listed) → ((env : Env) → TypedEnv ls env → (v : Value) → Gives (syntaxes il) C env body (Val v) → IsTypedValue (syntaxes il) u v)
        → (envs : List Env) → AllTypedEnv ls envs → (vs : List Value) → HaveValues (value_by (syntaxes il) C) (each_task envs body) vs → EachTyped (syntaxes il) u vs
    each_typed_value body u ls f [] t [] h = tt
    each_typed_value body u ls f [] t (v ∷ vs) h = absurd h
    each_typed_value body u ls f (env ∷ envs) t [] h = absurd h
    each_typed_value body u ls f (env ∷ envs) t (v ∷ vs) h = (f env t.0 v h.0, each_typed_value body u ls f envs t.1 vs h.1)

    mutual
      pub value_typed : {ls : List Listed} {e : IlExp} {t : Ty} → ExpHasType il ls e t → (env : Env) → TypedEnv ls env → (v : Value) → Gives (syntaxes il) C env e (Val v) → IsTypedValue (syntaxes il) t v
      value_typed {e = e} {t = t} (typing.strict es f ts h parts told) env typed v g =
          let w = operands (syntaxes il) C env e es f v h g in
          law_of_operations (syntaxes il) e es f ts t h told w.0 v (values_typed parts env typed w.0 w.1) w.2
      value_typed {t = t} (typing.same u x equal) env typed v g =
          let w = value_typed x env typed v g in
          record { form = Same-up (syntaxes il) u t equal v w.form; value = w.value; numbers = w.numbers }
      value_typed {e = e} {t = t} (typing.variable x l h at is) env typed v g =
          let found = variable_value (syntaxes il) C env e x v h g in
          subst (λ z. IsTypedValue (syntaxes il) z v) (sym is) (subst (IsSomeTyped (syntaxes il) (type_of l)) found (typed x l at))
      value_typed {e = e} {t = t} (typing.call fun args declared h found parts is) env typed v g =
          let w = called_value (syntaxes il) C env e fun args v h g in
          subst (λ z. IsTypedValue (syntaxes il) z v) (sym is) (calls fun declared w.0 v found w.1)
      value_typed {ls = ls} {e = e} (typing.iteration how xs body u h counts kinded inside is) env typed v g =
          let w = elements_in (syntaxes il) C env e how xs body v h g in
          let rows_are = spread_typed how xs ls env w.count w.envs kinded typed (values_typed counts env typed w.count w.counted) w.over in
          subst (λ z. IsTypedValue (syntaxes il) z v) (sym is)
          (gathered_typed (syntaxes il) (kind_of how) u w.values v (each_typed_value body u (listed_inside how xs ls) (value_typed inside) w.envs rows_are w.values w.each) w.makes)

      values_typed : {ls : List Listed} {es : List IlExp} {ts : List Ty} → ExpsHaveTypes il ls es ts → (env : Env) → TypedEnv ls env → (vs : List Value) → HaveValues (value_by (syntaxes il) C) (tasks env es) vs → AreTypedValues (syntaxes il) ts vs
      values_typed typing.none env typed [] h = tt
      values_typed typing.none env typed (v ∷ vs) h = absurd h
      values_typed (typing.more x xs) env typed [] h = absurd h
      values_typed (typing.more x xs) env typed (v ∷ vs) h = (value_typed x env typed v h.0, values_typed xs env typed vs h.1)

    -- ---- clauses

    abbrev ResultTyped : Ty → ClauseDef → Type 0
    ResultTyped t c = ExpHasType il c.variables c.result t

    decides_typed : (t : Ty) (cs : List ClauseDef) → All (ResultTyped t) cs → (vs : List Value) (v : Value) → Decides il C cs vs (Val v) → IsTypedValue (syntaxes il) t v
    decides_typed t [] h vs v d = cc
    decides_typed t (c ∷ cs) h vs v (inl d) = value_typed (All-head (ResultTyped t) c cs h) d.0 (λ x l e. typed_of (syntaxes il) c.variables d.0 d.1.typed x l e) v d.2
    decides_typed t (c ∷ cs) h vs v (inr (inl d)) = let bad : Val v ≡ Deep = d.1 in cc
    decides_typed t (c ∷ cs) h vs v (inr (inr d)) = decides_typed t cs (All-tail (ResultTyped t) c cs h) vs v d.2

abbrev Declared : Il → ClauseDef → Type 0
Declared il c = (declared : FunDef) → function_named il c.fun ≡ Some declared → ExpHasType il c.variables c.result declared.result

abbrev Resulting : Il → Ty → ClauseDef → Type 0
Resulting il t c = ExpHasType il c.variables c.result t

of_function : (il : Il) (fun : Name) (t : FunDef) → function_named il fun ≡ Some t → (cs : List ClauseDef) → All (Declared il) cs → All (Resulting il t.result) (clauses_from fun cs)
of_function il fun t e [] h = All-nil (Resulting il t.result)
of_function il fun t e (c ∷ cs) h = at (bytes_eq fun c.fun) refl (of_function il fun t e cs (All-tail (Declared il) c cs h))
  where
    at : (b : Bool) → bytes_eq fun c.fun ≡ b → All (Resulting il t.result) (clauses_from fun cs) → All (Resulting il t.result) (if b then c ∷ clauses_from fun cs else clauses_from fun cs)
    at true k ih = All-cons (Resulting il t.result) c (clauses_from fun cs) (All-head (Declared il) c cs h t (ap (function_named il) (sym (bytes-path fun c.fun k)) ∙ e)) ih
    at false k ih = ih

calls_typed : (il : Il) → ResultsAreTyped il → (n : ℕ) (fun : Name) (t : FunDef) (vs : List Value) (v : Value) → function_named il fun ≡ Some t → CallAt il n fun vs (Val v) → IsTypedValue (syntaxes il) t.result v
calls_typed il h zero fun t vs v e d = let bad : Val v ≡ Deep = d in cc
calls_typed il h (suc n) fun t vs v e d = decides_typed il (CallAt il n) (calls_typed il h n) t.result (clauses_of il fun) (of_function il fun t e (clauses_in il.defs) h) vs v d

pub law_of_types : LawOfTypes
law_of_types il h n ls env e t v typed ok g = value_typed il (CallAt il n) (calls_typed il h n) typed env (λ x l at. typed_of (syntaxes il) ls env ok x l at) v g
