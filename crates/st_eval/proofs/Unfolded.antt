-- An iterated premise of which some variables are bound, wherever it is met: its count, its elements,
-- and what they bind.
use Rattle.std.proofs.Common.{◌≡◌, ℕ, suc, pos, refl, sym, ◌∙◌, ap, ap₂, subst, List, [], ◌∷◌, ◌++◌, length, filter, ◌⊎◌, inl, inr, Bool, true, false, ◌&&◌, if◌then◌else◌, Option, Some, None, bytes_eq}
use Rattle.std.specs.List.{list_all}
use Rattle.std.specs.Option.{option_and_then}
use Rattle.st_num.specs.declared.dim.Kind.{Kind}
use Rattle.st_num.specs.declared.dim.Kind.TheVariants as kind
use Rattle.st_il.specs.declared.definition.Il.{Il}
use Rattle.st_il.specs.declared.definition.Listed.{Listed}
use Rattle.st_il.specs.declared.definition.SyntaxDef.{SyntaxDef}
use Rattle.st_il.specs.declared.expression.IlExp.{IlExp, out-IlExp}
use Rattle.st_il.specs.declared.expression.IlExp.TheOpen.{IlExp-F, Iteration-F}
use Rattle.st_il.specs.declared.expression.Iteration.{Iteration, out-Iteration}
use Rattle.st_il.specs.declared.expression.ListItem.{ListItem}
use Rattle.st_il.specs.declared.expression.PathSeg.{PathSeg}
use Rattle.st_il.specs.declared.expression.IlPrem.{IlPrem, out-IlPrem}
use Rattle.st_il.specs.declared.expression.IlPrem.TheOpen.{IlPrem-F}
use Rattle.st_il.specs.declared.ty.Ty.{Ty}
use Rattle.st_il.specs.declared.value.Env.{Env}
use Rattle.st_il.specs.declared.value.Value.{Value}
use Rattle.st_il.specs.declared.value.Value.TheVariants as value
use Rattle.st_semantics.specs.declared.outcome.Outcome.TheVariants.{Val, Deep}
use Rattle.st_il.specs.Names.{Name, has_name, all_known, among, without}
use Rattle.st_il.specs.Definitions.{syntaxes}
use Rattle.st_semantics.specs.Environments.{value_in, type_of, listed_names, AgreeOn, TypedIn, IsSomeTyped, names_of, listed_as}
use Rattle.st_semantics.specs.Parts.{natural, natural_of, number_at}
use Rattle.st_semantics.specs.Forms.{form_at, Variable, by_itself}
use Rattle.st_semantics.specs.Iterations.{count_of, count_at, index_of, kind_of, kind_at, columns, size_of, spread, Over, gathered, gathered_as}
use Rattle.st_semantics.specs.Scopes.{listed_inside, stepped_all, indices}
use Rattle.st_semantics.specs.Evaluation.{tasks}
use Rattle.st_semantics.specs.Variables.{vars, vars_of, prem_vars}
use Rattle.st_semantics.specs.Holding.{Meaning, HaveValues, AreElements, each_instance}
use Rattle.st_semantics.specs.Depth as d
use Rattle.st_semantics.specs.Depth.{Setting, HoldIn, AreDeep, bound_count, ValuesAt, AllTypedIn, Passed, Unfolds, BindsTooHigh, MeetsHere, Meets}
use Rattle.st_semantics.specs.Chains as chain
use Rattle.st_semantics.specs.Chains.{Reaches}
use Rattle.st_semantics.specs.Executable.{is_countable, is_variable_at}
use Rattle.st_semantics.proofs.Names.{Within, within-cases, within-left, within-right, and-both, or-cases, or-left, or-right, known-within, true_false, vars-form, prem-level, without-other}
use Rattle.st_semantics.proofs.Agree.{Local, EnvsAgree, HoldAll-agree, each_instance-agree}
use Rattle.st_semantics.proofs.Premises.{without-parts}
use Rattle.st_semantics.proofs.Lengths.{limited_is}
use Rattle.st_semantics.proofs.CanRun.{IsShort, count_short}
use Rattle.st_semantics.proofs.Low.{listed_there}
use Rattle.st_semantics.proofs.PatternValues.{one_name}
use Rattle.st_semantics.proofs.Bindings.{EachBinds}
use Rattle.st_eval.specs.Steps.{HasOnly}
use Rattle.st_eval.specs.Elements.{Gathers}
use Rattle.st_eval.proofs.Trying.{known_all}
use Rattle.st_eval.proofs.Unfolding.{AreCounted, known_spread, over_same, or_some, values_of, collected, gathered_env, HasValues, IsFreeCount, number_is, w, more_agrees, more_new, more_count, cols, gathers, anchored_size}

-- an iteration with a count goes over lists
count_lists : (how : Iteration) (e : IlExp) → count_of how ≡ e ∷ [] → kind_of how ≡ kind.List
count_lists how e one = at (out-Iteration how) one
  where
    at : (y : Iteration-F IlExp Iteration ListItem PathSeg) → count_at y ≡ e ∷ [] → kind_at y ≡ kind.List
    at Iteration-F.Star k = refl
    at Iteration-F.Plus k = refl
    at Iteration-F.Quest k = cc
    at (Iteration-F.Times g) k = refl
    at (Iteration-F.Below index g) k = refl

-- the names inside an iteration are its index and those of before
inside_names : (is : List Name) (xs : List Name) (ls : List Listed) (x : Name) → (has_name is x ≡ true) ⊎ (has_name (listed_names ls) x ≡ true) → has_name (listed_names (indices is ++ stepped_all xs ls)) x ≡ true
inside_names [] xs [] x (inl i) = cc
inside_names [] xs [] x (inr i) = cc
inside_names [] xs (l ∷ ls) x (inl i) = cc
inside_names [] xs (l ∷ ls) x (inr i) = elim (or-cases (bytes_eq x l.name) (has_name (listed_names ls) x) i) [
  | inl k ↦ or-left (bytes_eq x l.name) (has_name (listed_names (stepped_all xs ls)) x) k
  | inr k ↦ or-right (bytes_eq x l.name) (has_name (listed_names (stepped_all xs ls)) x) (inside_names [] xs ls x (inr k))
]
inside_names (j ∷ js) xs ls x (inl i) = elim (or-cases (bytes_eq x j) (has_name js x) i) [
  | inl k ↦ or-left (bytes_eq x j) (has_name (listed_names (indices js ++ stepped_all xs ls)) x) k
  | inr k ↦ or-right (bytes_eq x j) (has_name (listed_names (indices js ++ stepped_all xs ls)) x) (inside_names js xs ls x (inl k))
]
inside_names (j ∷ js) xs ls x (inr i) = or-right (bytes_eq x j) (has_name (listed_names (indices js ++ stepped_all xs ls)) x) (inside_names js xs ls x (inr i))

-- the number of a natural number
natural_number : (m : ℕ) → natural (value.Num (pos m)) ≡ Some m
natural_number m = ap (λ z. option_and_then natural_of (number_at z)) (value.outs-Num (pos m))

only_false : (b : Bool) → (b && true) ≡ false → b ≡ false
only_false true k = cc
only_false false k = refl

pub not_in_both : (as' bs : List Name) (x : Name) → has_name as' x ≡ false → has_name bs x ≡ false → has_name (as' ++ bs) x ≡ false
not_in_both as' bs x f g = at (has_name (as' ++ bs) x) refl
  where
    at : (b : Bool) → has_name (as' ++ bs) x ≡ b → has_name (as' ++ bs) x ≡ false
    at true k = elim (within-cases as' bs x k) [ inl i ↦ absurd (true_false (sym i ∙ f)) | inr i ↦ absurd (true_false (sym i ∙ g)) ]
    at false k = k

-- values that are there are the values of the variable
pub values_same : (x : Name) (found : List Env) (vs : List Value) → ValuesAt x found vs → vs ≡ values_of x found
values_same x [] [] at = refl
values_same x [] (v ∷ vs) at = absurd at
values_same x (t ∷ ts) [] at = absurd at
values_same x (t ∷ ts) (v ∷ vs) at = ap₂ (λ y z. y ∷ z) (sym (ap or_some at.0)) (values_same x ts vs at.1)

-- what is gathered is a list or an option
pub gathered_is : (k : Kind) (vs : List Value) (v : Value) → gathered_as k vs ≡ Val v → collected k vs ≡ v
gathered_is kind.List vs v e = limited_is (value.List vs) v e
gathered_is kind.Opt [] v e = limited_is (value.Opt None) v e
gathered_is kind.Opt (u ∷ us) v e = limited_is (value.Opt (Some u)) v e

-- a value of a type is there
pub some_there : (defs : List SyntaxDef) (t : Ty) (o : Option Value) → IsSomeTyped defs t o → (v : Value) × (o ≡ Some v)
some_there defs t None h = absurd h
some_there defs t (Some v) h = (v, refl)

-- ---- elements that agree

pub agree_length : (names : List Name) (as' bs : List Env) → EnvsAgree names as' bs → length bs ≡ length as'
agree_length names [] [] g = refl
agree_length names [] (b ∷ bs) g = absurd g
agree_length names (a ∷ as') [] g = absurd g
agree_length names (a ∷ as') (b ∷ bs) g = ap suc (agree_length names as' bs g.1)

pub agree_turned : (names : List Name) (as' bs : List Env) → EnvsAgree names as' bs → EnvsAgree names bs as'
agree_turned names [] [] g = tt
agree_turned names [] (b ∷ bs) g = absurd g
agree_turned names (a ∷ as') [] g = absurd g
agree_turned names (a ∷ as') (b ∷ bs) g = (λ x i. sym (g.0 x i), agree_turned names as' bs g.1)

-- where those that agree are cut
abbrev pub CutAt : List Name → List Env → List Env → Env → List Env → Type 0
CutAt names as' bs b cs =
    (before : List Env) × (at : Env) × (after : List Env) × (as' ≡ before ++ at ∷ after) × EnvsAgree names before bs × AgreeOn names at b

pub cut_at : (names : List Name) (as' bs : List Env) (b : Env) (cs : List Env) → EnvsAgree names as' (bs ++ b ∷ cs) → CutAt names as' bs b cs
cut_at names [] [] b cs g = absurd g
cut_at names [] (d ∷ bs) b cs g = absurd g
cut_at names (a ∷ as') [] b cs g = ([], a, as', refl, tt, g.0)
cut_at names (a ∷ as') (d ∷ bs) b cs g =
    let c : CutAt names as' bs b cs = cut_at names as' bs b cs g.1 in
    (a ∷ c.0, c.1, c.2, ap (λ z. a ∷ z) c.3, (g.0, c.4), c.5)

-- the values of a variable at elements that agree on it
pub values_moved : (names : List Name) (x : Name) → has_name names x ≡ true → (as' bs : List Env) (vs : List Value) → EnvsAgree names as' bs → ValuesAt x as' vs → ValuesAt x bs vs
values_moved names x i [] [] vs g at = at
values_moved names x i [] (b ∷ bs) vs g at = absurd g
values_moved names x i (a ∷ as') [] vs g at = absurd g
values_moved names x i (a ∷ as') (b ∷ bs) [] g at = at
values_moved names x i (a ∷ as') (b ∷ bs) (v ∷ vs) g at = (sym (g.0 x i) ∙ at.0, values_moved names x i as' bs vs g.1 at.1)

-- elements that agree are typed alike
pub typed_moved : (il : Il) (ls : List Listed) (names few : List Name) → Within few names → (as' bs : List Env) → EnvsAgree names as' bs → AllTypedIn il ls few as' → AllTypedIn il ls few bs
typed_moved il ls names few w [] [] g t = tt
typed_moved il ls names few w [] (b ∷ bs) g t = absurd g
typed_moved il ls names few w (a ∷ as') [] g t = absurd g
typed_moved il ls names few w (a ∷ as') (b ∷ bs) g t =
    (λ x i l at. subst (IsSomeTyped (syntaxes il) (type_of l)) (g.0 x (w x i)) (t.0 x i l at), typed_moved il ls names few w as' bs g.1 t.1)

-- ---- what is used of an iterated premise, and of when expressions have values

-- The number of its elements is bound, its count can be met, all its other variables are bound, and
-- it names no variable that is its count.
pub record IsUnfolded (bound : List Name) (ls : List Listed) (p : IlPrem) (how : Iteration) (xs : List Name) (body : IlPrem) : Type 0 where
  pub is : out-IlPrem p ≡ IlPrem-F.Each how xs body
  pub binds : EachBinds bound how xs body
  pub listed : all_known (listed_names ls) (bound ++ prem_vars p) ≡ true
  pub apart : (e : IlExp) (c : Name) → count_of how ≡ e ∷ [] → out-IlExp e ≡ IlExp-F.Var c → has_name bound c ≡ false → has_name xs c ≡ false

-- An expression has one value at most, by its variables alone, and a variable has its own.
pub record IsPlain (V : Meaning) : Type 0 where
  pub local : Local V
  pub single : (env : Env) (e : IlExp) (v u : Value) → V env e v → V env e u → v ≡ u
  pub named : (env : Env) (e : IlExp) (x : Name) (v : Value) → out-IlExp e ≡ IlExp-F.Var x → value_in env x ≡ Some v → V env e v

-- The count has a value, if it is bound, and the iterated variables that are bound have these
-- elements.
pub record Spreads (V : Meaning) (bound : List Name) (env : Env) (how : Iteration) (xs : List Name) (elements : List Env) : Type 0 where
  pub count : List Value
  pub counted : HaveValues V (tasks env (bound_count bound how)) count
  pub over : spread how (among bound xs) env count ≡ Over elements

-- the one value of a count
pub one_value : (V : Meaning) (env : Env) (es : List IlExp) (e : IlExp) (cs : List Value) → es ≡ e ∷ [] → HaveValues V (tasks env es) cs → (c : Value) × (cs ≡ c ∷ []) × V env e c
one_value V env es e cs one have = at cs (subst (λ z. HaveValues V (tasks env z) cs) one have)
  where
    at : (cs : List Value) → HaveValues V (tasks env (e ∷ [])) cs → (c : Value) × (cs ≡ c ∷ []) × V env e c
    at [] h = absurd h
    at (c ∷ []) h = (c, refl, h.0)
    at (c ∷ d ∷ cs) h = absurd h.1

no_values : (V : Meaning) (vs : List Value) → HaveValues V [] vs → vs ≡ []
no_values V [] have = refl
no_values V (v ∷ vs) have = absurd have

module _ (il : Il) (bound : List Name) (ls : List Listed) (p : IlPrem) (how : Iteration) (xs : List Name) (body : IlPrem) (u : IsUnfolded bound ls p how xs body) where
  -- what is bound inside, and the variables as they are listed there
  abbrev Inside : List Name
  Inside = index_of how ++ bound

  abbrev Scope : List Listed
  Scope = listed_inside how xs ls

  abbrev New : List Name
  New = without Inside (prem_vars body)

  -- the variables of the premise
  pub outer_names : (x : Name) → has_name (prem_vars p) x ≡ has_name ((vars_of (count_of how) ++ xs) ++ without (index_of how) (prem_vars body)) x
  outer_names x = ap (λ z. has_name z x) (prem-level p (IlPrem-F.Each how xs body) u.is)

  pub xs_within : Within xs (prem_vars p)
  xs_within x i = outer_names x ∙ within-left (vars_of (count_of how) ++ xs) (without (index_of how) (prem_vars body)) x (within-right (vars_of (count_of how)) xs x i)

  -- a name of the iteration occurs inside and is not its index
  pub own_name : (x : Name) → has_name xs x ≡ true → (has_name (index_of how) x ≡ false) × (has_name (prem_vars body) x ≡ true)
  own_name x i = without-parts (index_of how) (prem_vars body) x (known-within (without (index_of how) (prem_vars body)) xs u.binds.own x i)

  -- a variable of the inner premise is bound inside, or iterated
  pub inner_name : (x : Name) → has_name (prem_vars body) x ≡ true → (has_name Inside x ≡ true) ⊎ ((has_name (index_of how) x ≡ false) × (has_name bound x ≡ false) × (has_name xs x ≡ true))
  inner_name x i = at (has_name (index_of how) x) refl (has_name bound x) refl (has_name xs x) refl
    where
      at : (a : Bool) → has_name (index_of how) x ≡ a → (b : Bool) → has_name bound x ≡ b → (c : Bool) → has_name xs x ≡ c
          → (has_name Inside x ≡ true) ⊎ ((has_name (index_of how) x ≡ false) × (has_name bound x ≡ false) × (has_name xs x ≡ true))
      at true ia b ib c ic = inl (within-left (index_of how) bound x ia)
      at false ia true ib c ic = inl (within-right (index_of how) bound x ib)
      at false ia false ib true ic = inr (ia, ib, ic)
      at false ia false ib false ic =
          absurd (true_false (sym (known-within bound (without xs (without (index_of how) (prem_vars body))) u.binds.others x
          (without-other xs (without (index_of how) (prem_vars body)) x ic (without-other (index_of how) (prem_vars body) x ia i))) ∙ ib))

  pub inside_listed : all_known (listed_names Scope) (Inside ++ prem_vars body) ≡ true
  inside_listed = known_all (listed_names Scope) (Inside ++ prem_vars body) (λ x k. elim (within-cases Inside (prem_vars body) x k) [
    | inl i ↦ bound_inside x i
    | inr i ↦ elim (inner_name x i) [
      | inl j ↦ bound_inside x j
      | inr j ↦ inside_names (index_of how) xs ls x (inr (known-within (listed_names ls) (bound ++ prem_vars p) u.listed x (within-right bound (prem_vars p) x (xs_within x j.2))))
    ]
  ])
    where
      bound_inside : (x : Name) → has_name Inside x ≡ true → has_name (listed_names Scope) x ≡ true
      bound_inside x k = elim (within-cases (index_of how) bound x k) [
        | inl i ↦ inside_names (index_of how) xs ls x (inl i)
        | inr i ↦ inside_names (index_of how) xs ls x (inr (known-within (listed_names ls) (bound ++ prem_vars p) u.listed x (within-left bound (prem_vars p) x i)))
      ]

  -- how a count that is not bound is named
  abbrev CountNamed : List Name → Type 0
  CountNamed free =
      ((count_of how ≡ []) × (free ≡ []))
      ⊎ ((e : IlExp) × (count_of how ≡ e ∷ []) × (all_known bound (vars e) ≡ true) × (free ≡ []))
      ⊎ ((e : IlExp) × (c : Name) × (count_of how ≡ e ∷ []) × (out-IlExp e ≡ IlExp-F.Var c) × (all_known bound (vars e) ≡ false) × (free ≡ c ∷ []))

  abbrev Free : Type 0
  Free = (free : List Name) × IsFreeCount bound xs free × CountNamed free

  -- a variable by itself is not bound, where its name is not
  unbound_variable : (e : IlExp) (c : Name) → out-IlExp e ≡ IlExp-F.Var c → all_known bound (vars e) ≡ false → has_name bound c ≡ false
  unbound_variable e c o k = only_false (has_name bound c) (sym (ap (all_known bound) (vars-form (syntaxes il) e (Variable c) (by_itself (ap form_at o)))) ∙ k)

  free : Free
  free = at (count_of how) refl (count_short how) u.binds.counted
    where
      at : (es : List IlExp) → count_of how ≡ es → IsShort es → list_all (is_countable bound) es ≡ true → Free
      at [] none s k = ([], inl refl, inl (none, refl))
      at (e ∷ f ∷ es) one s k = absurd s
      at (e ∷ []) one s k = by_known (all_known bound (vars e)) refl (or-cases (all_known bound (vars e)) (is_variable_at (out-IlExp e)) (and-both (is_countable bound e) true k).0)
        where
          variable_free : all_known bound (vars e) ≡ false → (y : IlExp-F IlExp Iteration ListItem PathSeg) → out-IlExp e ≡ y → is_variable_at y ≡ true → Free
          variable_free j (IlExp-F.Var c) o v =
              let apart : has_name bound c ≡ false = unbound_variable e c o j in
              (c ∷ [], inr (c, refl, apart, u.apart e c one o apart), inr (inr (e, c, one, o, j, refl)))
          variable_free j _ o v = cc

          by_known : (b : Bool) → all_known bound (vars e) ≡ b → (all_known bound (vars e) ≡ true) ⊎ (is_variable_at (out-IlExp e) ≡ true) → Free
          by_known true j either = ([], inl refl, inr (inl (e, one, j, refl)))
          by_known false j (inl i) = absurd (true_false (sym i ∙ j))
          by_known false j (inr i) = variable_free j (out-IlExp e) refl i

  anchor : (kind_of how ≡ kind.List) ⊎ ((x : Name) × (has_name xs x ≡ true) × (has_name bound x ≡ true))
  anchor = elim (u.binds.reached) [ inl a ↦ inr a | inr a ↦ inl (count_lists how a.0 a.1) ]

  -- a variable of the premise that is not bound is iterated, or it is the count
  pub unbound_name : (x : Name) → has_name bound x ≡ false → has_name (prem_vars p) x ≡ true
      → (has_name xs x ≡ true) ⊎ ((e : IlExp) × (count_of how ≡ e ∷ []) × (out-IlExp e ≡ IlExp-F.Var x))
  unbound_name x k i = elim (within-cases (vars_of (count_of how) ++ xs) (without (index_of how) (prem_vars body)) x (sym (outer_names x) ∙ i)) [
    | inl j ↦ elim (within-cases (vars_of (count_of how)) xs x j) [ inl c ↦ inr (counted_name c free.2) | inr m ↦ inl m ]
    | inr j ↦ inl (later j (has_name xs x) refl)
  ]
    where
      later : has_name (without (index_of how) (prem_vars body)) x ≡ true → (b : Bool) → has_name xs x ≡ b → has_name xs x ≡ true
      later j true m = m
      later j false m =
          absurd (true_false (sym (known-within bound (without xs (without (index_of how) (prem_vars body))) u.binds.others x (without-other xs (without (index_of how) (prem_vars body)) x m j)) ∙ k))

      alone : (e : IlExp) → count_of how ≡ e ∷ [] → has_name (vars_of (count_of how)) x ≡ true → has_name (vars e) x ≡ true
      alone e one c = elim (within-cases (vars e) [] x (subst (λ z. has_name (vars_of z) x ≡ true) one c)) [ inl j ↦ j | inr j ↦ cc ]

      counted_name : has_name (vars_of (count_of how)) x ≡ true → CountNamed free.0 → (e : IlExp) × (count_of how ≡ e ∷ []) × (out-IlExp e ≡ IlExp-F.Var x)
      counted_name c (inl v) = let bad : has_name [] x ≡ true = subst (λ z. has_name (vars_of z) x ≡ true) v.0 c in cc
      counted_name c (inr (inl v)) = absurd (true_false (sym (known-within bound (vars v.0) v.2 x (alone v.0 v.1 c)) ∙ k))
      counted_name c (inr (inr v)) =
          let vars_are : vars v.0 ≡ v.1 ∷ [] = vars-form (syntaxes il) v.0 (Variable v.1) (by_itself (ap form_at v.3)) in
          let named : x ≡ v.1 = one_name x v.1 (subst (λ z. has_name z x ≡ true) vars_are (alone v.0 v.2 c)) in
          (v.0, v.2, v.3 ∙ ap IlExp-F.Var (sym named))

  -- an environment of what is gathered has the variables, each of its type
  pub gathered_only : (env other : Env) → HasOnly il ls bound env → AgreeOn bound env other → ((x : Name) → has_name (names_of other) x ≡ has_name (bound ++ prem_vars p) x)
      → ((x : Name) → has_name bound x ≡ false → has_name xs x ≡ true → (l : Listed) → listed_as x ls ≡ Some l → IsSomeTyped (syntaxes il) (type_of l) (value_in other x))
      → ((e : IlExp) (x : Name) → count_of how ≡ e ∷ [] → out-IlExp e ≡ IlExp-F.Var x → has_name bound x ≡ false → (l : Listed) → listed_as x ls ≡ Some l → IsSomeTyped (syntaxes il) (type_of l) (value_in other x))
      → HasOnly il ls (bound ++ prem_vars p) other
  gathered_only env other only g names lists number = record { names_are = names; typed = λ x k l at. typed x k l at (has_name bound x) refl }
    where
      typed : (x : Name) → has_name (bound ++ prem_vars p) x ≡ true → (l : Listed) → listed_as x ls ≡ Some l → (b : Bool) → has_name bound x ≡ b → IsSomeTyped (syntaxes il) (type_of l) (value_in other x)
      typed x k l at true j = subst (IsSomeTyped (syntaxes il) (type_of l)) (g x j) (only.typed x j l at)
      typed x k l at false j = elim (within-cases bound (prem_vars p) x k) [
        | inl i ↦ absurd (true_false (sym i ∙ j))
        | inr i ↦ elim (unbound_name x j i) [ inl m ↦ lists x j m l at | inr c ↦ number c.0 x c.1 c.2 j l at ]
      ]

  -- ---- elements that have the values that others have

  -- a variable that an element binds has a value at it
  pub present : (f : Env) → TypedIn (syntaxes il) Scope New f → (x : Name) → has_name (index_of how) x ≡ false → has_name bound x ≡ false → has_name (prem_vars body) x ≡ true → (v : Value) × (value_in f x ≡ Some v)
  present f typed x a b i =
      let l = listed_there x Scope (known-within (listed_names Scope) (Inside ++ prem_vars body) inside_listed x (within-right Inside (prem_vars body) x i)) in
      some_there (syntaxes il) (type_of l.0) (value_in f x) (typed x (without-other Inside (prem_vars body) x (not_in_both (index_of how) bound x a b) i) l.0 l.1)

  abbrev HasValue : Name → Env → Env → Type 0
  HasValue x e t = value_in e x ≡ Some (or_some (value_in t x))

  found_agrees : (r f e : Env) → AgreeOn Inside r f → TypedIn (syntaxes il) Scope New f → AgreeOn Inside r e → ((x : Name) → has_name (index_of how) x ≡ false → has_name bound x ≡ false → has_name xs x ≡ true → HasValue x e f) → AgreeOn (prem_vars body) f e
  found_agrees r f e agree typed g values x i = elim (inner_name x i) [
    | inl k ↦ sym (agree x k) ∙ g x k
    | inr k ↦ (
        let v = present f typed x k.0 k.1 i in
        v.1 ∙ sym (values x k.0 k.1 k.2 ∙ ap (λ z. Some (or_some z)) v.1))
  ]

  all_found_agree : (before found envs : List Env) → EnvsAgree Inside before found → AllTypedIn il Scope New found → EnvsAgree Inside before envs
      → ((x : Name) → has_name (index_of how) x ≡ false → has_name bound x ≡ false → has_name xs x ≡ true → HasValues x envs found) → EnvsAgree (prem_vars body) found envs
  all_found_agree [] [] [] agree typed g values = tt
  all_found_agree [] [] (e ∷ es) agree typed g values = absurd g
  all_found_agree [] (f ∷ fs) envs agree typed g values = absurd agree
  all_found_agree (r ∷ before) [] envs agree typed g values = absurd agree
  all_found_agree (r ∷ before) (f ∷ fs) [] agree typed g values = absurd g
  all_found_agree (r ∷ before) (f ∷ fs) (e ∷ es) agree typed g values = (
    found_agrees r f e agree.0 typed.0 g.0 (λ x a b c. (values x a b c).0),
    all_found_agree before fs es agree.1 typed.1 g.1 (λ x a b c. (values x a b c).1),
  )

  -- elements that are cut where others are, with the values that were found at those before
  abbrev Cut : List Env → Env → List Env → List Env → List Env → Type 0
  Cut before at after found envs =
      (front : List Env) × (e : Env) × (back : List Env) × (envs ≡ front ++ e ∷ back) × EnvsAgree Inside before front × AgreeOn Inside at e
      × ((x : Name) → HasValues x envs (found ++ at ∷ after) → HasValues x front found)

  cut : (before : List Env) (at : Env) (after found envs : List Env) → EnvsAgree Inside before found → EnvsAgree Inside (before ++ at ∷ after) envs → Cut before at after found envs
  cut [] at after [] [] all g = absurd g
  cut [] at after [] (e ∷ es) all g = ([], e, es, refl, tt, g.0, λ x values. tt)
  cut [] at after (f ∷ fs) envs all g = absurd all
  cut (r ∷ before) at after [] envs all g = absurd all
  cut (r ∷ before) at after (f ∷ fs) [] all g = absurd g
  cut (r ∷ before) at after (f ∷ fs) (e ∷ es) all g =
      let c : Cut before at after fs es = cut before at after fs es all.1 g.1 in
      (e ∷ c.0, c.1, c.2, ap (λ z. e ∷ z) c.3, (g.0, c.4), c.5, λ x values. (values.0, c.6 x values.1))

  as_long : (before found : List Env) (at : Env) (after : List Env) → EnvsAgree Inside before found → length (found ++ at ∷ after) ≡ length (before ++ at ∷ after)
  as_long [] [] at after all = refl
  as_long [] (f ∷ found) at after all = absurd all
  as_long (r ∷ before) [] at after all = absurd all
  as_long (r ∷ before) (f ∷ found) at after all = ap suc (as_long before found at after all.1)

  -- ---- where expressions have values

  module _ (V : Meaning) (plain : IsPlain V) (env : Env) where
    abbrev pub ElementsIn : Env → List Env → Type 0
    ElementsIn more envs = AreElements V how xs more envs

    known_count : (e : IlExp) → count_of how ≡ e ∷ [] → (b : Bool) → all_known bound (vars e) ≡ b → bound_count bound how ≡ (if b then e ∷ [] else [])
    known_count e one b k = ap (λ z. filter (λ (e : IlExp). all_known bound (vars e)) z) one ∙ ap (λ z. if z then e ∷ [] else []) k

    counted_so : (more : Env) (few many : List Value) → AgreeOn bound env more → HaveValues V (tasks env (bound_count bound how)) few → HaveValues V (tasks more (count_of how)) many → AreCounted bound xs few many
    counted_so more few many g hf hm = at (count_of how) refl (count_short how)
      where
        at : (es : List IlExp) → count_of how ≡ es → IsShort es → AreCounted bound xs few many
        at (e ∷ f ∷ es) one s = absurd s
        at [] none s = elim (u.binds.reached) [
          | inl a ↦ inr (no_values V few (subst (λ z. HaveValues V (tasks env z) few) (ap (λ z. filter (λ (e : IlExp). all_known bound (vars e)) z) none) hf), a.0, a.1, a.2)
          | inr a ↦ (let bad : [] ≡ a.0 ∷ [] = sym none ∙ a.1 in cc)
        ]
        at (e ∷ []) one s = by_known (all_known bound (vars e)) refl
          where
            by_known : (b : Bool) → all_known bound (vars e) ≡ b → AreCounted bound xs few many
            by_known true k =
                let f = one_value V env (bound_count bound how) e few (known_count e one true k) hf in
                let m = one_value V more (count_of how) e many one hm in
                let same : f.0 ≡ m.0 = plain.single env e f.0 m.0 f.2 (plain.local more env e m.0 (λ x i. sym (g x (known-within bound (vars e) k x i))) m.2) in
                inl (f.0, f.1, m.1 ∙ ap (λ z. z ∷ []) (sym same))
            by_known false k = elim (u.binds.reached) [
              | inl a ↦ inr (no_values V few (subst (λ z. HaveValues V (tasks env z) few) (known_count e one false k) hf), a.0, a.1, a.2)
              | inr a ↦ (
                  let both : e ∷ [] ≡ a.0 ∷ [] = sym one ∙ a.1 in
                  let same : a.0 ≡ e = cc in
                  absurd (true_false (sym (subst (λ z. all_known bound (vars z) ≡ true) same a.2) ∙ k)))
            ]

    -- the bound part of a count that has values has them
    pub bound_values : (more : Env) → AgreeOn bound env more → (es : List IlExp) (many : List Value) → HaveValues V (tasks more es) many
        → (few : List Value) × HaveValues V (tasks env (filter (λ (e : IlExp). all_known bound (vars e)) es)) few
    bound_values more g [] [] have = ([], tt)
    bound_values more g [] (v ∷ vs) have = absurd have
    bound_values more g (e ∷ es) [] have = absurd have
    bound_values more g (e ∷ es) (v ∷ vs) have = at (all_known bound (vars e)) refl (bound_values more g es vs have.1)
      where
        at : (b : Bool) → all_known bound (vars e) ≡ b → (few : List Value) × HaveValues V (tasks env (filter (λ (e : IlExp). all_known bound (vars e)) es)) few
            → (few : List Value) × HaveValues V (tasks env (if b then e ∷ filter (λ (e : IlExp). all_known bound (vars e)) es else filter (λ (e : IlExp). all_known bound (vars e)) es)) few
        at true k rest = (v ∷ rest.0, (plain.local more env e v (λ x i. sym (g x (known-within bound (vars e) k x i))) have.0, rest.1))
        at false k rest = rest

    -- every environment with more variables spreads to elements as many as what is bound
    pub known_over : (count : List Value) → HaveValues V (tasks env (bound_count bound how)) count → (more : Env) → AgreeOn bound env more → (envs : List Env) → ElementsIn more envs
        → (rs : List Env) × (spread how (among bound xs) env count ≡ Over rs) × EnvsAgree Inside rs envs
    known_over count hf more g envs el = known_spread how bound xs env more count el.0 envs g (counted_so more count el.0 g hf el.1) el.2

    -- every environment with more variables has elements that agree on what is bound
    pub known : (elements : List Env) → Spreads V bound env how xs elements → (more : Env) → AgreeOn bound env more → (envs : List Env) → ElementsIn more envs → EnvsAgree Inside elements envs
    known elements goes more g envs el =
        let k = known_over goes.count goes.counted more g envs el in
        subst (λ z. EnvsAgree Inside z envs) (over_same k.0 elements (sym k.1 ∙ goes.over)) k.2

    -- ---- an environment with what the elements bind

    module _ (elements : List Env) (goes : Spreads V bound env how xs elements) (ts : List Env) (long : length ts ≡ length elements) where
      abbrev more : Env
      more = gathered_env how bound xs free.0 (length elements) ts env

      agrees : AgreeOn bound env more
      agrees = more_agrees how bound xs free.0 env goes.count elements ts goes.over long free.1

      -- its count
      abbrev Counted : Type 0
      Counted = (many : List Value) × HaveValues V (tasks more (count_of how)) many
          × (size_of many (Some (cols how bound xs free.0 env goes.count elements ts goes.over long free.1 anchor).0) ≡ Some (w how bound xs free.0 env goes.count elements ts goes.over long free.1).0)

      counted : Counted
      counted = at free.2
        where
          at : CountNamed free.0 → Counted
          at (inl v) = (
            [],
            subst (λ z. HaveValues V (tasks more z) []) (sym v.0) tt,
            elim (u.binds.reached) [
              | inl a ↦ anchored_size how bound xs free.0 env goes.count elements ts goes.over long free.1 anchor a.0 a.1
              | inr a ↦ (let bad : [] ≡ a.0 ∷ [] = sym v.0 ∙ a.1 in cc)
            ],
          )
          at (inr (inl v)) =
              let c = one_value V env (bound_count bound how) v.0 goes.count (known_count v.0 v.1 true v.2) goes.counted in (
                c.0 ∷ [],
                subst (λ z. HaveValues V (tasks more z) (c.0 ∷ [])) (sym v.1) (plain.local env more v.0 c.0 (λ x i. agrees x (known-within bound (vars v.0) v.2 x i)) c.2, tt),
                ap (λ z. size_of z (columns (kind_of how) (among bound xs) env.entries)) (sym c.1) ∙ (w how bound xs free.0 env goes.count elements ts goes.over long free.1).2,
              )
          at (inr (inr v)) = (
            value.Num (pos (length elements)) ∷ [],
            subst (λ z. HaveValues V (tasks more z) (value.Num (pos (length elements)) ∷ [])) (sym v.2)
                (plain.named more v.0 v.1 (value.Num (pos (length elements))) v.3 (more_count how bound xs free.0 env goes.count elements ts goes.over long free.1 v.1 v.5), tt),
            natural_number (length elements) ∙ ap Some (number_is how bound xs free.0 env goes.count elements ts goes.over long free.1),
          )

      -- it unfolds to elements that agree with those of before on what is bound, and have the values
      -- that were found
      abbrev Unfolded : Type 0
      Unfolded = (envs : List Env) × ElementsIn more envs × EnvsAgree Inside elements envs
          × ((x : Name) → has_name (index_of how) x ≡ false → has_name bound x ≡ false → has_name xs x ≡ true → HasValues x envs ts)

      unfolded : Unfolded
      unfolded =
          let g = gathers how bound xs free.0 env goes.count elements ts goes.over long free.1 anchor counted.0 counted.2 in
          (g.0, (counted.0, counted.1, g.1), g.2, g.3)

    -- An environment with more variables has elements that are cut where these are; what was found at
    -- those before holds at them.
    abbrev pub CutIn : Env → List Env → Type 0
    CutIn at found =
        (more : Env) × (front : List Env) × (here : Env) × (back : List Env) × AgreeOn bound env more × ElementsIn more (front ++ here ∷ back)
        × EnvsAgree (prem_vars body) found front × AgreeOn Inside at here

    pub cut_in : (before : List Env) (at : Env) (after found : List Env) → Spreads V bound env how xs (before ++ at ∷ after) → EnvsAgree Inside before found → AllTypedIn il Scope New found → CutIn at found
    cut_in before at after found goes agree typed =
        let long : length (found ++ at ∷ after) ≡ length (before ++ at ∷ after) = as_long before found at after agree in
        let un : Unfolded (before ++ at ∷ after) goes (found ++ at ∷ after) long = unfolded (before ++ at ∷ after) goes (found ++ at ∷ after) long in
        let c : Cut before at after found un.0 = cut before at after found un.0 agree un.2 in (
          more (before ++ at ∷ after) goes (found ++ at ∷ after) long,
          c.0,
          c.1,
          c.2,
          agrees (before ++ at ∷ after) goes (found ++ at ∷ after) long,
          subst (λ z. ElementsIn (more (before ++ at ∷ after) goes (found ++ at ∷ after) long) z) c.3 un.1,
          all_found_agree before found c.0 agree typed c.4 (λ x a b i. c.6 x (un.3 x a b i)),
          c.5,
        )

    -- ---- all elements

    module _ (elements found : List Env) (goes : Spreads V bound env how xs elements) (agree : EnvsAgree Inside elements found) (typed : AllTypedIn il Scope New found) where
      many : length found ≡ length elements
      many = agree_length Inside elements found agree

      whole : Unfolded elements goes found many
      whole = unfolded elements goes found many

      abbrev Made : Env
      Made = more elements goes found many

      made_agrees : AgreeOn bound env Made
      made_agrees = agrees elements goes found many

      -- what is gathered
      module _ (other : Env) (g : Gathers bound env how xs found other) where
        list_same : (x : Name) → has_name bound x ≡ false → has_name xs x ≡ true → value_in Made x ≡ value_in other x
        list_same x k i =
            let v = g.lists x k i in
            more_new how bound xs free.0 env goes.count elements found goes.over many free.1 x k i
            ∙ (ap Some (ap (collected (kind_of how)) (sym (values_same x found v.1 v.2)) ∙ gathered_is (kind_of how) v.1 v.0 v.3) ∙ sym v.4)

        count_same : (x : Name) → has_name bound x ≡ false → has_name (vars_of (count_of how)) x ≡ true → value_in Made x ≡ value_in other x
        count_same x k i = at free.2
          where
            alone : (e : IlExp) → count_of how ≡ e ∷ [] → has_name (vars e) x ≡ true
            alone e one = elim (within-cases (vars e) [] x (subst (λ z. has_name (vars_of z) x ≡ true) one i)) [ inl j ↦ j | inr j ↦ cc ]

            at : CountNamed free.0 → value_in Made x ≡ value_in other x
            at (inl v) = let bad : has_name [] x ≡ true = subst (λ z. has_name (vars_of z) x ≡ true) v.0 i in cc
            at (inr (inl v)) = absurd (true_false (sym (known-within bound (vars v.0) v.2 x (alone v.0 v.1)) ∙ k))
            at (inr (inr v)) =
                let vars_are : vars v.0 ≡ v.1 ∷ [] = vars-form (syntaxes il) v.0 (Variable v.1) (by_itself (ap form_at v.3)) in
                let named : x ≡ v.1 = one_name x v.1 (subst (λ z. has_name z x ≡ true) vars_are (alone v.0 v.2)) in
                ap (value_in Made) named
                ∙ (more_count how bound xs free.0 env goes.count elements found goes.over many free.1 v.1 v.5
                ∙ (ap (λ z. Some (value.Num (pos z))) (sym many)
                ∙ (sym (g.number v.0 v.1 v.2 v.3 (unbound_variable v.0 v.1 v.3 v.4)) ∙ ap (value_in other) (sym named))))

        all_same : AgreeOn (prem_vars p) Made other
        all_same x i = at (has_name bound x) refl
          where
            later : has_name bound x ≡ false → has_name (without (index_of how) (prem_vars body)) x ≡ true → (b : Bool) → has_name xs x ≡ b → value_in Made x ≡ value_in other x
            later k j true m = list_same x k m
            later k j false m =
                absurd (true_false (sym (known-within bound (without xs (without (index_of how) (prem_vars body))) u.binds.others x (without-other xs (without (index_of how) (prem_vars body)) x m j)) ∙ k))

            at : (b : Bool) → has_name bound x ≡ b → value_in Made x ≡ value_in other x
            at true k = sym (made_agrees x k) ∙ g.agrees x k
            at false k = elim (within-cases (vars_of (count_of how) ++ xs) (without (index_of how) (prem_vars body)) x (sym (outer_names x) ∙ i)) [
              | inl j ↦ elim (within-cases (vars_of (count_of how)) xs x j) [ inl c ↦ count_same x k c | inr m ↦ list_same x k m ]
              | inr j ↦ later k j (has_name xs x) refl
            ]

      -- An environment with more variables has elements at which what was found holds, and what is
      -- gathered of them.
      pub made : (more : Env) × AgreeOn bound env more × (envs : List Env) × ElementsIn more envs × EnvsAgree (prem_vars body) found envs
          × ((other : Env) → Gathers bound env how xs found other → AgreeOn (prem_vars p) more other)
      made = (Made, made_agrees, whole.0, whole.1, all_found_agree elements found whole.0 agree typed whole.2 whole.3, all_same)

-- ---- what it meets and reaches

module _ (s : Setting) (bound : List Name) (ls : List Listed) (env : Env) (p : IlPrem) (how : Iteration) (xs : List Name) (body : IlPrem) (is : out-IlPrem p ≡ IlPrem-F.Each how xs body) where
  abbrev pub Met : Iteration → List Name → IlPrem → Type 0
  Met k ys b =
      AreDeep s env (bound_count bound k)
      ⊎ ((before : List Env) × (at : Env) × (after : List Env) × Unfolds s bound k ys env (before ++ at ∷ after) × Passed s bound ls k ys b before
      × Meets s (index_of k ++ bound) (listed_inside k ys ls) at b)
      ⊎ BindsTooHigh s bound ls k ys b env

  moved_met : (k : Iteration) (ys : List Name) (b : IlPrem) → IlPrem-F.Each k ys b ≡ IlPrem-F.Each how xs body → Met k ys b → Met how xs body
  moved_met k ys b e m =
      let kk : k ≡ how = cc in
      let yy : ys ≡ xs = cc in
      let bb : b ≡ body = cc in
      subst (λ z. Met how xs z) bb (subst (λ z. Met how z b) yy (subst (λ z. Met z ys b) kk m))

  here_met : MeetsHere s bound env p → Met how xs body
  here_met (d.condition e part eq ev deep) = let bad : IlPrem-F.If e ≡ IlPrem-F.Each how xs body = sym eq ∙ is in cc
  here_met (d.input relation es eq deep) = let bad : IlPrem-F.Goal relation es ≡ IlPrem-F.Each how xs body = sym eq ∙ is in cc
  here_met (d.output relation es vs e eq have contains deep) = let bad : IlPrem-F.Goal relation es ≡ IlPrem-F.Each how xs body = sym eq ∙ is in cc
  here_met (d.count k ys b eq deep) = moved_met k ys b (sym eq ∙ is) (inl deep)

  pub met : Meets s bound ls env p → Met how xs body
  met (d.here m) = here_met m
  met (d.element k ys b before at after eq u passed m) = moved_met k ys b (sym eq ∙ is) (inr (inl (before, at, after, u, passed, m)))
  met (d.height k ys b eq t) = moved_met k ys b (sym eq ∙ is) (inr (inr t))

module _ (s : Setting) (plain : IsPlain s.meaning) (bound : List Name) (ls : List Listed) (env : Env) (p : IlPrem) (how : Iteration) (xs : List Name) (body : IlPrem) (u : IsUnfolded bound ls p how xs body) where
  abbrev In : List Name
  In = index_of how ++ bound

  abbrev Under : List Listed
  Under = listed_inside how xs ls

  abbrev Fresh : List Name
  Fresh = without In (prem_vars body)

  fresh_within : Within Fresh (prem_vars body)
  fresh_within x i = (without-parts In (prem_vars body) x i).1

  -- what was found holds at elements that agree with it
  pub passed_moved : (found front : List Env) → AllTypedIn s.il Under Fresh found → HoldIn s (each_instance found body) → EnvsAgree (prem_vars body) found front → Passed s bound ls how xs body front
  passed_moved found front typed hold g = record {
    typed = typed_moved s.il Under (prem_vars body) Fresh fresh_within found front g typed;
    hold = HoldAll-agree s.meaning plain.local s.otherwise s.derives hold (each_instance front body) (each_instance-agree body found front g);
  }

  module _ (before : List Env) (at : Env) (after found : List Env) (goes : Spreads s.meaning bound env how xs (before ++ at ∷ after)) (agree : EnvsAgree In before found) (typed : AllTypedIn s.il Under Fresh found) (hold : HoldIn s (each_instance found body)) where
    -- an element at which it meets Deep
    pub element_meets : ((here : Env) → AgreeOn In at here → Meets s In Under here body) → Meets s bound ls env p
    element_meets m =
        let c = cut_in s.il bound ls p how xs body u s.meaning plain env before at after found goes agree typed in
        d.element how xs body c.1 c.2 c.3 u.is (record { more = c.0; agrees = c.4; elements = c.5 }) (passed_moved found c.1 typed hold c.6) (m c.2 c.7)

    -- an element at which it reaches a goal
    pub element_reaches : (one : Env) (goal : IlPrem) → ((here : Env) → AgreeOn In at here → Reaches s one goal In Under here body) → Reaches s one goal bound ls env p
    element_reaches one goal r =
        let c = cut_in s.il bound ls p how xs body u s.meaning plain env before at after found goes agree typed in
        chain.element how xs body c.1 c.2 c.3 u.is (record { more = c.0; agrees = c.4; elements = c.5 }) (passed_moved found c.1 typed hold c.6) (r c.2 c.7)

  -- a variable whose values are too high together
  pub height_meets : (elements found : List Env) → Spreads s.meaning bound env how xs elements → EnvsAgree In elements found → AllTypedIn s.il Under Fresh found → HoldIn s (each_instance found body)
      → (x : Name) (vs : List Value) → has_name bound x ≡ false → has_name xs x ≡ true → ValuesAt x found vs → gathered how vs ≡ Deep → Meets s bound ls env p
  height_meets elements found goes agree typed hold x vs unbound i at deep =
      let m = made s.il bound ls p how xs body u s.meaning plain env elements found goes agree typed in
      d.height how xs body u.is (record {
        envs = m.2;
        unfolds = record { more = m.0; agrees = m.1; elements = m.3 };
        passed = passed_moved found m.2 typed hold m.4;
        x = x;
        iterated = i;
        unbound = unbound;
        values = vs;
        values_are = values_moved (prem_vars body) x (own_name s.il bound ls p how xs body u x i).1 found m.2 vs m.4 at;
        high = deep;
      })

  -- An element of an environment with more variables is one of those that are known, and so are those
  -- before it.
  pub unfolds_cut : (elements : List Env) → Spreads s.meaning bound env how xs elements → (bs : List Env) (b : Env) (cs : List Env) → Unfolds s bound how xs env (bs ++ b ∷ cs) → CutAt In elements bs b cs
  unfolds_cut elements goes bs b cs un = cut_at In elements bs b cs (known s.il bound ls p how xs body u s.meaning plain env elements goes un.more un.agrees (bs ++ b ∷ cs) un.elements)
