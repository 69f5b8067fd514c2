-- An iterated premise fails whose count is not bound, where its number of elements has not the type
-- of the count.
use Rattle.std.proofs.Common.{◌≡◌, ℕ, suc, pos, refl, sym, ◌∙◌, ap, subst, List, [], ◌∷◌, ◌++◌, length, inl, inr, true, false, Some, bytes_eq}
use Rattle.st_il.specs.declared.definition.Il.{Il}
use Rattle.st_il.specs.declared.definition.Listed.{Listed}
use Rattle.st_il.specs.declared.expression.IlExp.{IlExp, out-IlExp}
use Rattle.st_il.specs.declared.expression.IlExp.TheOpen.{IlExp-F}
use Rattle.st_il.specs.declared.expression.Iteration.{Iteration}
use Rattle.st_il.specs.declared.expression.IlPrem.{IlPrem}
use Rattle.st_il.specs.declared.value.Env.{Env}
use Rattle.st_il.specs.declared.value.Value.{Value}
use Rattle.st_il.specs.declared.value.Value.TheVariants as value
use Rattle.st_semantics.specs.declared.outcome.Outcome.TheVariants.{Deep}
use Rattle.st_il.specs.Names.{Name, has_name, without}
use Rattle.st_il.specs.Definitions.{syntaxes}
use Rattle.st_semantics.specs.Environments.{value_in, AgreeOn, TypedIn}
use Rattle.st_semantics.specs.Parts.{natural}
use Rattle.st_semantics.specs.Forms.{form_at, HasForm, Variable, by_itself}
use Rattle.st_semantics.specs.Iterations.{count_of, index_of, kind_of, columns, size_of, gathered}
use Rattle.st_semantics.specs.Scopes.{listed_inside}
use Rattle.st_semantics.specs.Variables.{vars, vars_of, prem_vars}
use Rattle.st_semantics.specs.Holding.{each_instance, HoldAll}
use Rattle.st_semantics.specs.Depth.{ValuesAt}
use Rattle.st_semantics.specs.Calls.{no_goal, CallAt}
use Rattle.st_semantics.specs.Laws.{CallsAreSingle}
use Rattle.st_semantics.proofs.Names.{within-left, bytes-same, or-left, vars-form, without-other}
use Rattle.st_semantics.proofs.Agree.{EnvsAgree}
use Rattle.st_semantics.proofs.Columns.{natural_is, spread_parts, parts_number}
use Rattle.st_semantics.proofs.PatternValues.{one_count}
use Rattle.st_semantics.proofs.Inverse.{holds_each, variable_value}
use Rattle.st_semantics.proofs.Clauses.{hold_first}
use Rattle.st_semantics.proofs.Choice.{binds_agree, holds_not_deep}
use Rattle.st_eval.specs.Steps.{value_at, HoldsAt, MeetsAt, HoldsWith, Fails}
use Rattle.st_eval.specs.Elements.{IsEach, GoesOver, AllHoldWith}
use Rattle.st_eval.specs.inner.Gathered.{HasNumber}
use Rattle.st_eval.proofs.Trying.{some_typed, only_low}
use Rattle.st_eval.proofs.Unfolded.{IsUnfolded, inside_listed, own_name, outer_names}
use Rattle.st_eval.proofs.Iterations.{binding, iterates, met_at, known_at, not_deep_count}

envs_length : (names : List Name) (as' bs : List Env) → EnvsAgree names as' bs → length as' ≡ length bs
envs_length names [] [] g = refl
envs_length names [] (b ∷ bs) g = absurd g
envs_length names (a ∷ as') [] g = absurd g
envs_length names (a ∷ as') (b ∷ bs) g = ap suc (envs_length names as' bs g.1)

-- the variable that is the count is one of the premise
pub counted_name : (il : Il) (bound : List Name) (ls : List Listed) (p : IlPrem) (how : Iteration) (xs : List Name) (body : IlPrem) → IsUnfolded bound ls p how xs body
    → (c : Name) (e : IlExp) → count_of how ≡ e ∷ [] → out-IlExp e ≡ IlExp-F.Var c → has_name (prem_vars p) c ≡ true
counted_name il bound ls p how xs body u c e one is =
    let vars_are : vars e ≡ c ∷ [] = vars-form (syntaxes il) e (Variable c) (by_itself (ap form_at is)) in
    let here : has_name (vars e) c ≡ true = subst (λ z. has_name z c ≡ true) (sym vars_are) (or-left (bytes_eq c c) false (bytes-same c)) in
    let there : has_name (vars_of (count_of how)) c ≡ true = subst (λ z. has_name (vars_of z) c ≡ true) (sym one) (within-left (vars e) [] c here) in
    outer_names il bound ls p how xs body u c
    ∙ within-left (vars_of (count_of how) ++ xs) (without (index_of how) (prem_vars body)) c (within-left (vars_of (count_of how)) xs c there)

module _ (il : Il) (single : CallsAreSingle il) (n : ℕ) (bound : List Name) (ls : List Listed) (env : Env) (p : IlPrem) (how : Iteration) (xs : List Name) (body : IlPrem) (each : IsEach il bound ls p how xs body)
    (elements found : List Env) (goes : GoesOver il n bound env how xs elements) (all : AllHoldWith il n (index_of how ++ bound) (listed_inside how xs ls) body elements found) where
  abbrev Inside : List Name
  Inside = index_of how ++ bound

  abbrev Scope : List Listed
  Scope = listed_inside how xs ls

  -- what was found at the element in the place of another one that agrees with it
  abbrev Partner : Env → Type 0
  Partner other = (r : Env) × (f : Env) × HoldsWith il n Inside Scope r body f × AgreeOn Inside r other

  partner : (es fs before : List Env) (other : Env) (after : List Env) → AllHoldWith il n Inside Scope body es fs → EnvsAgree Inside es (before ++ other ∷ after) → Partner other
  partner [] fs [] other after h g = absurd g
  partner [] fs (b ∷ before) other after h g = absurd g
  partner (r ∷ es) [] before other after h g = absurd h
  partner (r ∷ es) (f ∷ fs) [] other after h g = (r, f, h.0, g.0)
  partner (r ∷ es) (f ∷ fs) (b ∷ before) other after h g = partner es fs before other after h.1 g.1

  -- the values of a variable at elements that agree are those that were found
  values_found : (x : Name) → has_name (prem_vars body) x ≡ true → (es fs ts : List Env) (vs : List Value) → AllHoldWith il n Inside Scope body es fs → EnvsAgree Inside es ts
      → HoldAll (value_at il n) (Unit {0}) no_goal (each_instance ts body) → ValuesAt x ts vs → ValuesAt x fs vs
  values_found x i [] [] [] vs h g hold at = at
  values_found x i [] [] (t ∷ ts) vs h g hold at = absurd g
  values_found x i [] (f ∷ fs) ts vs h g hold at = absurd h
  values_found x i (r ∷ es) [] ts vs h g hold at = absurd h
  values_found x i (r ∷ es) (f ∷ fs) [] vs h g hold at = absurd g
  values_found x i (r ∷ es) (f ∷ fs) (t ∷ ts) [] h g hold at = absurd at
  values_found x i (r ∷ es) (f ∷ fs) (t ∷ ts) (v ∷ vs) h g hold at =
      let w = hold_first (t, body) (each_instance ts body) hold in
      let same : AgreeOn (prem_vars body) f t =
      binds_agree (syntaxes il) (CallAt il n) (single n) (binding il bound ls p how xs body each).1 f t (λ y k. sym (h.0.agrees y k) ∙ g.0 y k) h.0.holds w.0 in
      (same x i ∙ at.0, values_found x i es fs ts vs h.1 g.1 w.1 at.1)

  module _ (low : (x : Name) → has_name bound x ≡ false → has_name xs x ≡ true → (vs : List Value) → ValuesAt x found vs → gathered how vs ≡ Deep → ⊥) where
    not_deep : MeetsAt il n bound ls env p → ⊥
    not_deep m = elim (met_at il single n bound ls env p how xs body each m) [
      | inl deep ↦ not_deep_count il single n bound ls env p how xs body each elements goes deep
      | inr other ↦ elim (other) [
        | inl e ↦ (
            let g = known_at il single n bound ls env p how xs body each elements goes e.3.more e.3.agrees (e.0 ++ e.1 ∷ e.2) e.3.elements in
            let w : Partner e.1 = partner elements found e.0 e.1 e.2 all g in
            holds_not_deep il (CallAt il n) (single n) e.5 w.1 (binding il bound ls p how xs body each).1
            (only_low il Scope (Inside ++ prem_vars body) w.1 (inside_listed il bound ls p how xs body (iterates il bound ls p how xs body each)) w.2.variables)
            (λ x i. sym (w.3 x i) ∙ w.2.agrees x i) w.2.holds)
        | inr t ↦ (
            let g = known_at il single n bound ls env p how xs body each elements goes t.unfolds.more t.unfolds.agrees t.envs t.unfolds.elements in
            low t.x t.unbound t.iterated t.values
            (values_found t.x (own_name il bound ls p how xs body (iterates il bound ls p how xs body each) t.x t.iterated).1 elements found t.envs t.values all g t.passed.hold t.values_are) t.high)
      ]
    ]

    module _ (c : Name) (e : IlExp) (one : count_of how ≡ e ∷ []) (is : out-IlExp e ≡ IlExp-F.Var c) (free : has_name bound c ≡ false) (untyped : HasNumber (syntaxes il) ls c (length elements) → ⊥) where
      form : HasForm (syntaxes il) e (Variable c)
      form = by_itself (ap form_at is)

      never : (more : Env) → AgreeOn bound env more → TypedIn (syntaxes il) ls (without bound (prem_vars p)) more → HoldsAt il n more p → ⊥
      never more g typed hold =
          let s = holds_each (value_at il n) (Unit {0}) no_goal more p how xs body hold each.is in
          let agree : EnvsAgree Inside elements s.0 = known_at il single n bound ls env p how xs body each elements goes more g s.0 s.1 in
          let m = one_count (syntaxes il) (CallAt il n) more (count_of how) e s.1.0 one s.1.1 in
          let v : value_in more c ≡ Some m.0 = variable_value (syntaxes il) (CallAt il n) more e c m.0 form m.2 in
          let parts = spread_parts how xs more s.1.0 s.0 s.1.2 in
          let number : natural m.0 ≡ Some parts.0 = ap (λ z. size_of z (columns (kind_of how) xs more.entries)) (sym m.1) ∙ parts.2 in
          let many : parts.0 ≡ length elements = sym (parts_number how xs more s.1.0 s.0 parts) ∙ sym (envs_length Inside elements s.0 agree) in
          let same : m.0 ≡ value.Num (pos (length elements)) = natural_is m.0 parts.0 number ∙ ap (λ z. value.Num (pos z)) many in
          untyped (λ l listed.
          some_typed (syntaxes il) l (value_in more c) (value.Num (pos (length elements))) (typed c (without-other bound (prem_vars p) c free (counted_name il bound ls p how xs body (iterates il bound ls p how xs body each) c e one is)) l listed) (v ∙ ap Some same))

      pub number_fails : Fails il n bound ls env p
      number_fails = record { never = never; not_deep = not_deep }
