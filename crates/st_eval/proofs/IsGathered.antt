-- What an iterated premise comes to by what it gathers.
use Rattle.std.proofs.Common.{◌≡◌, ℕ, suc, pos, refl, sym, ◌∙◌, ap, ap₂, subst, List, [], ◌∷◌, ◌++◌, length, ◌⊎◌, inl, inr, Bool, true, false, ◌||◌, if◌then◌else◌, Option, Some, None, bytes_eq, append-nil, arith}
use Rattle.std.specs.Prelude.{nat_le}
use Rattle.st_num.specs.declared.dim.Kind.{Kind}
use Rattle.st_num.specs.declared.dim.Kind.TheVariants as kind
use Rattle.st_num.specs.declared.limit.TheConstants.{HIGHEST_VALUE}
use Rattle.st_il.specs.declared.definition.Il.{Il}
use Rattle.st_il.specs.declared.definition.Listed.{Listed}
use Rattle.st_il.specs.declared.expression.IlExp.{IlExp, out-IlExp}
use Rattle.st_il.specs.declared.expression.IlExp.TheOpen.{IlExp-F}
use Rattle.st_il.specs.declared.expression.Iteration.{Iteration}
use Rattle.st_il.specs.declared.expression.IlPrem.{IlPrem}
use Rattle.st_il.specs.declared.value.Env.{Env}
use Rattle.st_il.specs.declared.value.Value.{Value}
use Rattle.st_il.specs.declared.value.Value.TheVariants as value
use Rattle.st_il.specs.Height.{height}
use Rattle.st_semantics.specs.declared.outcome.Outcome.{Outcome}
use Rattle.st_semantics.specs.declared.outcome.Outcome.TheVariants.{Val, NoValue, Deep}
use Rattle.st_semantics.specs.declared.outcome.Outcomes.TheVariants.{Values, Stopped}
use Rattle.st_il.specs.Names.{Name, has_name, among, without}
use Rattle.st_il.specs.Definitions.{syntaxes}
use Rattle.st_semantics.specs.Environments.{Entry, lookup, value_in, names_of, type_of, AgreeOn, IsSomeTyped}
use Rattle.st_semantics.specs.Parts.{option_list, limited}
use Rattle.st_semantics.specs.Iterations.{count_of, index_of, kind_of, spread, Misfit, Over, gathered, gathered_as}
use Rattle.st_semantics.specs.Scopes.{listed_inside}
use Rattle.st_semantics.specs.Evaluation.{tasks, GivesAll}
use Rattle.st_semantics.specs.Variables.{prem_vars}
use Rattle.st_semantics.specs.Depth.{bound_count, ValuesAt, AllTypedIn}
use Rattle.st_semantics.specs.Kinds.{AreOfItsKind}
use Rattle.st_semantics.specs.Calls.{CallAt}
use Rattle.st_semantics.specs.Laws.{CallsAreSingle}
use Rattle.st_semantics.proofs.Names.{within-cases, within-left, within-right, or-cases, or-left, or-right, bytes-same, bytes-path, true_false, without-other}
use Rattle.st_semantics.proofs.Premises.{without-parts}
use Rattle.st_semantics.proofs.Values.{have_values, not_value}
use Rattle.st_semantics.proofs.Low.{name_there}
use Rattle.st_semantics.proofs.PatternValues.{one_name}
use Rattle.st_eval.specs.Steps.{HasOnly}
use Rattle.st_eval.specs.Elements.{IsEach, GoesOver, AllHoldWith, Gathers}
use Rattle.st_eval.specs.Meeting.{IsMet}
use Rattle.st_eval.specs.declared.condition.Met.{Met}
use Rattle.st_eval.specs.declared.condition.Met.TheVariants as met
use Rattle.st_eval.specs.declared.meet.AtElements.{AtElements}
use Rattle.st_eval.specs.declared.meet.AtElements.TheVariants as reached
use Rattle.st_eval.specs.inner.Beside.{beside, met_beside}
use Rattle.st_eval.specs.inner.Gathered.{met_stopped, IsUnknownCount, values_there, entry_of_outcome, first_entry, gathered_entry, gathered_entries, HasNumber, IsCounted, met_counted, IsGatheredBy, IsGathered}
use Rattle.st_eval.specs.inner.AtElements.{AllHaveOnly, AllHoldBeside, AreMet, IsBehind}
use Rattle.st_eval.proofs.InByteOrder.{names_in, name_has_value}
use Rattle.st_eval.proofs.Conditions.{same_truth}
use Rattle.st_eval.proofs.Unfolded.{IsUnfolded, not_in_both, own_name, xs_within, unbound_name, values_same}
use Rattle.st_eval.proofs.Iterations.{iterates, law_of_counts, law_of_elements, law_of_gathering}
use Rattle.st_eval.proofs.Lists.{gathered_variables}
use Rattle.st_eval.proofs.HasNumber.{counted_name, number_fails}
use Rattle.st_eval.proofs.Lookups.{lookup-first, lookup-behind, names_in-append}
use Rattle.st_eval.proofs.SameNames.{among-same, bound_count-same}

-- ---- what is found at the elements

-- each element, with what was found there before what was bound
abbrev pub all_beside : List Env → List Env → List Env
all_beside [] found = []
all_beside (env ∷ envs) [] = []
all_beside (env ∷ envs) (more ∷ rest) = beside env more ∷ all_beside envs rest

module _ (il : Il) (n : ℕ) (bound : List Name) (ls : List Listed) (p : IlPrem) where
  hold_with : (elements found : List Env) → AllHoldBeside il n bound ls p elements found → AllHoldWith il n bound ls p elements (all_beside elements found)
  hold_with [] [] all = tt
  hold_with [] (m ∷ ms) all = absurd all
  hold_with (e ∷ es) [] all = absurd all
  hold_with (e ∷ es) (m ∷ ms) all = (all.0, hold_with es ms all.1)

  as_many_found : (elements found : List Env) → AllHoldBeside il n bound ls p elements found → length found ≡ length elements
  as_many_found [] [] all = refl
  as_many_found [] (m ∷ ms) all = absurd all
  as_many_found (e ∷ es) [] all = absurd all
  as_many_found (e ∷ es) (m ∷ ms) all = ap suc (as_many_found es ms all.1)

  have_all : (elements found : List Env) → AllHoldBeside il n bound ls p elements found → AllHaveOnly il ls (bound ++ prem_vars p) (all_beside elements found)
  have_all [] [] all = tt
  have_all [] (m ∷ ms) all = absurd all
  have_all (e ∷ es) [] all = absurd all
  have_all (e ∷ es) (m ∷ ms) all = (all.0.variables, have_all es ms all.1)

-- as many elements as are found
as_many_beside : (elements found : List Env) → length found ≡ length elements → length (all_beside elements found) ≡ length found
as_many_beside [] [] l = refl
as_many_beside [] (m ∷ ms) l = absurd (omega (arith, l))
as_many_beside (e ∷ es) [] l = absurd (omega (arith, l))
as_many_beside (e ∷ es) (m ∷ ms) l = let less : length ms ≡ length es = omega (arith, l) in ap suc (as_many_beside es ms less)

module _ (il : Il) (bound : List Name) (ls : List Listed) (p : IlPrem) where
  -- what is bound at elements is typed there
  typed_there : (envs : List Env) → AllHaveOnly il ls (bound ++ prem_vars p) envs → AllTypedIn il ls (prem_vars p) envs
  typed_there [] have = tt
  typed_there (e ∷ es) have = (λ x i l at. have.0.typed x (within-right bound (prem_vars p) x i) l at, typed_there es have.1)

  -- a variable that was not bound has its values there
  values_there-are : (x : Name) → has_name (prem_vars p) x ≡ true → has_name bound x ≡ false → (elements found : List Env) → AllHaveOnly il ls bound elements → AllHaveOnly il ls (bound ++ prem_vars p) (all_beside elements found)
      → length found ≡ length elements → ValuesAt x (all_beside elements found) (values_there x found)
  values_there-are x i free [] [] only have l = tt
  values_there-are x i free [] (m ∷ ms) only have l = absurd (omega (arith, l))
  values_there-are x i free (e ∷ es) [] only have l = absurd (omega (arith, l))
  values_there-are x i free (e ∷ es) (m ∷ ms) only have l =
      let less : length ms ≡ length es = omega (arith, l) in
      let named : has_name (names_of m) x ≡ true = own (or-cases (has_name (names_of m) x) (has_name (names_of e) x) (sym (names_in-append x m.entries e.entries) ∙ (have.0.names_are x ∙ within-right bound (prem_vars p) x i))) in
      let there = name_has_value x m.entries named in
      subst (λ z. ValuesAt x (beside e m ∷ all_beside es ms) (option_list z ++ values_there x ms)) (sym there.1)
      (lookup-first x m.entries e.entries named ∙ there.1, values_there-are x i free es ms only.1 have.1 less)
    where
      own : (has_name (names_of m) x ≡ true) ⊎ (has_name (names_of e) x ≡ true) → has_name (names_of m) x ≡ true
      own (inl j) = j
      own (inr j) = absurd (true_false (sym j ∙ (only.0.names_are x ∙ free)))

-- ---- the entries of what is gathered

entry_parts : (x : Name) (o : Outcome) (f : Entry) → entry_of_outcome x o ≡ Some f → (x ≡ f.0) × (o ≡ Val f.1)
entry_parts x (Val v) f e =
    let entry : Entry = (x, v) in
    let same : entry ≡ f = cc in
    (ap (λ (z : Entry). z.0) same, ap (λ (z : Entry). Val z.1) same)
entry_parts x NoValue f e = cc
entry_parts x Deep f e = cc

first_parts : (p : Option Entry) (q : Option (List Entry)) (es : List Entry) → first_entry p q ≡ Some es → (f : Entry) × (fs : List Entry) × (p ≡ Some f) × (q ≡ Some fs) × (f ∷ fs ≡ es)
first_parts None q es e = cc
first_parts (Some f) None es e = cc
first_parts (Some f) (Some fs) es e = let same : f ∷ fs ≡ es = cc in (f, fs, refl, refl, same)

limited_never : (v : Value) → limited v ≡ NoValue → ⊥
limited_never v e = at (nat_le (height v) HIGHEST_VALUE) e
  where
    at : (b : Bool) → (if b then Val v else Deep) ≡ NoValue → ⊥
    at true e = cc
    at false e = cc

-- what is gathered is a value, or it is too high
gathered_never : (k : Kind) (vs : List Value) → gathered_as k vs ≡ NoValue → ⊥
gathered_never kind.List vs e = limited_never (value.List vs) e
gathered_never kind.Opt [] e = limited_never (value.Opt None) e
gathered_never kind.Opt (v ∷ vs) e = limited_never (value.Opt (Some v)) e

module _ (how : Iteration) (found : List Env) where
  entries_named : (ys : List Name) (es : List Entry) → gathered_entries how found ys ≡ Some es → (x : Name) → has_name (names_in es) x ≡ has_name ys x
  entries_named [] es e x = let same : [] ≡ es = cc in subst (λ (z : List Entry). has_name (names_in z) x ≡ false) same refl
  entries_named (y ∷ ys) es e x =
      let w = first_parts (gathered_entry how found y) (gathered_entries how found ys) es e in
      let named : y ≡ w.0.0 = (entry_parts y (gathered how (values_there y found)) w.0 w.2).0 in
      subst (λ (z : List Entry). has_name (names_in z) x ≡ has_name (y ∷ ys) x) w.4 (ap₂ (λ a b. bytes_eq x a || b) (sym named) (entries_named ys w.1 w.3 x))

  -- a variable has an entry of what is gathered of it
  abbrev Valued : Name → List Entry → Type 0
  Valued x es = (v : Value) × (lookup x es ≡ Some v) × (gathered how (values_there x found) ≡ Val v)

  entries_valued : (ys : List Name) (es : List Entry) → gathered_entries how found ys ≡ Some es → (x : Name) → has_name ys x ≡ true → Valued x es
  entries_valued [] es e x i = cc
  entries_valued (y ∷ ys) es e x i =
      let w = first_parts (gathered_entry how found y) (gathered_entries how found ys) es e in
      let q = entry_parts y (gathered how (values_there y found)) w.0 w.2 in
      subst (Valued x) w.4 (at w.0 w.1 q.0 q.1 (bytes_eq x w.0.0) refl (subst (λ z. (bytes_eq x z || has_name ys x) ≡ true) q.0 i) (entries_valued ys w.1 w.3 x))
    where
      at : (f : Entry) (fs : List Entry) → y ≡ f.0 → gathered how (values_there y found) ≡ Val f.1 → (b : Bool) → bytes_eq x f.0 ≡ b → (b || has_name ys x) ≡ true → (has_name ys x ≡ true → Valued x fs)
          → (v : Value) × ((if b then Some f.1 else lookup x fs) ≡ Some v) × (gathered how (values_there x found) ≡ Val v)
      at f fs named g true j i ih = (f.1, refl, ap (λ z. gathered how (values_there z found)) (bytes-path x f.0 j ∙ sym named) ∙ g)
      at f fs named g false j i ih = ih i

  -- a variable whose values are too high together
  abbrev TooHigh : List Name → Type 0
  TooHigh ys = (x : Name) × (has_name ys x ≡ true) × (gathered how (values_there x found) ≡ Deep)

  too_high : (ys : List Name) → gathered_entries how found ys ≡ None → TooHigh ys
  too_high [] e = cc
  too_high (y ∷ ys) e = at (gathered how (values_there y found)) refl (gathered_entries how found ys) refl e (too_high ys)
    where
      at : (o : Outcome) → gathered how (values_there y found) ≡ o → (q : Option (List Entry)) → gathered_entries how found ys ≡ q → first_entry (entry_of_outcome y o) q ≡ None → (gathered_entries how found ys ≡ None → TooHigh ys)
          → TooHigh (y ∷ ys)
      at (Val v) k None l e ih = let w = ih l in (w.0, or-right (bytes_eq w.0 y) (has_name ys w.0) w.1, w.2)
      at (Val v) k (Some es) l e ih = cc
      at NoValue k q l e ih = absurd (gathered_never (kind_of how) (values_there y found) k)
      at Deep k q l e ih = (y, or-left (bytes_eq y y) (has_name ys y) (bytes-same y), k)

-- ---- what is gathered, wherever the premise is met

module _ (il : Il) (bound : List Name) (ls : List Listed) (env : Env) (p : IlPrem) (how : Iteration) (xs : List Name) (body : IlPrem) (u : IsUnfolded bound ls p how xs body) (kinded : AreOfItsKind how xs ls)
    (known : List Name) (same : (x : Name) → has_name known x ≡ has_name bound x) (only : HasOnly il ls bound env) (elements found : List Env) (inside : AllHaveOnly il (listed_inside how xs ls) (index_of how ++ bound) elements)
    (have : AllHaveOnly il (listed_inside how xs ls) ((index_of how ++ bound) ++ prem_vars body) (all_beside elements found)) (as_many : length found ≡ length elements) where
  abbrev founds : List Env
  founds = all_beside elements found

  many : length founds ≡ length found
  many = as_many_beside elements found as_many

  values : (x : Name) → has_name bound x ≡ false → has_name xs x ≡ true → ValuesAt x founds (values_there x found)
  values x f i =
      let own = own_name il bound ls p how xs body u x i in
      values_there-are il (index_of how ++ bound) (listed_inside how xs ls) body x own.1 (not_in_both (index_of how) bound x own.0 f) elements found inside have as_many

  unknown : (x : Name) → has_name bound x ≡ false → has_name xs x ≡ true → has_name (without known xs) x ≡ true
  unknown x f i = without-other known xs x (same x ∙ f) i

  -- none of the variables that are gathered is too high
  abbrev pub AreLow : Type 0
  AreLow = (x : Name) → has_name bound x ≡ false → has_name xs x ≡ true → (vs : List Value) → ValuesAt x founds vs → gathered how vs ≡ Deep → ⊥

  -- what the premise comes to: an environment of what is gathered, a number of elements that has not
  -- the type of the count, or a variable that is too high
  abbrev pub GatheredTo : Met → Type 0
  GatheredTo (met.Holds more) = Gathers bound env how xs founds (beside env more) × HasOnly il ls (bound ++ prem_vars p) (beside env more)
  GatheredTo met.Fails = (c : Name) × IsUnknownCount bound how c × (HasNumber (syntaxes il) ls c (length found) → ⊥) × AreLow
  GatheredTo met.Deep = (x : Name) × (has_name bound x ≡ false) × (has_name xs x ≡ true) × ValuesAt x founds (values_there x found) × (gathered how (values_there x found) ≡ Deep)

  gathered_high : gathered_entries how found (without known xs) ≡ None → GatheredTo met.Deep
  gathered_high e =
      let w = too_high how found (without known xs) e in
      let q = without-parts known xs w.0 w.1 in
      let f : has_name bound w.0 ≡ false = sym (same w.0) ∙ q.0 in
      (w.0, f, q.1, values w.0 f q.1, w.2)

  module _ (es : List Entry) (are : gathered_entries how found (without known xs) ≡ Some es) where
    es_name : (x : Name) → has_name (names_in es) x ≡ has_name (without known xs) x
    es_name x = entries_named how found (without known xs) es are x

    no_name : (x : Name) → (has_name known x ≡ true) ⊎ (has_name xs x ≡ false) → has_name (names_in es) x ≡ false
    no_name x why = es_name x ∙ at (has_name (without known xs) x) refl why
      where
        at : (b : Bool) → has_name (without known xs) x ≡ b → (has_name known x ≡ true) ⊎ (has_name xs x ≡ false) → b ≡ false
        at true k (inl i) = absurd (true_false (sym i ∙ (without-parts known xs x k).0))
        at true k (inr i) = absurd (true_false (sym (without-parts known xs x k).1 ∙ i))
        at false k why = refl

    low : AreLow
    low x f i vs at deep =
        let v = entries_valued how found (without known xs) es are x (unknown x f i) in
        let one : values_there x found ≡ vs = values_same x founds (values_there x found) (values x f i) ∙ sym (values_same x founds vs at) in
        let both : Val v.0 ≡ Deep = sym v.2 ∙ (ap (gathered how) one ∙ deep) in cc

    -- with the number for a count that is not bound
    module _ (extra : List Entry) (extra_names : (x : Name) → has_name (names_in extra) x ≡ true → IsUnknownCount bound how x) (extra_value : (x : Name) → IsUnknownCount bound how x → lookup x extra ≡ Some (value.Num (pos (length found))))
        (extra_typed : (x : Name) → IsUnknownCount bound how x → HasNumber (syntaxes il) ls x (length found)) where
      abbrev Other : Env
      Other = beside env (record { entries = es ++ extra })

      no_extra : (x : Name) → has_name bound x ≡ true → has_name (names_in extra) x ≡ false
      no_extra x i = at (has_name (names_in extra) x) refl
        where
          at : (b : Bool) → has_name (names_in extra) x ≡ b → has_name (names_in extra) x ≡ false
          at true k = absurd (true_false (sym i ∙ (extra_names x k).3))
          at false k = k

      extra_name : (x : Name) → IsUnknownCount bound how x → has_name (names_in extra) x ≡ true
      extra_name x k = name_there x (value.Num (pos (length found))) extra (extra_value x k)

      agrees : AgreeOn bound env Other
      agrees x i = sym (lookup-behind x (es ++ extra) env.entries (names_in-append x es extra ∙ ap₂ (λ a b. a || b) (no_name x (inl (same x ∙ i))) (no_extra x i)))

      number : (e : IlExp) (c : Name) → count_of how ≡ e ∷ [] → out-IlExp e ≡ IlExp-F.Var c → has_name bound c ≡ false → value_in Other c ≡ Some (value.Num (pos (length found)))
      number e c one is f =
          let k : IsUnknownCount bound how c = (e, one, is, f) in
          lookup-first c (es ++ extra) env.entries (names_in-append c es extra ∙ or-right (has_name (names_in es) c) (has_name (names_in extra) c) (extra_name c k))
          ∙ (lookup-behind c es extra (no_name c (inr (u.apart e c one is f))) ∙ extra_value c k)

      gathers : Gathers bound env how xs founds Other
      gathers = record {
        agrees = agrees;
        lists = λ x f i.
            let v = entries_valued how found (without known xs) es are x (unknown x f i) in
            let named : has_name (names_in es) x ≡ true = es_name x ∙ unknown x f i in (
              v.0,
              values_there x found,
              values x f i,
              v.2,
              lookup-first x (es ++ extra) env.entries (names_in-append x es extra ∙ or-left (has_name (names_in es) x) (has_name (names_in extra) x) named)
                  ∙ (lookup-first x es extra named ∙ v.1),
            );
        number = λ e c one is f. number e c one is f ∙ ap (λ z. Some (value.Num (pos z))) (sym many);
      }

      names : (x : Name) → has_name (names_of Other) x ≡ has_name (bound ++ prem_vars p) x
      names x = same_truth (has_name (names_of Other) x) (has_name (bound ++ prem_vars p) x)
          (λ k. elim (or-cases (has_name (names_in (es ++ extra)) x) (has_name (names_of env) x) (sym (names_in-append x (es ++ extra) env.entries) ∙ k)) [
            | inl j ↦ elim (or-cases (has_name (names_in es) x) (has_name (names_in extra) x) (sym (names_in-append x es extra) ∙ j)) [
              | inl i ↦ within-right bound (prem_vars p) x (xs_within il bound ls p how xs body u x (without-parts known xs x (sym (es_name x) ∙ i)).1)
              | inr i ↦ (let v = extra_names x i in within-right bound (prem_vars p) x (counted_name il bound ls p how xs body u x v.0 v.1 v.2))
            ]
            | inr j ↦ within-left bound (prem_vars p) x (sym (only.names_are x) ∙ j)
          ])
          (λ k. names_in-append x (es ++ extra) env.entries ∙ elim (within-cases bound (prem_vars p) x k) [
            | inl j ↦ or-right (has_name (names_in (es ++ extra)) x) (has_name (names_of env) x) (only.names_are x ∙ j)
            | inr j ↦ new j (has_name bound x) refl
          ])
        where
          first : has_name (names_in (es ++ extra)) x ≡ true → (has_name (names_in (es ++ extra)) x || has_name (names_of env) x) ≡ true
          first i = or-left (has_name (names_in (es ++ extra)) x) (has_name (names_of env) x) i

          new : has_name (prem_vars p) x ≡ true → (b : Bool) → has_name bound x ≡ b → (has_name (names_in (es ++ extra)) x || has_name (names_of env) x) ≡ true
          new j true f = or-right (has_name (names_in (es ++ extra)) x) (has_name (names_of env) x) (only.names_are x ∙ f)
          new j false f = elim (unbound_name il bound ls p how xs body u x f j) [
            | inl i ↦ first (names_in-append x es extra ∙ or-left (has_name (names_in es) x) (has_name (names_in extra) x) (es_name x ∙ unknown x f i))
            | inr c ↦ first (names_in-append x es extra ∙ or-right (has_name (names_in es) x) (has_name (names_in extra) x) (extra_name x (c.0, c.1, c.2, f)))
          ]

      variables : HasOnly il ls (bound ++ prem_vars p) Other
      variables =
          gathered_variables il bound ls p how xs body u kinded env founds (typed_there il (index_of how ++ bound) (listed_inside how xs ls) body founds have) only Other gathers names (λ e x one is f l listed.
          subst (IsSomeTyped (syntaxes il) (type_of l)) (sym (number e x one is f)) (extra_typed x (e, one, is, f) l listed))

    -- one name alone is the count
    same_count : (x y : Name) → IsUnknownCount bound how x → IsUnknownCount bound how y → x ≡ y
    same_count x y k v =
        let both : k.0 ∷ [] ≡ v.0 ∷ [] = sym k.1 ∙ v.1 in
        let exp : k.0 ≡ v.0 = cc in
        let vars_same : IlExp-F.Var x ≡ IlExp-F.Var y = sym k.2 ∙ (ap out-IlExp exp ∙ v.2) in cc

    counted_to : (counted : Option (List Entry)) → IsCounted (syntaxes il) ls known how (length found) es counted → GatheredTo (met_counted counted)
    counted_to None w = (w.0, (w.1.0, w.1.1, w.1.2, sym (same w.0) ∙ w.1.3), w.2, low)
    counted_to (Some more) (inl w) =
        let none : (x : Name) → IsUnknownCount bound how x → ⊥ = λ x k. w.0 x (k.0, k.1, k.2, same x ∙ k.3) in
        let nothing : List Entry = [] in
        subst (λ (z : List Entry). GatheredTo (met.Holds (record { entries = z }))) (append-nil es ∙ sym w.1)
        (gathers nothing (λ x k. cc) (λ x k. absurd (none x k)) (λ x k. absurd (none x k)), variables nothing (λ x k. cc) (λ x k. absurd (none x k)) (λ x k. absurd (none x k)))
    counted_to (Some more) (inr w) =
        let k : IsUnknownCount bound how w.0 = (w.1.0, w.1.1, w.1.2, sym (same w.0) ∙ w.1.3) in
        let entry : Entry = (w.0, value.Num (pos (length found))) in
        let is_named : (x : Name) → has_name (names_in (entry ∷ [])) x ≡ true → IsUnknownCount bound how x = λ x j. subst (IsUnknownCount bound how) (sym (one_name x w.0 j)) k in
        let is_valued : (x : Name) → IsUnknownCount bound how x → lookup x (entry ∷ []) ≡ Some (value.Num (pos (length found))) =
        λ x v. ap (λ z. if z then Some (value.Num (pos (length found))) else None) (ap (λ z. bytes_eq z w.0) (same_count x w.0 v k) ∙ bytes-same w.0) in
        let is_typed : (x : Name) → IsUnknownCount bound how x → HasNumber (syntaxes il) ls x (length found) = λ x v. subst (λ z. HasNumber (syntaxes il) ls z (length found)) (same_count w.0 x k v) w.2 in
        subst (λ (z : List Entry). GatheredTo (met.Holds (record { entries = z }))) (sym w.3) (gathers (entry ∷ []) is_named is_valued is_typed, variables (entry ∷ []) is_named is_valued is_typed)

  pub gathered_to : (m : Met) → IsGathered (syntaxes il) ls known how xs found m → GatheredTo m
  gathered_to m w = at (gathered_entries how found (without known xs)) refl w
    where
      at : (o : Option (List Entry)) → gathered_entries how found (without known xs) ≡ o → IsGatheredBy (syntaxes il) ls known how found o m → GatheredTo m
      at None e w = subst GatheredTo (sym w) (gathered_high e)
      at (Some es) e w = subst GatheredTo (sym w.2) (counted_to es e w.0 w.1)

-- ---- what the premise comes to

module _ (il : Il) (single : CallsAreSingle il) (n : ℕ) (bound : List Name) (ls : List Listed) (env : Env) (p : IlPrem) (how : Iteration) (xs : List Name) (body : IlPrem) (each : IsEach il bound ls p how xs body)
    (known : List Name) (same : (x : Name) → has_name known x ≡ has_name bound x) where
  abbrev Inside : List Name
  Inside = index_of how ++ bound

  abbrev Scope : List Listed
  Scope = listed_inside how xs ls

  around : IsUnfolded bound ls p how xs body
  around = iterates il bound ls p how xs body each

  abbrev Comes : Met → Type 0
  Comes m = IsMet il n bound ls env p (met_beside env m)

  -- a count that has no value
  pub each_stopped : (o : Outcome) → GivesAll (syntaxes il) (CallAt il n) (tasks env (bound_count known how)) (Stopped o) → Comes (met_stopped o)
  each_stopped o gives = at o (subst (λ z. GivesAll (syntaxes il) (CallAt il n) (tasks env z) (Stopped o)) (bound_count-same known bound same how) gives)
    where
      at : (o : Outcome) → GivesAll (syntaxes il) (CallAt il n) (tasks env (bound_count bound how)) (Stopped o) → Comes (met_stopped o)
      at (Val v) g = absurd (not_value (syntaxes il) (CallAt il n) (tasks env (bound_count bound how)) (Stopped (Val v)) v g refl)
      at NoValue g = (law_of_counts il single n bound ls env p how xs body each).1 g
      at Deep g = (law_of_counts il single n bound ls env p how xs body each).0 g

  module _ (count : List Value) (gives : GivesAll (syntaxes il) (CallAt il n) (tasks env (bound_count known how)) (Values count)) where
    moved : GivesAll (syntaxes il) (CallAt il n) (tasks env (bound_count bound how)) (Values count)
    moved = subst (λ z. GivesAll (syntaxes il) (CallAt il n) (tasks env z) (Values count)) (bound_count-same known bound same how) gives

    -- lists that do not fit
    pub each_misfit : spread how (among known xs) env count ≡ Misfit → Comes met.Fails
    each_misfit misfit =
        (law_of_counts il single n bound ls env p how xs body each).2 count (have_values (syntaxes il) (CallAt il n) (tasks env (bound_count bound how)) (Values count) moved count refl)
        (subst (λ z. spread how z env count ≡ Misfit) (among-same known bound same xs) misfit)

    pub each_goes : (elements : List Env) → spread how (among known xs) env count ≡ Over elements → GoesOver il n bound env how xs elements
    each_goes elements over = record {
      count = count;
      counted = have_values (syntaxes il) (CallAt il n) (tasks env (bound_count bound how)) (Values count) moved count refl;
      over = subst (λ z. spread how z env count ≡ Over elements) (among-same known bound same xs) over;
    }

  module _ (only : HasOnly il ls bound env) (elements : List Env) (goes : GoesOver il n bound env how xs elements) (inside : AllHaveOnly il Scope Inside elements) where
    module _ (found : List Env) (all : AllHoldBeside il n Inside Scope body elements found) where
      all_with : AllHoldWith il n Inside Scope body elements (all_beside elements found)
      all_with = hold_with il n Inside Scope body elements found all

      as_many : length found ≡ length elements
      as_many = as_many_found il n Inside Scope body elements found all

      abbrev To : Met → Type 0
      To m = GatheredTo il bound ls env p how xs body around each.kinded known same only elements found inside (have_all il n Inside Scope body elements found all) as_many m

      gathered_comes : (m : Met) → To m → Comes m
      gathered_comes (met.Holds more) t = (law_of_gathering il single n bound ls env p how xs body each elements (all_beside elements found) goes all_with).0 (beside env more) t.0 t.1
      gathered_comes met.Fails t =
          number_fails il single n bound ls env p how xs body each elements (all_beside elements found) goes all_with t.3 t.0 t.1.0 t.1.1 t.1.2 t.1.3
          (λ typed. t.2 (subst (HasNumber (syntaxes il) ls t.0) (sym as_many) typed))
      gathered_comes met.Deep t = (law_of_gathering il single n bound ls env p how xs body each elements (all_beside elements found) goes all_with).1 t.0 (values_there t.0 found) t.1 t.2 t.3 t.4

      gathered_met : (m : Met) → IsGathered (syntaxes il) ls known how xs found m → Comes m
      gathered_met m w =
          gathered_comes m (gathered_to il bound ls env p how xs body around each.kinded known same only elements found inside (have_all il n Inside Scope body elements found all) as_many m w)

    -- what it comes to by its elements
    pub each_reached : (r : AtElements) → AreMet il n Inside Scope body elements r → (m : Met) → IsBehind (syntaxes il) ls known how xs r m → Comes m
    each_reached (reached.Hold found) all m w = gathered_met found all m w
    each_reached reached.Fails s m w =
        subst Comes (sym w)
        ((law_of_elements il single n bound ls env p how xs body each s.before s.at s.after (all_beside s.before s.found) (subst (GoesOver il n bound env how xs) s.are goes)
        (hold_with il n Inside Scope body s.before s.found s.hold)).0 s.stops)
    each_reached reached.Deep s m w =
        subst Comes (sym w)
        ((law_of_elements il single n bound ls env p how xs body each s.before s.at s.after (all_beside s.before s.found) (subst (GoesOver il n bound env how xs) s.are goes)
        (hold_with il n Inside Scope body s.before s.found s.hold)).1 s.stops)
