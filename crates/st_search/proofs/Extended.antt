-- What is found beside what is bound: few of the variables that are bound, and the others of some names.
use Rattle.std.proofs.Common.{◌≡◌, refl, sym, ◌∙◌, ap, subst, Bool, true, false, if◌then◌else◌, List, ◌++◌, inl, inr, None}
use Rattle.st_il.specs.declared.definition.Il.{Il}
use Rattle.st_il.specs.declared.definition.Listed.{Listed}
use Rattle.st_il.specs.declared.value.Env.{Env}
use Rattle.st_il.specs.Names.{Name, has_name, all_known, without}
use Rattle.st_il.specs.Definitions.{syntaxes}
use Rattle.st_semantics.specs.Environments.{Entry, AgreeOn, TypedIn, IsOrdered, IsSomeTyped, names_of, value_in, type_of, listed_names}
use Rattle.st_semantics.proofs.Names.{within-cases, within-left, within-right, or-cases, or-left, or-right, known-within, true_false, without-other}
use Rattle.st_semantics.proofs.Restrict.{restricted, agree_picked}
use Rattle.st_semantics.proofs.Low.{name_there, listed_there}
use Rattle.st_eval.specs.Steps.{HasOnly}
use Rattle.st_eval.specs.inner.Beside.{beside, entries_among}
use Rattle.st_eval.proofs.InByteOrder.{in_byte_order, is_in_order, in_order_value, in_order_names}
use Rattle.st_eval.proofs.Conditions.{same_truth, picked_named, typed_there}
use Rattle.st_eval.proofs.Lookups.{lookup-first, lookup-behind, names_in-append, entries_among-lookup, entries_among-name, entries_among-names}

abbrev entries_env : List Entry → Env
entries_env es = record { entries = es }

module _ (il : Il) (bound : List Name) (ls : List Listed) (env : Env) (only : HasOnly il ls bound env) (names : List Name) (few : Env) (few_are : few.entries ≡ entries_among env names) where
  same_few : entries_env (entries_among env names) ≡ few
  same_few = ap (λ (z : List Entry). entries_env z) (sym few_are)

  few_value : (x : Name) → has_name names x ≡ true → value_in few x ≡ value_in env x
  few_value x i = subst (λ (z : Env). value_in z x ≡ value_in env x) same_few (entries_among-lookup env names x ∙ ap (λ z. if z then value_in env x else None) i)

  few_name : (x : Name) → has_name names x ≡ true → has_name (names_of few) x ≡ has_name bound x
  few_name x i = subst (λ (z : Env). has_name (names_of z) x ≡ has_name bound x) same_few (entries_among-name env names x i ∙ only.names_are x)

  pub few_inside : (x : Name) → has_name (names_of few) x ≡ true → (has_name names x ≡ true) × (has_name bound x ≡ true)
  few_inside x i =
      let w = entries_among-names env names x (subst (λ (z : Env). has_name (names_of z) x ≡ true) (sym same_few) i) in
      (w.0, sym (only.names_are x) ∙ w.1)

  -- ---- an environment of these names that agrees with what is bound of them

  module _ (more : Env) (has : (x : Name) → has_name (names_of more) x ≡ has_name (names_of few ++ names) x) (extends : AgreeOn (names_of few) few more) where
    has_all : (x : Name) → has_name names x ≡ true → has_name (names_of more) x ≡ true
    has_all x i = has x ∙ within-right (names_of few) names x i

    has_no_other : (x : Name) → has_name (names_of more) x ≡ true → has_name names x ≡ true
    has_no_other x i = elim (within-cases (names_of few) names x (sym (has x) ∙ i)) [ inl j ↦ (few_inside x j).0 | inr j ↦ j ]

    -- it stands first
    pub beside_inside : AgreeOn names (beside env more) more
    beside_inside x i = lookup-first x more.entries env.entries (has_all x i)

    -- what is bound stays
    pub beside_agrees : AgreeOn bound env (beside env more)
    beside_agrees x i = at (has_name (names_of more) x) refl
      where
        there : has_name (names_of more) x ≡ true → value_in env x ≡ value_in (beside env more) x
        there k =
            let named = has_no_other x k in
            sym (few_value x named) ∙ (extends x (few_name x named ∙ i) ∙ sym (lookup-first x more.entries env.entries k))

        at : (b : Bool) → has_name (names_of more) x ≡ b → value_in env x ≡ value_in (beside env more) x
        at true k = there k
        at false k = sym (lookup-behind x more.entries env.entries k)

    beside_names : (x : Name) → has_name (names_of (beside env more)) x ≡ has_name (bound ++ names) x
    beside_names x = same_truth (has_name (names_of (beside env more)) x) (has_name (bound ++ names) x)
        (λ k. elim (or-cases (has_name (names_of more) x) (has_name (names_of env) x) (sym (names_in-append x more.entries env.entries) ∙ k)) [
          | inl j ↦ within-right bound names x (has_no_other x j)
          | inr j ↦ within-left bound names x (sym (only.names_are x) ∙ j)
        ])
        (λ k. names_in-append x more.entries env.entries ∙ elim (within-cases bound names x k) [
          | inl j ↦ or-right (has_name (names_of more) x) (has_name (names_of env) x) (only.names_are x ∙ j)
          | inr j ↦ or-left (has_name (names_of more) x) (has_name (names_of env) x) (has_all x j)
        ])

    -- all these variables are there, and no others
    pub beside_only : TypedIn (syntaxes il) ls names more → HasOnly il ls (bound ++ names) (beside env more)
    beside_only typed = record {
      names_are = beside_names;
      typed = λ x i l at. elim (within-cases bound names x i) [
        | inl j ↦ subst (IsSomeTyped (syntaxes il) (type_of l)) (beside_agrees x j) (only.typed x j l at)
        | inr j ↦ subst (IsSomeTyped (syntaxes il) (type_of l)) (sym (beside_inside x j)) (typed x j l at)
      ];
    }

  -- ---- what an environment has of these names, where it agrees with what is bound

  module _ (more : Env) (listed : all_known (listed_names ls) names ≡ true) (g : AgreeOn bound env more) (typed : TypedIn (syntaxes il) ls (without bound names) more) where
    abbrev pub kept : Env
    kept = in_byte_order (restricted names more)

    pub kept_value : (x : Name) → has_name names x ≡ true → value_in kept x ≡ value_in more x
    kept_value x i = in_order_value (restricted names more) x ∙ agree_picked names more x i

    more_typed : TypedIn (syntaxes il) ls names more
    more_typed x i l at = by_bound (has_name bound x) refl
      where
        by_bound : (b : Bool) → has_name bound x ≡ b → IsSomeTyped (syntaxes il) (type_of l) (value_in more x)
        by_bound true k = subst (IsSomeTyped (syntaxes il) (type_of l)) (g x k) (only.typed x k l at)
        by_bound false k = typed x (without-other bound names x k i) l at

    kept_there : (x : Name) → has_name names x ≡ true → has_name (names_of kept) x ≡ true
    kept_there x i =
        let l = listed_there x ls (known-within (listed_names ls) names listed x i) in
        let w = typed_there (syntaxes il) l.0 (value_in more x) (more_typed x i l.0 l.1) in
        name_there x w.0 kept.entries (kept_value x i ∙ w.1)

    kept_no_other : (x : Name) → has_name (names_of kept) x ≡ true → has_name names x ≡ true
    kept_no_other x i = picked_named names x more.entries (in_order_names (restricted names more) x i)

    pub kept_ordered : IsOrdered kept
    kept_ordered = is_in_order (restricted names more)

    pub kept_names : (x : Name) → has_name (names_of kept) x ≡ has_name (names_of few ++ names) x
    kept_names x = same_truth (has_name (names_of kept) x) (has_name (names_of few ++ names) x)
        (λ k. within-right (names_of few) names x (kept_no_other x k))
        (λ k. elim (within-cases (names_of few) names x k) [ inl j ↦ kept_there x (few_inside x j).0 | inr j ↦ kept_there x j ])

    pub kept_extends : AgreeOn (names_of few) few kept
    kept_extends x i =
        let w = few_inside x i in
        few_value x w.0 ∙ (g x w.1 ∙ sym (kept_value x w.0))

    pub kept_typed : TypedIn (syntaxes il) ls names kept
    kept_typed x i l at = subst (IsSomeTyped (syntaxes il) (type_of l)) (sym (kept_value x i)) (more_typed x i l at)

    -- beside what is bound it gives the values of that environment
    pub kept_agrees : AgreeOn (bound ++ names) (beside env kept) more
    kept_agrees x i = at (has_name (names_of kept) x) refl
      where
        at : (b : Bool) → has_name (names_of kept) x ≡ b → value_in (beside env kept) x ≡ value_in more x
        at true k = lookup-first x kept.entries env.entries k ∙ kept_value x (kept_no_other x k)
        at false k = elim (within-cases bound names x i) [
          | inl j ↦ lookup-behind x kept.entries env.entries k ∙ g x j
          | inr j ↦ absurd (true_false (sym (kept_there x j) ∙ k))
        ]
