-- A premise that is met at the elements of an iteration, one after another.
use Rattle.std.proofs.Common.{◌≡◌, ℕ, ◌+◌, ◌<◌, ◌≤◌, sym, ◌∙◌, ap, subst, List, [], ◌∷◌, ◌++◌, append_assoc, append-nil}
use Rattle.st_il.specs.declared.definition.Il.{Il}
use Rattle.st_il.specs.declared.definition.Listed.{Listed}
use Rattle.st_il.specs.declared.expression.IlPrem.{IlPrem}
use Rattle.st_il.specs.declared.value.Env.{Env}
use Rattle.st_il.specs.Names.{Name}
use Rattle.st_semantics.specs.Environments.{Entry}
use Rattle.st_semantics.specs.Iterations.{Column, heads, bound_to, counted_to, rows}
use Rattle.st_match.specs.declared.scope.Bound.{Bound}
use Rattle.st_match.specs.inner.Scope.{scope_env, entries_of, columns_from}
use Rattle.st_match.proofs.Builds.{row_at, rows_left, rows_left-all}
use Rattle.st_eval.specs.Steps.{HasOnly, HoldsWith}
use Rattle.st_eval.specs.CanBeMet.{CanBeMet}
use Rattle.st_eval.specs.Meeting.{IsMet}
use Rattle.st_eval.specs.declared.condition.Met.{Met}
use Rattle.st_eval.specs.declared.condition.Met.TheVariants as met
use Rattle.st_eval.specs.declared.meet.AtElements.{AtElements}
use Rattle.st_eval.specs.declared.meet.AtElements.TheVariants as reached
use Rattle.st_eval.specs.inner.Beside.{beside, met_beside}
use Rattle.st_eval.specs.inner.AtElements.{AllHaveOnly, AllHoldBeside, AreMet}
use Rattle.st_eval.proofs.ElementRows.{rows_left-first, rows_left-end}

have_at : (il : Il) (ls : List Listed) (names : List Name) (before : List Env) (at : Env) (after : List Env) → AllHaveOnly il ls names (before ++ at ∷ after) → HasOnly il ls names at
have_at il ls names [] at after all = all.0
have_at il ls names (e ∷ es) at after all = have_at il ls names es at after all.1

hold_next : (il : Il) (n : ℕ) (bound : List Name) (ls : List Listed) (p : IlPrem) (before found : List Env) (at more : Env) → AllHoldBeside il n bound ls p before found → HoldsWith il n bound ls at p (beside at more)
    → AllHoldBeside il n bound ls p (before ++ at ∷ []) (found ++ more ∷ [])
hold_next il n bound ls p [] [] at more all h = (h, tt)
hold_next il n bound ls p [] (m ∷ ms) at more all h = absurd all
hold_next il n bound ls p (e ∷ es) [] at more all h = absurd all
hold_next il n bound ls p (e ∷ es) (m ∷ ms) at more all h = (all.0, hold_next il n bound ls p es ms at more all.1 h)

module _ (il : Il) (n : ℕ) (ls : List Listed) (body : IlPrem) (index xs : List Name) (env : List Entry) (cs : List Column) (size : ℕ) where
  abbrev All : List Env
  All = rows index xs env size 0 cs

  -- the premise holds at the elements up to this one
  abbrev pub IsPassed : List Name → ℕ → List Env → Type 0
  IsPassed bound k found =
      (before : List Env) × (rows index xs env size 0 cs ≡ before ++ rows_left index xs env cs size k) × AllHoldBeside il n bound ls body before found

  -- for whatever names are bound
  abbrev pub ArePassed : ℕ → List Env → Type 0
  ArePassed k found = (bound : List Name) → AllHaveOnly il ls bound (rows index xs env size 0 cs) → CanBeMet il bound ls body → IsPassed bound k found

  pub passed_start : (found : List Env) → found ≡ [] → ArePassed 0 found
  passed_start found none bound have can =
      ([], sym (rows_left-all index xs env cs size), subst (AllHoldBeside il n bound ls body []) (sym none) tt)

  split : (bound : List Name) (k : ℕ) (found : List Env) → k < size → (w : IsPassed bound k found) → All ≡ w.0 ++ row_at index xs env cs k ∷ rows_left index xs env cs size (k + 1)
  split bound k found h w = w.1 ∙ ap (λ z. w.0 ++ z) (rows_left-first index xs env cs size k h)

  -- the variables of an element
  pub element_has : (bound : List Name) (k : ℕ) (found : List Env) (bs : List Bound) → k < size → entries_of bs ≡ counted_to index k (bound_to xs (heads (columns_from k cs)) env)
      → ArePassed k found → AllHaveOnly il ls bound All → CanBeMet il bound ls body → HasOnly il ls bound (scope_env bs)
  element_has bound k found bs h is passed have can =
      let w = passed bound have can in
      subst (λ (z : List Entry). HasOnly il ls bound (record { entries = z })) (sym is)
      (have_at il ls bound w.0 (row_at index xs env cs k) (rows_left index xs env cs size (k + 1)) (subst (AllHaveOnly il ls bound) (split bound k found h w) have))

  -- what an element comes to
  abbrev pub ElementIs : List Bound → Met → Type 0
  ElementIs bs m = (bound : List Name) → HasOnly il ls bound (scope_env bs) → CanBeMet il bound ls body → IsMet il n bound ls (scope_env bs) body (met_beside (scope_env bs) m)

  module _ (k : ℕ) (found : List Env) (bs : List Bound) (h : k < size) (is : entries_of bs ≡ counted_to index k (bound_to xs (heads (columns_from k cs)) env)) (passed : ArePassed k found) where
    element_met : (m : Met) → ElementIs bs m → (bound : List Name) → AllHaveOnly il ls bound All → CanBeMet il bound ls body → IsMet il n bound ls (row_at index xs env cs k) body (met_beside (row_at index xs env cs k) m)
    element_met m each bound have can =
        subst (λ (z : List Entry). IsMet il n bound ls (record { entries = z }) body (met_beside (record { entries = z }) m)) is
        (each bound (element_has bound k found bs h is passed have can) can)

    pub passed_next : (m : Met) (more : Env) (longer : List Env) → ElementIs bs m → m ≡ met.Holds more → longer ≡ found ++ more ∷ [] → ArePassed (k + 1) longer
    passed_next m more longer each holds longer_is bound have can =
        let w = passed bound have can in
        let row = row_at index xs env cs k in
        let one : HoldsWith il n bound ls row body (beside row more) = subst (λ z. IsMet il n bound ls row body (met_beside row z)) holds (element_met m each bound have can) in (
          w.0 ++ row ∷ [],
          split bound k found h w ∙ sym (append_assoc w.0 (row ∷ []) (rows_left index xs env cs size (k + 1))),
          subst (AllHoldBeside il n bound ls body (w.0 ++ row ∷ [])) (sym longer_is) (hold_next il n bound ls body w.0 found row more w.2 one),
        )

    abbrev AtEach : AtElements → Type 0
    AtEach r = (bound : List Name) → AllHaveOnly il ls bound All → CanBeMet il bound ls body → AreMet il n bound ls body All r

    pub stops_failing : (m : Met) → ElementIs bs m → m ≡ met.Fails → AtEach reached.Fails
    stops_failing m each fails bound have can =
        let w = passed bound have can in
        let row = row_at index xs env cs k in record {
          before = w.0;
          at = row;
          after = rows_left index xs env cs size (k + 1);
          found = found;
          are = split bound k found h w;
          hold = w.2;
          stops = subst (λ z. IsMet il n bound ls row body (met_beside row z)) fails (element_met m each bound have can);
        }

    pub stops_deep : (m : Met) → ElementIs bs m → m ≡ met.Deep → AtEach reached.Deep
    stops_deep m each deep bound have can =
        let w = passed bound have can in
        let row = row_at index xs env cs k in record {
          before = w.0;
          at = row;
          after = rows_left index xs env cs size (k + 1);
          found = found;
          are = split bound k found h w;
          hold = w.2;
          stops = subst (λ z. IsMet il n bound ls row body (met_beside row z)) deep (element_met m each bound have can);
        }

  pub passed_all : (k : ℕ) (found : List Env) → size ≤ k → ArePassed k found → (bound : List Name) → AllHaveOnly il ls bound All → CanBeMet il bound ls body → AreMet il n bound ls body All (reached.Hold found)
  passed_all k found h passed bound have can =
      let w = passed bound have can in
      let whole : All ≡ w.0 = w.1 ∙ (ap (λ z. w.0 ++ z) (rows_left-end index xs env cs size k h) ∙ append-nil w.0) in
      subst (λ z. AllHoldBeside il n bound ls body z found) (sym whole) w.2
