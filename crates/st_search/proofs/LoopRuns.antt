-- What the functions find that run an iterated step: at its elements one after another, and by its
-- count, its lists and what it gathers.
use Rattle.std.proofs.Common.{arith, ◌≡◌, ℕ, ◌+◌, ◌<◌, ◌≤◌, ◌^◌, pos, refl, sym, ◌∙◌, ap, subst, List, [], ◌∷◌, ◌++◌, ◌⊎◌, inl, inr, append_assoc, append-nil}
use Rattle.std.specs.List.{AllByRecursion}
use Rattle.st_num.specs.Number.{IsNumber}
use Rattle.st_il.specs.declared.definition.Il.{Il}
use Rattle.st_il.specs.declared.definition.Listed.{Listed}
use Rattle.st_il.specs.declared.expression.IlPrem.{IlPrem}
use Rattle.st_il.specs.declared.expression.Iteration.{Iteration}
use Rattle.st_il.specs.declared.value.Env.{Env}
use Rattle.st_il.specs.declared.value.Value.{Value}
use Rattle.st_semantics.specs.declared.outcome.Outcome.{Outcome}
use Rattle.st_semantics.specs.declared.outcome.Outcome.TheVariants.{Val, NoValue, Deep}
use Rattle.st_semantics.specs.declared.outcome.Outcomes.TheVariants.{Values, Stopped}
use Rattle.st_il.specs.Names.{Name, has_name, among}
use Rattle.st_il.specs.Definitions.{syntaxes}
use Rattle.st_semantics.specs.Environments.{Entry, names_of}
use Rattle.st_semantics.specs.Iterations.{index_of, Column, heads, bound_to, counted_to, rows, Misfit, Over, spread}
use Rattle.st_semantics.specs.Scopes.{listed_inside}
use Rattle.st_semantics.specs.Variables.{prem_vars}
use Rattle.st_semantics.specs.Evaluation.{GivesAll, tasks}
use Rattle.st_semantics.specs.Depth.{bound_count}
use Rattle.st_semantics.specs.Calls.{CallAt}
use Rattle.st_semantics.specs.Derivation.{Root}
use Rattle.st_semantics.specs.Laws.{IsStable, CallsAreSingle}
use Rattle.st_semantics.proofs.Values.{not_value}
use Rattle.st_match.specs.declared.scope.Bound.{Bound}
use Rattle.st_match.specs.inner.Scope.{scope_env, entries_of, columns_from}
use Rattle.st_match.proofs.Builds.{row_at, rows_left, rows_left-all}
use Rattle.st_algo.specs.declared.algorithm.AlgoStep.{AlgoStep}
use Rattle.st_eval.specs.Steps.{HasOnly}
use Rattle.st_eval.specs.inner.AtElements.{AllHaveOnly}
use Rattle.st_eval.specs.inner.Beside.{beside}
use Rattle.st_eval.proofs.AllHaveOnly.{AllHaveOnly-rows}
use Rattle.st_eval.proofs.ElementRows.{rows_left-first, rows_left-end}
use Rattle.st_eval.proofs.SameNames.{among-same}
use Rattle.st_search.specs.declared.found.Found.{Found}
use Rattle.st_search.specs.declared.found.Solution.{Solution}
use Rattle.st_search.specs.declared.found.Walk.{Walk}
use Rattle.st_search.specs.declared.stop.Stop.{Stop}
use Rattle.st_search.specs.declared.stop.Stop.TheVariants as stop
use Rattle.st_search.specs.inner.Sought.{Finds, Stops, StopsIf}
use Rattle.st_search.specs.inner.Steps.{step_seeks}
use Rattle.st_search.specs.inner.Walks.{each_seeks, step_asks, multiplied}
use Rattle.st_search.specs.inner.Gathering.{AreGatheredTo, SomeTooHigh}
use Rattle.st_search.specs.inner.RunBy.{IsRunBy, IsLoopOf}
use Rattle.st_search.specs.inner.Rules.{IsSearchedIn}
use Rattle.st_search.specs.inner.Search.{Solvings, AnswersGoals}
use Rattle.st_search.specs.inner.Contracts.{Meant, IsShort, FindsWhere, StopsWhere, FindsAtAll, StopsAtAll, BindsWhere, IsBoundBy, BindsAtAll}
use Rattle.st_search.proofs.Binds.{start_binds, multiplied_binds, loop_binds}
use Rattle.st_search.proofs.LoopLaws.{count_deep, count_none, lists_misfit, stops_out, loop_found, loop_high}
use Rattle.st_search.proofs.StepWays.{searched_inside}
use Rattle.st_search.proofs.WalkLaws.{walk_start, walk_next, walk_stops, walk_rest}

have_at : (il : Il) (ls : List Listed) (names : List Name) (before : List Env) (at : Env) (after : List Env) → AllHaveOnly il ls names (before ++ at ∷ after) → HasOnly il ls names at
have_at il ls names [] at after all = all.0
have_at il ls names (e ∷ es) at after all = have_at il ls names es at after all.1

-- where no goal was asked, fewer goals lead on than are left
pub short_none : (il : Il) (n : ℕ) (A : Solvings) (longest : ℕ) → longest ≡ 0 → IsShort il n A longest
short_none il n A longest none left more answers = omega (arith, none, more)

pub short_either : (il : Il) (n : ℕ) (A : Solvings) (l m k : ℕ) → (k ≡ l) ⊎ (k ≡ m) → IsShort il n A l → IsShort il n A m → IsShort il n A k
short_either il n A l m k (inl e) s t = subst (IsShort il n A) (sym e) s
short_either il n A l m k (inr e) s t = subst (IsShort il n A) (sym e) t

-- ---- at the elements

module _ (il : Il) (n : ℕ) (A : Solvings) (ls : List Listed) (K : Meant) (index xs : List Name) (env : List Entry) (cs : List Column) (size : ℕ) where
  abbrev AllElements : List Env
  AllElements = rows index xs env size 0 cs

  -- these walks are found at the elements before this one
  abbrev pub AreWalked : ℕ → ℕ → List Walk → Type 0
  AreWalked k longest walks =
      (before : List Env) × (rows index xs env size 0 cs ≡ before ++ rows_left index xs env cs size k) × IsShort il n A longest
      × ((left : ℕ) (root : Root) (bound : List Name) (p : IlPrem) → AnswersGoals il n left A → AllHaveOnly il ls bound (rows index xs env size 0 cs) → K bound p → IsSearchedIn il p
      → Finds il n longest (each_seeks il n root bound ls before p) walks)
      × ((bound : List Name) (p : IlPrem) → AllHaveOnly il ls bound (rows index xs env size 0 cs) → K bound p → AllByRecursion (IsBoundBy il ls (bound ++ prem_vars p) before) walks)

  pub walked_start : (longest : ℕ) (walks : List Walk) → longest ≡ 0 → walks ≡ record { envs = []; children = [] } ∷ [] → AreWalked 0 longest walks
  walked_start longest walks none one = (
    [],
    sym (rows_left-all index xs env cs size),
    short_none il n A longest none,
    λ left root bound p answers have can searched. subst (Finds il n longest (each_seeks il n root bound ls [] p)) (sym one) (walk_start il n root bound ls p longest),
    λ bound p have can. start_binds il ls (bound ++ prem_vars p) walks one,
  )

  split : (k longest : ℕ) (walks : List Walk) → k < size → (w : AreWalked k longest walks) → AllElements ≡ w.0 ++ row_at index xs env cs k ∷ rows_left index xs env cs size (k + 1)
  split k longest walks h w = w.1 ∙ ap (λ z. w.0 ++ z) (rows_left-first index xs env cs size k h)

  -- the variables of an element
  pub element_has : (k longest : ℕ) (walks : List Walk) (bs : List Bound) → k < size → entries_of bs ≡ counted_to index k (bound_to xs (heads (columns_from k cs)) env) → AreWalked k longest walks
      → (bound : List Name) → AllHaveOnly il ls bound AllElements → HasOnly il ls bound (scope_env bs)
  element_has k longest walks bs h is w bound have =
      subst (λ (z : List Entry). HasOnly il ls bound (record { entries = z })) (sym is)
      (have_at il ls bound w.0 (row_at index xs env cs k) (rows_left index xs env cs size (k + 1)) (subst (AllHaveOnly il ls bound) (split k longest walks h w) have))

  -- nothing is found up to this element
  pub walked_none : (k longest : ℕ) (walks : List Walk) → walks ≡ [] → AreWalked k longest walks → FindsAtAll il n A ls AllElements K (record { items = walks; longest = longest })
  walked_none k longest walks none w left root bound p answers have can searched =
      subst (Finds il n longest (each_seeks il n root bound ls AllElements p)) (sym none)
      (subst (λ z. Finds il n longest (each_seeks il n root bound ls z p) []) (sym w.1)
      (walk_rest il n root bound ls p longest w.0 (rows_left index xs env cs size k) (subst (Finds il n longest (each_seeks il n root bound ls w.0 p)) none (w.3 left root bound p answers have can searched))))

  pub bound_none : (walks : List Walk) → walks ≡ [] → BindsAtAll il ls AllElements K walks
  bound_none walks none bound p have can = subst (AllByRecursion (IsBoundBy il ls (bound ++ prem_vars p) AllElements)) (sym none) tt

  whole : (k longest : ℕ) (walks : List Walk) → size ≤ k → (w : AreWalked k longest walks) → AllElements ≡ w.0
  whole k longest walks h w = w.1 ∙ (ap (λ z. w.0 ++ z) (rows_left-end index xs env cs size k h) ∙ append-nil w.0)

  -- all elements
  pub walked_all : (k longest : ℕ) (walks : List Walk) → size ≤ k → AreWalked k longest walks → FindsAtAll il n A ls AllElements K (record { items = walks; longest = longest })
  walked_all k longest walks h w left root bound p answers have can searched =
      subst (λ z. Finds il n longest (each_seeks il n root bound ls z p) walks) (sym (whole k longest walks h w)) (w.3 left root bound p answers have can searched)

  pub bound_all : (k longest : ℕ) (walks : List Walk) → size ≤ k → AreWalked k longest walks → BindsAtAll il ls AllElements K walks
  bound_all k longest walks h w bound p have can =
      subst (λ z. AllByRecursion (IsBoundBy il ls (bound ++ prem_vars p) z) walks) (sym (whole k longest walks h w)) (w.4 bound p have can)

  module _ (k longest : ℕ) (walks : List Walk) (bs : List Bound) (h : k < size) (is : entries_of bs ≡ counted_to index k (bound_to xs (heads (columns_from k cs)) env)) (w : AreWalked k longest walks) where
    -- one element more
    pub walked_next : (found : Found Solution) (longer : List Walk) (most : ℕ) → IsShort il n A found.longest → FindsWhere il n A ls (scope_env bs) K found → BindsWhere il ls (scope_env bs) K found.items → longer ≡ multiplied walks found.items
        → longest ≤ most → found.longest ≤ most → (most ≡ longest) ⊎ (most ≡ found.longest) → AreWalked (k + 1) most longer
    walked_next found longer most short finds binds longer_is less lesser either =
        let row = row_at index xs env cs k in (
          w.0 ++ row ∷ [],
          split k longest walks h w ∙ sym (append_assoc w.0 (row ∷ []) (rows_left index xs env cs size (k + 1))),
          short_either il n A longest found.longest most either w.2 short,
          λ left root bound p answers have can searched.
              subst (Finds il n most (each_seeks il n root bound ls (w.0 ++ row ∷ []) p)) (sym longer_is)
              (walk_next il n root bound ls p w.0 row longest found.longest most walks found.items (w.3 left root bound p answers have can searched)
              (subst (λ (z : List Entry). Finds il n found.longest (step_seeks il n root bound ls (record { entries = z }) p) found.items) is
              (finds left root bound p answers (element_has k longest walks bs h is w bound have) can searched)) less lesser),
          λ bound p have can.
              subst (AllByRecursion (IsBoundBy il ls (bound ++ prem_vars p) (w.0 ++ row ∷ []))) (sym longer_is)
              (multiplied_binds il ls (bound ++ prem_vars p) w.0 row walks found.items (w.4 bound p have can)
              (subst (λ (z : List Entry). AllByRecursion (λ (x : Solution). HasOnly il ls (bound ++ prem_vars p) (beside (record { entries = z }) x.env)) found.items) is
              (binds bound p (element_has k longest walks bs h is w bound have) can))),
        )

    -- an element that stops
    pub walked_stops : (walks ≡ [] → ⊥) → (s : Stop) → StopsWhere il n A ls (scope_env bs) K s → StopsAtAll il n A ls AllElements K s
    walked_stops some s stops left root bound p answers have can searched =
        subst (λ z. Stops il n left (each_seeks il n root bound ls z p) s) (sym (split k longest walks h w)) (at walks some (w.3 left root bound p answers have can searched))
      where
        at : (ws : List Walk) → (ws ≡ [] → ⊥) → Finds il n longest (each_seeks il n root bound ls w.0 p) ws → Stops il n left (each_seeks il n root bound ls (w.0 ++ row_at index xs env cs k ∷ rows_left index xs env cs size (k + 1)) p) s
        at [] none f = absurd (none refl)
        at (v ∷ vs) none f =
            walk_stops il n root bound ls p w.0 (row_at index xs env cs k) longest left v vs f (rows_left index xs env cs size (k + 1)) s
            (subst (λ (z : List Entry). Stops il n left (step_seeks il n root bound ls (record { entries = z }) p) s) is (stops left root bound p answers (element_has k longest walks bs h is w bound have) can searched))

-- ---- an iterated step

module _ (il : Il) (stable : IsStable il) (single : CallsAreSingle il) (n : ℕ) (A : Solvings) (ls : List Listed) (env : Env) (how : Iteration) (xs : List Name) (step : AlgoStep) (known : List Name) (known_are : known ≡ names_of env) where
  same : (bound : List Name) → HasOnly il ls bound env → (x : Name) → has_name known x ≡ has_name bound x
  same bound only x = ap (λ z. has_name z x) known_are ∙ only.names_are x

  -- what is meant is an iterated premise that this step repeats
  abbrev pub IsMeant : Meant
  IsMeant bound p = (body : IlPrem) × IsLoopOf il bound ls p how xs body step

  pub loop_deep : GivesAll (syntaxes il) (CallAt il n) (tasks env (bound_count known how)) (Stopped Deep) → StopsWhere il n A ls env IsMeant stop.Meets
  loop_deep gives left root bound p answers only can searched = count_deep il stable single n root bound ls env p how xs can.0 step can.1 only known (same bound only) gives

  pub loop_none : GivesAll (syntaxes il) (CallAt il n) (tasks env (bound_count known how)) (Stopped NoValue) → FindsWhere il n A ls env IsMeant (record { items = []; longest = 0 })
  loop_none gives left root bound p answers only can searched = count_none il stable single n root bound ls env p how xs can.0 step can.1 only known (same bound only) gives

  pub loop_stopped : (o : Outcome) → GivesAll (syntaxes il) (CallAt il n) (tasks env (bound_count known how)) (Stopped o) → (o ≡ Deep → ⊥) → FindsWhere il n A ls env IsMeant (record { items = []; longest = 0 })
  loop_stopped (Val v) gives fine = absurd (not_value (syntaxes il) (CallAt il n) (tasks env (bound_count known how)) (Stopped (Val v)) v gives refl)
  loop_stopped NoValue gives fine = loop_none gives
  loop_stopped Deep gives fine = absurd (fine refl)

  pub loop_counted : (o : Outcome) → GivesAll (syntaxes il) (CallAt il n) (tasks env (bound_count known how)) (Stopped o) → (s : Stop) → (o ≡ Deep) × (s ≡ stop.Meets) → StopsWhere il n A ls env IsMeant s
  loop_counted o gives s (deep, meets) = subst (StopsWhere il n A ls env IsMeant) (sym meets) (loop_deep (subst (λ z. GivesAll (syntaxes il) (CallAt il n) (tasks env (bound_count known how)) (Stopped z)) deep gives))

  module _ (names : List Name) (names_are : names ≡ among known xs) (count : List Value) (gives : GivesAll (syntaxes il) (CallAt il n) (tasks env (bound_count known how)) (Values count)) where
    pub loop_misfit : spread how names env count ≡ Misfit → FindsWhere il n A ls env IsMeant (record { items = []; longest = 0 })
    loop_misfit misfit left root bound p answers only can searched =
        lists_misfit il stable single n root bound ls env p how xs can.0 step can.1 only known (same bound only) count gives (subst (λ z. spread how z env count ≡ Misfit) names_are misfit)

    module _ (inside : List Listed) (inside_are : inside ≡ listed_inside how xs ls) (size : ℕ) (cs : List Column) (over : spread how names env count ≡ Over (rows (index_of how) names env.entries size 0 cs)) where
      abbrev Elements : List Env
      Elements = rows (index_of how) names env.entries size 0 cs

      -- what is meant inside
      abbrev pub IsMeantInside : Meant
      IsMeantInside bound p = IsRunBy il bound inside p step

      pub loop_have : size < 2 ^ 128 → (bound : List Name) (p : IlPrem) → HasOnly il ls bound env → IsMeant bound p → AllHaveOnly il inside (index_of how ++ bound) Elements
      loop_have small bound p only can =
          let number : IsNumber (pos size) = omega (arith, small) in
          let is : names ≡ among bound xs = names_are ∙ among-same known bound (same bound only) xs in
          subst (λ z. AllHaveOnly il z (index_of how ++ bound) Elements) (sym inside_are)
          (subst (λ (z : List Name). AllHaveOnly il (listed_inside how xs ls) (index_of how ++ bound) (rows (index_of how) z env.entries size 0 cs)) (sym is)
          (AllHaveOnly-rows il bound ls env how xs can.1.each.kinded only count size cs number (subst (λ (z : List Name). spread how z env count ≡ Over (rows (index_of how) z env.entries size 0 cs)) is over)))

      pub loop_inside : (bound : List Name) (p : IlPrem) → (can : IsMeant bound p) → IsRunBy il (index_of how ++ bound) inside can.0 step
      loop_inside bound p can = subst (λ z. IsRunBy il (index_of how ++ bound) z can.0 step) (sym inside_are) can.1.inside

      over_known : spread how (among known xs) env count ≡ Over Elements
      over_known = subst (λ z. spread how z env count ≡ Over Elements) names_are over

      module _ (small : size < 2 ^ 128) where
        at_all : (walks : Found Walk) → FindsAtAll il n A inside Elements IsMeantInside walks → (left : ℕ) (root : Root) (bound : List Name) (p : IlPrem) → AnswersGoals il n left A → HasOnly il ls bound env → (can : IsMeant bound p) → IsSearchedIn il p
            → Finds il n walks.longest (each_seeks il n root (index_of how ++ bound) (listed_inside how xs ls) Elements can.0) walks.items
        at_all walks finds left root bound p answers only can searched =
            subst (λ z. Finds il n walks.longest (each_seeks il n root (index_of how ++ bound) z Elements can.0) walks.items) inside_are
            (finds left root (index_of how ++ bound) can.0 answers (loop_have small bound p only can) (loop_inside bound p can) (searched_inside il p how xs can.0 can.1.each.is searched))

        have_listed : (bound : List Name) (p : IlPrem) → HasOnly il ls bound env → IsMeant bound p → AllHaveOnly il (listed_inside how xs ls) (index_of how ++ bound) Elements
        have_listed bound p only can = subst (λ z. AllHaveOnly il z (index_of how ++ bound) Elements) inside_are (loop_have small bound p only can)

        -- what the elements stop by
        pub loop_stops : (s : Stop) → StopsAtAll il n A inside Elements IsMeantInside s → StopsWhere il n A ls env IsMeant s
        loop_stops s stops left root bound p answers only can searched =
            stops_out il stable single n root bound ls env p how xs can.0 step can.1 only known (same bound only) count gives Elements over_known left s
            (subst (λ z. Stops il n left (each_seeks il n root (index_of how ++ bound) z Elements can.0) s) inside_are
            (stops left root (index_of how ++ bound) can.0 answers (loop_have small bound p only can) (loop_inside bound p can) (searched_inside il p how xs can.0 can.1.each.is searched)))

        -- what is gathered of all walks binds the variables
        pub loop_bound : (walks : List Walk) → BindsAtAll il inside Elements IsMeantInside walks → (items : List Solution) → AreGatheredTo (syntaxes il) ls known how xs (step_asks step) walks items → BindsWhere il ls env IsMeant items
        loop_bound walks binds items gathered bound p only can =
            loop_binds il bound ls env only p how xs can.0 can.1.each known (same bound only) Elements (have_listed bound p only can) (step_asks step) walks items
            (subst (λ z. AllByRecursion (IsBoundBy il z ((index_of how ++ bound) ++ prem_vars can.0) Elements) walks) inside_are
            (binds (index_of how ++ bound) can.0 (loop_have small bound p only can) (loop_inside bound p can))) gathered

        module _ (walks : Found Walk) (finds : FindsAtAll il n A inside Elements IsMeantInside walks) where
          -- what is gathered of all walks
          pub loop_finds : (items : List Solution) → AreGatheredTo (syntaxes il) ls known how xs (step_asks step) walks.items items → FindsWhere il n A ls env IsMeant (record { items = items; longest = walks.longest })
          loop_finds items gathered left root bound p answers only can searched =
              loop_found il stable single n root bound ls env p how xs can.0 step can.1 only known (same bound only) count gives Elements over_known (have_listed bound p only can) walks.longest walks.items items
              (at_all walks finds left root bound p answers only can searched) gathered

          -- a variable that is too high
          pub loop_too_high : (s : Stop) → StopsIf (SomeTooHigh (syntaxes il) ls known how xs walks.items) s → StopsWhere il n A ls env IsMeant s
          loop_too_high stop.Meets high left root bound p answers only can searched =
              loop_high il stable single n root bound ls env p how xs can.0 step can.1 only known (same bound only) count gives Elements over_known (have_listed bound p only can) walks.items
              (at_all walks finds left root bound p answers only can searched).sound high
          loop_too_high (stop.Asks chain) high left root bound p answers only can searched = absurd high
          loop_too_high stop.Memory high left root bound p answers only can searched = tt
