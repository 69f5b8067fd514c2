-- Ends of runs that are one premise longer, and what is found from all ends.
use Rattle.std.proofs.Common.{◌≡◌, refl, sym, subst, ℕ, ◌+◌, ◌<◌, ◌≤◌, arith, zero, suc, List, [], ◌∷◌, ◌++◌, length, take, get_or, ◌⊎◌, inl, inr}
use Rattle.std.specs.List.{AllByRecursion}
use Rattle.st_il.specs.declared.definition.Il.{Il}
use Rattle.st_il.specs.declared.definition.Listed.{Listed}
use Rattle.st_il.specs.declared.expression.IlPrem.{IlPrem}
use Rattle.st_il.specs.declared.value.Env.{Env}
use Rattle.st_il.specs.Names.{Name}
use Rattle.st_semantics.specs.Environments.{AgreeOn}
use Rattle.st_semantics.specs.Variables.{prem_vars}
use Rattle.st_semantics.specs.Derivation.{Root}
use Rattle.st_algo.specs.declared.algorithm.AlgoStep.{AlgoStep}
use Rattle.st_eval.specs.Steps.{HasOnly}
use Rattle.st_eval.specs.inner.Beside.{beside}
use Rattle.st_search.specs.declared.found.Partial.{Partial}
use Rattle.st_search.specs.declared.found.Solution.{Solution}
use Rattle.st_search.specs.declared.stop.Stop.{Stop}
use Rattle.st_search.specs.declared.stop.Stop.TheVariants as stop
use Rattle.st_search.specs.inner.Lists.{Exists}
use Rattle.st_search.specs.inner.Sought.{Finds, Stops, sought_from}
use Rattle.st_search.specs.inner.Search.{Solvings, AnswersGoals}
use Rattle.st_search.specs.inner.Contracts.{IsShort}
use Rattle.st_search.specs.inner.RunBy.{IsRunBy}
use Rattle.st_search.specs.inner.Steps.{IsSolution, step_seeks}
use Rattle.st_search.specs.inner.Rules.{IsSearchedIn, lengthened}
use Rattle.st_search.specs.inner.Running.{IsLonger, next_seeks, AllEndWith}
use Rattle.st_search.proofs.Finds.{Each-append, Finds-start, Finds-next}
use Rattle.st_search.proofs.Sequences.{take_step, take_whole, Stops-at}
use Rattle.st_search.proofs.Solved.{short_none, short_greater}

module _ (il : Il) (n : ℕ) (root : Root) (bound : List Name) (ls : List Listed) (p : IlPrem) (end : Partial) where
  longer_right : (xs : List Solution) → AllByRecursion (IsSolution il n root bound ls end.env p) xs → AllByRecursion (IsLonger il n root bound ls p end) (lengthened end xs)
  longer_right [] h = tt
  longer_right (x ∷ xs) h = (record { solution = x; right = h.0; env_is = refl; children_are = refl }, longer_right xs h.1)

  longer_wanted : (more : Env) (xs : List Solution) → Exists (λ (x : Solution). AgreeOn (bound ++ prem_vars p) (beside end.env x.env) more) xs → Exists (λ (x : Partial). AgreeOn (bound ++ prem_vars p) x.env more) (lengthened end xs)
  longer_wanted more [] h = absurd h
  longer_wanted more (x ∷ xs) (inl h) = inl h
  longer_wanted more (x ∷ xs) (inr h) = inr (longer_wanted more xs h)

  -- what a step finds from an end makes it longer
  pub next_finds : (longest : ℕ) (xs : List Solution) (ends : List Partial) → ends ≡ lengthened end xs → Finds il n longest (step_seeks il n root bound ls end.env p) xs → Finds il n longest (next_seeks il n root bound ls p end) ends
  next_finds longest xs ends are f = subst (Finds il n longest (next_seeks il n root bound ls p end)) (sym are) (record {
    sound = longer_right xs f.sound;
    complete = λ more wanted. longer_wanted more xs (f.complete more wanted);
    calm = f.calm;
    shallow = f.shallow;
  })

  pub next_stops : (left : ℕ) (s : Stop) → Stops il n left (step_seeks il n root bound ls end.env p) s → Stops il n left (next_seeks il n root bound ls p end) s
  next_stops left stop.Meets h = h
  next_stops left (stop.Asks chain) h = h
  next_stops left stop.Memory h = h

-- ---- all ends, one after another

module _ (il : Il) (n : ℕ) (A : Solvings) (ls : List Listed) (step : AlgoStep) where
  -- what the step finds from one end, whatever premise is meant
  abbrev pub FromEnd : Partial → ℕ → List Partial → Type 0
  FromEnd end longest found =
      (left : ℕ) (root : Root) (bound : List Name) (p : IlPrem) → AnswersGoals il n left A → HasOnly il ls bound end.env → IsRunBy il bound ls p step → IsSearchedIn il p → Finds il n longest (next_seeks il n root bound ls p end) found

  -- what it binds behind one end, and behind some ends
  abbrev pub BindsFrom : Partial → List Partial → Type 0
  BindsFrom end found = (bound : List Name) (p : IlPrem) → HasOnly il ls bound end.env → IsRunBy il bound ls p step → AllEndWith il ls (bound ++ prem_vars p) found

  abbrev pub BindsFromAll : List Partial → List Partial → Type 0
  BindsFromAll ends found = (bound : List Name) (p : IlPrem) → AllEndWith il ls bound ends → IsRunBy il bound ls p step → AllEndWith il ls (bound ++ prem_vars p) found

  -- what it finds from some ends
  abbrev pub FindsFromAll : List Partial → ℕ → List Partial → Type 0
  FindsFromAll ends longest found =
      (left : ℕ) (root : Root) (bound : List Name) (p : IlPrem) → AnswersGoals il n left A → AllEndWith il ls bound ends → IsRunBy il bound ls p step → IsSearchedIn il p → Finds il n longest (sought_from (next_seeks il n root bound ls p) ends) found

  -- why it stops at one end, and at some ends
  abbrev pub StopsFrom : Partial → Stop → Type 0
  StopsFrom end s =
      (left : ℕ) (root : Root) (bound : List Name) (p : IlPrem) → AnswersGoals il n left A → HasOnly il ls bound end.env → IsRunBy il bound ls p step → IsSearchedIn il p → Stops il n left (next_seeks il n root bound ls p end) s

  abbrev pub StopsFromAll : List Partial → Stop → Type 0
  StopsFromAll ends s =
      (left : ℕ) (root : Root) (bound : List Name) (p : IlPrem) → AnswersGoals il n left A → AllEndWith il ls bound ends → IsRunBy il bound ls p step → IsSearchedIn il p → Stops il n left (sought_from (next_seeks il n root bound ls p) ends) s

  -- what it finds from the first ends
  pub record AreFrom (ends : List Partial) (i longest : ℕ) (found : List Partial) : Type 0 where
    pub short : IsShort il n A longest
    pub finds : (left : ℕ) (root : Root) (bound : List Name) (p : IlPrem) → AnswersGoals il n left A → AllEndWith il ls bound ends → IsRunBy il bound ls p step → IsSearchedIn il p
        → Finds il n longest (sought_from (next_seeks il n root bound ls p) (take i ends)) found
    pub binds : BindsFromAll ends found

  pub from_start : (ends found : List Partial) → found ≡ [] → AreFrom ends 0 0 found
  from_start ends found none = record {
    short = short_none il n A;
    finds = λ left root bound p answers only run searched. subst (Finds il n 0 (sought_from (next_seeks il n root bound ls p) [])) (sym none) (Finds-start il n (next_seeks il n root bound ls p) 0);
    binds = λ bound p only run. subst (AllEndWith il ls (bound ++ prem_vars p)) (sym none) tt;
  }

  pub only_at : (bound : List Name) (ends : List Partial) (i : ℕ) (end : Partial) → i < length ends → end ≡ get_or ends i end → AllEndWith il ls bound ends → HasOnly il ls bound end.env
  only_at bound [] i end h is all = absurd (omega (arith, h))
  only_at bound (x ∷ xs) zero end h is all = subst (λ (z : Partial). HasOnly il ls bound z.env) (sym is) all.0
  only_at bound (x ∷ xs) (suc i) end h is all = only_at bound xs i end (omega (arith, h)) is all.1

  module _ (ends : List Partial) (i : ℕ) (end : Partial) (h : i < length ends) (is : end ≡ get_or ends i end) where
    pub from_step : (l m k : ℕ) (found others more : List Partial) → AreFrom ends i l found → IsShort il n A m → FromEnd end m others → BindsFrom end others
        → more ≡ found ++ others → l ≤ k → m ≤ k → (k ≡ l) ⊎ (k ≡ m) → AreFrom ends (i + 1) k more
    from_step l m k found others more f short finds binds is_more less lesser one = record {
      short = short_greater il n A l m k one f.short short;
      finds = λ left root bound p answers only run searched.
          subst (λ z. Finds il n k (sought_from (next_seeks il n root bound ls p) z) more) (sym (take_step ends i end h is))
          (subst (Finds il n k (sought_from (next_seeks il n root bound ls p) (take i ends ++ end ∷ []))) (sym is_more)
          (Finds-next il n (next_seeks il n root bound ls p) l m k (take i ends) end found others (f.finds left root bound p answers only run searched)
          (finds left root bound p answers (only_at bound ends i end h is only) run searched) less lesser));
      binds = λ bound p only run.
          subst (AllEndWith il ls (bound ++ prem_vars p)) (sym is_more)
          (Each-append (λ (z : Partial). HasOnly il ls (bound ++ prem_vars p) z.env) found others (f.binds bound p only run) (binds bound p (only_at bound ends i end h is only) run));
    }

    -- what stops at one end stops at all
    pub from_stopped : (s : Stop) → StopsFrom end s → StopsFromAll ends s
    from_stopped s stops left root bound p answers only run searched =
        Stops-at il n left (next_seeks il n root bound ls p) ends i end h is s (stops left root bound p answers (only_at bound ends i end h is only) run searched)

  pub from_all : (ends : List Partial) (i longest : ℕ) (found : List Partial) → length ends ≤ i → AreFrom ends i longest found → FindsFromAll ends longest found
  from_all ends i longest found end f left root bound p answers only run searched =
      subst (λ z. Finds il n longest (sought_from (next_seeks il n root bound ls p) z) found) (take_whole ends i end) (f.finds left root bound p answers only run searched)
