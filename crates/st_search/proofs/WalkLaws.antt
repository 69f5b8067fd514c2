-- What is found at elements, one after another.
use Rattle.std.proofs.Common.{arith, ◌≡◌, ℕ, ◌+◌, ◌≤◌, refl, sym, ◌∙◌, ap, subst, List, [], ◌∷◌, ◌++◌, length, ◌⊎◌, inl, inr, length-append}
use Rattle.std.specs.List.{AllByRecursion}
use Rattle.st_il.specs.declared.definition.Il.{Il}
use Rattle.st_il.specs.declared.definition.Listed.{Listed}
use Rattle.st_il.specs.declared.expression.IlPrem.{IlPrem}
use Rattle.st_il.specs.declared.value.Env.{Env}
use Rattle.st_il.specs.Names.{Name, without}
use Rattle.st_semantics.specs.Environments.{AgreeOn}
use Rattle.st_semantics.specs.Variables.{prem_vars}
use Rattle.st_semantics.specs.Holding as h
use Rattle.st_semantics.specs.Holding.{Instance, each_instance, Holds, HoldAll}
use Rattle.st_semantics.specs.Depth.{AllTypedIn, Meets}
use Rattle.st_semantics.specs.Calls.{has_value, has_value_at}
use Rattle.st_semantics.specs.Derivation.{Root, Proved, done, derived, excluded}
use Rattle.st_semantics.specs.Chains.{excluded_at}
use Rattle.st_semantics.proofs.Names.{within-right}
use Rattle.st_semantics.proofs.Clauses.{hold_first}
use Rattle.st_semantics.proofs.Premises.{without-parts}
use Rattle.st_eval.specs.Steps.{HasOnly}
use Rattle.st_eval.specs.inner.Beside.{beside}
use Rattle.st_eval.specs.inner.AtElements.{AllHaveOnly}
use Rattle.st_search.specs.declared.found.Solution.{Solution}
use Rattle.st_search.specs.declared.found.Walk.{Walk}
use Rattle.st_search.specs.declared.stop.Stop.{Stop}
use Rattle.st_search.specs.declared.stop.Stop.TheVariants as stop
use Rattle.st_search.specs.inner.Lists.{Exists}
use Rattle.st_search.specs.inner.Asking.{AsksGoal}
use Rattle.st_search.specs.inner.Sought.{Finds, Stops}
use Rattle.st_search.specs.inner.Steps.{at_root, IsSolution, IsSought, step_seeks}
use Rattle.st_search.specs.inner.Walks.{AllAgreeOn, all_beside, IsWalk, AreSought, ComesTo, each_seeks, stretched, multiplied}
use Rattle.st_search.proofs.Finds.{Exists-front, Exists-back, Each-append, IsCalm-wider}
use Rattle.st_search.proofs.StandIns.{Proved-append, Proved-holds}

-- ---- a position among some elements and others behind

-- it is among the first ones, or behind all of them
abbrev Placed : List Env → List Env → List Env → Env → List Env → Type 0
Placed es rest bs b cs =
    ((mid : List Env) × (es ≡ bs ++ b ∷ mid)) ⊎ ((mid : List Env) × (bs ≡ es ++ mid) × (rest ≡ mid ++ b ∷ cs))

placed : (es rest bs : List Env) (b : Env) (cs : List Env) → es ++ rest ≡ bs ++ b ∷ cs → Placed es rest bs b cs
placed [] rest bs b cs e = inr (bs, refl, e)
placed (a ∷ es) rest [] b cs e = let same : a ≡ b = cc in inl (es, ap (λ z. z ∷ es) same)
placed (a ∷ es) rest (d ∷ bs) b cs e =
    let same : a ≡ d = cc in
    let later : es ++ rest ≡ bs ++ b ∷ cs = cc in
    further same (placed es rest bs b cs later)
  where
    further : a ≡ d → Placed es rest bs b cs → Placed (a ∷ es) rest (d ∷ bs) b cs
    further same (inl m) = inl (m.0, ap (λ z. z ∷ es) same ∙ ap (λ z. d ∷ z) m.1)
    further same (inr m) = inr (m.0, ap (λ z. z ∷ bs) (sym same) ∙ ap (λ z. a ∷ z) m.1, m.2)

-- ---- lists of environments, one by one

instance-last : (p : IlPrem) (es : List Env) (e : Env) → each_instance (es ++ e ∷ []) p ≡ each_instance es p ++ (e, p) ∷ []
instance-last p [] e = refl
instance-last p (a ∷ es) e = ap (λ z. (a, p) ∷ z) (instance-last p es e)

pub beside-last : (es fs : List Env) (e f : Env) → length fs ≡ length es → all_beside (es ++ e ∷ []) (fs ++ f ∷ []) ≡ all_beside es fs ++ beside e f ∷ []
beside-last [] [] e f l = refl
beside-last [] (m ∷ ms) e f l = absurd (omega (arith, l))
beside-last (a ∷ es) [] e f l = absurd (omega (arith, l))
beside-last (a ∷ es) (m ∷ ms) e f l = let less : length ms ≡ length es = omega (arith, l) in ap (λ z. beside a m ∷ z) (beside-last es ms e f less)

agree-last : (names : List Name) (es fs : List Env) (e f : Env) → AllAgreeOn names es fs → AgreeOn names e f → AllAgreeOn names (es ++ e ∷ []) (fs ++ f ∷ [])
agree-last names [] [] e f g k = (k, tt)
agree-last names [] (m ∷ ms) e f g k = absurd g
agree-last names (a ∷ es) [] e f g k = absurd g
agree-last names (a ∷ es) (m ∷ ms) e f g k = (g.0, agree-last names es ms e f g.1 k)

-- those that agree with some and one more are some and one more
agree-parts : (names : List Name) (es : List Env) (e : Env) (mores : List Env) → AllAgreeOn names (es ++ e ∷ []) mores → (ms : List Env) × (m : Env) × (mores ≡ ms ++ m ∷ []) × AllAgreeOn names es ms × AgreeOn names e m
agree-parts names [] e [] g = absurd g
agree-parts names [] e (m ∷ []) g = ([], m, refl, tt, g.0)
agree-parts names [] e (m ∷ n ∷ ms) g = absurd g.1
agree-parts names (a ∷ es) e [] g = absurd g
agree-parts names (a ∷ es) e (m ∷ ms) g =
    let k = agree-parts names es e ms g.1 in
    (m ∷ k.0, k.1, ap (λ z. m ∷ z) k.2, (g.0, k.3), k.4)

-- those that agree with some and more have those that agree with the first ones
agree-front : (names : List Name) (es rest mores : List Env) → AllAgreeOn names (es ++ rest) mores → (ms : List Env) × (others : List Env) × (mores ≡ ms ++ others) × AllAgreeOn names es ms
agree-front names [] rest mores g = ([], mores, refl, tt)
agree-front names (a ∷ es) rest [] g = absurd g
agree-front names (a ∷ es) rest (m ∷ ms) g =
    let k = agree-front names es rest ms g.1 in
    (m ∷ k.0, k.1, ap (λ z. m ∷ z) k.2, (g.0, k.3))

module _ (il : Il) (ls : List Listed) (names : List Name) where
  pub only-last : (es : List Env) (e : Env) → AllHaveOnly il ls names es → HasOnly il ls names e → AllHaveOnly il ls names (es ++ e ∷ [])
  only-last [] e all k = (k, tt)
  only-last (a ∷ es) e all k = (all.0, only-last es e all.1 k)

  typed-front : (ms others : List Env) → AllTypedIn il ls names (ms ++ others) → AllTypedIn il ls names ms × AllTypedIn il ls names others
  typed-front [] others all = (tt, all)
  typed-front (m ∷ ms) others all = let k = typed-front ms others all.1 in ((all.0, k.0), k.1)

module _ (il : Il) (root : Root) (p : IlPrem) where
  hold-front : (ms others : List Env) → HoldAll (has_value il) (excluded il root) (derived il) (each_instance (ms ++ others) p)
      → HoldAll (has_value il) (excluded il root) (derived il) (each_instance ms p) × HoldAll (has_value il) (excluded il root) (derived il) (each_instance others p)
  hold-front [] others all = (h.done, all)
  hold-front (m ∷ ms) others all =
      let first = hold_first (m, p) (each_instance (ms ++ others) p) all in
      let k = hold-front ms others first.1 in
      (h.more first.0 k.0, k.1)

-- ---- one element after another

module _ (il : Il) (n : ℕ) (root : Root) (bound : List Name) (ls : List Listed) (p : IlPrem) where
  abbrev Names : List Name
  Names = bound ++ prem_vars p

  -- what is wanted at all elements is wanted at the first ones
  sought-front : (es rest mores : List Env) → AreSought il root bound ls (es ++ rest) p mores → (ms : List Env) × AreSought il root bound ls es p ms
  sought-front es rest mores w =
      let k = agree-front bound es rest mores w.agree in (
        k.0,
        record {
          agree = k.3;
          typed = (typed-front il ls (without bound (prem_vars p)) k.0 k.1 (subst (AllTypedIn il ls (without bound (prem_vars p))) k.2 w.typed)).0;
          hold = (hold-front il root p k.0 k.1 (subst (λ z. HoldAll (has_value il) (excluded il root) (derived il) (each_instance z p)) k.2 w.hold)).0;
        },
      )

  sought-last : (es : List Env) (e : Env) (mores : List Env) → AreSought il root bound ls (es ++ e ∷ []) p mores
      → (ms : List Env) × (m : Env) × (mores ≡ ms ++ m ∷ []) × AreSought il root bound ls es p ms × IsSought il root bound ls e p m
  sought-last es e mores w =
      let k = agree-parts bound es e mores w.agree in
      let t = typed-front il ls (without bound (prem_vars p)) k.0 (k.1 ∷ []) (subst (AllTypedIn il ls (without bound (prem_vars p))) k.2 w.typed) in
      let o = hold-front il root p k.0 (k.1 ∷ []) (subst (λ z. HoldAll (has_value il) (excluded il root) (derived il) (each_instance z p)) k.2 w.hold) in (
        k.0,
        k.1,
        k.2,
        record { agree = k.3; typed = t.0; hold = o.0 },
        record { agrees = k.4; typed = t.1.0; holds = (hold_first (k.1, p) [] o.1).0 },
      )

  -- an element behind some is one of those, or the next
  comes_last : (es : List Env) (e : Env) (P : Env → Type 0) → ComesTo il root bound ls (es ++ e ∷ []) p P → ComesTo il root bound ls es p P ⊎ P e
  comes_last es e P t = elim (placed es (e ∷ []) t.before t.at t.after t.split) [
    | inl k ↦ inl (record { before = t.before; at = t.at; after = k.0; split = k.1; mores = t.mores; sought = t.sought; here = t.here })
    | inr k ↦ inr (last k.0 k.2)
  ]
    where
      last : (mid : List Env) → e ∷ [] ≡ mid ++ t.at ∷ t.after → P e
      last [] q = let same : t.at ≡ e = cc in subst P same t.here
      last (m ∷ []) q = cc
      last (m ∷ d ∷ mid) q = cc

  -- where nothing is wanted at the first ones, nobody comes behind them
  comes_front : (es rest : List Env) (P : Env → Type 0) → ((ms : List Env) → AreSought il root bound ls es p ms → ⊥) → ComesTo il root bound ls (es ++ rest) p P → ComesTo il root bound ls es p P
  comes_front es rest P never t = elim (placed es rest t.before t.at t.after t.split) [
    | inl k ↦ record { before = t.before; at = t.at; after = k.0; split = k.1; mores = t.mores; sought = t.sought; here = t.here }
    | inr k ↦ (let w = sought-front es k.0 t.mores (subst (λ z. AreSought il root bound ls z p t.mores) k.1 t.sought) in absurd (never w.0 w.1))
  ]

  -- ---- no element

  no_element : (bs : List Env) (b : Env) (cs : List Env) → [] ≡ bs ++ b ∷ cs → ⊥
  no_element [] b cs e = cc
  no_element (d ∷ bs) b cs e = cc

  pub walk_start : (l : ℕ) → Finds il n l (each_seeks il n root bound ls [] p) (record { envs = []; children = [] } ∷ [])
  walk_start l = record {
    sound = (record { as_many = refl; agree = tt; variables = tt; proved = done }, tt);
    complete = λ mores w. all mores w.agree;
    calm = λ next asked. absurd (no_element asked.before asked.at asked.after asked.split);
    shallow = λ t. no_element t.before t.at t.after t.split;
  }
    where
      all : (mores : List Env) → AllAgreeOn bound [] mores → Exists (λ (w : Walk). AllAgreeOn Names (all_beside [] w.envs) mores) (record { envs = []; children = [] } ∷ [])
      all [] g = inl tt
      all (m ∷ ms) g = absurd g

  -- ---- one element more

  module _ (es : List Env) (e : Env) where
    abbrev Before : Walk → Type 0
    Before w = IsWalk il n root bound ls es p w

    abbrev After : Walk → Type 0
    After w = IsWalk il n root bound ls (es ++ e ∷ []) p w

    abbrev longer : Walk → Solution → Walk
    longer w x = record { envs = w.envs ++ x.env ∷ []; children = w.children ++ x.children }

    walk_longer : (w : Walk) (x : Solution) → Before w → IsSolution il n root bound ls e p x → After (longer w x)
    walk_longer w x walk solution =
        let last = beside-last es w.envs e x.env walk.as_many in
        record {
          as_many = length-append w.envs (x.env ∷ []) ∙ (ap (λ z. z + 1) walk.as_many ∙ sym (length-append es (e ∷ [])));
          agree = subst (AllAgreeOn bound (es ++ e ∷ [])) (sym last) (agree-last bound es (all_beside es w.envs) e (beside e x.env) walk.agree solution.agrees);
          variables = subst (AllHaveOnly il ls Names) (sym last) (only-last il ls Names (all_beside es w.envs) (beside e x.env) walk.variables solution.variables);
          proved = subst (λ z. Proved il (has_value_at il n) (excluded_at il n) root z (w.children ++ x.children)) (sym (ap (λ z. each_instance z p) last ∙ instance-last p (all_beside es w.envs) (beside e x.env)))
              (Proved-append il (has_value_at il n) (excluded_at il n) walk.proved ((beside e x.env, p) ∷ []) x.children solution.proved);
        }

    all_stretched : (w : Walk) (xs : List Solution) → Before w → AllByRecursion (IsSolution il n root bound ls e p) xs → AllByRecursion After (stretched w xs)
    all_stretched w [] walk all = tt
    all_stretched w (x ∷ xs) walk all = (walk_longer w x walk all.0, all_stretched w xs walk all.1)

    all_multiplied : (ws : List Walk) (xs : List Solution) → AllByRecursion Before ws → AllByRecursion (IsSolution il n root bound ls e p) xs → AllByRecursion After (multiplied ws xs)
    all_multiplied [] xs walks all = tt
    all_multiplied (w ∷ ws) xs walks all = Each-append After (stretched w xs) (multiplied ws xs) (all_stretched w xs walks.0 all) (all_multiplied ws xs walks.1 all)

    module _ (ms : List Env) (m : Env) where
      abbrev Fits : Walk → Type 0
      Fits w = AllAgreeOn Names (all_beside (es ++ e ∷ []) w.envs) (ms ++ m ∷ [])

      fit_longer : (w : Walk) (x : Solution) → Before w → AllAgreeOn Names (all_beside es w.envs) ms → AgreeOn Names (beside e x.env) m → Fits (longer w x)
      fit_longer w x walk fit is =
          subst (λ z. AllAgreeOn Names z (ms ++ m ∷ [])) (sym (beside-last es w.envs e x.env walk.as_many)) (agree-last Names (all_beside es w.envs) ms (beside e x.env) m fit is)

      some_stretched : (w : Walk) (xs : List Solution) → Before w → AllAgreeOn Names (all_beside es w.envs) ms → Exists (λ (x : Solution). AgreeOn Names (beside e x.env) m) xs → Exists Fits (stretched w xs)
      some_stretched w [] walk fit some = absurd some
      some_stretched w (x ∷ xs) walk fit (inl is) = inl (fit_longer w x walk fit is)
      some_stretched w (x ∷ xs) walk fit (inr later) = inr (some_stretched w xs walk fit later)

      some_multiplied : (ws : List Walk) (xs : List Solution) → AllByRecursion Before ws → Exists (λ (w : Walk). AllAgreeOn Names (all_beside es w.envs) ms) ws → Exists (λ (x : Solution). AgreeOn Names (beside e x.env) m) xs
          → Exists Fits (multiplied ws xs)
      some_multiplied [] xs walks fit some = absurd fit
      some_multiplied (w ∷ ws) xs walks (inl fit) some = Exists-front Fits (stretched w xs) (multiplied ws xs) (some_stretched w xs walks.0 fit some)
      some_multiplied (w ∷ ws) xs walks (inr fit) some = Exists-back Fits (stretched w xs) (multiplied ws xs) (some_multiplied ws xs walks.1 fit some)

    -- each walk with each solution of the next element
    pub walk_next : (l m k : ℕ) (ws : List Walk) (xs : List Solution) → Finds il n l (each_seeks il n root bound ls es p) ws → Finds il n m (step_seeks il n root bound ls e p) xs → l ≤ k → m ≤ k
        → Finds il n k (each_seeks il n root bound ls (es ++ e ∷ []) p) (multiplied ws xs)
    walk_next l m k ws xs f g less lesser = record {
      sound = all_multiplied ws xs f.sound g.sound;
      complete = λ mores w.
          let parts = sought-last es e mores w in
          subst (λ z. Exists (λ (w : Walk). AllAgreeOn Names (all_beside (es ++ e ∷ []) w.envs) z) (multiplied ws xs)) (sym parts.2)
          (some_multiplied parts.0 parts.1 ws xs f.sound (f.complete parts.0 parts.3) (g.complete parts.1 parts.4));
      calm = λ next asked. elim (comes_last es e (λ at. AsksGoal (at_root il 0 root) bound ls at p next) asked) [
        | inl i ↦ IsCalm-wider il n l k next less (f.calm next i)
        | inr i ↦ IsCalm-wider il n m k next lesser (g.calm next i)
      ];
      shallow = λ t. elim (comes_last es e (λ at. Meets (at_root il n root) bound ls at p) t) [ inl i ↦ f.shallow i | inr i ↦ g.shallow i ];
    }

    -- what stops at the next element stops at all
    pub walk_stops : (l left : ℕ) (w : Walk) (ws : List Walk) → Finds il n l (each_seeks il n root bound ls es p) (w ∷ ws) → (after : List Env) (s : Stop) → Stops il n left (step_seeks il n root bound ls e p) s
        → Stops il n left (each_seeks il n root bound ls (es ++ e ∷ after) p) s
    walk_stops l left w ws f after s = at s
      where
        walk : Before w
        walk = f.sound.0

        typed : (fs : List Env) → AllHaveOnly il ls Names fs → AllTypedIn il ls (without bound (prem_vars p)) fs
        typed [] all = tt
        typed (a ∷ fs) all = (λ x i l at. all.0.typed x (within-right bound (prem_vars p) x (without-parts bound (prem_vars p) x i).1) l at, typed fs all.1)

        come : (P : Env → Type 0) → P e → ComesTo il root bound ls (es ++ e ∷ after) p P
        come P here = record {
          before = es;
          at = e;
          after = after;
          split = refl;
          mores = all_beside es w.envs;
          sought = record { agree = walk.agree; typed = typed (all_beside es w.envs) walk.variables; hold = Proved-holds il n walk.proved };
          here = here;
        }

        at : (s : Stop) → Stops il n left (step_seeks il n root bound ls e p) s → Stops il n left (each_seeks il n root bound ls (es ++ e ∷ after) p) s
        at stop.Meets t = come (λ at. Meets (at_root il n root) bound ls at p) t
        at (stop.Asks chain) t = (t.0, come (λ at. AsksGoal (at_root il 0 root) bound ls at p t.0) t.1, t.2, t.3)
        at stop.Memory t = tt

  -- where nothing is found at the first elements, nobody comes to the others
  pub walk_rest : (l : ℕ) (es rest : List Env) → Finds il n l (each_seeks il n root bound ls es p) [] → Finds il n l (each_seeks il n root bound ls (es ++ rest) p) []
  walk_rest l es rest f = record {
    sound = tt;
    complete = λ mores w. let front = sought-front es rest mores w in f.complete front.0 front.1;
    calm = λ next asked. f.calm next (comes_front es rest (λ at. AsksGoal (at_root il 0 root) bound ls at p next) f.complete asked);
    shallow = λ t. f.shallow (comes_front es rest (λ at. Meets (at_root il n root) bound ls at p) f.complete t);
  }
