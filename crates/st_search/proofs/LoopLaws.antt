-- What an iterated premise is to find, by what is found at its elements.
use Rattle.std.proofs.Common.{◌≡◌, ℕ, pos, refl, sym, ◌∙◌, ap, subst, List, [], ◌∷◌, ◌++◌, length, ◌⊎◌, inl, inr, Bool, true, false, Some}
use Rattle.std.specs.List.{AllByRecursion}
use Rattle.st_il.specs.declared.definition.Il.{Il}
use Rattle.st_il.specs.declared.definition.Listed.{Listed}
use Rattle.st_il.specs.declared.expression.IlExp.{IlExp, out-IlExp}
use Rattle.st_il.specs.declared.expression.IlExp.TheOpen.{IlExp-F}
use Rattle.st_il.specs.declared.expression.IlPrem.{IlPrem, out-IlPrem}
use Rattle.st_il.specs.declared.expression.IlPrem.TheOpen.{IlPrem-F}
use Rattle.st_il.specs.declared.expression.Iteration.{Iteration}
use Rattle.st_il.specs.declared.tree.Child.TheVariants as child
use Rattle.st_il.specs.declared.value.Env.{Env}
use Rattle.st_il.specs.declared.value.Value.{Value}
use Rattle.st_il.specs.declared.value.Value.TheVariants as value
use Rattle.st_semantics.specs.declared.outcome.Outcome.{Outcome}
use Rattle.st_semantics.specs.declared.outcome.Outcome.TheVariants.{Val, NoValue, Deep}
use Rattle.st_semantics.specs.declared.outcome.Outcomes.TheVariants.{Values, Stopped}
use Rattle.st_il.specs.Names.{Name, has_name, among, without}
use Rattle.st_il.specs.Definitions.{syntaxes}
use Rattle.st_semantics.specs.Environments.{value_in, AgreeOn}
use Rattle.st_semantics.specs.Parts.{natural}
use Rattle.st_semantics.specs.Forms.{form_at, by_itself}
use Rattle.st_semantics.specs.Iterations.{count_of, index_of, kind_of, columns, size_of, spread, Spread, Misfit, Over, gathered}
use Rattle.st_semantics.specs.Scopes.{listed_inside}
use Rattle.st_semantics.specs.Evaluation.{GivesAll, tasks}
use Rattle.st_semantics.specs.Variables.{prem_vars, cites}
use Rattle.st_semantics.specs.Holding as h
use Rattle.st_semantics.specs.Holding.{HaveValues, AreElements, each_instance}
use Rattle.st_semantics.specs.Depth as d
use Rattle.st_semantics.specs.Depth.{bound_count, ValuesAt, AllTypedIn, BindsTooHigh, Meets}
use Rattle.st_semantics.specs.Calls.{CallAt, has_value, has_value_at}
use Rattle.st_semantics.specs.Derivation.{Root, Proved, done, plain, each, derived, excluded}
use Rattle.st_semantics.specs.Chains as chain
use Rattle.st_semantics.specs.Chains.{excluded_at}
use Rattle.st_semantics.specs.Goals.{Goal}
use Rattle.st_semantics.specs.Laws.{IsStable, CallsAreSingle}
use Rattle.st_semantics.proofs.Names.{within-cases, within-right, without-other}
use Rattle.st_semantics.proofs.Agree.{EnvsAgree, each_instance-agree, value_by-local}
use Rattle.st_semantics.proofs.Acceptance.{cites-level}
use Rattle.st_semantics.proofs.Columns.{natural_is, spread_parts, parts_number}
use Rattle.st_semantics.proofs.Inverse.{holds_each, variable_value}
use Rattle.st_semantics.proofs.Premises.{without-parts, inner_typed}
use Rattle.st_semantics.proofs.Singles.{GivesAll-single}
use Rattle.st_semantics.proofs.Values.{have_values}
use Rattle.st_algo.specs.declared.algorithm.AlgoStep.{AlgoStep}
use Rattle.st_eval.specs.Steps.{HasOnly}
use Rattle.st_eval.specs.declared.condition.Met.{Met}
use Rattle.st_eval.specs.declared.condition.Met.TheVariants as met
use Rattle.st_eval.specs.inner.Beside.{beside}
use Rattle.st_eval.specs.inner.Gathered.{values_there, IsGathered, HasNumber}
use Rattle.st_eval.specs.inner.AtElements.{AllHaveOnly}
use Rattle.st_eval.proofs.Trying.{some_typed}
use Rattle.st_eval.proofs.Unfolded as unfolded
use Rattle.st_eval.proofs.Unfolded.{IsUnfolded, IsPlain, Spreads, CutAt, agree_length, agree_turned, values_moved, values_same, typed_moved, one_value, own_name, bound_values, known_over, known, cut_in, made, element_meets, height_meets, passed_moved, unfolds_cut}
use Rattle.st_eval.proofs.Iterations.{plain_by}
use Rattle.st_eval.proofs.HasNumber.{counted_name}
use Rattle.st_eval.proofs.IsGathered as gather
use Rattle.st_eval.proofs.IsGathered.{GatheredTo, gathered_to}
use Rattle.st_eval.proofs.SameNames.{among-same, bound_count-same}
use Rattle.st_search.specs.declared.found.Solution.{Solution}
use Rattle.st_search.specs.declared.found.Walk.{Walk}
use Rattle.st_search.specs.declared.stop.Stop.{Stop}
use Rattle.st_search.specs.declared.stop.Stop.TheVariants as stop
use Rattle.st_search.specs.inner.Lists.{Exists}
use Rattle.st_search.specs.inner.Asking.{AsksGoal}
use Rattle.st_search.specs.inner.RunBy.{IsLoopOf}
use Rattle.st_search.specs.inner.Sought.{Finds, Stops}
use Rattle.st_search.specs.inner.Steps.{at_root, IsSolution, IsSought, step_seeks}
use Rattle.st_search.specs.inner.Walks.{AllAgreeOn, all_beside, IsWalk, AreSought, ComesTo, each_seeks, step_asks, many}
use Rattle.st_search.specs.inner.Gathering.{IsGatheredTo, holds, fails, AreGatheredTo, SomeTooHigh}
use Rattle.st_search.proofs.Values.{value-local, values_up}
use Rattle.st_search.proofs.Finds.{Exists-front, Exists-back, Each-append}
use Rattle.st_search.proofs.StandIns.{Proved-agree, Proved-holds}
use Rattle.st_search.proofs.Asked.{Meets-agree, AsksGoal-agree}
use Rattle.st_search.proofs.MeetsAgain.{run_bound}
use Rattle.st_search.proofs.LoopParts.{unfolded_by, plain_some, agree_in, agree_out, agree_fewer, agree_across, values_none, asks_each, asks_cites, proved_hold, prem_same}

-- what is found at elements is told in the same way where clauses are tried
pub beside_same : (elements found : List Env) → all_beside elements found ≡ gather.all_beside elements found
beside_same [] found = refl
beside_same (e ∷ es) [] = refl
beside_same (e ∷ es) (m ∷ ms) = ap (λ z. beside e m ∷ z) (beside_same es ms)

misfit_over : (s : Spread) (envs : List Env) → s ≡ Misfit → s ≡ Over envs → ⊥
misfit_over s envs p q = let bad : Misfit ≡ Over envs = sym p ∙ q in cc

val_deep : (v : Value) → Val v ≡ Deep → ⊥
val_deep v e = cc

module _ (il : Il) (stable : IsStable il) (single : CallsAreSingle il) (n : ℕ) (root : Root) (bound : List Name) (ls : List Listed) (env : Env) (p : IlPrem) (how : Iteration) (xs : List Name) (body : IlPrem) (inner : AlgoStep)
    (loop : IsLoopOf il bound ls p how xs body inner) (only : HasOnly il ls bound env) (names : List Name) (same : (x : Name) → has_name names x ≡ has_name bound x) where
  abbrev Inside : List Name
  Inside = index_of how ++ bound

  abbrev Scope : List Listed
  Scope = listed_inside how xs ls

  abbrev New : List Name
  New = without Inside (prem_vars body)

  abbrev is : out-IlPrem p ≡ IlPrem-F.Each how xs body
  is = loop.each.is

  around : IsUnfolded bound ls p how xs body
  around = unfolded_by il bound ls p how xs body loop.each

  plain_here : IsPlain (has_value il)
  plain_here = plain_some il stable single

  plain_at : IsPlain (has_value_at il n)
  plain_at = plain_by (syntaxes il) (CallAt il n) (single n)

  -- ---- where it has no elements to come to

  deep_stops : (o : Outcome) → GivesAll (syntaxes il) (CallAt il n) (tasks env (bound_count bound how)) (Stopped o) → (o ≡ Deep → ⊥) → GivesAll (syntaxes il) (CallAt il n) (tasks env (bound_count bound how)) (Stopped Deep) → ⊥
  deep_stops o gives shallow deep =
      let both : Stopped o ≡ Stopped Deep = GivesAll-single (syntaxes il) (CallAt il n) (single n) (tasks env (bound_count bound how)) (Stopped o) (Stopped Deep) gives deep in
      let one : o ≡ Deep = cc in
      shallow one

  none_deep : NoValue ≡ Deep → ⊥
  none_deep e = cc

  deep_values : (count : List Value) → GivesAll (syntaxes il) (CallAt il n) (tasks env (bound_count bound how)) (Values count) → GivesAll (syntaxes il) (CallAt il n) (tasks env (bound_count bound how)) (Stopped Deep) → ⊥
  deep_values count gives deep =
      let both : Values count ≡ Stopped Deep = GivesAll-single (syntaxes il) (CallAt il n) (single n) (tasks env (bound_count bound how)) (Values count) (Stopped Deep) gives deep in cc

  moved : (o : Outcome) → GivesAll (syntaxes il) (CallAt il n) (tasks env (bound_count names how)) (Stopped o) → GivesAll (syntaxes il) (CallAt il n) (tasks env (bound_count bound how)) (Stopped o)
  moved o gives = subst (λ z. GivesAll (syntaxes il) (CallAt il n) (tasks env z) (Stopped o)) (bound_count-same names bound same how) gives

  -- where nothing makes it unfold, it finds nothing
  nothing : ((more : Env) → AgreeOn bound env more → (envs : List Env) → AreElements (has_value il) how xs more envs → ⊥) → (GivesAll (syntaxes il) (CallAt il n) (tasks env (bound_count bound how)) (Stopped Deep) → ⊥)
      → Finds il n 0 (step_seeks il n root bound ls env p) []
  nothing none fine = record {
    sound = tt;
    complete = λ more sought.
        let s = holds_each (has_value il) (excluded il root) (derived il) more p how xs body sought.holds is in
        none more sought.agrees s.0 s.1;
    calm = λ next asked.
        let a = asks_each (at_root il 0 root) bound ls env p how xs body is next asked in
        absurd (none a.3.more a.3.agrees (a.0 ++ a.1 ∷ a.2) a.3.elements);
    shallow = λ m. elim (unfolded.met (at_root il n root) bound ls env p how xs body is m) [
      | inl deep ↦ fine deep
      | inr other ↦ elim (other) [
        | inl e ↦ none e.3.more e.3.agrees (e.0 ++ e.1 ∷ e.2) e.3.elements
        | inr t ↦ none t.unfolds.more t.unfolds.agrees t.envs t.unfolds.elements
      ]
    ];
  }

  -- a count that is Deep
  pub count_deep : GivesAll (syntaxes il) (CallAt il n) (tasks env (bound_count names how)) (Stopped Deep) → Meets (at_root il n root) bound ls env p
  count_deep gives = d.here (d.count how xs body is (moved Deep gives))

  -- a count that has no value
  pub count_none : GivesAll (syntaxes il) (CallAt il n) (tasks env (bound_count names how)) (Stopped NoValue) → Finds il n 0 (step_seeks il n root bound ls env p) []
  count_none gives = nothing
      (λ more g envs el.
      let few = bound_values il bound ls p how xs body around (has_value il) plain_here env more g (count_of how) el.0 el.1 in
      values_none il stable single n (tasks env (bound_count bound how)) (Stopped NoValue) (moved NoValue gives) refl few.0 few.1)
      (λ deep. deep_stops NoValue (moved NoValue gives) none_deep deep)

  module _ (count : List Value) (gives : GivesAll (syntaxes il) (CallAt il n) (tasks env (bound_count names how)) (Values count)) where
    given : GivesAll (syntaxes il) (CallAt il n) (tasks env (bound_count bound how)) (Values count)
    given = subst (λ z. GivesAll (syntaxes il) (CallAt il n) (tasks env z) (Values count)) (bound_count-same names bound same how) gives

    counted_at : HaveValues (has_value_at il n) (tasks env (bound_count bound how)) count
    counted_at = have_values (syntaxes il) (CallAt il n) (tasks env (bound_count bound how)) (Values count) given count refl

    counted : HaveValues (has_value il) (tasks env (bound_count bound how)) count
    counted = values_up il n (tasks env (bound_count bound how)) count counted_at

    -- lists that do not fit
    pub lists_misfit : spread how (among names xs) env count ≡ Misfit → Finds il n 0 (step_seeks il n root bound ls env p) []
    lists_misfit misfit = nothing
        (λ more g envs el.
        let k = known_over il bound ls p how xs body around (has_value il) plain_here env count counted more g envs el in
        misfit_over (spread how (among bound xs) env count) k.0 (subst (λ z. spread how z env count ≡ Misfit) (among-same names bound same xs) misfit) k.1)
        (λ deep. deep_values count given deep)

    -- ---- its elements

    module _ (elements : List Env) (over : spread how (among names xs) env count ≡ Over elements) where
      over_bound : spread how (among bound xs) env count ≡ Over elements
      over_bound = subst (λ z. spread how z env count ≡ Over elements) (among-same names bound same xs) over

      goes : Spreads (has_value il) bound env how xs elements
      goes = record { count = count; counted = counted; over = over_bound }

      goes_at : Spreads (has_value_at il n) bound env how xs elements
      goes_at = record { count = count; counted = counted_at; over = over_bound }

      -- where it holds, it does at environments that have what was bound at the elements
      pub elements_wanted : (more : Env) → IsSought il root bound ls env p more → (envs : List Env) × AreElements (has_value il) how xs more envs × AreSought il root Inside Scope elements body envs
      elements_wanted more sought =
          let s = holds_each (has_value il) (excluded il root) (derived il) more p how xs body sought.holds is in (
            s.0,
            s.1,
            record {
              agree = agree_in Inside elements s.0 (known il bound ls p how xs body around (has_value il) plain_here env elements goes more sought.agrees s.0 s.1);
              typed = inner_typed bound p how xs body is il ls more s.1.0 s.0 loop.each.kinded sought.typed s.1.2;
              hold = s.2;
            },
          )

      -- a goal that it asks is asked at an element
      pub asks_in : (next : Goal) → AsksGoal (at_root il 0 root) bound ls env p next → ComesTo il root Inside Scope elements body (λ at. AsksGoal (at_root il 0 root) Inside Scope at body next)
      asks_in next asked =
          let a = asks_each (at_root il 0 root) bound ls env p how xs body is next asked in
          let c : CutAt Inside elements a.0 a.1 a.2 = unfolds_cut (at_root il 0 root) plain_here bound ls env p how xs body around elements goes a.0 a.1 a.2 a.3 in
          record {
            before = c.0;
            at = c.1;
            after = c.2;
            split = c.3;
            mores = a.0;
            sought = record { agree = agree_in Inside c.0 a.0 c.4; typed = a.4.typed; hold = a.4.hold };
            here = AsksGoal-agree (at_root il 0 root) (value-local il) Inside Scope a.1 c.1 body next (run_bound loop.inside) (λ x i. sym (c.5 x i)) a.5;
          }

      -- what is asked at an element, it asks
      pub asks_out : (next : Goal) → ComesTo il root Inside Scope elements body (λ at. AsksGoal (at_root il 0 root) Inside Scope at body next) → AsksGoal (at_root il 0 root) bound ls env p next
      asks_out next t =
          let agree = agree_out Inside t.before t.mores t.sought.agree in
          let c = cut_in il bound ls p how xs body around (has_value il) plain_here env t.before t.at t.after t.mores (subst (Spreads (has_value il) bound env how xs) t.split goes) agree t.sought.typed in
          let a = AsksGoal-agree (at_root il 0 root) (value-local il) Inside Scope t.at c.2 body next (run_bound loop.inside) c.7 t.here in
          record {
            one = a.one;
            goal = a.goal;
            inside = chain.element how xs body c.1 c.2 c.3 is (record { more = c.0; agrees = c.4; elements = c.5 })
                (passed_moved (at_root il 0 root) plain_here bound ls env p how xs body around t.mores c.1 t.sought.typed t.sought.hold c.6) a.inside;
            holes = a.holes;
            is_goal = a.is_goal;
            values = a.values;
          }

      -- an element that meets Deep
      pub meets_out : ComesTo il root Inside Scope elements body (λ at. Meets (at_root il n root) Inside Scope at body) → Meets (at_root il n root) bound ls env p
      meets_out t =
          element_meets (at_root il n root) plain_here bound ls env p how xs body around t.before t.at t.after t.mores (subst (Spreads (has_value il) bound env how xs) t.split goes)
          (agree_out Inside t.before t.mores t.sought.agree) t.sought.typed t.sought.hold
          (λ here g. Meets-agree (at_root il n root) (value-local il) t.here (run_bound loop.inside) here g)

      -- Deep that it meets is met at an element, or by what it binds
      pub meets_in : Meets (at_root il n root) bound ls env p → ComesTo il root Inside Scope elements body (λ at. Meets (at_root il n root) Inside Scope at body) ⊎ BindsTooHigh (at_root il n root) bound ls how xs body env
      meets_in m = elim (unfolded.met (at_root il n root) bound ls env p how xs body is m) [
        | inl deep ↦ absurd (deep_values count given deep)
        | inr other ↦ elim (other) [
          | inl e ↦ inl (at_element e.0 e.1 e.2 e.3 e.4 e.5)
          | inr t ↦ inr t
        ]
      ]
        where
          at_element : (bs : List Env) (b : Env) (cs : List Env) → d.Unfolds (at_root il n root) bound how xs env (bs ++ b ∷ cs) → d.Passed (at_root il n root) bound ls how xs body bs → Meets (at_root il n root) Inside Scope b body
              → ComesTo il root Inside Scope elements body (λ at. Meets (at_root il n root) Inside Scope at body)
          at_element bs b cs un passed m =
              let c : CutAt Inside elements bs b cs = unfolds_cut (at_root il n root) plain_here bound ls env p how xs body around elements goes bs b cs un in
              record {
                before = c.0;
                at = c.1;
                after = c.2;
                split = c.3;
                mores = bs;
                sought = record { agree = agree_in Inside c.0 bs c.4; typed = passed.typed; hold = passed.hold };
                here = Meets-agree (at_root il n root) (value-local il) m (run_bound loop.inside) c.1 (λ x i. sym (c.5 x i));
              }

      -- what the elements stop by, it stops by
      pub stops_out : (left : ℕ) (s : Stop) → Stops il n left (each_seeks il n root Inside Scope elements body) s → Stops il n left (step_seeks il n root bound ls env p) s
      stops_out left stop.Meets t = meets_out t
      stops_out left (stop.Asks chain) t = (t.0, asks_out t.0 t.1, t.2, t.3)
      stops_out left stop.Memory t = tt

      -- ---- what a walk gathers

      module _ (inside : AllHaveOnly il Scope Inside elements) (w : Walk) (walk : IsWalk il n root Inside Scope elements body w) where
        abbrev Founds : List Env
        Founds = gather.all_beside elements w.envs

        one : all_beside elements w.envs ≡ Founds
        one = beside_same elements w.envs

        have : AllHaveOnly il Scope (Inside ++ prem_vars body) Founds
        have = subst (AllHaveOnly il Scope (Inside ++ prem_vars body)) one walk.variables

        agree : EnvsAgree Inside elements Founds
        agree = agree_out Inside elements Founds (subst (AllAgreeOn Inside elements) one walk.agree)

        typed : AllTypedIn il Scope New Founds
        typed = all Founds have
          where
            all : (fs : List Env) → AllHaveOnly il Scope (Inside ++ prem_vars body) fs → AllTypedIn il Scope New fs
            all [] k = tt
            all (f ∷ fs) k = (λ x i l at. k.0.typed x (within-right Inside (prem_vars body) x (without-parts Inside (prem_vars body) x i).1) l at, all fs k.1)

        stand : Proved il (has_value_at il n) (excluded_at il n) root (each_instance Founds body) w.children
        stand = subst (λ z. Proved il (has_value_at il n) (excluded_at il n) root (each_instance z body) w.children) one walk.proved

        abbrev To : Met → Type 0
        To m = GatheredTo il bound ls env p how xs body around loop.each.kinded names same only elements w.envs inside have walk.as_many m

        to : (m : Met) → IsGathered (syntaxes il) ls names how xs w.envs m → To m
        to m g = gathered_to il bound ls env p how xs body around loop.each.kinded names same only elements w.envs inside have walk.as_many m g

        -- what stands for the premise, where elements have what was found
        stands : (more : Env) (envs : List Env) → AreElements (has_value_at il n) how xs more envs → EnvsAgree (prem_vars body) Founds envs → (b : Bool) → step_asks inner ≡ b
            → Proved il (has_value_at il n) (excluded_at il n) root ((more, p) ∷ []) (many b w.children)
        stands more envs el g b k = at b (sym (asks_cites loop.inside) ∙ k)
          where
            all : Proved il (has_value_at il n) (excluded_at il n) root (each_instance envs body) w.children
            all = Proved-agree il (has_value_at il n) (value_by-local (syntaxes il) (CallAt il n)) (excluded_at il n) stand (each_instance envs body) (each_instance-agree body Founds envs g)

            outer : cites p ≡ cites body
            outer = cites-level p (IlPrem-F.Each how xs body) is

            at : (b : Bool) → cites body ≡ b → Proved il (has_value_at il n) (excluded_at il n) root ((more, p) ∷ []) (many b w.children)
            at true c = each how xs body envs w.children (outer ∙ c) is (child.outs-Many w.children) el all done
            at false c = plain (outer ∙ c) (h.each how xs body envs is el (proved_hold il (has_value_at il n) (excluded_at il n) root body c envs w.children all)) done

        -- what is gathered is a solution
        pub solution_loop : (new : Env) → IsGathered (syntaxes il) ls names how xs w.envs (met.Holds new) → IsSolution il n root bound ls env p (record { env = new; children = many (step_asks inner) w.children })
        solution_loop new g =
            let t : To (met.Holds new) = to (met.Holds new) g in
            let m = made il bound ls p how xs body around (has_value_at il n) plain_at env elements Founds goes_at agree typed in
            record {
              agrees = t.0.agrees;
              variables = t.1;
              proved = Proved-agree il (has_value_at il n) (value_by-local (syntaxes il) (CallAt il n)) (excluded_at il n) (stands m.0 m.2 m.3 m.4 (step_asks inner) refl) ((beside env new, p) ∷ []) (refl, m.5 (beside env new) t.0, tt);
            }

        -- a variable that is too high
        pub walk_high : IsGathered (syntaxes il) ls names how xs w.envs met.Deep → Meets (at_root il n root) bound ls env p
        walk_high g =
            let t : To met.Deep = to met.Deep g in
            height_here t.0 t.1 t.2 t.3 t.4
          where
            height_here : (x : Name) → has_name bound x ≡ false → has_name xs x ≡ true → ValuesAt x Founds (values_there x w.envs) → gathered how (values_there x w.envs) ≡ Deep → Meets (at_root il n root) bound ls env p
            height_here x f i at deep =
                height_meets (at_root il n root) plain_here bound ls env p how xs body around elements Founds goes agree typed (Proved-holds il n stand) x (values_there x w.envs) f i at deep

        module _ (more : Env) (sought : IsSought il root bound ls env p more) (envs : List Env) (el : AreElements (has_value il) how xs more envs) (found : AllAgreeOn (Inside ++ prem_vars body) (all_beside elements w.envs) envs) where
          bodies : EnvsAgree (prem_vars body) Founds envs
          bodies = agree_fewer (Inside ++ prem_vars body) (prem_vars body) (λ x i. within-right Inside (prem_vars body) x i) Founds envs
              (agree_out (Inside ++ prem_vars body) Founds envs (subst (λ z. AllAgreeOn (Inside ++ prem_vars body) z envs) one found))

          -- what is gathered is what is wanted
          pub gathered_wanted : (new : Env) → IsGathered (syntaxes il) ls names how xs w.envs (met.Holds new) → AgreeOn (bound ++ prem_vars p) (beside env new) more
          gathered_wanted new g x i =
              let t : To (met.Holds new) = to (met.Holds new) g in
              let m = made il bound ls p how xs body around (has_value il) plain_here env elements Founds goes agree typed in
              let inner : EnvsAgree (prem_vars body) m.2 envs = agree_across (prem_vars body) Founds m.2 envs m.4 bodies in
              elim (within-cases bound (prem_vars p) x i) [
                | inl k ↦ sym (t.0.agrees x k) ∙ sought.agrees x k
                | inr k ↦ sym (m.5 (beside env new) t.0 x k) ∙ prem_same il bound p how xs body is around.binds m.0 more m.2 envs m.3 el inner (λ y j. sym (m.1 y j) ∙ sought.agrees y j) x k
              ]

          -- where something is wanted, the number of elements has the type of the count
          pub fails_wanted : IsGathered (syntaxes il) ls names how xs w.envs met.Fails → ⊥
          fails_wanted g =
              let t : To met.Fails = to met.Fails g in
              by_number t.0 t.1.0 t.1.1 t.1.2 t.1.3 t.2
            where
              by_number : (c : Name) (e : IlExp) → count_of how ≡ e ∷ [] → out-IlExp e ≡ IlExp-F.Var c → has_name bound c ≡ false → (HasNumber (syntaxes il) ls c (length w.envs) → ⊥) → ⊥
              by_number c e first var f untyped =
                  let m = one_value (has_value il) more (count_of how) e el.0 first el.1 in
                  let v : value_in more c ≡ Some m.0 = variable_value (syntaxes il) (CallAt il m.2.0) more e c m.0 (by_itself (ap form_at var)) m.2.1 in
                  let parts = spread_parts how xs more el.0 envs el.2 in
                  let number : natural m.0 ≡ Some parts.0 = ap (λ z. size_of z (columns (kind_of how) xs more.entries)) (sym m.1) ∙ parts.2 in
                  let as_many : parts.0 ≡ length w.envs = sym (parts_number how xs more el.0 envs parts) ∙ (agree_length (prem_vars body) Founds envs bodies ∙ (agree_length Inside elements Founds agree ∙ sym walk.as_many)) in
                  let is_number : m.0 ≡ value.Num (pos (length w.envs)) = natural_is m.0 parts.0 number ∙ ap (λ z. value.Num (pos z)) as_many in
                  untyped (λ l listed.
                  some_typed (syntaxes il) l (value_in more c) (value.Num (pos (length w.envs)))
                  (sought.typed c (without-other bound (prem_vars p) c f (counted_name il bound ls p how xs body around c e first var)) l listed) (v ∙ ap Some is_number))

        -- what it binds is not too high, where what a walk gathers is not
        module _ (t : BindsTooHigh (at_root il n root) bound ls how xs body env) (found : AllAgreeOn (Inside ++ prem_vars body) (all_beside elements w.envs) t.envs) where
          there : ValuesAt t.x Founds t.values
          there =
              values_moved (prem_vars body) t.x (own_name il bound ls p how xs body around t.x t.iterated).1 t.envs Founds t.values
              (agree_turned (prem_vars body) Founds t.envs
              (agree_fewer (Inside ++ prem_vars body) (prem_vars body) (λ x i. within-right Inside (prem_vars body) x i) Founds t.envs
              (agree_out (Inside ++ prem_vars body) Founds t.envs (subst (λ z. AllAgreeOn (Inside ++ prem_vars body) z t.envs) one found)))) t.values_are

          pub holds_low : (new : Env) → IsGathered (syntaxes il) ls names how xs w.envs (met.Holds new) → ⊥
          holds_low new g =
              let k : To (met.Holds new) = to (met.Holds new) g in
              let v = k.0.lists t.x t.unbound t.iterated in
              let vs : v.1 ≡ t.values = values_same t.x Founds v.1 v.2 ∙ sym (values_same t.x Founds t.values there) in
              val_deep v.0 (sym v.3 ∙ (ap (gathered how) vs ∙ t.high))

          pub fails_low : IsGathered (syntaxes il) ls names how xs w.envs met.Fails → ⊥
          fails_low g =
              let k : To met.Fails = to met.Fails g in
              k.3 t.x t.unbound t.iterated t.values there t.high

      -- ---- what all walks gather

      module _ (inside : AllHaveOnly il Scope Inside elements) where
        abbrev Right : Solution → Type 0
        Right = IsSolution il n root bound ls env p

        abbrev Walks : List Walk → Type 0
        Walks ws = AllByRecursion (IsWalk il n root Inside Scope elements body) ws

        abbrev Comes : Walk → List Solution → Type 0
        Comes w found = IsGatheredTo (syntaxes il) ls names how xs (step_asks inner) w found

        abbrev AllCome : List Walk → List Solution → Type 0
        AllCome ws found = AreGatheredTo (syntaxes il) ls names how xs (step_asks inner) ws found

        abbrev Fits : List Env → Walk → Type 0
        Fits envs w = AllAgreeOn (Inside ++ prem_vars body) (all_beside elements w.envs) envs

        one_right : (w : Walk) → IsWalk il n root Inside Scope elements body w → (found : List Solution) → Comes w found → AllByRecursion Right found
        one_right w walk found (holds new g e) = subst (AllByRecursion Right) (sym e) (solution_loop inside w walk new g, tt)
        one_right w walk found (fails g e) = subst (AllByRecursion Right) (sym e) tt

        all_right : (ws : List Walk) (found : List Solution) → Walks ws → AllCome ws found → AllByRecursion Right found
        all_right [] found walks e = subst (AllByRecursion Right) (sym e) tt
        all_right (w ∷ ws) found walks (first, rest, comes, later, e) =
            subst (AllByRecursion Right) (sym e) (Each-append Right first rest (one_right w walks.0 first comes) (all_right ws rest walks.1 later))

        -- a variable that is too high
        pub loop_high : (ws : List Walk) → Walks ws → SomeTooHigh (syntaxes il) ls names how xs ws → Meets (at_root il n root) bound ls env p
        loop_high [] walks high = absurd high
        loop_high (w ∷ ws) walks (inl g) = walk_high inside w walks.0 g
        loop_high (w ∷ ws) walks (inr g) = loop_high ws walks.1 g

        module _ (more : Env) (sought : IsSought il root bound ls env p more) (envs : List Env) (el : AreElements (has_value il) how xs more envs) where
          abbrev Is : Solution → Type 0
          Is x = AgreeOn (bound ++ prem_vars p) (beside env x.env) more

          one_wanted : (w : Walk) → IsWalk il n root Inside Scope elements body w → Fits envs w → (found : List Solution) → Comes w found → Exists Is found
          one_wanted w walk fit found (holds new g e) = subst (Exists Is) (sym e) (inl (gathered_wanted inside w walk more sought envs el fit new g))
          one_wanted w walk fit found (fails g e) = absurd (fails_wanted inside w walk more sought envs el fit g)

          all_wanted : (ws : List Walk) (found : List Solution) → Walks ws → AllCome ws found → Exists (Fits envs) ws → Exists Is found
          all_wanted [] found walks e fit = absurd fit
          all_wanted (w ∷ ws) found walks (first, rest, comes, later, e) (inl fit) = subst (Exists Is) (sym e) (Exists-front Is first rest (one_wanted w walks.0 fit first comes))
          all_wanted (w ∷ ws) found walks (first, rest, comes, later, e) (inr fit) = subst (Exists Is) (sym e) (Exists-back Is first rest (all_wanted ws rest walks.1 later fit))

        module _ (t : BindsTooHigh (at_root il n root) bound ls how xs body env) where
          one_low : (w : Walk) → IsWalk il n root Inside Scope elements body w → Fits t.envs w → (found : List Solution) → Comes w found → ⊥
          one_low w walk fit found (holds new g e) = holds_low inside w walk t fit new g
          one_low w walk fit found (fails g e) = fails_low inside w walk t fit g

          all_low : (ws : List Walk) (found : List Solution) → Walks ws → AllCome ws found → Exists (Fits t.envs) ws → ⊥
          all_low [] found walks e fit = fit
          all_low (w ∷ ws) found walks (first, rest, comes, later, e) (inl fit) = one_low w walks.0 fit first comes
          all_low (w ∷ ws) found walks (first, rest, comes, later, e) (inr fit) = all_low ws rest walks.1 later fit

          high_sought : AreSought il root Inside Scope elements body t.envs
          high_sought = record {
            agree = agree_in Inside elements t.envs (known il bound ls p how xs body around (has_value il) plain_here env elements goes t.unfolds.more t.unfolds.agrees t.envs t.unfolds.elements);
            typed = t.passed.typed;
            hold = t.passed.hold;
          }

        -- what walks over all elements gather is all that it is to find
        pub loop_found : (l : ℕ) (ws : List Walk) (found : List Solution) → Finds il n l (each_seeks il n root Inside Scope elements body) ws → AllCome ws found → Finds il n l (step_seeks il n root bound ls env p) found
        loop_found l ws found f come = record {
          sound = all_right ws found f.sound come;
          complete = λ more sought.
              let s = elements_wanted more sought in
              all_wanted more sought s.0 s.1 ws found f.sound come (f.complete s.0 s.2);
          calm = λ next asked. f.calm next (asks_in next asked);
          shallow = λ m. elim (meets_in m) [
            | inl at ↦ f.shallow at
            | inr t ↦ all_low t ws found f.sound come (f.complete t.envs (high_sought t))
          ];
        }
