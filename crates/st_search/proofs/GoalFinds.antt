-- What is found of a goal is what is sought.
use Rattle.std.proofs.Common.{◌≡◌, refl, sym, ◌∙◌, ap, ap₂, subst, ℕ, zero, suc, ◌<◌, Bool, true, false, not, if◌then◌else◌, List, [], ◌∷◌, filter, length, inl, inr, All, arith}
use Rattle.std.specs.Prelude.{Contains}
use Rattle.std.specs.List.{AllByRecursion, slice_index_or}
use Rattle.std.proofs.lemmas.List.Elements.{All-head}
use Rattle.st_il.specs.declared.definition.Il.{Il}
use Rattle.st_il.specs.declared.definition.Listed.{Listed}
use Rattle.st_il.specs.declared.expression.IlExp.{IlExp}
use Rattle.st_il.specs.declared.expression.IlPrem.{IlPrem, out-IlPrem, map-IlPrem, fold_out-IlPrem}
use Rattle.st_il.specs.declared.expression.IlPrem.TheOpen.{IlPrem-F}
use Rattle.st_il.specs.declared.value.Env.{Env}
use Rattle.st_il.specs.declared.value.Value.{Value}
use Rattle.st_semantics.specs.declared.outcome.Outcome.{Outcome}
use Rattle.st_semantics.specs.declared.outcome.Outcome.TheVariants.{Val, NoValue, Deep}
use Rattle.st_semantics.specs.declared.outcome.Outcomes.TheVariants.{Values, Stopped}
use Rattle.st_il.specs.Names.{Name}
use Rattle.st_il.specs.Definitions.{syntaxes, rules_in}
use Rattle.st_semantics.specs.Directions.{inputs_of, outputs_of}
use Rattle.st_semantics.specs.Evaluation.{Task, tasks, GivesAll, none, next}
use Rattle.st_semantics.specs.Variables.{relations_cited, relations_cited_at}
use Rattle.st_semantics.specs.Patterns.{is_pattern}
use Rattle.st_semantics.specs.Holding.{HaveValues}
use Rattle.st_semantics.specs.Depth as d
use Rattle.st_semantics.specs.Depth.{Setting, computed, AreDeep, IsDeep, Meets, MeetsHere}
use Rattle.st_semantics.specs.Calls.{CallAt, ValueAt, has_value, has_value_at}
use Rattle.st_semantics.specs.Derivation.{Root}
use Rattle.st_semantics.specs.Laws.{IsStable, CallsAreSingle}
use Rattle.st_semantics.specs.Typing.{ResultsAreTyped}
use Rattle.st_semantics.specs.Goals.{Goal, IsGoal}
use Rattle.st_semantics.specs.Chains.{Reaches, here, element}
use Rattle.st_semantics.proofs.Depths.{value_not_deep}
use Rattle.st_semantics.proofs.Singles.{Gives-single, GivesAll-single}
use Rattle.st_eval.specs.Steps.{HasOnly}
use Rattle.st_search.specs.Searchable.{CanBeRun}
use Rattle.st_search.specs.Answers.{goal_of, IsOutput}
use Rattle.st_search.specs.declared.answer.Output.{Output}
use Rattle.st_search.specs.declared.answer.Chain.{Chain}
use Rattle.st_search.specs.declared.found.Found.{Found}
use Rattle.st_search.specs.declared.found.Solution.{Solution}
use Rattle.st_search.specs.declared.holes.Evaluated.{Evaluated}
use Rattle.st_search.specs.declared.holes.Evaluated.TheVariants.{Computed}
use Rattle.st_search.specs.declared.holes.Hole.{Hole}
use Rattle.st_search.specs.declared.holes.Hole.TheVariants as hole
use Rattle.st_search.specs.declared.stop.Stop.TheVariants as stop
use Rattle.st_search.specs.inner.Asking.{AsksGoal}
use Rattle.st_search.specs.inner.Chains.{IsChainBy, IsCalm}
use Rattle.st_search.specs.inner.Holes.{is_evaluated, IsHole, AreHoles, HasDeepHole, matched_of}
use Rattle.st_search.specs.inner.Lists.{Exists}
use Rattle.st_search.specs.inner.Meeting.{AreMeetings, misfit, fits, AllMeetings}
use Rattle.st_search.specs.inner.RunBy.{IsJudged}
use Rattle.st_search.specs.inner.Rules.{CanBeSearched, IsSearchedIn}
use Rattle.st_search.specs.inner.Search.{Solves}
use Rattle.st_search.specs.inner.Sought.{Finds, Stops}
use Rattle.st_search.specs.inner.Steps.{at_root, IsSolution, IsSought, step_seeks}
use Rattle.st_search.proofs.Values.{values_up}
use Rattle.st_search.proofs.Finds.{Each-append}
use Rattle.st_search.proofs.FittingValues.{values-single}
use Rattle.st_search.proofs.GoalSolutions.{solution_goal}
use Rattle.st_search.proofs.LoopParts.{values_none}
use Rattle.st_search.proofs.TypedGoals.{goal_typed}
use Rattle.st_search.proofs.Wanted.{goal_wanted, goal_inputs}

-- ---- values one after another

-- values are what expressions come to
gives_all : (il : Il) (n : ℕ) (ts : List Task) (vs : List Value) → HaveValues (has_value_at il n) ts vs → GivesAll (syntaxes il) (CallAt il n) ts (Values vs)
gives_all il n [] [] have = none refl
gives_all il n [] (v ∷ vs) have = absurd have
gives_all il n (t ∷ ts) [] have = absurd have
gives_all il n (t ∷ ts) (v ∷ vs) have = next v (Values vs) have.0 (gives_all il n ts vs have.1) refl

values_stopped : (vs : List Value) (o : Outcome) → Values vs ≡ Stopped o → ⊥
values_stopped vs o e = cc

none_deep : Stopped NoValue ≡ Stopped Deep → ⊥
none_deep e = cc

-- ---- one of the outputs that are no patterns

-- one of some expressions that pass a test
filtered_there : (P : IlExp → Type 0) (test : IlExp → Bool) (es : List IlExp) (e : IlExp) → Contains (filter test es) e → P e → Exists (λ (g : IlExp). (test g ≡ true) × P g) es
filtered_there P test [] e contains p = absurd (omega (arith, contains.1))
filtered_there P test (g ∷ es) e contains p = at (test g) refl contains (λ c. filtered_there P test es e c p)
  where
    begins : (rest : List IlExp) → test g ≡ true → (k : ℕ) → k < length (g ∷ rest) → slice_index_or (g ∷ rest) k e ≡ e → (Contains rest e → Exists (λ (g : IlExp). (test g ≡ true) × P g) es) → Exists (λ (g : IlExp). (test g ≡ true) × P g) (g ∷ es)
    begins rest k zero less same later = inl (k, subst P (sym same) p)
    begins rest k (suc j) less same later = inr (later (j, omega (arith, less), same))

    at : (b : Bool) → test g ≡ b → Contains (if b then g ∷ filter test es else filter test es) e → (Contains (filter test es) e → Exists (λ (g : IlExp). (test g ≡ true) × P g) es) → Exists (λ (g : IlExp). (test g ≡ true) × P g) (g ∷ es)
    at true k c later = begins (filter test es) k c.0 c.1 c.2 later
    at false k c later = inr (later c)

there_filtered : (P : IlExp → Type 0) (test : IlExp → Bool) (es : List IlExp) → Exists (λ (g : IlExp). (test g ≡ true) × P g) es → (e : IlExp) × Contains (filter test es) e × P e
there_filtered P test [] one = absurd one
there_filtered P test (g ∷ es) (inl first) = (g, subst (λ z. Contains (if z then g ∷ filter test es else filter test es) g) (sym first.0) (0, omega arith, refl), first.1)
there_filtered P test (g ∷ es) (inr later) =
    let w = there_filtered P test es later in
    let less = w.1.1 in
    (w.0, at (test g) w.0 w.1, w.2)
  where
    at : (b : Bool) (e : IlExp) → Contains (filter test es) e → Contains (if b then g ∷ filter test es else filter test es) e
    at true e c = let less = c.1 in (suc c.0, omega (arith, less), c.2)
    at false e c = c

-- ---- goals that are met

module _ (s : Setting) (p : IlPrem) (relation : Name) (es : List IlExp) (is : out-IlPrem p ≡ IlPrem-F.Goal relation es) where
  -- an input is Deep, or where the inputs have values an output is that is no pattern
  pub data IsGoalDeep (env : Env) : Type 0 where
    input : AreDeep s env (inputs_of s.il relation es) → IsGoalDeep env
    output : (vs : List Value) (e : IlExp) → HaveValues s.meaning (tasks env (inputs_of s.il relation es)) vs → Contains (computed (outputs_of s.il relation es)) e → IsDeep s env e → IsGoalDeep env

  here_goal : (bound : List Name) (env : Env) → MeetsHere s bound env p → IsGoalDeep env
  here_goal bound env (d.condition g part eq ev deep) = let bad : IlPrem-F.If g ≡ IlPrem-F.Goal relation es = sym eq ∙ is in cc
  here_goal bound env (d.input other gs eq deep) =
      let both : IlPrem-F.Goal other gs ≡ IlPrem-F.Goal relation es = sym eq ∙ is in
      let name : other ≡ relation = cc in
      let same : gs ≡ es = cc in
      input (subst (λ z. AreDeep s env (inputs_of s.il z es)) name (subst (λ z. AreDeep s env (inputs_of s.il other z)) same deep))
  here_goal bound env (d.output other gs vs g eq have contains deep) =
      let both : IlPrem-F.Goal other gs ≡ IlPrem-F.Goal relation es = sym eq ∙ is in
      let name : other ≡ relation = cc in
      let same : gs ≡ es = cc in
      output vs g
      (subst (λ z. HaveValues s.meaning (tasks env (inputs_of s.il z es)) vs) name (subst (λ z. HaveValues s.meaning (tasks env (inputs_of s.il other z)) vs) same have))
      (subst (λ z. Contains (computed (outputs_of s.il z es)) g) name (subst (λ z. Contains (computed (outputs_of s.il other z)) g) same contains)) deep
  here_goal bound env (d.count how xs body eq deep) = let bad : IlPrem-F.Each how xs body ≡ IlPrem-F.Goal relation es = sym eq ∙ is in cc

  pub meets_goal : (bound : List Name) (ls : List Listed) (env : Env) → Meets s bound ls env p → IsGoalDeep env
  meets_goal bound ls env (d.here m) = here_goal bound env m
  meets_goal bound ls env (d.element how xs body before at after eq u passed m) = let bad : IlPrem-F.Each how xs body ≡ IlPrem-F.Goal relation es = sym eq ∙ is in cc
  meets_goal bound ls env (d.height how xs body eq t) = let bad : IlPrem-F.Each how xs body ≡ IlPrem-F.Goal relation es = sym eq ∙ is in cc

  -- it asks a goal of its relation, whose inputs have the values
  pub goal_asks : (bound : List Name) (ls : List Listed) (env : Env) (asked : Goal) → AsksGoal s bound ls env p asked → (relation ≡ asked.relation) × HaveValues s.meaning (tasks env (inputs_of s.il relation es)) asked.inputs
  goal_asks bound ls env asked asks = from asks.inside
    where
      from : Reaches s asks.one asks.goal bound ls env p → (relation ≡ asked.relation) × HaveValues s.meaning (tasks env (inputs_of s.il relation es)) asked.inputs
      from (here same equal) =
          let both : IlPrem-F.Goal relation es ≡ IlPrem-F.Goal asked.relation asks.holes = sym is ∙ (ap out-IlPrem equal ∙ asks.is_goal) in
          let name : relation ≡ asked.relation = cc in
          let exps : es ≡ asks.holes = cc in (
            name,
            subst (λ z. HaveValues s.meaning (tasks z (inputs_of s.il relation es)) asked.inputs) (sym same)
                (subst (λ z. HaveValues s.meaning (tasks asks.one (inputs_of s.il z es)) asked.inputs) (sym name)
                (subst (λ z. HaveValues s.meaning (tasks asks.one (inputs_of s.il asked.relation z)) asked.inputs) (sym exps) asks.values)),
          )
      from (element how xs body before at after eq u passed inside) = let bad : IlPrem-F.Each how xs body ≡ IlPrem-F.Goal relation es = sym eq ∙ is in cc

  pub asks_it : (bound : List Name) (ls : List Listed) (env : Env) (vs : List Value) → HaveValues s.meaning (tasks env (inputs_of s.il relation es)) vs → AsksGoal s bound ls env p (goal_of relation vs)
  asks_it bound ls env vs have = record { one = env; goal = p; inside = here refl refl; holes = es; is_goal = is; values = have }

-- the relation that a goal cites can be searched
pub goal_searched : (il : Il) (p : IlPrem) (relation : Name) (es : List IlExp) → out-IlPrem p ≡ IlPrem-F.Goal relation es → IsSearchedIn il p → CanBeSearched il relation
goal_searched il p relation es is s =
    All-head (CanBeSearched il) relation [] (subst (All (CanBeSearched il)) (fold_out-IlPrem (List Name) relations_cited_at p ∙ ap (λ z. relations_cited_at (map-IlPrem IlPrem (List Name) relations_cited z)) is) s.cited)

-- what stands at a hole is not Deep
hole_not_deep : (il : Il) (single : CallsAreSingle il) (n : ℕ) (which : Evaluated) (env : Env) (e : IlExp) (x : Hole) → IsHole il n env which e x → is_evaluated which e ≡ true → ValueAt il n env e Deep → ⊥
hole_not_deep il single n which env e hole.Pattern is k deep = let bad : true ≡ false = sym k ∙ is in cc
hole_not_deep il single n which env e (hole.Value v) is k deep = value_not_deep v (Gives-single (syntaxes il) (CallAt il n) (single n) env e (Val v) Deep is.1 deep)
hole_not_deep il single n which env e hole.Nothing is k deep = let bad : NoValue ≡ Deep = Gives-single (syntaxes il) (CallAt il n) (single n) env e NoValue Deep is.1 deep in cc

pub holes_not_deep : (il : Il) → CallsAreSingle il → (n : ℕ) (which : Evaluated) (env : Env) (es : List IlExp) (holes : List Hole) → AreHoles il n env which es holes → HasDeepHole il n env which es → ⊥
holes_not_deep il single n which env [] holes are one = one
holes_not_deep il single n which env (e ∷ es) [] are one = are
holes_not_deep il single n which env (e ∷ es) (x ∷ holes) are (inl first) = hole_not_deep il single n which env e x are.0 first.0 first.1
holes_not_deep il single n which env (e ∷ es) (x ∷ holes) are (inr later) = holes_not_deep il single n which env es holes are.1 later

module _ (il : Il) (stable : IsStable il) (single : CallsAreSingle il) (n : ℕ) (root : Root) (bound : List Name) (ls : List Listed) (env : Env) (only : HasOnly il ls bound env) (p : IlPrem) (relation : Name) (es : List IlExp)
    (is : out-IlPrem p ≡ IlPrem-F.Goal relation es) (judged : IsJudged il bound ls relation es) where
  -- ---- inputs without values

  pub inputs_deep : GivesAll (syntaxes il) (CallAt il n) (tasks env (inputs_of il relation es)) (Stopped Deep) → (step_seeks il n root bound ls env p).Deep
  inputs_deep gives = d.here (d.input relation es is gives)

  pub inputs_none : GivesAll (syntaxes il) (CallAt il n) (tasks env (inputs_of il relation es)) (Stopped NoValue) → Finds il n 0 (step_seeks il n root bound ls env p) []
  inputs_none gives = record {
    sound = tt;
    complete = λ more (s : IsSought il root bound ls env p more). let w = goal_inputs il root bound ls env p relation es is judged more s in absurd (values_none il stable single n (tasks env (inputs_of il relation es)) (Stopped NoValue) gives refl w.0 w.1);
    calm = λ asked asks. absurd (values_none il stable single n (tasks env (inputs_of il relation es)) (Stopped NoValue) gives refl asked.inputs (goal_asks (at_root il 0 root) p relation es is bound ls env asked asks).1);
    shallow = λ deep. quiet (meets_goal (at_root il n root) p relation es is bound ls env deep);
  }
    where
      quiet : IsGoalDeep (at_root il n root) p relation es is env → ⊥
      quiet (input all) = none_deep (GivesAll-single (syntaxes il) (CallAt il n) (single n) (tasks env (inputs_of il relation es)) (Stopped NoValue) (Stopped Deep) gives all)
      quiet (output vs e have contains deep) = values_none il stable single n (tasks env (inputs_of il relation es)) (Stopped NoValue) gives refl vs have

  -- ---- inputs with values

  module _ (inputs : List Value) (have : HaveValues (has_value_at il n) (tasks env (inputs_of il relation es)) inputs) where
    some_inputs : HaveValues (has_value il) (tasks env (inputs_of il relation es)) inputs
    some_inputs = values_up il n (tasks env (inputs_of il relation es)) inputs have

    -- it asks the goal of these inputs, and no other
    pub asks_this : AsksGoal (at_root il 0 root) bound ls env p (goal_of relation inputs)
    asks_this = asks_it (at_root il 0 root) p relation es is bound ls env inputs some_inputs

    asks_only : (asked : Goal) → AsksGoal (at_root il 0 root) bound ls env p asked → goal_of relation inputs ≡ asked
    asks_only asked asks =
        let w = goal_asks (at_root il 0 root) p relation es is bound ls env asked asks in
        same_goal asked w.0 (values-single il stable single env (inputs_of il relation es) inputs asked.inputs some_inputs w.1)
      where
        same_goal : (asked : Goal) → relation ≡ asked.relation → inputs ≡ asked.inputs → goal_of relation inputs ≡ asked
        same_goal asked r i = ap₂ (λ (y : Name) (z : List Value). let g : Goal = record { relation = y; inputs = z } in g) r i

    -- an output that is evaluated is Deep
    pub hole_deep : HasDeepHole il n env Computed (outputs_of il relation es) → (step_seeks il n root bound ls env p).Deep
    hole_deep deep =
        let w = there_filtered (λ (e : IlExp). ValueAt il n env e Deep) (λ (e : IlExp). not (is_pattern e)) (outputs_of il relation es) deep in
        d.here (d.output relation es inputs w.0 is some_inputs w.1 w.2)

    -- a chain begins at the goal that is asked
    pub goal_chain : ResultsAreTyped il → (left : ℕ) (chain : Chain) → IsSearchedIn il p → (CanBeSearched il relation → IsGoal il (goal_of relation inputs) → IsChainBy il n left (goal_of relation inputs) chain)
        → Stops il n left (step_seeks il n root bound ls env p) (stop.Asks chain)
    goal_chain results left chain searched chained =
        let typed : IsGoal il (goal_of relation inputs) = goal_typed il results n bound ls env relation es inputs judged.typed only judged.known have in
        (goal_of relation inputs, asks_this, typed, chained (goal_searched il p relation es is searched) typed)

    module _ (holes : List Hole) (are : AreHoles il n env Computed (outputs_of il relation es) holes) where
      quiet_there : IsGoalDeep (at_root il n root) p relation es is env → ⊥
      quiet_there (input all) = values_stopped inputs Deep (GivesAll-single (syntaxes il) (CallAt il n) (single n) (tasks env (inputs_of il relation es)) (Values inputs) (Stopped Deep) (gives_all il n (tasks env (inputs_of il relation es)) inputs have) all)
      quiet_there (output vs e ins contains deep) =
          holes_not_deep il single n Computed env (outputs_of il relation es) holes are
          (filtered_there (λ (e : IlExp). ValueAt il n env e Deep) (λ (e : IlExp). not (is_pattern e)) (outputs_of il relation es) e contains deep)

      module _ (rules : All (CanBeRun il) (rules_in il.defs)) where
        one_right : (o : Output) (found : List Solution) → IsOutput il n (goal_of relation inputs) o → AreMeetings (syntaxes il) ls env holes (matched_of Computed (outputs_of il relation es)) o found → AllByRecursion (IsSolution il n root bound ls env p) found
        one_right o found right (misfit never nothing) = subst (AllByRecursion (IsSolution il n root bound ls env p)) (sym nothing) tt
        one_right o found right (fits m) = solution_goal il rules n root bound ls env only p relation es is judged inputs have o right holes are found m

        all_right : (items : List Output) (found : List Solution) → AllByRecursion (IsOutput il n (goal_of relation inputs)) items → AllMeetings (syntaxes il) ls env holes (matched_of Computed (outputs_of il relation es)) items found
            → AllByRecursion (IsSolution il n root bound ls env p) found
        all_right [] found right all = subst (AllByRecursion (IsSolution il n root bound ls env p)) (sym all) tt
        all_right (o ∷ items) found right all = subst (AllByRecursion (IsSolution il n root bound ls env p)) (sym all.4)
            (Each-append (IsSolution il n root bound ls env p) all.0 all.1 (one_right o all.0 right.0 all.2) (all_right items all.1 right.1 all.3))

        -- what meets the answers is what is sought
        pub goal_found : (answers : Found Output) (found : List Solution) → Solves il n (goal_of relation inputs) answers → AllMeetings (syntaxes il) ls env holes (matched_of Computed (outputs_of il relation es)) answers.items found
            → Finds il n answers.longest (step_seeks il n root bound ls env p) found
        goal_found answers found solves all = record {
          sound = all_right answers.items found solves.sound all;
          complete = λ more s. goal_wanted il stable single n root bound ls env only p relation es is judged inputs have holes are more s answers found solves all;
          calm = λ asked asks. subst (λ z. IsCalm il n answers.longest z) (asks_only asked asks) solves.calm;
          shallow = λ deep. quiet_there (meets_goal (at_root il n root) p relation es is bound ls env deep);
        }
