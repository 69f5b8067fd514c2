-- What is found of a goal by what is answered to it, and why it stops.
use Rattle.std.proofs.Common.{◌≡◌, refl, sym, subst, ℕ, List, [], Ok, Err}
use Rattle.st_il.specs.declared.definition.Listed.{Listed}
use Rattle.st_il.specs.declared.expression.IlExp.{IlExp}
use Rattle.st_il.specs.declared.expression.IlPrem.{IlPrem}
use Rattle.st_il.specs.declared.value.Env.{Env}
use Rattle.st_il.specs.declared.value.Value.{Value}
use Rattle.st_semantics.specs.declared.outcome.Outcome.{Outcome}
use Rattle.st_semantics.specs.declared.outcome.Outcome.TheVariants.{Val, NoValue, Deep}
use Rattle.st_semantics.specs.declared.outcome.Outcomes.TheVariants.{Values, Stopped}
use Rattle.st_il.specs.Names.{Name}
use Rattle.st_il.specs.Definitions.{syntaxes}
use Rattle.st_semantics.specs.Directions.{inputs_of}
use Rattle.st_semantics.specs.Evaluation.{tasks, GivesAll}
use Rattle.st_semantics.specs.Holding.{HaveValues}
use Rattle.st_semantics.specs.Calls.{CallAt, has_value_at}
use Rattle.st_semantics.specs.Derivation.{Root}
use Rattle.st_semantics.proofs.Values.{have_values, not_value}
use Rattle.st_eval.specs.Steps.{HasOnly}
use Rattle.st_search.specs.declared.answer.Output.{Output}
use Rattle.st_search.specs.declared.answer.SearchFault.{SearchFault}
use Rattle.st_search.specs.declared.answer.SearchFault.TheVariants as fault
use Rattle.st_search.specs.declared.found.Found.{Found}
use Rattle.st_search.specs.declared.found.Solution.{Solution}
use Rattle.st_search.specs.declared.holes.Evaluated.TheVariants.{Computed}
use Rattle.st_search.specs.declared.holes.Hole.{Hole}
use Rattle.st_search.specs.declared.setting.Search.{Search}
use Rattle.st_search.specs.declared.stop.Stop.{Stop}
use Rattle.st_search.specs.declared.stop.Stop.TheVariants as stop
use Rattle.st_search.specs.inner.Chains.{stop_by}
use Rattle.st_search.specs.inner.Contracts.{IsShort, FindsWhere, StopsWhere, IsGoalOf}
use Rattle.st_search.specs.inner.Holes.{AreHoles, HasDeepHole, matched_of}
use Rattle.st_search.specs.inner.Meeting.{AllMeetings, IsAskedWith}
use Rattle.st_search.specs.inner.Rules.{IsSearchedIn}
use Rattle.st_search.specs.inner.Search.{IsSearch, Solvings, AnswersGoals}
use Rattle.st_search.specs.inner.Sought.{Finds, Stops, StopsIf}
use Rattle.st_search.specs.inner.Steps.{step_seeks}
use Rattle.st_search.proofs.Finds.{StopsIf-Stops}
use Rattle.st_search.proofs.GoalFinds.{goal_searched, inputs_deep, inputs_none, hole_deep, goal_chain, goal_found}

-- ---- by the values of the inputs

module _ (s : Search) (known : IsSearch s) (A : Solvings) (ls : List Listed) (env : Env) (relation : Name) (inputs : List Value) (outs : List IlExp) where
  -- a premise that is such a goal
  abbrev pub IsAsked : List Name → IlPrem → Type 0
  IsAsked bound p = IsAskedWith s.setting.index.now s.setting.depth bound ls env p relation inputs outs

  abbrev pub StopsAsked : Stop → Type 0
  StopsAsked end = StopsWhere s.setting.index.now s.setting.depth A ls env IsAsked end

  module _ (left : ℕ) (root : Root) (bound : List Name) (p : IlPrem) (only : HasOnly s.setting.index.now ls bound env) (asked : IsAskedWith s.setting.index.now s.setting.depth bound ls env p relation inputs outs) where
    have_inputs : HaveValues (has_value_at s.setting.index.now s.setting.depth) (tasks env (inputs_of s.setting.index.now relation asked.goal.es)) inputs
    have_inputs = subst (λ z. HaveValues (has_value_at s.setting.index.now s.setting.depth) (tasks env z) inputs) asked.goal.ins_are asked.have

    deep_there : HasDeepHole s.setting.index.now s.setting.depth env Computed outs → (step_seeks s.setting.index.now s.setting.depth root bound ls env p).Deep
    deep_there deep = hole_deep s.setting.index.now known.searchable.stable known.searchable.evaluable.single s.setting.depth root bound ls env only p relation asked.goal.es asked.goal.is asked.goal.judged inputs have_inputs
        (subst (HasDeepHole s.setting.index.now s.setting.depth env Computed) asked.goal.outs_are deep)

    module _ (answers : AnswersGoals s.setting.index.now s.setting.depth left A) (searched : IsSearchedIn s.setting.index.now p) where
      chain_there : (f : SearchFault) → A relation inputs (Err f) → Stops s.setting.index.now s.setting.depth left (step_seeks s.setting.index.now s.setting.depth root bound ls env p) (stop_by f)
      chain_there (fault.Deep chain) answered =
          goal_chain s.setting.index.now known.searchable.stable known.searchable.evaluable.single s.setting.depth root bound ls env only p relation asked.goal.es asked.goal.is asked.goal.judged inputs have_inputs
          known.searchable.results left chain searched (answers relation inputs (Err (fault.Deep chain)) answered)
      chain_there fault.Memory answered = tt

      found_there : (holes : List Hole) → AreHoles s.setting.index.now s.setting.depth env Computed outs holes → (answer : Found Output) → A relation inputs (Ok answer) → (found : List Solution)
          → AllMeetings (syntaxes s.setting.index.now) ls env holes (matched_of Computed outs) answer.items found → Finds s.setting.index.now s.setting.depth answer.longest (step_seeks s.setting.index.now s.setting.depth root bound ls env p) found
      found_there holes are answer answered found all =
          goal_found s.setting.index.now known.searchable.stable known.searchable.evaluable.single s.setting.depth root bound ls env only p relation asked.goal.es asked.goal.is asked.goal.judged inputs have_inputs
          holes (subst (λ z. AreHoles s.setting.index.now s.setting.depth env Computed z holes) asked.goal.outs_are are) known.searchable.rules answer found
          ((answers relation inputs (Ok answer) answered).1 (goal_searched s.setting.index.now p relation asked.goal.es asked.goal.is searched))
          (subst (λ z. AllMeetings (syntaxes s.setting.index.now) ls env holes (matched_of Computed z) answer.items found) asked.goal.outs_are all)

  -- an answer is short
  pub asked_short : (answer : Found Output) → A relation inputs (Ok answer) → IsShort s.setting.index.now s.setting.depth A answer.longest
  asked_short answer answered left some answers = (answers relation inputs (Ok answer) answered).0

  -- what meets the answers is what is sought
  pub asked_found : (holes : List Hole) → AreHoles s.setting.index.now s.setting.depth env Computed outs holes → (patterns : List IlExp) → patterns ≡ matched_of Computed outs → (answer : Found Output) → A relation inputs (Ok answer) → (found : List Solution)
      → AllMeetings (syntaxes s.setting.index.now) ls env holes patterns answer.items found → FindsWhere s.setting.index.now s.setting.depth A ls env IsAsked (record { items = found; longest = answer.longest })
  asked_found holes are patterns patterns_are answer answered found all left root bound p answers only asked searched =
      found_there left root bound p only asked answers searched holes are answer answered found (subst (λ z. AllMeetings (syntaxes s.setting.index.now) ls env holes z answer.items found) patterns_are all)

  -- an output that is evaluated stops it
  pub holes_stop : (end : Stop) → StopsIf (HasDeepHole s.setting.index.now s.setting.depth env Computed outs) end → StopsAsked end
  holes_stop end stops left root bound p answers only asked searched =
      StopsIf-Stops s.setting.index.now s.setting.depth left (step_seeks s.setting.index.now s.setting.depth root bound ls env p) (HasDeepHole s.setting.index.now s.setting.depth env Computed outs) end (deep_there left root bound p only asked) stops

  -- and so does a goal that is answered by a chain
  pub asked_stop : (f : SearchFault) → A relation inputs (Err f) → (end : Stop) → end ≡ stop_by f → StopsAsked end
  asked_stop f answered end is left root bound p answers only asked searched =
      subst (Stops s.setting.index.now s.setting.depth left (step_seeks s.setting.index.now s.setting.depth root bound ls env p)) (sym is) (chain_there left root bound p only asked answers searched f answered)

-- ---- by what the inputs come to

module _ (s : Search) (known : IsSearch s) (A : Solvings) (ls : List Listed) (env : Env) (relation : Name) (ins outs : List IlExp) where
  -- a premise that is such a goal
  abbrev pub IsThisGoal : List Name → IlPrem → Type 0
  IsThisGoal bound p = IsGoalOf s.setting.index.now bound ls p relation ins outs

  abbrev pub StopsGoal : Stop → Type 0
  StopsGoal end = StopsWhere s.setting.index.now s.setting.depth A ls env IsThisGoal end

  -- a goal whose inputs have values is asked with these
  pub goal_asked : (inputs : List Value) → GivesAll (syntaxes s.setting.index.now) (CallAt s.setting.index.now s.setting.depth) (tasks env ins) (Values inputs) → (bound : List Name) (p : IlPrem) → IsGoalOf s.setting.index.now bound ls p relation ins outs
      → IsAskedWith s.setting.index.now s.setting.depth bound ls env p relation inputs outs
  goal_asked inputs gives bound p goal = record {
    ins = ins;
    goal = goal;
    have = have_values (syntaxes s.setting.index.now) (CallAt s.setting.index.now s.setting.depth) (tasks env ins) (Values inputs) gives inputs refl;
  }

  -- an input that is Deep stops it
  pub goal_deep : GivesAll (syntaxes s.setting.index.now) (CallAt s.setting.index.now s.setting.depth) (tasks env ins) (Stopped Deep) → StopsGoal stop.Meets
  goal_deep gives left root bound p answers only goal searched =
      inputs_deep s.setting.index.now known.searchable.stable known.searchable.evaluable.single s.setting.depth root bound ls env only p relation goal.es goal.is goal.judged
      (subst (λ z. GivesAll (syntaxes s.setting.index.now) (CallAt s.setting.index.now s.setting.depth) (tasks env z) (Stopped Deep)) goal.ins_are gives)

  -- where an input has no value, nothing is sought
  pub goal_none : (o : Outcome) → GivesAll (syntaxes s.setting.index.now) (CallAt s.setting.index.now s.setting.depth) (tasks env ins) (Stopped o) → (o ≡ Deep → ⊥) → (found : Found Solution) → found.items ≡ [] → found.longest ≡ 0 → FindsWhere s.setting.index.now s.setting.depth A ls env IsThisGoal found
  goal_none (Val v) gives shallow found none zero = absurd (not_value (syntaxes s.setting.index.now) (CallAt s.setting.index.now s.setting.depth) (tasks env ins) (Stopped (Val v)) v gives refl)
  goal_none NoValue gives shallow found none zero = λ left root bound p answers only goal searched.
      subst (λ z. Finds s.setting.index.now s.setting.depth z (step_seeks s.setting.index.now s.setting.depth root bound ls env p) found.items) (sym zero)
      (subst (Finds s.setting.index.now s.setting.depth 0 (step_seeks s.setting.index.now s.setting.depth root bound ls env p)) (sym none)
      (inputs_none s.setting.index.now known.searchable.stable known.searchable.evaluable.single s.setting.depth root bound ls env only p relation goal.es goal.is goal.judged
      (subst (λ z. GivesAll (syntaxes s.setting.index.now) (CallAt s.setting.index.now s.setting.depth) (tasks env z) (Stopped NoValue)) goal.ins_are gives)))
  goal_none Deep gives shallow found none zero = absurd (shallow refl)
