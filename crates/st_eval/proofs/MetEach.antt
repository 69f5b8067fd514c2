-- What an iterated premise comes to, for whatever is bound.
use Rattle.std.proofs.Common.{◌≡◌, ℕ, ◌<◌, ◌^◌, pos, sym, ◌∙◌, ap, subst, List, ◌++◌, arith}
use Rattle.st_num.specs.Number.{IsNumber}
use Rattle.st_il.specs.declared.definition.Il.{Il}
use Rattle.st_il.specs.declared.definition.Listed.{Listed}
use Rattle.st_il.specs.declared.expression.Iteration.{Iteration}
use Rattle.st_il.specs.declared.expression.IlPrem.{IlPrem}
use Rattle.st_il.specs.declared.value.Env.{Env}
use Rattle.st_il.specs.declared.value.Value.{Value}
use Rattle.st_semantics.specs.declared.outcome.Outcome.{Outcome}
use Rattle.st_semantics.specs.declared.outcome.Outcomes.TheVariants.{Values, Stopped}
use Rattle.st_il.specs.Names.{Name, has_name, among}
use Rattle.st_il.specs.Definitions.{syntaxes}
use Rattle.st_semantics.specs.Environments.{names_of}
use Rattle.st_semantics.specs.Iterations.{index_of, Column, rows, Misfit, Over, spread}
use Rattle.st_semantics.specs.Scopes.{listed_inside}
use Rattle.st_semantics.specs.Evaluation.{tasks, GivesAll}
use Rattle.st_semantics.specs.Depth.{bound_count}
use Rattle.st_semantics.specs.Calls.{CallAt}
use Rattle.st_semantics.specs.Laws.{CallsAreSingle}
use Rattle.st_eval.specs.Steps.{HasOnly}
use Rattle.st_eval.specs.Meeting.{IsMet}
use Rattle.st_eval.specs.CanBeMet.{CanBeMet}
use Rattle.st_eval.specs.declared.condition.Met.{Met}
use Rattle.st_eval.specs.declared.condition.Met.TheVariants as met
use Rattle.st_eval.specs.declared.meet.AtElements.{AtElements}
use Rattle.st_eval.specs.inner.Beside.{met_beside}
use Rattle.st_eval.specs.inner.Gathered.{met_stopped}
use Rattle.st_eval.specs.inner.AtElements.{CanMeetEach, AllHaveOnly, AreMet, IsBehind}
use Rattle.st_eval.proofs.AllHaveOnly.{AllHaveOnly-rows}
use Rattle.st_eval.proofs.IsGathered.{each_stopped, each_misfit, each_goes, each_reached}
use Rattle.st_eval.proofs.SameNames.{among-same}

module _ (il : Il) (single : CallsAreSingle il) (n : ℕ) (ls : List Listed) (env : Env) (how : Iteration) (xs : List Name) (body : IlPrem) (known : List Name) (known_are : known ≡ names_of env) where
  same : (bound : List Name) → HasOnly il ls bound env → (x : Name) → has_name known x ≡ has_name bound x
  same bound only x = ap (λ z. has_name z x) known_are ∙ only.names_are x

  -- what it comes to, for whatever is bound
  abbrev pub Comes : Met → Type 0
  Comes m = (bound : List Name) (p : IlPrem) → HasOnly il ls bound env → CanMeetEach il bound ls p how xs body → IsMet il n bound ls env p (met_beside env m)

  pub met_each-stopped : (o : Outcome) (m : Met) → m ≡ met_stopped o → GivesAll (syntaxes il) (CallAt il n) (tasks env (bound_count known how)) (Stopped o) → Comes m
  met_each-stopped o m e gives bound p only can =
      subst (λ z. IsMet il n bound ls env p (met_beside env z)) (sym e) (each_stopped il single n bound ls env p how xs body can.each known (same bound only) o gives)

  module _ (names : List Name) (names_are : names ≡ among known xs) (count : List Value) (gives : GivesAll (syntaxes il) (CallAt il n) (tasks env (bound_count known how)) (Values count)) where
    pub met_each-misfit : spread how names env count ≡ Misfit → Comes met.Fails
    met_each-misfit misfit bound p only can =
        each_misfit il single n bound ls env p how xs body can.each known (same bound only) count gives (subst (λ z. spread how z env count ≡ Misfit) names_are misfit)

    module _ (inside : List Listed) (inside_are : inside ≡ listed_inside how xs ls) (size : ℕ) (cs : List Column) (over : spread how names env count ≡ Over (rows (index_of how) names env.entries size 0 cs)) where
      abbrev Elements : List Env
      Elements = rows (index_of how) names env.entries size 0 cs

      pub elements_have : size < 2 ^ 128 → (bound : List Name) (p : IlPrem) → HasOnly il ls bound env → CanMeetEach il bound ls p how xs body → AllHaveOnly il inside (index_of how ++ bound) Elements
      elements_have small bound p only can =
          let number : IsNumber (pos size) = omega (arith, small) in
          let is : names ≡ among bound xs = names_are ∙ among-same known bound (same bound only) xs in
          subst (λ z. AllHaveOnly il z (index_of how ++ bound) Elements) (sym inside_are)
          (subst (λ (z : List Name). AllHaveOnly il (listed_inside how xs ls) (index_of how ++ bound) (rows (index_of how) z env.entries size 0 cs)) (sym is)
          (AllHaveOnly-rows il bound ls env how xs can.each.kinded only count size cs number (subst (λ (z : List Name). spread how z env count ≡ Over (rows (index_of how) z env.entries size 0 cs)) is over)))

      pub met_inside : (bound : List Name) (p : IlPrem) → CanMeetEach il bound ls p how xs body → CanBeMet il (index_of how ++ bound) inside body
      met_inside bound p can = subst (λ z. CanBeMet il (index_of how ++ bound) z body) (sym inside_are) can.inside

      pub met_each-reached : size < 2 ^ 128 → (r : AtElements) → ((names : List Name) → (size < 2 ^ 128 → AllHaveOnly il inside names Elements) → CanBeMet il names inside body → AreMet il n names inside body Elements r) → (m : Met) → IsBehind (syntaxes il) ls known how xs r m → Comes m
      met_each-reached small r at m behind bound p only can =
          each_reached il single n bound ls env p how xs body can.each known (same bound only) only Elements
          (each_goes il single n bound ls env p how xs body can.each known (same bound only) count gives Elements (subst (λ z. spread how z env count ≡ Over Elements) names_are over))
          (subst (λ z. AllHaveOnly il z (index_of how ++ bound) Elements) inside_are (elements_have small bound p only can)) r
          (subst (λ z. AreMet il n (index_of how ++ bound) z body Elements r) inside_are (at (index_of how ++ bound) (λ less. elements_have less bound p only can) (met_inside bound p can))) m behind
