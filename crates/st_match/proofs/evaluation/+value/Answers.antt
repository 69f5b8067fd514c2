use Rattle.std.proofs.Common.{rules, ◌≡◌, ◌+◌, ◌<◌, refl, sym, ◌∙◌, ap, subst, [], append-nil, arith}
use Rattle.st_il.specs.declared.expression.IlExp.{out-IlExp}
use Rattle.st_il.specs.declared.expression.IlExp.TheVariants as exp
use Rattle.st_semantics.specs.declared.outcome.Outcome.TheVariants.{Val, NoValue, Deep}
use Rattle.st_semantics.specs.declared.outcome.Outcomes.TheVariants.{Values, Stopped}
use Rattle.st_semantics.specs.Operands.{operands_at, item_exp, segment_exps}
use Rattle.st_semantics.specs.Formed.{AreFormed}
use Rattle.st_semantics.specs.Iterations.{index_of, rows}
use Rattle.st_semantics.specs.Evaluation.{tasks, then_all, Gives}
use Rattle.st_match.specs.inner.Prefix.{behind_values}
use Rattle.st_match.specs.inner.Scope.{scope_env, entries_of, columns_now}
use Rattle.st_semantics.specs.References.{exps_now}
use Rattle.st_semantics.specs.inner.Weight.{weight, heaviest}
use Rattle.st_match.proofs.FormLevels.{plain_strict, formed_element, plain_by}
use Rattle.st_semantics.proofs.Weights.{weight-operands, heaviest-element}
use Rattle.st_match.proofs.Builds.{gives_variable, gives_call, gives_strict, behind_values-then, outcomes_next, outcomes_stop, outcomes_end, moved_all, at_row, elements_start, elements_next, elements_stop, elements_end, iterated_stopped, iterated_misfit, iterated_over}
use Rattle.st_match.proofs.evaluation.+value.Goals as goal

pub at_elements-loop-at-init : goal.at_elements-loop-at-init
at_elements-loop-at-init g t c = λ r all.
    elements_start c.args.types.now (g.C.Caller.answers c.args.caller.now) (index_of c.args.how.now) c.args.names.now (entries_of c.args.scope.now) (columns_now c.args.elements.now.columns) c.args.body.now
    c.args.elements.now.size c.new-values.result r c.new-values.ensures all

pub at_elements-returns-in-NoValue : goal.at_elements-returns-in-NoValue
at_elements-returns-in-NoValue g t c =
    let C = g.C.Caller.answers c.args.caller.now in
    let here = at_row c.args.types.now C (index_of c.args.how.now) c.args.names.now (entries_of c.args.scope.now) (columns_now c.args.elements.now.columns) c.args.body.now
    c.in_ok-inner.inner c.loop-at.at c.in_ok-outcome.outcome NoValue c.in_ok-inner.ensures c.in-NoValue.is
    (subst (λ z. Gives c.args.types.now C (scope_env z) c.args.body.now c.in_ok-outcome.outcome) c.as_slice.ensures c.in_ok-outcome.ensures) in
    c.loop-at.invariant (Stopped NoValue)
    (elements_stop c.args.types.now C (index_of c.args.how.now) c.args.names.now (entries_of c.args.scope.now) (columns_now c.args.elements.now.columns) c.args.body.now
    c.args.elements.now.size c.loop-at.at NoValue c.loop-at-test.true tt here)

pub at_elements-returns-in-Deep : goal.at_elements-returns-in-Deep
at_elements-returns-in-Deep g t c =
    let C = g.C.Caller.answers c.args.caller.now in
    let here = at_row c.args.types.now C (index_of c.args.how.now) c.args.names.now (entries_of c.args.scope.now) (columns_now c.args.elements.now.columns) c.args.body.now
    c.in_ok-inner.inner c.loop-at.at c.in_ok-outcome.outcome Deep c.in_ok-inner.ensures c.in-Deep.is
    (subst (λ z. Gives c.args.types.now C (scope_env z) c.args.body.now c.in_ok-outcome.outcome) c.as_slice.ensures c.in_ok-outcome.ensures) in
    c.loop-at.invariant (Stopped Deep)
    (elements_stop c.args.types.now C (index_of c.args.how.now) c.args.names.now (entries_of c.args.scope.now) (columns_now c.args.elements.now.columns) c.args.body.now
    c.args.elements.now.size c.loop-at.at Deep c.loop-at-test.true tt here)

pub at_elements-loop-at-preserved : goal.at_elements-loop-at-preserved
at_elements-loop-at-preserved g t c = λ r all.
    moved_all c.args.types.now (g.C.Caller.answers c.args.caller.now) refl
    (behind_values-then c.loop-at.values c.in-Val.value r ∙ ap (λ vs. behind_values vs r) (sym c.in_ok-push-in-Val.ensures.ok))
    (c.loop-at.invariant (then_all c.in-Val.value r)
    (elements_next c.args.types.now (g.C.Caller.answers c.args.caller.now) (index_of c.args.how.now) c.args.names.now (entries_of c.args.scope.now) (columns_now c.args.elements.now.columns) c.args.body.now
    c.args.elements.now.size c.loop-at.at c.in-Val.value r c.loop-at-test.true
    (at_row c.args.types.now (g.C.Caller.answers c.args.caller.now) (index_of c.args.how.now) c.args.names.now (entries_of c.args.scope.now) (columns_now c.args.elements.now.columns) c.args.body.now
    c.in_ok-inner.inner c.loop-at.at c.in_ok-outcome.outcome (Val c.in-Val.value) c.in_ok-inner.ensures c.in-Val.is
    (subst (λ z. Gives c.args.types.now (g.C.Caller.answers c.args.caller.now) (scope_env z) c.args.body.now c.in_ok-outcome.outcome) c.as_slice.ensures c.in_ok-outcome.ensures)) all))

pub at_elements-returns : goal.at_elements-returns
at_elements-returns g t c =
    moved_all c.args.types.now (g.C.Caller.answers c.args.caller.now) refl (ap Values (append-nil c.loop-at.values))
    (c.loop-at.invariant (Values [])
    (elements_end c.args.types.now (g.C.Caller.answers c.args.caller.now) (index_of c.args.how.now) c.args.names.now (entries_of c.args.scope.now) (columns_now c.args.elements.now.columns) c.args.body.now
    c.args.elements.now.size c.loop-at.at c.loop-at-test.false))

pub iterated-returns-in-Stopped : goal.iterated-returns-in-Stopped
iterated-returns-in-Stopped g t c =
    iterated_stopped c.args.types.now (g.C.Caller.answers c.args.caller.now) (scope_env c.args.scope.now) c.args.how.now c.args.names.now c.args.body.now c.in-Stopped.outcome
    (moved_all c.args.types.now (g.C.Caller.answers c.args.caller.now) (ap (tasks (scope_env c.args.scope.now)) (ap exps_now c.as_slice.ensures ∙ c.in_ok-exps.ensures)) c.in-Stopped.is c.in_ok-found.ensures)

pub iterated-returns-in-None : goal.iterated-returns-in-None
iterated-returns-in-None g t c =
    iterated_misfit c.args.types.now (g.C.Caller.answers c.args.caller.now) (scope_env c.args.scope.now) c.args.how.now c.args.names.now c.args.body.now c.in-Values.count
    (moved_all c.args.types.now (g.C.Caller.answers c.args.caller.now) (ap (tasks (scope_env c.args.scope.now)) (ap exps_now c.as_slice.ensures ∙ c.in_ok-exps.ensures)) c.in-Values.is c.in_ok-found.ensures)
    (search rules)

pub iterated-returns : goal.iterated-returns
iterated-returns g t c =
    iterated_over c.args.types.now (g.C.Caller.answers c.args.caller.now) (scope_env c.args.scope.now) c.args.how.now c.args.names.now c.args.body.now c.in-Values.count
    (rows (index_of c.args.how.now) c.args.names.now (entries_of c.args.scope.now) c.in-Some.elements.size 0 (columns_now c.in-Some.elements.columns))
    c.in_ok-found-in-Some.found c.in_ok-outcome-in-Some.outcome
    (moved_all c.args.types.now (g.C.Caller.answers c.args.caller.now) (ap (tasks (scope_env c.args.scope.now)) (ap exps_now c.as_slice.ensures ∙ c.in_ok-exps.ensures)) c.in-Values.is c.in_ok-found.ensures)
    (search rules) c.in_ok-found-in-Some.ensures c.in_ok-outcome-in-Some.ensures

pub outcome_of-outcomes_of-requires-in_default : goal.outcome_of-outcomes_of-requires-in_default
outcome_of-outcomes_of-requires-in_default g t c =
    let plain = plain_by c.args.types.now c.args.exp.now c.in_default.not-Var c.in_default.not-Call c.in_default.not-Iter in
    let same = ap exps_now c.as_slice-in_default.ensures ∙ c.in_ok-exps-in_default.ensures in
    let lighter = weight-operands c.args.exp.now in
    let weighs : heaviest (exps_now c.as_slice-in_default.result.now) ≡ heaviest (operands_at item_exp segment_exps (out-IlExp c.args.exp.now)) = ap heaviest same in
    let falls : 1 + heaviest (exps_now c.as_slice-in_default.result.now) < t = omega (arith, lighter, weighs, c.decreases) in
    let parts : AreFormed c.args.types.now (exps_now c.as_slice-in_default.result.now) =
    subst (AreFormed c.args.types.now) (sym same) (plain_strict c.args.types.now c.args.exp.now c.requires.formed plain).parts in
    λ κs within. (falls, (within, (c.requires.callable, parts)))

pub outcome_of-returns-in_ok-outcome-in-Var : goal.outcome_of-returns-in_ok-outcome-in-Var
outcome_of-returns-in_ok-outcome-in-Var g t c =
    gives_variable c.args.types.now (g.C.Caller.answers c.args.caller.now) (scope_env c.args.scope.now) c.args.exp.now c.in-Var.name c.in_ok-outcome-in-Var.outcome
    (ap out-IlExp c.in-Var.is ∙ exp.outs-Var c.in-Var.name) c.in_ok-outcome-in-Var.ensures

pub outcome_of-returns-in_ok-outcome-in-Call : goal.outcome_of-returns-in_ok-outcome-in-Call
outcome_of-returns-in_ok-outcome-in-Call g t c =
    let out = ap out-IlExp c.in-Call.is ∙ exp.outs-Call c.in-Call.fun c.in-Call.field-1 in
    gives_call c.args.types.now (g.C.Caller.answers c.args.caller.now) (scope_env c.args.scope.now) c.args.exp.now c.in-Call.fun c.in-Call.field-1 c.in_ok-found-in-Call.found c.in_ok-outcome-in-Call.outcome out
    (moved_all c.args.types.now (g.C.Caller.answers c.args.caller.now)
    (ap (tasks (scope_env c.args.scope.now)) (ap exps_now c.as_slice.ensures ∙ (c.in_ok-exps-in-Call.ensures ∙ ap (operands_at item_exp segment_exps) out))) refl c.in_ok-found-in-Call.ensures)
    c.in_ok-outcome-in-Call.ensures

pub outcome_of-returns-in_ok-outcome-in_default : goal.outcome_of-returns-in_ok-outcome-in_default
outcome_of-returns-in_ok-outcome-in_default g t c =
    let plain = plain_by c.args.types.now c.args.exp.now c.in_default.not-Var c.in_default.not-Call c.in_default.not-Iter in
    gives_strict c.args.types.now (g.C.Caller.answers c.args.caller.now) (scope_env c.args.scope.now) c.args.exp.now c.in_ok-found-in_default.found c.in_ok-outcome-in_default.outcome c.requires.formed plain
    (moved_all c.args.types.now (g.C.Caller.answers c.args.caller.now)
    (ap (tasks (scope_env c.args.scope.now)) (ap exps_now c.as_slice-in_default.ensures ∙ c.in_ok-exps-in_default.ensures)) refl c.in_ok-found-in_default.ensures)
    c.in_ok-outcome-in_default.ensures

pub outcomes_of-outcome_of-requires : goal.outcomes_of-outcome_of-requires
outcomes_of-outcome_of-requires g t c =
    let lighter = heaviest-element c.args.exps.now c.loop-i.i c.index-exps-i.result c.loop-i-test.true c.index-exps-i.is in
    let falls : weight c.index-exps-i.result.now < t = omega (arith, lighter, c.decreases) in
    let formed = formed_element c.args.types.now c.args.exps.now c.loop-i.i c.index-exps-i.result c.loop-i-test.true c.index-exps-i.is c.requires.formed in
    λ κs within. (falls, (within, (c.requires.callable, formed)))

pub outcomes_of-returns-in-NoValue : goal.outcomes_of-returns-in-NoValue
outcomes_of-returns-in-NoValue g t c =
    c.loop-i.invariant (Stopped NoValue)
    (outcomes_stop c.args.types.now (g.C.Caller.answers c.args.caller.now) (scope_env c.args.scope.now) c.args.exps.now c.loop-i.i c.index-exps-i.result NoValue c.loop-i-test.true c.index-exps-i.is tt
    (subst (Gives c.args.types.now (g.C.Caller.answers c.args.caller.now) (scope_env c.args.scope.now) c.index-exps-i.result.now) c.in-NoValue.is c.in_ok-outcome.ensures))

pub outcomes_of-returns-in-Deep : goal.outcomes_of-returns-in-Deep
outcomes_of-returns-in-Deep g t c =
    c.loop-i.invariant (Stopped Deep)
    (outcomes_stop c.args.types.now (g.C.Caller.answers c.args.caller.now) (scope_env c.args.scope.now) c.args.exps.now c.loop-i.i c.index-exps-i.result Deep c.loop-i-test.true c.index-exps-i.is tt
    (subst (Gives c.args.types.now (g.C.Caller.answers c.args.caller.now) (scope_env c.args.scope.now) c.index-exps-i.result.now) c.in-Deep.is c.in_ok-outcome.ensures))

pub outcomes_of-loop-i-preserved : goal.outcomes_of-loop-i-preserved
outcomes_of-loop-i-preserved g t c = λ r all.
    moved_all c.args.types.now (g.C.Caller.answers c.args.caller.now) refl
    (behind_values-then c.loop-i.values c.in-Val.value r ∙ ap (λ vs. behind_values vs r) (sym c.in_ok-push-in-Val.ensures.ok))
    (c.loop-i.invariant (then_all c.in-Val.value r)
    (outcomes_next c.args.types.now (g.C.Caller.answers c.args.caller.now) (scope_env c.args.scope.now) c.args.exps.now c.loop-i.i c.index-exps-i.result c.in-Val.value r c.loop-i-test.true c.index-exps-i.is
    (subst (Gives c.args.types.now (g.C.Caller.answers c.args.caller.now) (scope_env c.args.scope.now) c.index-exps-i.result.now) c.in-Val.is c.in_ok-outcome.ensures) all))

pub outcomes_of-returns : goal.outcomes_of-returns
outcomes_of-returns g t c =
    moved_all c.args.types.now (g.C.Caller.answers c.args.caller.now) refl (ap Values (append-nil c.loop-i.values))
    (c.loop-i.invariant (Values []) (outcomes_end c.args.types.now (g.C.Caller.answers c.args.caller.now) (scope_env c.args.scope.now) c.args.exps.now c.loop-i.i c.loop-i-test.false))
