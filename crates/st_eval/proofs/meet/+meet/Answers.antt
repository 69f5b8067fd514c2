use Rattle.std.proofs.Common.{rules, ◌≡◌, ◌+◌, ◌<◌, ◌^◌, ◌++◌, sym, ◌∙◌, ap, subst, List, arith}
use Rattle.st_il.specs.declared.expression.IlPrem.{out-IlPrem}
use Rattle.st_il.specs.declared.expression.IlPrem.TheVariants as prem
use Rattle.st_semantics.specs.declared.outcome.Outcomes.TheVariants.{Values}
use Rattle.st_il.specs.Names.{among}
use Rattle.st_semantics.specs.Environments.{Entry}
use Rattle.st_il.specs.Definitions.{syntaxes}
use Rattle.st_semantics.specs.Iterations.{index_of, spread, rows, Misfit, Over}
use Rattle.st_semantics.specs.Scopes.{listed_inside}
use Rattle.st_semantics.specs.Evaluation.{GivesAll, tasks}
use Rattle.st_semantics.specs.Depth.{bound_count}
use Rattle.st_semantics.specs.Calls.{CallAt}
use Rattle.st_match.specs.inner.Scope.{scope_env, entries_of, columns_now}
use Rattle.st_eval.specs.Steps.{HasOnly, HoldsWith}
use Rattle.st_eval.specs.CanBeMet.{CanBeMet}
use Rattle.st_eval.specs.inner.Known.{names_now}
use Rattle.st_eval.specs.inner.Beside.{beside}
use Rattle.st_eval.specs.inner.AtElements.{prem_height, IsBehind}
use Rattle.st_eval.proofs.AreMet.{passed_start, element_has, ElementIs, passed_next, stops_failing, stops_deep, passed_all}
use Rattle.st_eval.proofs.CanBeMet.{CanBeMet-condition, CanBeMet-goal, CanBeMet-parts, HoldsWith-otherwise, prem_height-each}
use Rattle.st_eval.proofs.MetEach.{met_each-stopped, met_each-misfit, elements_have, met_each-reached}
use Rattle.st_eval.proofs.meet.+meet.Goals as goal

-- ---- at the elements

pub at_elements-loop-at-init : goal.at_elements-loop-at-init
at_elements-loop-at-init g t c =
    passed_start c.args.setting.now.index.now c.args.setting.now.depth c.args.variables.now c.args.body.now (index_of c.args.how.now) (names_now c.args.names.now) (entries_of c.args.scope.now) (columns_now c.args.columns.now) c.args.size
    c.new-found.result c.new-found.ensures

pub at_elements-met_in-requires : goal.at_elements-met_in-requires
at_elements-met_in-requires g t c =
    let falls : prem_height c.args.body.now < t = omega (arith, c.decreases) in
    let small : c.args.size < 2 ^ 128 = omega arith in
    let only = element_has c.args.setting.now.index.now c.args.setting.now.depth c.args.variables.now c.args.body.now (index_of c.args.how.now) (names_now c.args.names.now) (entries_of c.args.scope.now) (columns_now c.args.columns.now) c.args.size
    c.requires.can.0 c.loop-at.at c.loop-at.found c.in_ok-inner.inner c.loop-at-test.true c.in_ok-inner.ensures c.loop-at.invariant (c.requires.can.1 small) c.requires.can.2 in
    λ κs within. (
      falls,
      (
        within,
        (
          c.requires.setting,
          (
            c.requires.callable,
            (
              c.requires.answers,
              (c.requires.can.0, subst (λ z. HasOnly c.args.setting.now.index.now c.args.variables.now c.requires.can.0 (scope_env z)) (sym c.as_slice.ensures) only, c.requires.can.2),
            ),
          ),
        ),
      ),
    )

pub at_elements-returns-in-Fails : goal.at_elements-returns-in-Fails
at_elements-returns-in-Fails g t c =
    let small : c.args.size < 2 ^ 128 = omega arith in record {
      small = small;
      met = λ bound have can. stops_failing c.args.setting.now.index.now c.args.setting.now.depth c.args.variables.now c.args.body.now (index_of c.args.how.now) (names_now c.args.names.now) (entries_of c.args.scope.now) (columns_now c.args.columns.now) c.args.size
          c.loop-at.at c.loop-at.found c.in_ok-inner.inner c.loop-at-test.true c.in_ok-inner.ensures c.loop-at.invariant c.in_ok-met.met
          (subst (λ z. ElementIs c.args.setting.now.index.now c.args.setting.now.depth c.args.variables.now c.args.body.now (index_of c.args.how.now) (names_now c.args.names.now) (entries_of c.args.scope.now) (columns_now c.args.columns.now) c.args.size z c.in_ok-met.met) c.as_slice.ensures c.in_ok-met.ensures)
          c.in-Fails.is bound (have small) can;
    }

pub at_elements-returns-in-Deep : goal.at_elements-returns-in-Deep
at_elements-returns-in-Deep g t c =
    let small : c.args.size < 2 ^ 128 = omega arith in record {
      small = small;
      met = λ bound have can. stops_deep c.args.setting.now.index.now c.args.setting.now.depth c.args.variables.now c.args.body.now (index_of c.args.how.now) (names_now c.args.names.now) (entries_of c.args.scope.now) (columns_now c.args.columns.now) c.args.size
          c.loop-at.at c.loop-at.found c.in_ok-inner.inner c.loop-at-test.true c.in_ok-inner.ensures c.loop-at.invariant c.in_ok-met.met
          (subst (λ z. ElementIs c.args.setting.now.index.now c.args.setting.now.depth c.args.variables.now c.args.body.now (index_of c.args.how.now) (names_now c.args.names.now) (entries_of c.args.scope.now) (columns_now c.args.columns.now) c.args.size z c.in_ok-met.met) c.as_slice.ensures c.in_ok-met.ensures)
          c.in-Deep.is bound (have small) can;
    }

pub at_elements-loop-at-preserved : goal.at_elements-loop-at-preserved
at_elements-loop-at-preserved g t c =
    passed_next c.args.setting.now.index.now c.args.setting.now.depth c.args.variables.now c.args.body.now (index_of c.args.how.now) (names_now c.args.names.now) (entries_of c.args.scope.now) (columns_now c.args.columns.now) c.args.size
    c.loop-at.at c.loop-at.found c.in_ok-inner.inner c.loop-at-test.true c.in_ok-inner.ensures c.loop-at.invariant c.in_ok-met.met c.in-Holds.env _
    (subst (λ z. ElementIs c.args.setting.now.index.now c.args.setting.now.depth c.args.variables.now c.args.body.now (index_of c.args.how.now) (names_now c.args.names.now) (entries_of c.args.scope.now) (columns_now c.args.columns.now) c.args.size z c.in_ok-met.met) c.as_slice.ensures c.in_ok-met.ensures)
    c.in-Holds.is c.in_ok-push-in-Holds.ensures.ok

pub at_elements-returns : goal.at_elements-returns
at_elements-returns g t c =
    let small : c.args.size < 2 ^ 128 = omega arith in record {
      small = small;
      met = λ bound have can. passed_all c.args.setting.now.index.now c.args.setting.now.depth c.args.variables.now c.args.body.now (index_of c.args.how.now) (names_now c.args.names.now) (entries_of c.args.scope.now) (columns_now c.args.columns.now) c.args.size
          c.loop-at.at c.loop-at.found c.loop-at-test.false c.loop-at.invariant bound (have small) can;
    }

-- ---- an iterated premise

pub met_each-returns-in-Stopped : goal.met_each-returns-in-Stopped
met_each-returns-in-Stopped g t c =
    met_each-stopped c.args.setting.now.index.now c.requires.setting.single c.args.setting.now.depth c.args.variables.now (scope_env c.args.scope.now) c.args.how.now c.args.names.now c.args.body.now
    (names_now c.as_slice.result.now) (ap names_now c.as_slice.ensures ∙ c.in_ok-known.ensures) c.in-Stopped.outcome c.stopped.result c.stopped.ensures
    (subst (GivesAll (syntaxes c.args.setting.now.index.now) (CallAt c.args.setting.now.index.now c.args.setting.now.depth) (tasks (scope_env c.args.scope.now) (bound_count (names_now c.as_slice.result.now) c.args.how.now))) c.in-Stopped.is c.in_ok-count.ensures)

pub met_each-returns-in-None : goal.met_each-returns-in-None
met_each-returns-in-None g t c =
    let defs = syntaxes c.args.setting.now.index.now in
    let C = CallAt c.args.setting.now.index.now c.args.setting.now.depth in
    let env = scope_env c.args.scope.now in
    let misfit : spread c.args.how.now (names_now c.as_slice-in-Values-2.result.now) env c.as_slice-in-Values-3.result.now ≡ Misfit = search rules in
    met_each-misfit c.args.setting.now.index.now c.requires.setting.single c.args.setting.now.depth c.args.variables.now env c.args.how.now c.args.names.now c.args.body.now
    (names_now c.as_slice.result.now) (ap names_now c.as_slice.ensures ∙ c.in_ok-known.ensures) (names_now c.as_slice-in-Values-2.result.now)
    (ap names_now c.as_slice-in-Values-2.ensures ∙ (c.in_ok-bound-in-Values.ensures ∙ ap (λ z. among (names_now z) c.args.names.now) (c.as_slice-in-Values.ensures ∙ sym c.as_slice.ensures)))
    c.as_slice-in-Values-3.result.now
    (subst (λ z. GivesAll defs C (tasks env (bound_count (names_now c.as_slice.result.now) c.args.how.now)) (Values z)) (sym c.as_slice-in-Values-3.ensures)
    (subst (GivesAll defs C (tasks env (bound_count (names_now c.as_slice.result.now) c.args.how.now))) c.in-Values.is c.in_ok-count.ensures))
    misfit

pub met_each-at_elements-requires : goal.met_each-at_elements-requires
met_each-at_elements-requires g t c =
    let defs = syntaxes c.args.setting.now.index.now in
    let C = CallAt c.args.setting.now.index.now c.args.setting.now.depth in
    let env = scope_env c.args.scope.now in
    let falls : 1 + prem_height c.args.body.now < t = omega (arith, c.decreases) in
    let inside_are : c.as_slice-in-Some.result.now ≡ listed_inside c.args.how.now c.args.names.now c.args.variables.now = c.as_slice-in-Some.ensures ∙ c.in_ok-inside-in-Some.ensures in
    let moved : c.as_slice-in-Values-2.result.now ≡ c.as_slice-in-Some-2.result.now = c.as_slice-in-Values-2.ensures ∙ sym c.as_slice-in-Some-2.ensures in
    let table : spread c.args.how.now (names_now c.as_slice-in-Values-2.result.now) env c.as_slice-in-Values-3.result.now
    ≡ Over (rows (index_of c.args.how.now) (names_now c.as_slice-in-Values-2.result.now) (entries_of c.args.scope.now) c.in-Some.elements.size 0 (columns_now c.in-Some.elements.columns)) = search rules in
    let whole : c.as_slice-in-Some-3.result.now ≡ c.in-Some.elements.columns = c.as_slice-in-Some-3.ensures in
    let over : spread c.args.how.now (names_now c.as_slice-in-Some-2.result.now) env c.as_slice-in-Values-3.result.now
    ≡ Over (rows (index_of c.args.how.now) (names_now c.as_slice-in-Some-2.result.now) (entries_of c.args.scope.now) c.in-Some.elements.size 0 (columns_now c.as_slice-in-Some-3.result.now)) =
    subst (λ w. spread c.args.how.now (names_now c.as_slice-in-Some-2.result.now) env c.as_slice-in-Values-3.result.now ≡ Over (rows (index_of c.args.how.now) (names_now c.as_slice-in-Some-2.result.now) (entries_of c.args.scope.now) c.in-Some.elements.size 0 (columns_now w))) (sym whole)
    (subst (λ z. spread c.args.how.now (names_now z) env c.as_slice-in-Values-3.result.now ≡ Over (rows (index_of c.args.how.now) (names_now z) (entries_of c.args.scope.now) c.in-Some.elements.size 0 (columns_now c.in-Some.elements.columns))) moved table) in
    let known_are = ap names_now c.as_slice.ensures ∙ c.in_ok-known.ensures in
    let names_are = ap names_now c.as_slice-in-Some-2.ensures ∙ (c.in_ok-bound-in-Values.ensures ∙ ap (λ z. among (names_now z) c.args.names.now) (c.as_slice-in-Values.ensures ∙ sym c.as_slice.ensures)) in
    let gives = subst (λ z. GivesAll defs C (tasks env (bound_count (names_now c.as_slice.result.now) c.args.how.now)) (Values z)) (sym c.as_slice-in-Values-3.ensures)
    (subst (GivesAll defs C (tasks env (bound_count (names_now c.as_slice.result.now) c.args.how.now))) c.in-Values.is c.in_ok-count.ensures) in
    λ κs within. (
      falls,
      (
        within,
        (
          c.requires.setting,
          (
            c.requires.callable,
            (
              c.requires.answers,
              (
                index_of c.args.how.now ++ c.requires.can.0,
                λ small. elements_have c.args.setting.now.index.now c.requires.setting.single c.args.setting.now.depth c.args.variables.now env c.args.how.now c.args.names.now c.args.body.now (names_now c.as_slice.result.now) known_are
                    (names_now c.as_slice-in-Some-2.result.now) names_are c.as_slice-in-Values-3.result.now gives c.as_slice-in-Some.result.now inside_are c.in-Some.elements.size (columns_now c.as_slice-in-Some-3.result.now) over small
                    c.requires.can.0 c.requires.can.1 c.requires.can.2 c.requires.can.3,
                subst (λ z. CanBeMet c.args.setting.now.index.now (index_of c.args.how.now ++ c.requires.can.0) z c.args.body.now) (sym inside_are) c.requires.can.3.inside,
              ),
            ),
          ),
        ),
      ),
    )

pub met_each-returns : goal.met_each-returns
met_each-returns g t c =
    let defs = syntaxes c.args.setting.now.index.now in
    let C = CallAt c.args.setting.now.index.now c.args.setting.now.depth in
    let env = scope_env c.args.scope.now in
    let inside_are : c.as_slice-in-Some.result.now ≡ listed_inside c.args.how.now c.args.names.now c.args.variables.now = c.as_slice-in-Some.ensures ∙ c.in_ok-inside-in-Some.ensures in
    let moved : c.as_slice-in-Values-2.result.now ≡ c.as_slice-in-Some-2.result.now = c.as_slice-in-Values-2.ensures ∙ sym c.as_slice-in-Some-2.ensures in
    let table : spread c.args.how.now (names_now c.as_slice-in-Values-2.result.now) env c.as_slice-in-Values-3.result.now
    ≡ Over (rows (index_of c.args.how.now) (names_now c.as_slice-in-Values-2.result.now) (entries_of c.args.scope.now) c.in-Some.elements.size 0 (columns_now c.in-Some.elements.columns)) = search rules in
    let whole : c.as_slice-in-Some-3.result.now ≡ c.in-Some.elements.columns = c.as_slice-in-Some-3.ensures in
    let over : spread c.args.how.now (names_now c.as_slice-in-Some-2.result.now) env c.as_slice-in-Values-3.result.now
    ≡ Over (rows (index_of c.args.how.now) (names_now c.as_slice-in-Some-2.result.now) (entries_of c.args.scope.now) c.in-Some.elements.size 0 (columns_now c.as_slice-in-Some-3.result.now)) =
    subst (λ w. spread c.args.how.now (names_now c.as_slice-in-Some-2.result.now) env c.as_slice-in-Values-3.result.now ≡ Over (rows (index_of c.args.how.now) (names_now c.as_slice-in-Some-2.result.now) (entries_of c.args.scope.now) c.in-Some.elements.size 0 (columns_now w))) (sym whole)
    (subst (λ z. spread c.args.how.now (names_now z) env c.as_slice-in-Values-3.result.now ≡ Over (rows (index_of c.args.how.now) (names_now z) (entries_of c.args.scope.now) c.in-Some.elements.size 0 (columns_now c.in-Some.elements.columns))) moved table) in
    let known_are = ap names_now c.as_slice.ensures ∙ c.in_ok-known.ensures in
    let names_are = ap names_now c.as_slice-in-Some-2.ensures ∙ (c.in_ok-bound-in-Values.ensures ∙ ap (λ z. among (names_now z) c.args.names.now) (c.as_slice-in-Values.ensures ∙ sym c.as_slice.ensures)) in
    let gives = subst (λ z. GivesAll defs C (tasks env (bound_count (names_now c.as_slice.result.now) c.args.how.now)) (Values z)) (sym c.as_slice-in-Values-3.ensures)
    (subst (GivesAll defs C (tasks env (bound_count (names_now c.as_slice.result.now) c.args.how.now))) c.in-Values.is c.in_ok-count.ensures) in
    met_each-reached c.args.setting.now.index.now c.requires.setting.single c.args.setting.now.depth c.args.variables.now env c.args.how.now c.args.names.now c.args.body.now (names_now c.as_slice.result.now) known_are
    (names_now c.as_slice-in-Some-2.result.now) names_are c.as_slice-in-Values-3.result.now gives c.as_slice-in-Some.result.now inside_are c.in-Some.elements.size (columns_now c.as_slice-in-Some-3.result.now) over
    c.in_ok-reached-in-Some.ensures.small c.in_ok-reached-in-Some.reached c.in_ok-reached-in-Some.ensures.met c.in_ok-met-in-Some.met
    (subst (λ z. IsBehind z c.args.variables.now (names_now c.as_slice.result.now) c.args.how.now c.args.names.now c.in_ok-reached-in-Some.reached c.in_ok-met-in-Some.met) c.requires.setting.types_are
    (subst (λ z. IsBehind c.args.setting.now.types.now c.args.variables.now (names_now z) c.args.how.now c.args.names.now c.in_ok-reached-in-Some.reached c.in_ok-met-in-Some.met) (c.as_slice-known.ensures ∙ sym c.as_slice.ensures) c.in_ok-met-in-Some.ensures))

-- ---- premises by their form

pub met_in-returns-in-Otherwise : goal.met_in-returns-in-Otherwise
met_in-returns-in-Otherwise g t c = λ bound only can.
    let il = c.args.setting.now.index.now in
    subst (λ (z : List Entry). HoldsWith il c.args.setting.now.depth bound c.args.variables.now (scope_env c.args.scope.now) c.args.premise.now (beside (scope_env c.args.scope.now) (record { entries = z }))) (sym c.new-entries.ensures)
    (HoldsWith-otherwise il c.args.setting.now.depth bound c.args.variables.now (scope_env c.args.scope.now) c.args.premise.now (ap out-IlPrem c.in-Otherwise.is ∙ prem.outs-Otherwise) only)

pub met_in-returns-in-Goal : goal.met_in-returns-in-Goal
met_in-returns-in-Goal g t c = λ bound only can.
    absurd (CanBeMet-goal c.args.setting.now.index.now bound c.args.variables.now c.args.premise.now can c.in-Goal.field-0 c.in-Goal.field-1 (ap out-IlPrem c.in-Goal.is ∙ prem.outs-Goal c.in-Goal.field-0 c.in-Goal.field-1))

pub met_in-returns-in_ok-met-in-If : goal.met_in-returns-in_ok-met-in-If
met_in-returns-in_ok-met-in-If g t c = λ bound only can.
    let out = ap out-IlPrem c.in-If.is ∙ prem.outs-If c.in-If.exp in
    c.in_ok-met-in-If.ensures bound c.args.premise.now out only (CanBeMet-condition c.args.setting.now.index.now bound c.args.variables.now c.args.premise.now can c.in-If.exp out)

pub met_in-met_condition-requires-clause-can : goal.met_in-met_condition-requires-clause-can
met_in-met_condition-requires-clause-can g t c = (
  c.requires.can.0,
  c.requires.can.1,
  CanBeMet-condition c.args.setting.now.index.now c.requires.can.0 c.args.variables.now c.args.premise.now c.requires.can.2 c.in-If.exp (ap out-IlPrem c.in-If.is ∙ prem.outs-If c.in-If.exp),
)

pub met_in-met_each-requires : goal.met_in-met_each-requires
met_in-met_each-requires g t c =
    let out = ap out-IlPrem c.in-Each.is ∙ prem.outs-Each c.in-Each.how c.in-Each.names c.in-Each.body in
    let high : prem_height c.args.premise.now ≡ 3 + prem_height c.in-Each.body = prem_height-each c.args.premise.now c.in-Each.how c.in-Each.names c.in-Each.body out in
    let same : prem_height c.get.result.now ≡ prem_height c.in-Each.body = ap prem_height c.get.ensures in
    let falls : 2 + prem_height c.get.result.now < t = omega (arith, high, same, c.decreases) in
    λ κs within. (
      falls,
      (
        within,
        (
          c.requires.setting,
          (
            c.requires.callable,
            (
              c.requires.answers,
              (
                c.requires.can.0,
                c.args.premise.now,
                c.requires.can.1,
                CanBeMet-parts c.args.setting.now.index.now c.requires.can.0 c.args.variables.now c.args.premise.now c.requires.can.2 c.in-Each.how c.in-Each.names c.as_slice-names.result.now c.in-Each.body c.get.result.now out c.as_slice-names.ensures c.get.ensures,
              ),
            ),
          ),
        ),
      ),
    )

pub met_in-returns-in_ok-met-in-Each : goal.met_in-returns-in_ok-met-in-Each
met_in-returns-in_ok-met-in-Each g t c = λ bound only can.
    let out = ap out-IlPrem c.in-Each.is ∙ prem.outs-Each c.in-Each.how c.in-Each.names c.in-Each.body in
    c.in_ok-met-in-Each.ensures bound c.args.premise.now only
    (CanBeMet-parts c.args.setting.now.index.now bound c.args.variables.now c.args.premise.now can c.in-Each.how c.in-Each.names c.as_slice-names.result.now c.in-Each.body c.get.result.now out c.as_slice-names.ensures c.get.ensures)
