use Rattle.std.proofs.Common.{subst}
use Rattle.st_semantics.specs.declared.outcome.Outcome.TheVariants.{NoValue, Deep}
use Rattle.st_il.specs.Definitions.{syntaxes}
use Rattle.st_semantics.specs.Calls.{CallAt, ValueAt}
use Rattle.st_match.specs.inner.Scope.{scope_env}
use Rattle.st_match.proofs.FitAll.{formed_at}
use Rattle.st_search.proofs.EachValue.{behind_next, behind_stop, behind_end}
use Rattle.st_search.proofs.holes.values_of.Goals as goal

pub outcome_in-requires-clause-formed : goal.outcome_in-requires-clause-formed
outcome_in-requires-clause-formed c = formed_at (syntaxes c.args.search.now.setting.index.now) c.args.exps.now c.loop-exp.exp-index c.exp-item.result c.loop-exp-test.true c.exp-item.is c.requires.formed

pub loop-exp-preserved : goal.loop-exp-preserved
loop-exp-preserved c =
    behind_next (syntaxes c.args.search.now.setting.index.now) (CallAt c.args.search.now.setting.index.now c.args.search.now.setting.depth) (scope_env c.args.scope.now) c.args.exps.now c.loop-exp.exp-index c.exp-item.result c.loop-exp-test.true c.exp-item.is c.loop-exp.values
    c.loop-exp.invariant c.in-Val.value _
    (subst (ValueAt c.args.search.now.setting.index.now c.args.search.now.setting.depth (scope_env c.args.scope.now) c.exp-item.result) c.in-Val.is c.in_ok-outcome.ensures) c.in_ok-push-in-Val.ensures.ok

pub returns-in-NoValue : goal.returns-in-NoValue
returns-in-NoValue c =
    behind_stop (syntaxes c.args.search.now.setting.index.now) (CallAt c.args.search.now.setting.index.now c.args.search.now.setting.depth) (scope_env c.args.scope.now) c.args.exps.now c.loop-exp.exp-index c.exp-item.result c.loop-exp-test.true c.exp-item.is c.loop-exp.values
    c.loop-exp.invariant NoValue
    (subst (ValueAt c.args.search.now.setting.index.now c.args.search.now.setting.depth (scope_env c.args.scope.now) c.exp-item.result) c.in-NoValue.is c.in_ok-outcome.ensures) tt

pub returns-in-Deep : goal.returns-in-Deep
returns-in-Deep c =
    behind_stop (syntaxes c.args.search.now.setting.index.now) (CallAt c.args.search.now.setting.index.now c.args.search.now.setting.depth) (scope_env c.args.scope.now) c.args.exps.now c.loop-exp.exp-index c.exp-item.result c.loop-exp-test.true c.exp-item.is c.loop-exp.values
    c.loop-exp.invariant Deep
    (subst (ValueAt c.args.search.now.setting.index.now c.args.search.now.setting.depth (scope_env c.args.scope.now) c.exp-item.result) c.in-Deep.is c.in_ok-outcome.ensures) tt

pub returns : goal.returns
returns c = behind_end (syntaxes c.args.search.now.setting.index.now) (CallAt c.args.search.now.setting.index.now c.args.search.now.setting.depth) (scope_env c.args.scope.now) c.args.exps.now c.loop-exp.exp-index c.loop-exp.values c.loop-exp-test.false c.loop-exp.invariant
