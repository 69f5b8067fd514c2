use Rattle.st_match.specs.inner.Scope.{scope_env}
use Rattle.st_eval.proofs.FewBound.{few_can, few_met}
use Rattle.st_eval.proofs.meet.met_condition.Goals as goal

pub meet_condition-requires-clause-can : goal.meet_condition-requires-clause-can
meet_condition-requires-clause-can g c =
    few_can c.args.setting.now.index.now c.args.setting.now.depth c.args.variables.now (scope_env c.args.scope.now) c.args.exp.now c.in_ok-env.env c.in_ok-env.ensures
    c.requires.can.0 c.requires.can.1 c.requires.can.2

pub returns : goal.returns
returns g c = λ bound p is only can.
    few_met c.args.setting.now.index.now c.args.setting.now.depth c.args.variables.now (scope_env c.args.scope.now) c.args.exp.now c.in_ok-env.env c.in_ok-env.ensures c.in_ok-met.met
    c.in_ok-met.ensures bound p is only can
