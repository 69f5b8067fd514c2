use Rattle.st_il.specs.Definitions.{syntaxes}
use Rattle.st_semantics.specs.Calls.{CallAt}
use Rattle.st_semantics.specs.Variables.{vars}
use Rattle.st_semantics.proofs.Agree.{Gives-agree}
use Rattle.st_match.specs.inner.Scope.{scope_env}
use Rattle.st_eval.proofs.Lookups.{entries_among-agrees}
use Rattle.st_search.proofs.holes.outcome_in.Goals as goal

pub returns : goal.returns
returns c =
    Gives-agree (syntaxes c.args.search.now.setting.index.now) (CallAt c.args.search.now.setting.index.now c.args.search.now.setting.depth) c.in_ok-outcome.ensures (scope_env c.args.scope.now)
    (entries_among-agrees (scope_env c.args.scope.now) c.in_ok-env.env (vars c.args.exp.now) c.in_ok-env.ensures)
