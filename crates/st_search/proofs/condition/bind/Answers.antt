use Rattle.st_match.specs.inner.Scope.{scope_env}
use Rattle.st_search.proofs.ConditionRuns.{match_finds, no_side_finds, bind_stops}
use Rattle.st_search.proofs.condition.bind.Goals as goal

pub returns-in_ok-found-in-Val-clause-found : goal.returns-in_ok-found-in-Val-clause-found
returns-in_ok-found-in-Val-clause-found c =
    match_finds c.args.search.now c.requires.search c.args.variables.now (scope_env c.args.scope.now) c.args.pattern.now c.args.side.now c.in_ok-outcome.outcome c.in_ok-outcome.ensures c.in-Val.value c.in-Val.is _ c.in_ok-found-in-Val.ensures

pub returns-in-NoValue-clause-found : goal.returns-in-NoValue-clause-found
returns-in-NoValue-clause-found c =
    no_side_finds c.args.search.now c.requires.search c.args.variables.now (scope_env c.args.scope.now) c.args.pattern.now c.args.side.now c.in_ok-outcome.outcome c.in_ok-outcome.ensures c.in-NoValue.is _ c.new.ensures

pub returns-in-Deep-clause-stops : goal.returns-in-Deep-clause-stops
returns-in-Deep-clause-stops c =
    bind_stops c.args.search.now c.requires.search c.args.variables.now (scope_env c.args.scope.now) c.args.pattern.now c.args.side.now c.in_ok-outcome.outcome c.in_ok-outcome.ensures c.in-Deep.is
