use Rattle.std.proofs.Common.{rules, ◌≡◌, true}
use Rattle.st_il.specs.declared.value.Value.TheVariants as variant
use Rattle.st_match.specs.inner.Scope.{scope_env}
use Rattle.st_search.proofs.ConditionRuns.{true_finds, untrue_finds, no_value_finds, test_stops}
use Rattle.st_search.proofs.condition.test.Goals as goal

pub returns-then-is_true-clause-found : goal.returns-then-is_true-clause-found
returns-then-is_true-clause-found c =
    let truth : c.in-Val.value ≡ variant.Bool true = search rules in
    true_finds c.args.search.now c.requires.search (scope_env c.args.scope.now) c.args.exp.now c.in_ok-outcome.outcome c.in_ok-outcome.ensures c.in-Val.value c.in-Val.is truth _ c.in_ok-found-in-Val.ensures

pub returns-in-Val-clause-found : goal.returns-in-Val-clause-found
returns-in-Val-clause-found c =
    let other : c.in-Val.value ≡ variant.Bool true → ⊥ = search rules in
    untrue_finds c.args.search.now c.requires.search (scope_env c.args.scope.now) c.args.exp.now c.in_ok-outcome.outcome c.in_ok-outcome.ensures c.in-Val.value c.in-Val.is other _ c.new.ensures

pub returns-in-NoValue-clause-found : goal.returns-in-NoValue-clause-found
returns-in-NoValue-clause-found c = no_value_finds c.args.search.now c.requires.search (scope_env c.args.scope.now) c.args.exp.now c.in_ok-outcome.outcome c.in_ok-outcome.ensures c.in-NoValue.is _ c.new-in-NoValue.ensures

pub returns-clause-stops : goal.returns-clause-stops
returns-clause-stops c = test_stops c.args.search.now c.requires.search (scope_env c.args.scope.now) c.args.exp.now c.in_ok-outcome.outcome c.in_ok-outcome.ensures c.in-Deep.is
