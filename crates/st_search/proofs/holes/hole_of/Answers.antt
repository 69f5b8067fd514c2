use Rattle.std.proofs.Common.{rules, ◌≡◌, true, subst}
use Rattle.st_semantics.specs.Calls.{ValueAt}
use Rattle.st_match.specs.inner.Scope.{scope_env}
use Rattle.st_search.specs.inner.Holes.{is_evaluated}
use Rattle.st_search.proofs.holes.hole_of.Goals as goal

pub returns-in-Val-clause-found : goal.returns-in-Val-clause-found
returns-in-Val-clause-found c =
    let e : is_evaluated c.args.which c.args.exp.now ≡ true = search rules in
    (e, subst (ValueAt c.args.search.now.setting.index.now c.args.search.now.setting.depth (scope_env c.args.scope.now) c.args.exp.now) c.in-Val.is c.in_ok-outcome.ensures)

pub returns-in-NoValue-clause-found : goal.returns-in-NoValue-clause-found
returns-in-NoValue-clause-found c =
    let e : is_evaluated c.args.which c.args.exp.now ≡ true = search rules in
    (e, subst (ValueAt c.args.search.now.setting.index.now c.args.search.now.setting.depth (scope_env c.args.scope.now) c.args.exp.now) c.in-NoValue.is c.in_ok-outcome.ensures)

pub returns-in-Deep-clause-stops : goal.returns-in-Deep-clause-stops
returns-in-Deep-clause-stops c =
    let e : is_evaluated c.args.which c.args.exp.now ≡ true = search rules in
    (e, subst (ValueAt c.args.search.now.setting.index.now c.args.search.now.setting.depth (scope_env c.args.scope.now) c.args.exp.now) c.in-Deep.is c.in_ok-outcome.ensures)
