use Rattle.std.proofs.Common.{◌≡◌, true, sym, subst, ◌+◌, take}
use Rattle.st_il.specs.declared.expression.IlExp.{IlExp}
use Rattle.st_semantics.specs.declared.outcome.Outcome.TheVariants.{Deep}
use Rattle.st_il.specs.Definitions.{syntaxes}
use Rattle.st_semantics.specs.Calls.{ValueAt}
use Rattle.st_match.specs.inner.Scope.{scope_env}
use Rattle.st_match.proofs.FitAll.{formed_at}
use Rattle.st_search.specs.inner.Holes.{is_evaluated, IsHole, AreHoles, HasDeepHole}
use Rattle.st_search.proofs.Sequences.{AllZip-step, StopsIf-at, stops_again}
use Rattle.st_search.proofs.holes.holes_of.Goals as goal

pub hole_of-requires-clause-formed : goal.hole_of-requires-clause-formed
hole_of-requires-clause-formed c = formed_at (syntaxes c.args.search.now.setting.index.now) c.args.exps.now c.loop-exp.exp-index c.exp-item.result c.loop-exp-test.true c.exp-item.is c.requires.formed

pub returns-in_err-hole-clause-stops : goal.returns-in_err-hole-clause-stops
returns-in_err-hole-clause-stops c =
    stops_again (HasDeepHole c.args.search.now.setting.index.now c.args.search.now.setting.depth (scope_env c.args.scope.now) c.args.which c.args.exps.now) _ c.in_err-hole.field-0.0 c.from_residual.ensures.1
    (StopsIf-at (λ (e : IlExp). (is_evaluated c.args.which e ≡ true) × ValueAt c.args.search.now.setting.index.now c.args.search.now.setting.depth (scope_env c.args.scope.now) e Deep) c.args.exps.now c.loop-exp.exp-index c.exp-item.result c.loop-exp-test.true c.exp-item.is
    c.in_err-hole.field-0.0 c.in_err-hole.ensures.stops)

pub loop-exp-preserved : goal.loop-exp-preserved
loop-exp-preserved c =
    subst (AreHoles c.args.search.now.setting.index.now c.args.search.now.setting.depth (scope_env c.args.scope.now) c.args.which (take (c.loop-exp.exp-index + 1) c.args.exps.now)) (sym c.in_ok-push.ensures.ok)
    (AllZip-step (IsHole c.args.search.now.setting.index.now c.args.search.now.setting.depth (scope_env c.args.scope.now) c.args.which) c.args.exps.now c.loop-exp.exp-index c.exp-item.result c.loop-exp.holes c.in_ok-hole.hole c.loop-exp-test.true c.exp-item.is
    c.loop-exp.invariant c.in_ok-hole.ensures.found)
