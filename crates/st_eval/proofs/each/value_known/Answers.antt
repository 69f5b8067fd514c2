use Rattle.std.proofs.Common.{sym, ◌∙◌, subst}
use Rattle.st_semantics.specs.declared.outcome.Outcomes.TheVariants.{Values}
use Rattle.st_il.specs.Definitions.{syntaxes}
use Rattle.st_semantics.specs.Evaluation.{GivesAll, tasks}
use Rattle.st_semantics.specs.Variables.{vars}
use Rattle.st_semantics.specs.Calls.{CallAt}
use Rattle.st_match.specs.inner.Scope.{scope_env}
use Rattle.st_eval.specs.inner.Known.{names_now}
use Rattle.st_eval.specs.inner.Gathered.{bound_one}
use Rattle.st_eval.proofs.Counts.{bound_one-unknown, bound_one-known}
use Rattle.st_eval.proofs.Lookups.{entries_among-agrees}
use Rattle.st_eval.proofs.each.value_known.Goals as goal

pub returns-then-not-bound : goal.returns-then-not-bound
returns-then-not-bound g c =
    let defs = syntaxes c.args.setting.now.index.now in
    let C = CallAt c.args.setting.now.index.now c.args.setting.now.depth in
    subst (λ z. GivesAll defs C (tasks (scope_env c.args.scope.now) (bound_one (names_now c.args.known.now) c.args.exp.now)) (Values z)) (sym c.new.ensures)
    (bound_one-unknown defs C (names_now c.args.known.now) (scope_env c.args.scope.now) c.args.exp.now (sym c.in_ok-bound.ensures ∙ c.if-not-bound.true))

pub returns : goal.returns
returns g c =
    let defs = syntaxes c.args.setting.now.index.now in
    let C = CallAt c.args.setting.now.index.now c.args.setting.now.depth in
    subst (GivesAll defs C (tasks (scope_env c.args.scope.now) (bound_one (names_now c.args.known.now) c.args.exp.now))) (sym c.in_ok-outcomes.ensures)
    (bound_one-known defs C (names_now c.args.known.now) (scope_env c.args.scope.now) c.args.exp.now c.in_ok-env.env c.in_ok-outcome.outcome
    (sym c.in_ok-bound.ensures ∙ c.if-not-bound.false) (entries_among-agrees (scope_env c.args.scope.now) c.in_ok-env.env (vars c.args.exp.now) c.in_ok-env.ensures) c.in_ok-outcome.ensures)
