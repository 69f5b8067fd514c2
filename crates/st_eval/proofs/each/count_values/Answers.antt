use Rattle.std.proofs.Common.{sym, subst, filter}
use Rattle.st_il.specs.declared.expression.IlExp.{IlExp}
use Rattle.st_semantics.specs.declared.outcome.Outcomes.TheVariants.{Values}
use Rattle.st_il.specs.Names.{all_known}
use Rattle.st_il.specs.Definitions.{syntaxes}
use Rattle.st_semantics.specs.Iterations.{count_of}
use Rattle.st_semantics.specs.Evaluation.{GivesAll, tasks}
use Rattle.st_semantics.specs.Variables.{vars}
use Rattle.st_semantics.specs.Depth.{bound_count}
use Rattle.st_semantics.specs.Calls.{CallAt}
use Rattle.st_match.specs.inner.Scope.{scope_env}
use Rattle.st_eval.specs.inner.Known.{names_now}
use Rattle.st_eval.proofs.Counts.{bound_count-none, one_formed}
use Rattle.st_eval.proofs.each.count_values.Goals as goal

pub value_known-requires-clause-formed : goal.value_known-requires-clause-formed
value_known-requires-clause-formed g c = one_formed (syntaxes c.args.setting.now.index.now) (count_of c.args.how.now) c.in-Some.exp.now c.in-Some.ensures c.requires.formed

pub returns-in-None : goal.returns-in-None
returns-in-None g c =
    let defs = syntaxes c.args.setting.now.index.now in
    let C = CallAt c.args.setting.now.index.now c.args.setting.now.depth in
    subst (λ z. GivesAll defs C (tasks (scope_env c.args.scope.now) (bound_count (names_now c.args.known.now) c.args.how.now)) (Values z)) (sym c.new.ensures)
    (bound_count-none defs C (names_now c.args.known.now) (scope_env c.args.scope.now) c.args.how.now c.in-None.ensures)

pub returns-in_ok-outcomes-in-Some : goal.returns-in_ok-outcomes-in-Some
returns-in_ok-outcomes-in-Some g c =
    subst (λ z. GivesAll (syntaxes c.args.setting.now.index.now) (CallAt c.args.setting.now.index.now c.args.setting.now.depth) (tasks (scope_env c.args.scope.now) (filter (λ (e : IlExp). all_known (names_now c.args.known.now) (vars e)) z)) c.in_ok-outcomes-in-Some.outcomes)
    (sym c.in-Some.ensures) c.in_ok-outcomes-in-Some.ensures
