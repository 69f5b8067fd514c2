use Rattle.std.proofs.Common.{sym, ◌∙◌}
use Rattle.st_eval.specs.inner.Known.{names_now}
use Rattle.st_eval.proofs.Counts.{variable_is, variable_known, variable_free}
use Rattle.st_eval.proofs.each.unknown_variable.Goals as goal

pub returns-in_default : goal.returns-in_default
returns-in_default c = λ x is free. c.in_default.not-Var x (variable_is c.args.exp.now x is)

pub returns-then-is_known : goal.returns-then-is_known
returns-then-is_known c = variable_known (names_now c.args.known.now) c.args.exp.now c.in-Var.name c.in-Var.is (sym c.is_known.ensures ∙ c.if-is_known.true)

pub returns-else-is_known : goal.returns-else-is_known
returns-else-is_known c = variable_free (names_now c.args.known.now) c.args.exp.now c.in-Var.name c.in-Var.is (sym c.is_known.ensures ∙ c.if-is_known.false)
