use Rattle.std.proofs.Common.{sym, subst}
use Rattle.st_il.specs.Definitions.{syntaxes}
use Rattle.st_semantics.specs.Formed.{IsFormed}
use Rattle.st_semantics.specs.Evaluation.{Gives}
use Rattle.st_semantics.specs.Calls.{CallAt}
use Rattle.st_eval.proofs.Answered.{Gives-by}
use Rattle.st_eval.proofs.reading.value_of.Goals as goal

pub value-requires-clause-formed : goal.value-requires-clause-formed
value-requires-clause-formed g c = subst (λ z. IsFormed z c.args.exp.now) (sym c.requires.setting.types_are) c.requires.formed

pub returns : goal.returns
returns g c =
    Gives-by (syntaxes c.args.setting.now.index.now) (g.C.Caller.answers c.args.caller.now) (CallAt c.args.setting.now.index.now c.args.setting.now.depth) c.requires.answers.answers
    (subst (λ z. Gives z (g.C.Caller.answers c.args.caller.now) c.args.env.now c.args.exp.now c.in_ok-outcome.outcome) c.requires.setting.types_are c.in_ok-outcome.ensures)
