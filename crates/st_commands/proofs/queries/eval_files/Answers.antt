use Rattle.std.proofs.Common.{subst}
use Rattle.st_source.specs.inner.Specifying.{Specifies}
use Rattle.st_commands.proofs.Evaluations.{says_specified, says_refused}
use Rattle.st_commands.proofs.queries.eval_files.Goals as goal

pub returns-in-Accepted : goal.returns-in-Accepted
returns-in-Accepted c =
    says_specified c.args.names.now c.args.files.now c.args.query.now c.in-Accepted.definitions c.in-Accepted.elaborated c.in-Accepted.modes c.evaluation_depth.result c.answer_query.result
    (subst (Specifies c.args.names.now c.args.files.now) c.in-Accepted.is c.in_ok-specification.ensures) c.evaluation_depth.ensures c.answer_query.ensures

pub returns : goal.returns
returns c =
    says_refused c.args.names.now c.args.files.now c.args.query.now c.in-Refused.answer (subst (Specifies c.args.names.now c.args.files.now) c.in-Refused.is c.in_ok-specification.ensures)
