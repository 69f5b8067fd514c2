use Rattle.std.proofs.Common.{subst}
use Rattle.std.specs.Prelude.{IfOk}
use Rattle.st_semantics.specs.Formed.{IsFormed}
use Rattle.st_commands.proofs.Evaluations.{told_value, told_breach}
use Rattle.st_commands.proofs.query.eval_with.Goals as goal

pub value_with-requires-clause-formed : goal.value_with-requires-clause-formed
value_with-requires-clause-formed c = subst (λ r. IfOk r (λ x. IsFormed c.args.decls.now.types x)) c.in-Ok.is c.read_query.ensures.formed

pub returns-in-Ok : goal.returns-in-Ok
returns-in-Ok c =
    told_value c.args.il.now c.args.decls.now c.args.depth c.args.bytes.now c.read_query.result c.in-Ok.query c.value_with.result c.requires.decls c.in-Ok.is c.read_query.ensures.told
    c.value_with.ensures.value c.value_with.ensures.memory

pub returns-in-Err : goal.returns-in-Err
returns-in-Err c = told_breach c.args.il.now c.args.decls.now c.args.depth c.args.bytes.now c.read_query.result c.in-Err.fault c.requires.decls c.in-Err.is c.read_query.ensures.told
