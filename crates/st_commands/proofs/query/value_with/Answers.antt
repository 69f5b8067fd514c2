use Rattle.st_commands.proofs.Evaluations.{types_are, formed_are}
use Rattle.st_commands.proofs.query.value_with.Goals as goal

pub closed_value-requires-clause-types : goal.closed_value-requires-clause-types
closed_value-requires-clause-types c = types_are c.args.il.now c.args.decls.now c.requires.decls

pub closed_value-requires-clause-formed : goal.closed_value-requires-clause-formed
closed_value-requires-clause-formed c = formed_are c.args.il.now c.args.decls.now c.args.query.now c.requires.decls c.requires.formed
