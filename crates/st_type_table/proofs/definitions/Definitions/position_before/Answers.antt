use Rattle.std.proofs.Common.{sym}
use Rattle.st_type_table.proofs.IndexLemmas.{before-within, before-behind, before-none}
use Rattle.st_type_table.proofs.definitions.Definitions.position_before.Goals as goal

pub returns-then-position-number : goal.returns-then-position-number
returns-then-position-number c = before-within c.args.self.now c.args.number c.args.name.now c.in-Some.position (sym c.in-Some.ensures) c.if-position-number.true

pub returns-else-position-number : goal.returns-else-position-number
returns-else-position-number c = before-behind c.args.self.now c.args.number c.args.name.now c.in-Some.position (sym c.in-Some.ensures) c.if-position-number.false

pub returns-in-None : goal.returns-in-None
returns-in-None c = before-none c.args.self.now c.args.number c.args.name.now (sym c.in-None.ensures)
