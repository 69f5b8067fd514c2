use Rattle.std.proofs.Common.{rules}
use Rattle.st_elab_def.proofs.NamesIn.{names-Name, names-Star, names-Quest, names-Tuple}
use Rattle.st_elab_def.proofs.names.+typ.Goals as goal

pub push_names-returns-in-Name : goal.push_names-returns-in-Name
push_names-returns-in-Name t c = rw (names-Name c.args.typ.now c.in-Name.name c.in-Name.is) c.push_name.ensures

pub push_names-returns-in-Star : goal.push_names-returns-in-Star
push_names-returns-in-Star t c = rw (names-Star c.args.typ.now c.in-Star.element c.in-Star.is) (search rules)

pub push_names-returns-in-Quest : goal.push_names-returns-in-Quest
push_names-returns-in-Quest t c = rw (names-Quest c.args.typ.now c.in-Quest.element c.in-Quest.is) (search rules)

pub push_names-returns-in-Tuple : goal.push_names-returns-in-Tuple
push_names-returns-in-Tuple t c = rw (names-Tuple c.args.typ.now c.in-Tuple.parts c.in-Tuple.is) (search rules)
