use Rattle.st_type_table.proofs.InsertionLemmas.{under-insert}
use Rattle.st_type_table.proofs.definitions.put.Goals as goal

pub returns : goal.returns
returns c = under-insert c.args.index.now.entries c.insert.new.self.entries c.args.name c.args.number c.in_ok-insert.ensures.entries
