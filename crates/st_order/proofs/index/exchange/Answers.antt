use Rattle.st_type_table.proofs.InsertionLemmas.{under-insert}
use Rattle.st_order.proofs.index.exchange.Goals as goal

pub returns-clause-put : goal.returns-clause-put
returns-clause-put g c = under-insert c.args.map.now.entries c.insert.new.self.entries c.args.name c.args.value c.in_ok-insert.ensures.entries
