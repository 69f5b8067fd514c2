use Rattle.st_index.proofs.InsertionLemmas.{under-insert}
use Rattle.st_index.proofs.names.put.Goals as goal

pub returns-clause-more : goal.returns-clause-more
returns-clause-more g c = under-insert c.args.map.now.entries c.insert.new.self.entries c.args.name c.args.value c.in_ok-insert.ensures.entries
