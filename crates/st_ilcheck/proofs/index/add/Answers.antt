use Rattle.st_type_table.proofs.InsertionLemmas.{has-insert}
use Rattle.st_ilcheck.proofs.index.add.Goals as goal

pub returns-clause-more : goal.returns-clause-more
returns-clause-more c = has-insert c.args.names.now.keys c.insert.new.self.keys c.args.name c.in_ok-insert.ensures.keys
