use Rattle.st_index.proofs.InsertionLemmas.{under-insert}
use Rattle.st_index.proofs.GroupParts.{emptied}
use Rattle.st_index.proofs.groups.take.Goals as goal

pub returns-in-Some-clause-rest : goal.returns-in-Some-clause-rest
returns-in-Some-clause-rest g c q =
    emptied c.args.groups.now.entries c.insert.new.self.entries c.args.name.now c.new.result q
    (under-insert c.args.groups.now.entries c.insert.new.self.entries c.args.name c.new.result c.in_ok-old.ensures.entries q) c.new.ensures

pub returns-in-None-clause-rest : goal.returns-in-None-clause-rest
returns-in-None-clause-rest g c q =
    emptied c.args.groups.now.entries c.insert.new.self.entries c.args.name.now c.new.result q
    (under-insert c.args.groups.now.entries c.insert.new.self.entries c.args.name c.new.result c.in_ok-old.ensures.entries q) c.new.ensures
