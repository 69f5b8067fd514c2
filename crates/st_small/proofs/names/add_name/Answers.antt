use Rattle.st_small.proofs.NameSets.{name_added}
use Rattle.st_small.proofs.names.add_name.Goals as goal

pub returns : goal.returns
returns c =
    name_added c.args.name c.args.names.now.keys c.insert.new.self.keys c.in_ok-insert.field-0
    c.in_ok-insert.ensures.added c.in_ok-insert.ensures.keys
