use Rattle.std.proofs.Common.{ap, sym, ◌∙◌, not}
use Rattle.st_index.proofs.NamesIn.{keys-insert, has_name_in}
use Rattle.st_index.proofs.names.add.Goals as goal

pub returns-clause-added : goal.returns-clause-added
returns-clause-added c = c.in_ok-insert.ensures.added ∙ ap not (sym (has_name_in c.args.names.now.keys c.args.name.now))

pub returns-clause-more : goal.returns-clause-more
returns-clause-more c = keys-insert c.args.names.now.keys c.insert.new.self.keys c.args.name c.in_ok-insert.ensures.keys
