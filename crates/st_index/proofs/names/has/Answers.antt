use Rattle.std.proofs.Common.{◌∙◌, sym}
use Rattle.st_index.proofs.NamesIn.{has_name_in}
use Rattle.st_index.proofs.names.has.Goals as goal

pub returns : goal.returns
returns c = c.contains.ensures ∙ sym (has_name_in c.args.names.now.keys c.args.name.now)
