use Rattle.std.proofs.Common.{◌∙◌}
use Rattle.st_dims.proofs.Shortest.{lookup_same}
use Rattle.st_dims.proofs.table.chain_of.Goals as goal

pub returns : goal.returns
returns c = c.get.ensures.value ∙ lookup_same c.args.name.now c.args.shortest.now.entries
