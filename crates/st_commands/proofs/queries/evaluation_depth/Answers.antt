use Rattle.std.proofs.Common.{refl}
use Rattle.st_commands.specs.Queries.{evaluation_depth}
use Rattle.st_commands.proofs.queries.evaluation_depth.Goals as goal

pub returns : goal.returns
unfolding evaluation_depth
returns c = refl
