use Rattle.std.proofs.Common.{refl}
use Rattle.st_commands.specs.Searches.{next_depth}
use Rattle.st_commands.proofs.searches.next_depth.Goals as goal

pub returns : goal.returns
unfolding next_depth
returns c = refl
