use Rattle.std.proofs.Common.{take}
use Rattle.st_deps.specs.inner.Ranks.{AreMet}
use Rattle.st_deps.proofs.ranks.ranks_of.Given as goal

abbrev pub invariant-loop-number : goal.invariant-loop-number
invariant-loop-number l = AreMet (take l.number-index l.numbers) l.met.keys l.ranks.items
