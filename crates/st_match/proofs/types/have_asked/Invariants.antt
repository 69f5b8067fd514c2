use Rattle.std.proofs.Common.{take}
use Rattle.std.specs.List.{All}
use Rattle.st_match.specs.inner.Types.{HasAsked}
use Rattle.st_match.proofs.types.have_asked.Given as goal

abbrev pub invariant-loop-one : goal.invariant-loop-one
invariant-loop-one l = All (HasAsked l.types l.env) (take l.one-index l.asked)
