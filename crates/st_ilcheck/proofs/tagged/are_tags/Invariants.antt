use Rattle.std.proofs.Common.{take}
use Rattle.std.specs.Prelude.{All}
use Rattle.st_ilcheck.specs.Declarations.{IsTag}
use Rattle.st_ilcheck.proofs.tagged.are_tags.Given as goal

abbrev pub invariant-loop-i : goal.invariant-loop-i
invariant-loop-i l = All IsTag (take l.i l.tags)
