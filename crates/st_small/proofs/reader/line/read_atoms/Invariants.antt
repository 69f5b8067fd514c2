use Rattle.std.proofs.Common.{length}
use Rattle.st_il.specs.Small.{IsUpper, IsWordOf}
use Rattle.st_small.specs.SmallText.{alternative_text}
use Rattle.st_small.proofs.ReaderRows.{IsRead}
use Rattle.st_small.proofs.ReaderLines.{IsLineEnd}
use Rattle.st_small.proofs.reader.line.read_atoms.Given as goal

abbrev pub invariant-loop-alternative : goal.invariant-loop-alternative
invariant-loop-alternative l = IsRead alternative_text (IsWordOf IsUpper) IsLineEnd l.bytes l.atoms l.rest

abbrev pub decreases-loop-alternative : goal.decreases-loop-alternative
decreases-loop-alternative l = length l.rest
