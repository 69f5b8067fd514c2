use Rattle.std.proofs.Common.{refl}
use Rattle.st_text.proofs.Wholes.{row_part, some_left}
use Rattle.st_text.proofs.read.read_row.Goals as goal

pub returns-then-not-is_empty : goal.returns-then-not-is_empty
returns-then-not-is_empty c = (refl, row_part _ _ _ c.in_ok-trees.ensures (some_left _ _ c.is_empty.ensures c.if-not-is_empty.true))
