use Rattle.st_scan.proofs.TextReadings.{plain_piece}
use Rattle.st_scan.proofs.text.piece_at.Goals as goal

pub returns-else-byte-lt32 : goal.returns-else-byte-lt32
returns-else-byte-lt32 c = plain_piece c.in-Some.byte.now _ _ c.in-Some.ensures.cases.0 c.if-byte-eq34.false c.if-byte-eq92.false c.if-byte-lt32.false
