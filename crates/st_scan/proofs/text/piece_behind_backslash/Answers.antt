use Rattle.st_scan.proofs.TextReadings.{escape_piece}
use Rattle.st_scan.proofs.text.piece_behind_backslash.Goals as goal

pub returns-in-Some-escape_of : goal.returns-in-Some-escape_of
returns-in-Some-escape_of c = escape_piece _ c.in-Some-escape_of.byte _ _ c.in-Some.ensures.cases.0 c.in-Some-escape_of.ensures
