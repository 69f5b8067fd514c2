use Rattle.std.proofs.Common.{sym, subst}
use Rattle.st_scan.specs.inner.Readings.{Stops}
use Rattle.st_scan.proofs.TextReadings.{text_reading, text_stops}
use Rattle.st_scan.proofs.text.read_text.Goals as goal

pub returns-in-Quote : goal.returns-in-Quote
returns-in-Quote c = text_reading _ _ _ c.pieces.invariant.split c.pieces.invariant.right c.in-Quote.ensures

pub returns-in-Wrong : goal.returns-in-Wrong
returns-in-Wrong c = subst (Stops c.args.bytes.now) (sym c.text_fault.ensures) (text_stops _ c.pieces.text _ c.pieces.invariant.split c.pieces.invariant.right c.in-Wrong.ensures)
