use Rattle.std.proofs.Common.{◌≡◌, drop, find}
use Rattle.st_order.specs.inner.Arrow.{is_written}
use Rattle.st_order.proofs.arrow.sign_among.Given as goal

abbrev pub invariant-loop-sign : goal.invariant-loop-sign
invariant-loop-sign l = find (is_written l.text) l.signs ≡ find (is_written l.text) (drop l.sign-index l.signs)
