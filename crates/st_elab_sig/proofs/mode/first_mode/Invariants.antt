use Rattle.std.proofs.Common.{◌≡◌, filter, drop}
use Rattle.st_el.specs.Erasure.{is_mode}
use Rattle.st_elab_sig.proofs.mode.first_mode.Given as goal

abbrev pub invariant-loop-i : goal.invariant-loop-i
invariant-loop-i l = filter is_mode l.hints ≡ filter is_mode (drop l.i l.hints)
