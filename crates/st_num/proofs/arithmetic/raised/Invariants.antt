use Rattle.std.proofs.Common.{◌≡◌, ◌*◌, ◌^◌, ◌<◌}
use Rattle.st_num.proofs.arithmetic.raised.Given as goal

-- what is done times what is left is the power, and a square that is not zero left no zero behind
abbrev pub invariant-loop-left : goal.invariant-loop-left
invariant-loop-left l = record {
  whole : l.done * l.square ^ l.left ≡ l.base ^ l.exponent;
  positive : 0 < l.square → 0 < l.done;
  small : l.done < 2 ^ 128;
}

abbrev pub decreases-loop-left : goal.decreases-loop-left
decreases-loop-left l = l.left
