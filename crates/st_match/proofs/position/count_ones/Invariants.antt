use Rattle.std.proofs.Common.{◌≡◌, ◌+◌, ◌≤◌, drop}
use Rattle.st_match.specs.inner.Positions.{ones}
use Rattle.st_match.proofs.position.count_ones.Given as goal

abbrev pub invariant-loop-item : goal.invariant-loop-item
invariant-loop-item l = record {
  counted : l.count + ones (drop l.item-index l.items) ≡ ones l.items;
  few : l.count ≤ l.item-index;
}
