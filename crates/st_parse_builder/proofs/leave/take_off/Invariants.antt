use Rattle.std.proofs.Common.{◌≡◌, ◌≤◌, ◌++◌, length, reverse, min}
use Rattle.st_parse_builder.proofs.leave.take_off.Given as goal

abbrev pub invariant-tokens : goal.invariant-tokens
invariant-tokens l =
    (l.initial.seen ≡ l.seen ++ reverse l.behind) × (min l.from (length l.initial.seen) ≤ length l.seen)

abbrev pub decreases-tokens : goal.decreases-tokens
decreases-tokens l = length l.seen
