use Rattle.std.proofs.Common.{◌≡◌, ◌++◌, length, reverse}
use Rattle.st_parse_builder.proofs.leave.put_back.Given as goal

abbrev pub invariant-tokens : goal.invariant-tokens
invariant-tokens l = l.initial.seen ++ reverse l.initial.behind ≡ l.seen ++ reverse l.behind

abbrev pub decreases-tokens : goal.decreases-tokens
decreases-tokens l = length l.behind
