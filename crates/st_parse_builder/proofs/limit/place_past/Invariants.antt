use Rattle.std.proofs.Common.{take}
use Rattle.st_parse_builder.specs.Variables.{occurrences}
use Rattle.st_parse_builder.specs.inner.Counting.{spelled, Knows}
use Rattle.st_parse_builder.proofs.limit.place_past.Given as goal

abbrev pub invariant-tokens : goal.invariant-tokens
invariant-tokens l = Knows l.limit (occurrences (take l.token-index l.seen)) (spelled l.names.keys)
