use Rattle.st_parse_faults.specs.inner.Seen.{SeenKept}
use Rattle.st_parse_faults.proofs.Loop.{Passes}
use Rattle.st_parse_faults.proofs.reader.read_tokens.Given as goal

abbrev pub invariant-tokens : goal.invariant-tokens
invariant-tokens l = Passes l.tokens l.at l.seen × SeenKept l.seen
