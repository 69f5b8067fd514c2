use Rattle.st_parse_faults.specs.inner.Seen.{SeenKept}
use Rattle.st_parse.specs.inner.Readers.{Runs}
use Rattle.st_parse.proofs.reader.read_tokens.Given as goal

abbrev pub invariant-tokens : goal.invariant-tokens
invariant-tokens g l = Runs g.R.Reader.Judges g.R.Reader.Takes l.names l.tokens l.fn.start l.fn.reader l.at l.known l.reader × SeenKept l.known
