use Rattle.std.proofs.Common.{refl, sym}
use Rattle.st_parse_faults.specs.inner.Folding.{nothing_seen}
use Rattle.st_parse.proofs.Taking.{starts}
use Rattle.st_parse.proofs.Fronts.{found_read}
use Rattle.st_parse.proofs.parser.read_all.Goals as goal

pub returns : goal.returns
returns c = λ names begins.
    found_read c.args.tokens.now c.args.names.now c.in_ok-start.start c.args.reader.now c.in_ok-reached.reached.progress c.in_ok-reached.reached.fault c.read_tokens.new.reader c.stop.new.kept names
    (nothing_seen, refl, sym c.in_ok-start.ensures.value, starts c.args.reader.now begins)
    c.in_ok-reached.ensures c.in_ok-stop.ensures.whole c.in_ok-stop.ensures.cut
