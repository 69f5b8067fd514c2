use Rattle.std.proofs.Common.{length}
use Rattle.st_text.proofs.Content.{SoFar}
use Rattle.st_text.proofs.quote.read_content.Given as goal

abbrev pub invariant-content : goal.invariant-content
invariant-content l = SoFar l.bytes l.found l.rest

abbrev pub decreases-content : goal.decreases-content
decreases-content l = length l.rest
