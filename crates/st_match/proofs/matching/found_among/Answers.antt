use Rattle.st_match.proofs.FoundMatches.{AreSuited-begin, AreSuited-more, AreSuited-end, AreFound-once}
use Rattle.st_match.proofs.matching.found_among.Goals as goal

pub loop-candidate-init : goal.loop-candidate-init
loop-candidate-init c = AreSuited-begin c.args.sought.now c.args.candidates.now c.new-found.result c.new-found.ensures

pub loop-candidate-preserved : goal.loop-candidate-preserved
loop-candidate-preserved c =
    AreSuited-more c.args.sought.now c.args.candidates.now c.loop-candidate.found c.in_ok-found.found c.loop-candidate.candidate-index c.candidate-item.result c.loop-candidate-test.true c.candidate-item.is
    c.loop-candidate.invariant c.in_ok-found.ensures

pub returns : goal.returns
returns c =
    AreFound-once c.args.sought.now c.args.candidates.now c.loop-candidate.found c.each_once.result c.each_once.ensures
    (AreSuited-end c.args.sought.now c.args.candidates.now c.loop-candidate.found c.loop-candidate.candidate-index c.loop-candidate-test.false c.loop-candidate.invariant)
