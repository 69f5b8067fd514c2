use Rattle.std.proofs.Common.{◌+◌, drop, max}
use Rattle.st_semantics.specs.Iterations.{count_of}
use Rattle.st_ilcheck.specs.declared.contents.Contents.{Contents}
use Rattle.st_ilcheck.specs.inner.Contents.{joined, AreContents}
use Rattle.st_semantics.specs.References.{exps_now}
use Rattle.st_semantics.specs.inner.Weight.{weight, heaviest}
use Rattle.st_ilcheck.proofs.contents.+contents.Given as goal

abbrev pub decreases-contents_of : goal.decreases-contents_of
decreases-contents_of l = weight l.exp.now

abbrev pub decreases-contents_in : goal.decreases-contents_in
decreases-contents_in l = 1 + heaviest (exps_now l.exps.now)

abbrev pub decreases-in_iteration : goal.decreases-in_iteration
decreases-in_iteration l = 2 + max (heaviest (count_of l.how.now)) (weight l.body.now)

abbrev pub invariant-contents_in-loop-i : goal.invariant-contents_in-loop-i
invariant-contents_in-loop-i l = (c : Contents) → AreContents (exps_now (drop l.i l.exps)) c → AreContents (exps_now l.exps) (joined l.found c)
