use Rattle.std.proofs.Common.{drop}
use Rattle.st_ilcheck.specs.declared.contents.Contents.{Contents}
use Rattle.st_ilcheck.specs.inner.Contents.{joined, ArePremContents}
use Rattle.st_ilcheck.proofs.premise_contents.contents_of_premises.Given as goal

abbrev pub invariant-loop-premise : goal.invariant-loop-premise
invariant-loop-premise l = (c : Contents) → ArePremContents (drop l.premise-index l.premises) c → ArePremContents l.premises (joined l.found c)
