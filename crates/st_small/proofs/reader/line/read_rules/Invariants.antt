use Rattle.std.proofs.Common.{length}
use Rattle.st_small.specs.SmallText.{rule_line}
use Rattle.st_small.specs.inner.SmallForm.{IsRuleOfWords}
use Rattle.st_small.proofs.ReaderRows.{IsRead}
use Rattle.st_small.proofs.ReaderLines.{IsNothing}
use Rattle.st_small.proofs.reader.line.read_rules.Given as goal

abbrev pub invariant-loop-rest : goal.invariant-loop-rest
invariant-loop-rest l = IsRead (rule_line l.relation) IsRuleOfWords IsNothing l.bytes l.rules l.rest

abbrev pub decreases-loop-rest : goal.decreases-loop-rest
decreases-loop-rest l = length l.rest
