use Rattle.std.proofs.Common.{take}
use Rattle.st_source.specs.Faults.{AllTokens}
use Rattle.st_source.proofs.specification.scan_all.Given as goal

abbrev pub invariant-loop-number : goal.invariant-loop-number
invariant-loop-number l = AllTokens 0 (take l.number l.files) l.tokens.items
