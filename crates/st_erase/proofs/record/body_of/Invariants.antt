use Rattle.std.proofs.Common.{◌≡◌, drop}
use Rattle.st_erase.specs.Records.{body_of}
use Rattle.st_erase.proofs.record.body_of.Given as goal

abbrev pub invariant-loop-def : goal.invariant-loop-def
invariant-loop-def l = body_of l.name l.defs ≡ body_of l.name (drop l.def-index l.defs)
