use Rattle.std.proofs.Common.{drop}
use Rattle.st_ilcheck.specs.inner.Declared.{AreLeft}
use Rattle.st_ilcheck.proofs.declaring.declared_by.Given as goal

abbrev pub invariant-loop-def : goal.invariant-loop-def
invariant-loop-def l = AreLeft l.defs (drop l.def-index l.defs) l.declared
