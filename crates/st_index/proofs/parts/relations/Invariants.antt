use Rattle.std.proofs.Common.{◌≡◌, ◌++◌, drop}
use Rattle.st_il.specs.Definitions.{relations_in}
use Rattle.st_index.specs.Names.{all_now}
use Rattle.st_index.proofs.parts.relations.Given as goal

abbrev pub invariant-loop-definition : goal.invariant-loop-definition
invariant-loop-definition l = all_now l.relations ++ relations_in (drop l.definition-index l.defs) ≡ relations_in l.defs
