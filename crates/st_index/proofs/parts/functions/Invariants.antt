use Rattle.std.proofs.Common.{◌≡◌, ◌++◌, drop}
use Rattle.st_il.specs.Definitions.{funs_in}
use Rattle.st_index.specs.Names.{all_now}
use Rattle.st_index.proofs.parts.functions.Given as goal

abbrev pub invariant-loop-definition : goal.invariant-loop-definition
invariant-loop-definition l = all_now l.functions ++ funs_in (drop l.definition-index l.defs) ≡ funs_in l.defs
