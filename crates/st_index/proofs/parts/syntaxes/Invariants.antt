use Rattle.std.proofs.Common.{◌≡◌, ◌++◌, drop}
use Rattle.st_il.specs.Definitions.{syntaxes_in}
use Rattle.st_index.specs.Names.{all_now}
use Rattle.st_index.proofs.parts.syntaxes.Given as goal

abbrev pub invariant-loop-definition : goal.invariant-loop-definition
invariant-loop-definition l = all_now l.syntaxes ++ syntaxes_in (drop l.definition-index l.defs) ≡ syntaxes_in l.defs
