use Rattle.std.proofs.Common.{◌≡◌, drop}
use Rattle.st_il.specs.Names.{has_name}
use Rattle.st_ilcheck.specs.Variables.{names_of}
use Rattle.st_ilcheck.proofs.variables.is_among.Given as goal

abbrev pub invariant-loop-occurrence : goal.invariant-loop-occurrence
invariant-loop-occurrence l = has_name (names_of l.occurrences) l.name ≡ has_name (names_of (drop l.occurrence-index l.occurrences)) l.name
