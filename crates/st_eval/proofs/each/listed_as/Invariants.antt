use Rattle.std.proofs.Common.{◌≡◌, drop}
use Rattle.st_semantics.specs.Environments.{listed_as}
use Rattle.st_eval.proofs.each.listed_as.Given as goal

abbrev pub invariant-loop-listed : goal.invariant-loop-listed
invariant-loop-listed l = listed_as l.name l.variables ≡ listed_as l.name (drop l.listed-index l.variables)
