use Rattle.std.proofs.Common.{◌≡◌, take}
use Rattle.st_order.specs.Known.{all_now}
use Rattle.st_algo.proofs.references.premises.Given as goal

abbrev pub invariant-loop-prem : goal.invariant-loop-prem
invariant-loop-prem l = all_now l.row ≡ take l.prem-index l.prems
