use Rattle.std.proofs.Common.{◌≡◌, map, drop}
use Rattle.st_iltext.specs.Written.{follow}
use Rattle.st_ilread.proofs.name.are_in_order.Given as goal

abbrev pub invariant-loop-name : goal.invariant-loop-name
invariant-loop-name l = follow l.initial.before (map (λ x. x) l.others) ≡ follow l.before (map (λ x. x) (drop l.name-index l.others))
