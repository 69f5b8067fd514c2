use Rattle.std.proofs.Common.{◌≡◌, false, take}
use Rattle.std.specs.List.{list_any}
use Rattle.st_dims.specs.Dimensions.{dimension_in}
use Rattle.st_dims.specs.Breaches.{is_longer}
use Rattle.st_dims.proofs.dimension.is_idle.Given as goal

abbrev pub invariant-loop-name : goal.invariant-loop-name
invariant-loop-name l =
    list_any (λ name. is_longer l.iteration.depth (dimension_in l.shortest.entries name)) (take l.name-index l.iteration.names) ≡ false
