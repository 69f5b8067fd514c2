use Rattle.std.proofs.Common.{◌≡◌, ◌++◌, map, take}
use Rattle.st_dims.specs.Mentions.{mentions_prem, seen_in}
use Rattle.st_dims.proofs.premise.mention_prems.Given as goal

abbrev pub invariant-loop-prem : goal.invariant-loop-prem
invariant-loop-prem l =
    l.mentions.items ≡ l.initial.mentions.items ++ seen_in (map mentions_prem (take l.prem-index l.prems)) l.within
