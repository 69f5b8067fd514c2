use Rattle.std.proofs.Common.{◌≡◌, map, drop, nat_le}
use Rattle.st_il.specs.Height.{highest}
use Rattle.st_il.specs.Template.{template_height}
use Rattle.st_il.proofs.template.+height.Given as goal

abbrev pub invariant-are_within-loop-part : goal.invariant-are_within-loop-part
invariant-are_within-loop-part l = nat_le (highest (map template_height l.parts)) l.limit ≡ nat_le (highest (map template_height (drop l.part-index l.parts))) l.limit
