use Rattle.std.proofs.Common.{◌≡◌, ◌++◌, length}
use Rattle.std.specs.List.{AllByRecursion}
use Rattle.st_il.specs.Template.{IsTagPart}
use Rattle.st_il.proofs.TagParts.{led}
use Rattle.st_il.proofs.tag_part.tag_parts.Given as goal

abbrev pub invariant-parts : goal.invariant-parts
invariant-parts l = record { parts : AllByRecursion IsTagPart l.parts; led : led l.parts ++ l.rest ≡ l.tag }

abbrev pub decreases-parts : goal.decreases-parts
decreases-parts l = length l.rest
