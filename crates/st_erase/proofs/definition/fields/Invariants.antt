use Rattle.std.proofs.Common.{◌≡◌, map, take}
use Rattle.st_erase.specs.Definitions.{erased_field}
use Rattle.st_erase.proofs.definition.fields.Given as goal

abbrev pub invariant-loop-field : goal.invariant-loop-field
invariant-loop-field l = l.found ≡ map erased_field (take l.field-index l.fields)
