use Rattle.std.proofs.Common.{◌≡◌, map, take}
use Rattle.st_elab_def.specs.DeclsOf.{field_of}
use Rattle.st_elab_def.proofs.declared.fields_of.Given as goal

abbrev pub invariant-loop-field : goal.invariant-loop-field
invariant-loop-field l = l.out ≡ map field_of (take l.field-index l.fields)
