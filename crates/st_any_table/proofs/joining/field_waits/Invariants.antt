use Rattle.std.proofs.Common.{◌≡◌, take}
use Rattle.st_type_table.specs.inner.JoinGraph.{field_waits}
use Rattle.st_any_table.proofs.joining.field_waits.Given as goal

abbrev pub invariant-loop-field : goal.invariant-loop-field
invariant-loop-field l = l.positions ≡ field_waits l.defs (take l.field-index l.fields)
