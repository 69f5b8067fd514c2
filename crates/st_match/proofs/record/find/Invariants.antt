use Rattle.std.proofs.Common.{◌≡◌, drop}
use Rattle.st_semantics.specs.Environments.{lookup}
use Rattle.st_match.proofs.record.find.Given as goal

abbrev pub invariant-loop-field : goal.invariant-loop-field
invariant-loop-field l = lookup l.name l.fields ≡ lookup l.name (drop l.field-index l.fields)
