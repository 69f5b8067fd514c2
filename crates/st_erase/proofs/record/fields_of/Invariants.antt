use Rattle.std.proofs.Common.{◌≡◌, ◌-◌, length}
use Rattle.st_erase.specs.Records.{fields_of}
use Rattle.st_erase.proofs.record.fields_of.Given as goal

abbrev pub invariant-loop : goal.invariant-loop
invariant-loop l = fields_of (length l.defs - l.counter) l.defs l.name ≡ fields_of (length l.defs) l.defs l.fn.name
