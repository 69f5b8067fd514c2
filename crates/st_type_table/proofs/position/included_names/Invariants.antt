use Rattle.std.proofs.Common.{◌≡◌, take}
use Rattle.std.specs.List.{flat_map}
use Rattle.st_type_table.specs.Leads.{included}
use Rattle.st_type_table.proofs.position.included_names.Given as goal

abbrev pub invariant-loop-alternative : goal.invariant-loop-alternative
invariant-loop-alternative l = l.names ≡ flat_map included (take l.alternative-index l.alternatives)
