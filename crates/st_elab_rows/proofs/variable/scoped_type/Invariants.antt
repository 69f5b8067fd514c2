use Rattle.std.proofs.Common.{◌≡◌, drop, map}
use Rattle.std.specs.Map.{lookup}
use Rattle.st_num.specs.Names.{same_name}
use Rattle.st_elab_table.specs.Inferred.{entry_of}
use Rattle.st_elab_rows.proofs.variable.scoped_type.Given as goal

abbrev pub invariant-loop-variable : goal.invariant-loop-variable
invariant-loop-variable l = lookup (same_name l.name) (map entry_of l.variables) ≡ lookup (same_name l.name) (map entry_of (drop l.variable-index l.variables))
