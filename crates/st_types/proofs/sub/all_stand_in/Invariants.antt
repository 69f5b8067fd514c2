use Rattle.std.proofs.Common.{◌↔◌, drop}
use Rattle.st_type_table.specs.Sub.{AllStandIn}
use Rattle.st_types.proofs.sub.all_stand_in.Given as goal

abbrev pub invariant-loop-case : goal.invariant-loop-case
invariant-loop-case l = AllStandIn l.table (drop l.case-index l.lower) l.upper ↔ AllStandIn l.table l.lower l.upper
