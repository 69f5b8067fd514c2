use Rattle.std.proofs.Common.{◌↔◌}
use Rattle.st_type_table.specs.Sub.{Sub}
use Rattle.st_type_table.proofs.Measure.{measure}
use Rattle.st_types.proofs.sub.is_below.Given as goal

abbrev pub invariant-levels : goal.invariant-levels
invariant-levels l = Sub l.table l.low l.high ↔ Sub l.table l.lower l.upper

abbrev pub decreases-levels : goal.decreases-levels
decreases-levels l = measure l.table l.low
