use Rattle.st_il.proofs.OrderLaws.{values_cmp_order}
use Rattle.st_il.proofs.order.compare_values.Goals as goal

pub returns-clause-law : goal.returns-clause-law
returns-clause-law c = values_cmp_order
