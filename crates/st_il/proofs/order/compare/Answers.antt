use Rattle.st_il.proofs.OrderLaws.{value_cmp_order}
use Rattle.st_il.proofs.order.compare.Goals as goal

pub returns-clause-law : goal.returns-clause-law
returns-clause-law c = value_cmp_order
