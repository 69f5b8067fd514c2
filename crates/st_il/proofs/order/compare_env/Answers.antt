use Rattle.st_il.proofs.OrderLaws.{env_cmp_order}
use Rattle.st_il.proofs.order.compare_env.Goals as goal

pub returns-clause-law : goal.returns-clause-law
returns-clause-law c = env_cmp_order
