use Rattle.st_match.proofs.AreRows.{product-only}
use Rattle.st_match.proofs.rows.product.Goals as goal

pub returns : goal.returns
returns c = product-only c.args.rows c.in_ok-longer.longer c.args.envs.now c.index-envs-0.result c.if-envs-ne1.false c.index-envs-0.is c.in_ok-longer.ensures
