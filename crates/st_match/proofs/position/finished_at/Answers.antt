use Rattle.st_match.proofs.Positions.{finished-early}
use Rattle.st_match.proofs.position.finished_at.Goals as goal

pub returns-then-position-values : goal.returns-then-position-values
returns-then-position-values c = finished-early c.args.values.now c.args.position.now c.new.result c.if-position-values.true
