use Rattle.st_type_table.proofs.Measure.{Means-total}
use Rattle.st_type_table.proofs.UpLaws.{Sub-up}
use Rattle.st_type_table.proofs.SubLaws.{Sub-refl, Sub-trans}
use Rattle.st_types.proofs.sub.is_sub.Goals as goal

pub returns-clause-up : goal.returns-clause-up
returns-clause-up c = λ yes. Sub-up c.args.table.now c.args.lower.now c.args.upper.now (c.is_below.ensures.exact.0 yes)

pub returns-clause-reflexive : goal.returns-clause-reflexive
returns-clause-reflexive c = Sub-refl c.args.table.now (Means-total c.args.table.now c.is_below.ensures.sound)

pub returns-clause-transitive : goal.returns-clause-transitive
returns-clause-transitive c = Sub-trans c.args.table.now (Means-total c.args.table.now c.is_below.ensures.sound)
