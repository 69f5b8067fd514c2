use Rattle.std.proofs.Common.{sym}
use Rattle.st_type_table.proofs.PositionLemmas.{unplaced}
use Rattle.st_type_table.proofs.IndexLemmas.{body-at, position-within}
use Rattle.st_any_table.proofs.heads.body_of.Goals as goal

pub nth-requires : goal.nth-requires
nth-requires c = position-within c.args.defs.now c.args.name.now c.in-Some.position c.in-Some.ensures

pub returns-in-Some : goal.returns-in-Some
returns-in-Some c = body-at c.args.defs.now c.args.name.now c.in-Some.position c.nth.result.now c.in-Some.ensures c.nth.ensures

pub returns-in-None : goal.returns-in-None
returns-in-None c = sym (unplaced c.args.defs.now c.args.name.now (sym c.in-None.ensures))
