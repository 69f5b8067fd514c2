use Rattle.std.proofs.Common.{sym, refl}
use Rattle.st_type_table.proofs.PositionLemmas.{EndsAt-Ends, Ends-EndsAt}
use Rattle.st_type_table.proofs.ReachLemmas.{ends-unplaced}
use Rattle.st_type_table.proofs.flat.ends.Goals as goal

pub returns-in-Some : goal.returns-in-Some
returns-in-Some c = (
  λ y. EndsAt-Ends c.args.defs.now c.in-Some.position ((c.requires.exact c.in-Some.position).0 (c.is_ranked.ensures.0 y)) c.args.name.now (sym c.in-Some.ensures),
  λ e. c.is_ranked.ensures.1 ((c.requires.exact c.in-Some.position).1 (Ends-EndsAt c.args.defs.now c.args.name.now e c.in-Some.position (sym c.in-Some.ensures))),
)

pub returns-in-None : goal.returns-in-None
returns-in-None c = (λ y. ends-unplaced c.args.defs.now c.args.name.now (sym c.in-None.ensures), λ e. refl)
