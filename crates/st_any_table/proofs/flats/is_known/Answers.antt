use Rattle.std.proofs.Common.{refl}
use Rattle.st_any_table.proofs.FlatsLemmas.{known-at, known-undeclared}
use Rattle.st_any_table.proofs.flats.is_known.Goals as goal

pub returns-in-Some : goal.returns-in-Some
returns-in-Some c = known-at c.args.defs.now c.args.flats.now c.args.name.now c.in-Some.position c.is_known_at.result c.requires c.in-Some.ensures c.is_known_at.ensures

pub returns-in-None : goal.returns-in-None
returns-in-None c = (λ f. known-undeclared c.args.defs.now c.args.flats.now c.args.name.now c.in-None.ensures, λ h. refl)
