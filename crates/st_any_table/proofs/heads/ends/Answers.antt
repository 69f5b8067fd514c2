use Rattle.std.proofs.Common.{refl}
use Rattle.st_any_table.proofs.HeadsLemmas.{head-ranked, no-head}
use Rattle.st_any_table.proofs.heads.ends.Goals as goal

pub returns-in-Some : goal.returns-in-Some
returns-in-Some c = head-ranked c.args.defs.now c.args.ranks.now c.requires c.args.ty.now c.in-Some.position c.is_ranked.result c.in-Some.ensures c.is_ranked.ensures

pub returns-in-None : goal.returns-in-None
returns-in-None c = (λ f. no-head c.args.defs.now c.args.ty.now c.in-None.ensures, λ h. refl)
