use Rattle.std.proofs.Common.{sym, rules}
use Rattle.st_type_table.proofs.CheckLemmas.{ending-ranked, ending-placed}
use Rattle.st_type_table.proofs.check.is_ending.Goals as goal

pub returns-in-Some : goal.returns-in-Some
returns-in-Some c = ending-ranked c.args.defs.now c.args.ranks.now c.requires c.args.name.now c.in-Some.position c.is_ranked.result (sym c.in-Some.ensures) c.is_ranked.ensures

pub returns-in-None : goal.returns-in-None
returns-in-None c = (λ f. search rules, λ e. absurd (ending-placed c.args.defs.now c.args.name.now e (sym c.in-None.ensures)))
