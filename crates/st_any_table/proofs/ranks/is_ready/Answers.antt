use Rattle.std.proofs.Common.{rules, subst}
use Rattle.st_type_table.specs.inner.Graph.{AllRanked}
use Rattle.st_any_table.proofs.RanksLemmas.{ready-some}
use Rattle.st_any_table.proofs.ranks.is_ready.Goals as goal

pub returns-in-Some : goal.returns-in-Some
returns-in-Some c = ready-some c.args.ranks.now c.as_slice.result.now c.in-Some.positions c.args.node.now c.all_ranked.result c.in-Some.is c.as_slice.ensures c.all_ranked.ensures

pub returns-in-None : goal.returns-in-None
returns-in-None c = (λ f. search rules, λ h. absurd (subst (λ z. AllRanked z c.args.ranks.now) c.in-None.is h))
