use Rattle.st_any_table.proofs.RanksLemmas.{unranked-exact, unranked-room}
use Rattle.st_any_table.proofs.ranks.is_unranked.Goals as goal

pub returns-clause-exact : goal.returns-clause-exact
returns-clause-exact c = unranked-exact c.args.ranks.now c.args.at c.is_ranked.result c.is_ranked.ensures

pub returns-clause-room : goal.returns-clause-room
returns-clause-room c = λ y. unranked-room c.args.graph.now c.args.ranks.now c.args.count c.args.at c.requires.so_far c.requires.within ((unranked-exact c.args.ranks.now c.args.at c.is_ranked.result c.is_ranked.ensures).0 y)
