use Rattle.std.proofs.Common.{refl, sym, subst, set, inr, arith, rules, add-one}
use Rattle.st_type_table.specs.inner.Graph.{SoFar}
use Rattle.st_type_table.proofs.GraphLemmas.{SoFar-set}
use Rattle.st_type_table.proofs.PartLemmas.{read-at}
use Rattle.st_any_table.proofs.RanksLemmas.{done-ranked, done-waiting}
use Rattle.st_any_table.proofs.ranks.rank_one.Goals as goal

pub returns-then-not-is_unranked-clause-ranked : goal.returns-then-not-is_unranked-clause-ranked
returns-then-not-is_unranked-clause-ranked c = inr (refl, refl, done-ranked c.args.graph.now c.args.ranks.now c.args.at (λ z. let f = c.if-not-is_unranked.ensures.exact.1 z in cc))

pub returns-then-not-is_ready-clause-ranked : goal.returns-then-not-is_ready-clause-ranked
returns-then-not-is_ready-clause-ranked c =
    let there = read-at c.args.graph.now c.args.at c.index-graph-at.result c.requires.within c.index-graph-at.is in
    inr (refl, refl, done-waiting c.args.graph.now c.args.ranks.now c.args.at c.index-graph-at.result there (λ a. let f = c.if-not-is_ready.ensures.1 a in cc))

pub returns-clause-so_far : goal.returns-clause-so_far
returns-clause-so_far c =
    let there = read-at c.args.graph.now c.args.at c.index-graph-at.result c.requires.within c.index-graph-at.is in
    let size = c.requires.so_far.size in
    let h = c.requires.within in
    subst (λ k. SoFar c.args.graph.now (set c.args.ranks.now c.args.at k) k) (sym (add-one c.args.count))
    (SoFar-set c.args.graph.now c.args.ranks.now c.args.count c.args.at c.index-graph-at.result c.requires.so_far (omega (arith, size, h)) there (c.if-not-is_unranked.ensures.exact.0 (search rules)) (c.if-not-is_ready.ensures.0 (search rules)))
