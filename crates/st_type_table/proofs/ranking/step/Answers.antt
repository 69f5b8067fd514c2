use Rattle.std.proofs.Common.{◌≡◌, sym, ap, ◌∙◌, subst, length, take, arith, add-one, ◌-◌, ◌+◌, Some, inl}
use Rattle.std.specs.Prelude.{slice_index, slice_set}
use Rattle.st_type_table.specs.inner.Ranking.{IsRanking, RankedTo, Advances}
use Rattle.st_type_table.proofs.PartLemmas.{read-at}
use Rattle.st_type_table.proofs.RankingLemmas.{walk-halt, step-next, step-rank}
use Rattle.st_type_table.proofs.ranking.step.Goals as goal

pub returns-in-None-clause-ranking : goal.returns-in-None-clause-ranking
returns-in-None-clause-ranking c =
    let there = read-at c.args.graph.now c.top_of-top.result c.index-graph-top.result c.top_of-top.ensures.in_graph c.index-graph-top.is ∙ ap Some c.in-None.is in
    let s = c.requires.some in
    subst (IsRanking c.args.graph.now c.args.ranks.now c.args.count c.args.seen.now c.args.passed.now) (sym c.clear.ensures.items)
    (walk-halt c.args.graph.now c.args.ranks.now c.args.count c.args.seen.now c.args.passed.now c.args.path.now.items c.requires.ranking (length c.args.path.now.items - 1) c.top_of-top.result
    (omega (arith, s)) c.top_of-top.ensures.last (inl there))

pub advance-requires-clause-ranked : goal.advance-requires-clause-ranked
advance-requires-clause-ranked c =
    let there = read-at c.args.graph.now c.top_of-top.result c.index-graph-top.result c.top_of-top.ensures.in_graph c.index-graph-top.is ∙ ap Some c.in-Some.is in
    subst (λ ns. RankedTo ns c.args.ranks.now (slice_index c.args.passed.now c.top_of-top.result)) (sym c.as_slice.ensures) (c.requires.ranking.over c.top_of-top.result c.in-Some.positions there)

pub returns-in_ok-come_to-in-Some-advance-clause-ranking : goal.returns-in_ok-come_to-in-Some-advance-clause-ranking
returns-in_ok-come_to-in-Some-advance-clause-ranking c =
    let there = read-at c.args.graph.now c.top_of-top.result c.index-graph-top.result c.top_of-top.ensures.in_graph c.index-graph-top.is ∙ ap Some c.in-Some.is in
    (step-next c.args.graph.now c.args.ranks.now c.args.count c.args.seen.now c.args.passed.now c.args.path.now.items c.in-Some.positions c.advance.new.passed c.top_of-top.result c.advance.result
    c.requires.ranking c.requires.some c.top_of-top.ensures.last there
    (subst (λ ns. Advances ns c.args.ranks.now c.top_of-top.result c.args.passed.now c.advance.new.passed c.advance.result) c.as_slice.ensures c.advance.ensures)
    c.in-Some-advance.next c.come_to.new.seen c.come_to.new.path.items c.in-Some-advance.is c.in_ok-come_to-in-Some-advance.ensures).0

pub returns-in_ok-come_to-in-Some-advance-clause-falls : goal.returns-in_ok-come_to-in-Some-advance-clause-falls
returns-in_ok-come_to-in-Some-advance-clause-falls c =
    let there = read-at c.args.graph.now c.top_of-top.result c.index-graph-top.result c.top_of-top.ensures.in_graph c.index-graph-top.is ∙ ap Some c.in-Some.is in
    (step-next c.args.graph.now c.args.ranks.now c.args.count c.args.seen.now c.args.passed.now c.args.path.now.items c.in-Some.positions c.advance.new.passed c.top_of-top.result c.advance.result
    c.requires.ranking c.requires.some c.top_of-top.ensures.last there
    (subst (λ ns. Advances ns c.args.ranks.now c.top_of-top.result c.args.passed.now c.advance.new.passed c.advance.result) c.as_slice.ensures c.advance.ensures)
    c.in-Some-advance.next c.come_to.new.seen c.come_to.new.path.items c.in-Some-advance.is c.in_ok-come_to-in-Some-advance.ensures).1.0

pub returns-in_ok-come_to-in-Some-advance-clause-more : goal.returns-in_ok-come_to-in-Some-advance-clause-more
returns-in_ok-come_to-in-Some-advance-clause-more c =
    let there = read-at c.args.graph.now c.top_of-top.result c.index-graph-top.result c.top_of-top.ensures.in_graph c.index-graph-top.is ∙ ap Some c.in-Some.is in
    (step-next c.args.graph.now c.args.ranks.now c.args.count c.args.seen.now c.args.passed.now c.args.path.now.items c.in-Some.positions c.advance.new.passed c.top_of-top.result c.advance.result
    c.requires.ranking c.requires.some c.top_of-top.ensures.last there
    (subst (λ ns. Advances ns c.args.ranks.now c.top_of-top.result c.args.passed.now c.advance.new.passed c.advance.result) c.as_slice.ensures c.advance.ensures)
    c.in-Some-advance.next c.come_to.new.seen c.come_to.new.path.items c.in-Some-advance.is c.in_ok-come_to-in-Some-advance.ensures).1.1

pub returns-in-None-advance-clause-ranking : goal.returns-in-None-advance-clause-ranking
returns-in-None-advance-clause-ranking c =
    let there = read-at c.args.graph.now c.top_of-top.result c.index-graph-top.result c.top_of-top.ensures.in_graph c.index-graph-top.is ∙ ap Some c.in-Some.is in
    let e = c.len.ensures in
    let o = c.args.path.now.ok.0 in
    let n : length c.args.path.now.items - 1 ≡ c.len.result - 1 = omega (arith, e, o) in
    subst (IsRanking c.args.graph.now (slice_set c.args.ranks.now c.top_of-top.result (c.args.count + 1)) (c.args.count + 1) c.args.seen.now c.advance.new.passed) (sym c.truncate.ensures.items)
    (subst (λ k. IsRanking c.args.graph.now (slice_set c.args.ranks.now c.top_of-top.result (c.args.count + 1)) (c.args.count + 1) c.args.seen.now c.advance.new.passed (take k c.args.path.now.items)) n
    (subst (λ k. IsRanking c.args.graph.now (slice_set c.args.ranks.now c.top_of-top.result k) k c.args.seen.now c.advance.new.passed (take (length c.args.path.now.items - 1) c.args.path.now.items)) (sym (add-one c.args.count))
    (step-rank c.args.graph.now c.args.ranks.now c.args.count c.args.seen.now c.args.passed.now c.args.path.now.items c.in-Some.positions c.advance.new.passed c.top_of-top.result c.advance.result
    c.requires.ranking c.requires.some c.top_of-top.ensures.last there
    (subst (λ ns. Advances ns c.args.ranks.now c.top_of-top.result c.args.passed.now c.advance.new.passed c.advance.result) c.as_slice.ensures c.advance.ensures)
    c.in-None-advance.is)))
