use Rattle.std.proofs.Common.{◌≡◌, subst, length, arith, ◌-◌, Some}
use Rattle.std.specs.Prelude.{slice_get}
use Rattle.st_type_table.proofs.PartLemmas.{read-at}
use Rattle.st_type_table.proofs.RankingLemmas.{last-room}
use Rattle.st_type_table.proofs.ranking.top_of.Goals as goal

pub returns : goal.returns
returns c =
    let e = c.len.ensures in
    let o = c.args.path.now.ok.0 in
    let s = c.requires.some in
    let n : c.len.result - 1 ≡ length c.args.path.now.items - 1 = omega (arith, e, o) in
    let last : slice_get c.args.path.now.items (c.len.result - 1) ≡ Some c.index.result.now = read-at c.args.path.now.items (c.len.result - 1) c.index.result.now (omega (arith, e, o, s)) c.index.ensures in
    let room = last-room c.args.graph.now c.args.ranks.now c.args.count c.args.seen.now c.args.passed.now c.args.path.now.items (c.len.result - 1) c.index.result.now c.requires.ranking last in
    record { last = subst (λ k. slice_get c.args.path.now.items k ≡ Some c.index.result.now) n last; in_graph = room.0; in_ranks = room.1.0; in_passed = room.1.1.0; room = room.1.1.1 }
