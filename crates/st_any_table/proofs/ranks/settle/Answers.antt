use Rattle.std.proofs.Common.{◌≡◌, ◌<◌, ◌-◌, sym, ◌∙◌, subst, arith, length}
use Rattle.st_type_table.specs.inner.Graph.{AreRanks}
use Rattle.st_type_table.proofs.GraphLemmas.{Closed-exact}
use Rattle.st_any_table.proofs.RanksLemmas.{SoFar-zeros, SoFar-within}
use Rattle.st_any_table.proofs.ranks.settle.Goals as goal

pub pass-more-requires : goal.pass-more-requires
pass-more-requires c = SoFar-zeros c.args.graph.now c.deref_mut.result.now (c.deref_mut.ensures.value ∙ c.in_ok-ranks.ensures)

pub passes-smaller : goal.passes-smaller
passes-smaller c =
    let h = c.passes-test.true in
    let w = SoFar-within c.args.graph.now c.passes.ranks.items c.passes.more c.passes.invariant.so_far in
    let less : length c.args.graph.now - c.passes.more < length c.args.graph.now - c.passes.count = omega (arith, h, w) in
    less

pub returns : goal.returns
returns c =
    let h = c.passes-test.false in
    let r = c.passes.invariant.rises in
    let same : c.passes.more ≡ c.passes.count = omega (arith, h, r) in
    subst (AreRanks c.args.graph.now) (sym c.from_vec.ensures) (Closed-exact c.args.graph.now c.passes.ranks.items c.passes.more c.passes.invariant.so_far (c.passes.invariant.closed same))
