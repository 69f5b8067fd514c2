use Rattle.std.proofs.Common.{◌≡◌, refl, sym, ap, ◌∙◌, subst, ℕ, suc, List, ◌++◌, length, set, Some, slice_get, slice_index_or, add-one, arith}
use Rattle.std.proofs.lemmas.Option.{slice_get-get_or, slice_get_read}
use Rattle.st_deps.specs.inner.Condensation.{other_ranks, CondensesTo}
use Rattle.st_deps.proofs.CondensationLemmas.{condensation-more}
use Rattle.st_deps.proofs.condensation.condensation.Goals as goal

pub loop-node-preserved : goal.loop-node-preserved
loop-node-preserved c =
    let graph = c.args.graph.now in
    let ranks = c.args.ranks.now in
    let node = c.loop-node.node in
    let rows = c.loop-node.rows.items in
    let group = slice_index_or c.args.ranks.now c.loop-node.node 0 in
    let t = c.loop-node-test.true in
    let s = c.requires.size in
    let e : slice_get c.args.ranks.now c.loop-node.node ≡ Some (slice_index_or c.args.ranks.now c.loop-node.node 0) = slice_get-get_or c.args.ranks.now c.loop-node.node 0 (omega (arith, t, s)) in
    let f : slice_get c.args.graph.now c.loop-node.node ≡ Some c.index-graph-node.result = slice_get_read c.args.graph.now (length c.args.graph.now) c.loop-node.node c.index-graph-node.result refl t c.index-graph-node.is in
    let n = c.requires.within c.loop-node.node (slice_index_or c.args.ranks.now c.loop-node.node 0) e in
    let z = c.loop-node.invariant.size in
    let there : slice_get c.loop-node.rows.items (slice_index_or c.args.ranks.now c.loop-node.node 0) ≡ Some c.index_mut.result.now =
    slice_get_read c.loop-node.rows.items (length c.loop-node.rows.items) (slice_index_or c.args.ranks.now c.loop-node.node 0) c.index_mut.result.now refl (omega (arith, n, z)) c.index_mut.ensures.value in
    subst (λ (k : ℕ). CondensesTo graph ranks c.args.count k (set rows group c.add_ranks.new.row)) (sym (add-one node))
    (subst (λ (row : List ℕ). CondensesTo graph ranks c.args.count (suc node) (set rows group row))
    (sym (c.in_ok-add_ranks.ensures ∙ ap (λ (row : List ℕ). c.index_mut.result.now ++ other_ranks ranks group row) c.as_slice.ensures))
    (condensation-more graph ranks c.args.count node rows c.loop-node.invariant group c.index-graph-node.result c.index_mut.result.now e f there))
