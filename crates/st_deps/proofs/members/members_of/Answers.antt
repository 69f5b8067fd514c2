use Rattle.std.proofs.Common.{◌≡◌, refl, sym, ap, ◌∙◌, subst, ◌+◌, List, [], ◌∷◌, ◌++◌, length, set, take, Some, slice_get, slice_index_or, arith}
use Rattle.std.proofs.lemmas.Option.{slice_get-get_or, slice_get_read}
use Rattle.st_deps.specs.Cited.{Name}
use Rattle.st_deps.specs.inner.Members.{AreMembers}
use Rattle.st_deps.proofs.MembersLemmas.{members-next}
use Rattle.st_deps.proofs.members.members_of.Goals as goal

pub loop-node-preserved : goal.loop-node-preserved
loop-node-preserved c =
    let t = c.loop-node-test.true in
    let s = c.requires.size in
    let e : slice_get c.args.ranks.now c.loop-node.node ≡ Some (slice_index_or c.args.ranks.now c.loop-node.node 0) = slice_get-get_or c.args.ranks.now c.loop-node.node 0 (omega (arith, t, s)) in
    let n = c.requires.within c.loop-node.node (slice_index_or c.args.ranks.now c.loop-node.node 0) e in
    let z = c.loop-node.invariant.size in
    let there : slice_get c.loop-node.rows.items (slice_index_or c.args.ranks.now c.loop-node.node 0) ≡ Some c.index_mut.result.now =
    slice_get_read c.loop-node.rows.items (length c.loop-node.rows.items) (slice_index_or c.args.ranks.now c.loop-node.node 0) c.index_mut.result.now refl (omega (arith, n, z)) c.index_mut.ensures.value in
    subst (λ (row : List Name). AreMembers (take (c.loop-node.node + 1) c.args.names.now) (take (c.loop-node.node + 1) c.args.ranks.now) c.args.count (set c.loop-node.rows.items (slice_index_or c.args.ranks.now c.loop-node.node 0) row))
    (sym (c.in_ok-push.ensures.ok ∙ ap (λ (name : Name). c.index_mut.result.now ++ name ∷ []) c.in_ok-name.ensures))
    (members-next c.args.names.now c.args.ranks.now c.args.count c.loop-node.node c.loop-node.rows.items c.index-names-node.result c.index_mut.result.now s t c.index-names-node.is c.loop-node.invariant there)
