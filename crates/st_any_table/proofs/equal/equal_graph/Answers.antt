use Rattle.std.proofs.Common.{ap, ◌∙◌, ◌+◌, length, arith}
use Rattle.std.specs.Prelude.{slice_get}
use Rattle.st_any_table.specs.inner.Pairs.{EqualWaits}
use Rattle.st_any_table.proofs.PairsLemmas.{EqualWaits-grow, explored-start, explored-next, equal-explored, length-more}
use Rattle.st_any_table.proofs.equal.equal_graph.Goals as goal

pub loop-at-init : goal.loop-at-init
loop-at-init c = (
  explored-start (EqualWaits c.args.survey.now.defs) (EqualWaits-grow c.args.survey.now.defs) c.args.left.now c.args.right.now c.in_ok-pairs.pairs c.new-graph.result c.in_ok-pairs.ensures c.new-graph.ensures,
  ap length c.new-graph.ensures,
)

pub returns-then-at-len : goal.returns-then-at-len
returns-then-at-len c =
    let h = c.if-at-len.true in
    let l = c.len.ensures in
    let s = c.loop-at.invariant.1 in
    equal-explored c.args.survey.now.defs c.args.left.now c.args.right.now c.loop-at.pairs c.loop-at.graph c.loop-at.invariant.0 (omega (arith, h, l, s))

pub loop-at-preserved : goal.loop-at-preserved
loop-at-preserved c =
    let s = c.loop-at.invariant.1 in (
      explored-next (EqualWaits c.args.survey.now.defs) (EqualWaits-grow c.args.survey.now.defs) c.args.left.now c.args.right.now _ _ c.loop-at.pairs c.equal_waits.new.pairs c.loop-at.graph c.push.new.self c.in_ok-node.node c.loop-at.invariant.0
          c.in_ok-node.ensures.grows (ap (slice_get c.loop-at.pairs) s ∙ c.types_at.ensures) c.in_ok-node.ensures.waits c.in_ok-push.ensures.ok,
      ap length c.in_ok-push.ensures.ok ∙ length-more c.loop-at.graph c.in_ok-node.node ∙ ap (λ n. n + 1) s,
    )
