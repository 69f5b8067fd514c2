use Rattle.std.proofs.Common.{sym, ◌∙◌}
use Rattle.st_order.specs.inner.Index.{names_in}
use Rattle.st_order.proofs.NumberedParts.{first_here, first_later}
use Rattle.st_order.proofs.selection.first_of.Goals as goal

pub returns-then-is_kind : goal.returns-then-is_kind
returns-then-is_kind c =
    first_here c.args.directions.now.il.now (names_in c.args.bound.now.keys) c.args.wanted c.args.left.now c.loop-p.p-index c.p-item.result c.in_ok-class.class _
    c.loop-p-test.true c.p-item.is c.loop-p.invariant c.in_ok-class.ensures (sym c.is_kind.ensures ∙ c.if-is_kind.true)

pub loop-p-preserved : goal.loop-p-preserved
loop-p-preserved c =
    first_later c.args.directions.now.il.now (names_in c.args.bound.now.keys) c.args.wanted c.args.left.now c.loop-p.p-index c.p-item.result c.in_ok-class.class _
    c.loop-p-test.true c.p-item.is c.loop-p.invariant c.in_ok-class.ensures (sym c.is_kind.ensures ∙ c.if-is_kind.false)
