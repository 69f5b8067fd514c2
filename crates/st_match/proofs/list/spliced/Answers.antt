use Rattle.std.proofs.Common.{sym, ◌∙◌}
use Rattle.st_match.proofs.Splices.{spliced-next}
use Rattle.st_match.proofs.list.spliced.Goals as goal

pub loop-item-preserved : goal.loop-item-preserved
loop-item-preserved c =
    c.loop-item.invariant
    ∙ spliced-next c.args.items.now c.loop-item.item-index c.item-item.result c.loop-item.elements c.in-Some-2.longer c.in-Some.value c.loop-item.left.items c.next.new.left.items
    c.loop-item-test.true c.item-item.is c.in-Some.ensures (sym c.in-Some-2.is ∙ c.in_ok-longer.ensures)
