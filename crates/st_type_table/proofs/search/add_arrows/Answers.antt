use Rattle.std.proofs.Common.{sym, subst}
use Rattle.st_type_table.specs.inner.Search.{AddsArrows}
use Rattle.st_type_table.proofs.SearchLemmas.{arrows-none, arrows-next, take-number, take-whole}
use Rattle.st_type_table.proofs.search.add_arrows.Goals as goal

pub loop-position-init : goal.loop-position-init
loop-position-init c = arrows-none c.args.from c.args.back.now

pub loop-position-preserved : goal.loop-position-preserved
loop-position-preserved c = subst (λ ps. AddsArrows ps c.args.from c.args.back.now c.add_arrow.new.back) (sym (take-number c.args.positions.now c.loop-position.position-index c.loop-position-test.true))
    (arrows-next _ _ c.args.from c.args.back.now c.loop-position.back c.add_arrow.new.back c.loop-position.invariant c.in_ok-add_arrow.ensures)

pub returns : goal.returns
returns c = subst (λ ps. AddsArrows ps c.args.from c.args.back.now c.loop-position.back) (take-whole c.args.positions.now c.loop-position.position-index c.loop-position-test.false) c.loop-position.invariant
