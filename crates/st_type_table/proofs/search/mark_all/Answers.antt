use Rattle.std.proofs.Common.{sym, subst}
use Rattle.st_type_table.specs.inner.Search.{MarksAll}
use Rattle.st_type_table.proofs.SearchLemmas.{marks-none, marks-next, take-number, take-whole}
use Rattle.st_type_table.proofs.search.mark_all.Goals as goal

pub loop-position-init : goal.loop-position-init
loop-position-init c = marks-none c.args.marks.now c.args.todo.now.items

pub loop-position-preserved : goal.loop-position-preserved
loop-position-preserved c = subst (λ ps. MarksAll ps c.args.marks.now c.args.todo.now.items c.mark_one.new.marks c.mark_one.new.todo.items) (sym (take-number c.args.row.now c.loop-position.position-index c.loop-position-test.true))
    (marks-next _ _ c.args.marks.now c.args.todo.now.items c.loop-position.marks c.loop-position.todo.items c.mark_one.new.marks c.mark_one.new.todo.items c.loop-position.invariant c.in_ok-mark_one.ensures)

pub returns : goal.returns
returns c = subst (λ ps. MarksAll ps c.args.marks.now c.args.todo.now.items c.loop-position.marks c.loop-position.todo.items) (take-whole c.args.row.now c.loop-position.position-index c.loop-position-test.false) c.loop-position.invariant
