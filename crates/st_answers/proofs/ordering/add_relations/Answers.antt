use Rattle.std.proofs.Common.{◌∙◌, arith}
use Rattle.st_il.specs.Definitions.{relations}
use Rattle.st_answers.specs.OrderTexts.{relation_lines}
use Rattle.st_answers.proofs.OrderLines.{one_more_now, all_lines, within_few, within_marks, within_orders, mark_at, orders_at}
use Rattle.st_answers.proofs.ordering.add_relations.Goals as goal

pub bounds-marks-number : goal.bounds-marks-number
bounds-marks-number c =
    within_marks c.args.directions.now.il.now c.args.declared.now c.args.modes.now c.requires.modes c.requires.declared c.loop-number.number c.loop-number-test.true c.as_slice-marks.result.now
    c.as_slice-marks.ensures

pub offset_bounds-marks-number : goal.offset_bounds-marks-number
offset_bounds-marks-number c =
    let small = within_few c.args.directions.now.il.now c.args.declared.now c.args.modes.now c.requires.modes c.requires.declared c.loop-number.number c.loop-number-test.true c.requires.few in
    omega (arith, small)

pub bounds-orders-number : goal.bounds-orders-number
bounds-orders-number c =
    within_orders c.args.directions.now.il.now c.args.declared.now c.args.modes.now c.requires.modes c.requires.declared c.loop-number.number c.loop-number-test.true c.as_slice-orders.result.now
    c.as_slice-orders.ensures

pub add_relation-requires : goal.add_relation-requires
add_relation-requires c = record {
  directions = c.requires.directions;
  few = c.requires.few;
  mark = mark_at c.args.directions.now.il.now c.args.declared.now c.args.modes.now c.requires.modes c.requires.declared c.loop-number.number c.loop-number-test.true c.as_slice-marks.result.now
      c.index-declared-number.result c.index-marks-number.result c.as_slice-marks.ensures c.index-declared-number.is c.index-marks-number.is;
  rules = c.requires.rules;
  orders = c.as_slice-orders-in-loop-number.ensures
      ∙ orders_at c.args.directions.now.il.now c.args.declared.now c.args.modes.now c.requires.modes c.requires.declared c.loop-number.number c.loop-number-test.true c.as_slice-orders.result.now
      c.index-declared-number.result c.index-orders-number.result c.as_slice-orders.ensures c.index-declared-number.is c.index-orders-number.is;
}

pub loop-number-preserved : goal.loop-number-preserved
loop-number-preserved c =
    one_more_now (relation_lines c.args.directions.now.il.now) c.args.declared.now c.loop-number.number c.index-declared-number.result c.args.bytes.now.items c.loop-number.bytes.items
    c.add_relation.new.bytes.items c.loop-number-test.true c.index-declared-number.is c.loop-number.invariant c.in_ok-add_relation.ensures

pub returns : goal.returns
returns c =
    all_lines (relation_lines c.args.directions.now.il.now) c.args.declared.now (relations c.args.directions.now.il.now) c.loop-number.number c.args.bytes.now.items c.loop-number.bytes.items
    c.requires.declared c.loop-number-test.false c.loop-number.invariant
