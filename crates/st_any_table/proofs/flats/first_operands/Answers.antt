use Rattle.st_any_table.proofs.AlikeLemmas.{operands-found, operands-passed, operands-end}
use Rattle.st_any_table.proofs.flats.first_operands.Goals as goal

pub returns-in-Some : goal.returns-in-Some
returns-in-Some c = operands-found c.args.cases.now c.args.numbers.now c.loop-number.number-index c.args.tag.now c.in-Some.operands.now c.loop-number-test.true c.in-Some.ensures c.loop-number.invariant

pub loop-number-preserved : goal.loop-number-preserved
loop-number-preserved c = operands-passed c.args.cases.now c.args.numbers.now c.loop-number.number-index c.args.tag.now c.loop-number-test.true c.in_default.ensures c.loop-number.invariant

pub returns : goal.returns
returns c = operands-end c.args.cases.now c.args.numbers.now c.loop-number.number-index c.args.tag.now c.loop-number-test.false c.loop-number.invariant
