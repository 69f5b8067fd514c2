use Rattle.st_algo.specs.Lowered.{fun_algorithms}
use Rattle.st_algo.proofs.NumberedRows.{mapped_next}
use Rattle.st_algo.proofs.functions.all_functions.Goals as goal

pub loop-function-preserved : goal.loop-function-preserved
loop-function-preserved c =
    mapped_next (fun_algorithms c.args.directions.now.il.now) c.as_slice-functions.result.now c.loop-function.function-index c.function-item.result c.in_ok-row.row c.loop-function.rows _ _
    c.loop-function-test.true c.function-item.is c.in_ok-row.ensures c.loop-function.invariant c.in_ok-push.ensures.ok
