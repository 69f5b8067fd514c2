use Rattle.st_algo.specs.Lowered.{clause_algorithm}
use Rattle.st_algo.proofs.NumberedRows.{mapped_next}
use Rattle.st_algo.proofs.functions.clause_algorithms.Goals as goal

pub loop-clause-preserved : goal.loop-clause-preserved
loop-clause-preserved c =
    mapped_next (clause_algorithm c.args.directions.now.il.now) c.args.clauses.now c.loop-clause.clause-index c.clause-item.result c.in_ok-algorithm.algorithm c.loop-clause.row _ _
    c.loop-clause-test.true c.clause-item.is c.in_ok-algorithm.ensures c.loop-clause.invariant c.in_ok-push.ensures.ok
