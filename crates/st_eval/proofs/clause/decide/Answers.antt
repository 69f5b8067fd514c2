use Rattle.st_eval.proofs.Tried.{clause-can, decide-next, decide-here, decide-end}
use Rattle.st_eval.proofs.clause.decide.Goals as goal

pub loop-clause-init : goal.loop-clause-init
loop-clause-init g c = λ o d. d

pub try_clause-requires-clause-clause : goal.try_clause-requires-clause-clause
try_clause-requires-clause-clause g c =
    clause-can c.args.setting.now.index.now c.args.setting.now.depth c.args.args.now c.clauses_of-clauses.result.now c.loop-clause.clause-index c.clause-item.result c.loop-clause-test.true c.clause-item.is c.args.fun.now c.clauses_of-clauses.ensures c.requires.clauses

pub loop-clause-preserved : goal.loop-clause-preserved
loop-clause-preserved g c =
    decide-next c.args.setting.now.index.now c.args.setting.now.depth c.args.args.now c.clauses_of-clauses.result.now c.loop-clause.clause-index c.clause-item.result c.loop-clause-test.true c.clause-item.is c.in_ok-decided.decided c.in_default.is c.loop-clause.invariant c.in_ok-decided.ensures

pub returns-in-Some : goal.returns-in-Some
returns-in-Some g c =
    decide-here c.args.setting.now.index.now c.args.setting.now.depth c.args.args.now c.clauses_of-clauses.result.now c.loop-clause.clause-index c.clause-item.result c.loop-clause-test.true c.clause-item.is c.args.fun.now c.clauses_of-clauses.ensures
    c.in_ok-decided.decided c.in-Some.outcome c.in-Some.is c.loop-clause.invariant c.in_ok-decided.ensures

pub returns : goal.returns
returns g c =
    decide-end c.args.setting.now.index.now c.args.setting.now.depth c.args.args.now c.clauses_of-clauses.result.now c.loop-clause.clause-index c.args.fun.now c.clauses_of-clauses.ensures c.loop-clause-test.false c.loop-clause.invariant
