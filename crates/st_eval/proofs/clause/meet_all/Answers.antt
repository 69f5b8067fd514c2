use Rattle.st_eval.proofs.Tried.{premise-can, AreMetUpTo-begin, AreMetUpTo-next, ClauseIsMet-failed, ClauseIsMet-deep, ClauseIsMet-all}
use Rattle.st_eval.proofs.clause.meet_all.Goals as goal

pub loop-premise-init : goal.loop-premise-init
loop-premise-init g c = AreMetUpTo-begin c.args.setting.now.index.now c.args.setting.now.depth c.args.clause.now c.args.first c.requires.variables

pub meet-requires-clause-can : goal.meet-requires-clause-can
meet-requires-clause-can g c =
    premise-can c.args.setting.now.index.now c.args.setting.now.depth c.args.clause.now c.args.first c.as_slice-variables.result.now c.as_slice-premise-items.result.now c.as_slice-variables.ensures c.as_slice-premise-items.ensures
    c.loop-premise.premise-index c.premise-item.result c.loop-premise-test.true c.premise-item.is c.loop-premise.env c.loop-premise.invariant c.requires.clause

pub loop-premise-preserved : goal.loop-premise-preserved
loop-premise-preserved g c =
    AreMetUpTo-next c.args.setting.now.index.now c.args.setting.now.depth c.args.clause.now c.args.first c.as_slice-variables.result.now c.as_slice-premise-items.result.now c.as_slice-variables.ensures c.as_slice-premise-items.ensures
    c.loop-premise.premise-index c.premise-item.result c.loop-premise-test.true c.premise-item.is c.loop-premise.env c.loop-premise.invariant c.requires.clause c.in_ok-met.met c.in_ok-met.ensures c.in-Holds.more c.in-Holds.is

pub returns-in-Fails : goal.returns-in-Fails
returns-in-Fails g c =
    ClauseIsMet-failed c.args.setting.now.index.now c.args.setting.now.depth c.args.clause.now c.args.first c.as_slice-variables.result.now c.as_slice-premise-items.result.now c.as_slice-variables.ensures c.as_slice-premise-items.ensures
    c.loop-premise.premise-index c.premise-item.result c.loop-premise-test.true c.premise-item.is c.loop-premise.env c.loop-premise.invariant c.requires.clause c.in_ok-met.met c.in_ok-met.ensures c.requires.setting.single c.in-Fails.is

pub returns-in-Deep : goal.returns-in-Deep
returns-in-Deep g c =
    ClauseIsMet-deep c.args.setting.now.index.now c.args.setting.now.depth c.args.clause.now c.args.first c.as_slice-variables.result.now c.as_slice-premise-items.result.now c.as_slice-variables.ensures c.as_slice-premise-items.ensures
    c.loop-premise.premise-index c.premise-item.result c.loop-premise-test.true c.premise-item.is c.loop-premise.env c.loop-premise.invariant c.requires.clause c.in_ok-met.met c.in_ok-met.ensures c.in-Deep.is

pub returns : goal.returns
returns g c =
    ClauseIsMet-all c.args.setting.now.index.now c.args.setting.now.depth c.args.clause.now c.args.first c.as_slice-premise-items.result.now c.as_slice-premise-items.ensures c.loop-premise.premise-index c.loop-premise.env c.loop-premise-test.false
    c.loop-premise.invariant
