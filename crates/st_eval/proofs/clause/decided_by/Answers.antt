use Rattle.std.proofs.Common.{refl, subst, inr}
use Rattle.st_eval.specs.inner.Tried.{ClauseIsMet}
use Rattle.st_eval.proofs.Tried.{IsTried-chosen}
use Rattle.st_eval.proofs.clause.decided_by.Goals as goal

pub value_of-requires-clause-formed : goal.value_of-requires-clause-formed
value_of-requires-clause-formed g c = c.requires.clause.result

pub returns-in_ok-outcome-in-Holds : goal.returns-in_ok-outcome-in-Holds
returns-in_ok-outcome-in-Holds g c vs met =
    IsTried-chosen c.args.setting.now.index.now c.args.setting.now.depth c.args.clause.now vs c.in-Holds.env c.in_ok-outcome-in-Holds.outcome c.requires.clause c.in_ok-outcome-in-Holds.ensures
    (subst (ClauseIsMet c.args.setting.now.index.now c.args.setting.now.depth c.args.clause.now vs) c.in-Holds.is met)

pub returns-in-Fails : goal.returns-in-Fails
returns-in-Fails g c vs met = subst (ClauseIsMet c.args.setting.now.index.now c.args.setting.now.depth c.args.clause.now vs) c.in-Fails.is met

pub returns-in-Deep : goal.returns-in-Deep
returns-in-Deep g c vs met = inr (subst (ClauseIsMet c.args.setting.now.index.now c.args.setting.now.depth c.args.clause.now vs) c.in-Deep.is met, refl)
