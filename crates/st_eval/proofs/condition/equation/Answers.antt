use Rattle.std.proofs.Common.{refl, subst}
use Rattle.st_semantics.specs.declared.outcome.Outcome.TheVariants as outcome
use Rattle.st_semantics.specs.Calls.{ValueAt}
use Rattle.st_eval.proofs.condition.equation.Goals as goal

pub returns-in_ok-met-in-Val : goal.returns-in_ok-met-in-Val
returns-in_ok-met-in-Val g c =
    (outcome.Val c.in-Val.value, subst (ValueAt c.args.setting.now.index.now c.args.setting.now.depth c.args.env.now c.args.side.now) c.in-Val.is c.in_ok-outcome.ensures, c.in_ok-met-in-Val.ensures)

pub returns-in-NoValue : goal.returns-in-NoValue
returns-in-NoValue g c =
    (outcome.NoValue, subst (ValueAt c.args.setting.now.index.now c.args.setting.now.depth c.args.env.now c.args.side.now) c.in-NoValue.is c.in_ok-outcome.ensures, refl)

pub returns-in-Deep : goal.returns-in-Deep
returns-in-Deep g c =
    (outcome.Deep, subst (ValueAt c.args.setting.now.index.now c.args.setting.now.depth c.args.env.now c.args.side.now) c.in-Deep.is c.in_ok-outcome.ensures, refl)
