use Rattle.st_order.specs.inner.Index.{names_in}
use Rattle.st_modes.proofs.OneOpen.{open_goal, open_out, open_in}
use Rattle.st_modes.proofs.one_open.+has_one_open.Goals as goal

pub returns-in-Goal : goal.returns-in-Goal
returns-in-Goal t c il = open_goal il (names_in c.args.bound.now.keys) c.args.prem.now c.in-Goal.field-0 c.in-Goal.field-1 c.in-Goal.is

pub returns-in_default : goal.returns-in_default
returns-in_default t c il =
    open_out il (names_in c.args.bound.now.keys) c.args.prem.now c.in_ok-inside-in-Each.inside (λ set. names_in set.keys) c.in-Each.how c.in-Each.list c.as_slice-list.result.now c.in-Each.body c.get-body.result.now
    c.in-Each.is c.as_slice-list.ensures c.get-body.ensures c.in_ok-inside-in-Each.ensures c.in_default.is

pub returns-in_ok-entered-in-Each : goal.returns-in_ok-entered-in-Each
returns-in_ok-entered-in-Each t c il =
    open_in il (names_in c.args.bound.now.keys) c.args.prem.now c.in_ok-inside-in-Each.inside c.in-Some.inside (λ set. names_in set.keys) c.in-Each.how c.in-Each.list c.as_slice-list.result.now c.in-Each.body c.get-body.result.now
    c.in_ok-entered-in-Each.entered c.in-Each.is c.as_slice-list.ensures c.get-body.ensures c.in_ok-inside-in-Each.ensures c.in-Some.is (c.in_ok-entered-in-Each.ensures il)
