use Rattle.st_ilcheck.proofs.Made.{goal-made}
use Rattle.st_ilcheck.proofs.premises.broken_in_goal.Goals as goal

pub returns : goal.returns
returns c =
    goal-made c.args.language.now c.args.listed.now c.args.relation.now c.args.exps.now c.in_ok-found.found.types c.as_slice.result.now c.in_ok-found.found.broken c.in_ok-all.all c.in_ok-kept.kept
    c.in_ok-found.ensures c.as_slice.ensures c.in_ok-kept.ensures c.in_ok-all.ensures
