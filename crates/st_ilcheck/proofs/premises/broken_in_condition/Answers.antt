use Rattle.st_ilcheck.proofs.Made.{condition-made}
use Rattle.st_ilcheck.proofs.premises.broken_in_condition.Goals as goal

pub returns : goal.returns
returns c =
    condition-made c.args.language.now c.args.listed.now c.args.exp.now c.in_ok-found.found.ty c.in_ok-found.found.broken c.in_ok-all.all c.in_ok-kept.kept c.in_ok-found.ensures c.in_ok-kept.ensures c.in_ok-all.ensures
