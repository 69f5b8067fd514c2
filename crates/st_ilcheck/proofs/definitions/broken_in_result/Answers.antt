use Rattle.st_ilcheck.proofs.Made.{result-made}
use Rattle.st_ilcheck.proofs.definitions.broken_in_result.Goals as goal

pub returns : goal.returns
returns c =
    result-made c.args.language.now c.args.clause.now c.as_slice-listed.result.now c.in_ok-found.found.ty c.in_ok-found.found.broken c.in_ok-all.all c.in_ok-kept.kept
    c.as_slice-listed.ensures c.in_ok-found.ensures c.in_ok-kept.ensures c.in_ok-all.ensures
