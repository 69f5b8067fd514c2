use Rattle.st_ilcheck.proofs.Made.{arguments-made}
use Rattle.st_ilcheck.proofs.definitions.broken_in_arguments.Goals as goal

pub returns : goal.returns
returns c =
    arguments-made c.args.language.now c.args.clause.now c.as_slice-listed.result.now c.as_slice.result.now c.in_ok-found.found.types c.as_slice-2.result.now c.in_ok-found.found.broken c.in_ok-all.all c.in_ok-kept.kept
    c.as_slice-listed.ensures c.as_slice.ensures c.in_ok-found.ensures c.as_slice-2.ensures c.in_ok-kept.ensures c.in_ok-all.ensures
