use Rattle.st_ilcheck.proofs.Made.{clause-made}
use Rattle.st_ilcheck.proofs.definitions.broken_in_clause.Goals as goal

pub returns : goal.returns
returns c =
    clause-made c.args.language.now c.args.clause.now c.as_slice-listed.result.now c.as_slice-premises.result.now c.in_ok-arguments.arguments c.in_ok-result_rules.result_rules c.in_ok-inside.inside c.in_ok-more.more c.in_ok-all.all
    c.as_slice-listed.ensures c.as_slice-premises.ensures c.in_ok-arguments.ensures c.in_ok-result_rules.ensures c.in_ok-inside.ensures c.in_ok-more.ensures c.in_ok-all.ensures
