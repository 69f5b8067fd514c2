use Rattle.st_ilcheck.proofs.Made.{rule-made}
use Rattle.st_ilcheck.proofs.definitions.broken_in_rule.Goals as goal

pub returns : goal.returns
returns c =
    rule-made c.args.language.now c.args.rule.now c.as_slice-listed.result.now c.as_slice.result.now c.as_slice-premises.result.now c.in_ok-found.found.types c.as_slice-2.result.now c.in_ok-found.found.broken
    c.in_ok-concluded.concluded c.in_ok-more.more c.in_ok-all.all c.in_ok-kept.kept
    c.as_slice-listed.ensures c.as_slice.ensures c.as_slice-premises.ensures c.in_ok-found.ensures c.as_slice-2.ensures c.in_ok-kept.ensures c.in_ok-concluded.ensures c.in_ok-more.ensures c.in_ok-all.ensures
