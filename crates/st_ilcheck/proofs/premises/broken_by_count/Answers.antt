use Rattle.std.proofs.Common.{ap, ◌∙◌}
use Rattle.st_semantics.specs.References.{exps_now}
use Rattle.st_ilcheck.proofs.Made.{count-made}
use Rattle.st_ilcheck.proofs.premises.broken_by_count.Goals as goal

pub returns : goal.returns
returns c =
    count-made c.args.language.now c.args.listed.now c.args.how.now (exps_now c.as_slice.result.now) c.in_ok-found.found.types c.as_slice-2.result.now c.in_ok-found.found.broken c.in_ok-all.all c.in_ok-kept.kept
    (ap exps_now c.as_slice.ensures ∙ c.in_ok-exps.ensures) c.in_ok-found.ensures c.as_slice-2.ensures c.in_ok-kept.ensures c.in_ok-all.ensures
