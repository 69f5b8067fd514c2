use Rattle.std.proofs.Common.{ap, take}
use Rattle.st_order.specs.inner.Index.{names_in}
use Rattle.st_modes.specs.inner.Reaching.{cited_under}
use Rattle.st_modes.proofs.TargetParts.{target-none, targets-next, targets-end}
use Rattle.st_modes.proofs.targets.first_targets.Goals as goal

pub add_target-requires : goal.add_target-requires
add_target-requires c = c.loop-i.invariant.closed

pub loop-i-init : goal.loop-i-init
loop-i-init c = target-none (cited_under c.args.citing.now.entries) (names_in c.new-found.result.keys) c.new-firsts.result.entries (ap names_in c.new-found.ensures.empty) c.new-firsts.ensures.empty

pub loop-i-preserved : goal.loop-i-preserved
loop-i-preserved c =
    targets-next (cited_under c.args.citing.now.entries) c.args.targets.now c.loop-i.i (names_in c.add_target.new.found.keys) c.add_target.new.firsts.entries c.index-targets-i.result c.loop-i-test.true c.index-targets-i.is
    (λ n. c.in_ok-add_target.ensures (names_in (take c.loop-i.i c.args.targets.now)) n c.loop-i.invariant)

pub returns : goal.returns
returns c = targets-end (cited_under c.args.citing.now.entries) c.args.targets.now c.loop-i.i c.loop-i.found.keys c.loop-i.firsts.entries c.loop-i-test.false c.loop-i.invariant
