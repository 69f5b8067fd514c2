use Rattle.std.proofs.Common.{refl}
use Rattle.st_modes.proofs.HasRead.{reads_rule}
use Rattle.st_modes.proofs.citations.read_rule.Goals as goal

pub returns : goal.returns
returns c defs h =
    reads_rule defs c.args.rule.now c.args.citations.now _ h c.in_ok-add_rule.ensures c.in_ok-add_called.ensures c.in_ok-add_cited.ensures refl refl
