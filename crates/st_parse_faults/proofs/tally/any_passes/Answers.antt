use Rattle.std.proofs.Common.{reverse, sym, ap, ◌∙◌}
use Rattle.std.specs.List.{list_any}
use Rattle.st_parse_faults.specs.inner.Limits.{tally_passes}
use Rattle.st_parse_faults.proofs.KeptTallies.{none_passes}
use Rattle.st_parse_faults.proofs.tally.any_passes.Goals as goal

pub returns-clause-kept : goal.returns-clause-kept
returns-clause-kept c =
    λ e. none_passes (reverse c.args.tallies.now) (ap (λ ys. list_any tally_passes (reverse ys)) (sym c.as_slice.ensures) ∙ sym c.some_pass.ensures ∙ e)
