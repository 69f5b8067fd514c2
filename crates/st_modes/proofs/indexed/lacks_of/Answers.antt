use Rattle.std.proofs.Common.{ap, ◌∙◌, subst}
use Rattle.st_modes.specs.inner.Citations.{called_by_function}
use Rattle.st_order.specs.inner.Index.{names_in}
use Rattle.st_modes.specs.inner.Reaching.{Reached, cited_under}
use Rattle.st_modes.specs.inner.Targets.{IsLeastOf, least_first}
use Rattle.st_modes.proofs.TargetParts.{least-reached}
use Rattle.st_modes.proofs.indexed.lacks_of.Goals as goal

pub returns : goal.returns
returns c start =
    subst (λ ts. IsLeastOf (Reached start (λ q. called_by_function q c.args.defs.now)) ts (least_first c.in_ok-lacks.lacks.entries start)) (ap names_in c.as_slice.ensures ∙ c.in_ok-names.ensures)
    (least-reached (λ q. called_by_function q c.args.defs.now) (cited_under c.in_ok-calling.calling.entries) c.in_ok-calling.ensures (names_in c.as_slice.result.now) c.in_ok-lacks.lacks.entries c.in_ok-lacks.ensures start)
