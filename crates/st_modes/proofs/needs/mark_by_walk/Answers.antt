use Rattle.std.proofs.Common.{sym, ap, ◌∙◌}
use Rattle.std.specs.Option.{option_copied}
use Rattle.st_order.specs.inner.Index.{names_in}
use Rattle.st_order.specs.Known.{all_now}
use Rattle.st_modes.proofs.NeedsFun.{needs_none, needs_some}
use Rattle.st_modes.proofs.needs.mark_by_walk.Goals as goal

pub returns-in-Some : goal.returns-in-Some
returns-in-Some c =
    needs_some c.args.indexed.now c.requires.indexed c.args.relation.now (names_in c.in_ok-needed.needed.keys) c.in_ok-needed.ensures (all_now c.args.unfit.now) c.requires.unfit c.in-Some.other.now
    c.in_ok-copy-in-Some.field-0 (sym c.first_relation.ensures ∙ ap option_copied c.in-Some.is) c.in_ok-copy-in-Some.ensures

pub returns : goal.returns
returns c =
    needs_none c.args.indexed.now c.requires.indexed c.args.relation.now (names_in c.in_ok-needed.needed.keys) c.in_ok-needed.ensures (all_now c.args.unfit.now) c.requires.unfit
    (sym c.first_relation.ensures ∙ ap option_copied c.in-None.is)
