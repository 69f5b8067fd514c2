use Rattle.std.proofs.Common.{sym, ◌∙◌, ap, refl}
use Rattle.std.specs.Option.{option_map}
use Rattle.st_semantics.specs.OrderOf.{next_in}
use Rattle.st_order.specs.inner.Index.{names_in}
use Rattle.st_order.specs.inner.Selections.{numbered, all_numbered}
use Rattle.st_order.proofs.selection.take_next.Goals as goal

pub returns-in_ok-take-in-Some : goal.returns-in_ok-take-in-Some
returns-in_ok-take-in-Some c = (
  numbered c.in-Some.next,
  sym (c.in_ok-next.ensures ∙ ap (λ z. next_in c.args.directions.now.il.now (names_in c.args.selection.now.bound.keys) (all_numbered z)) c.as_slice.ensures) ∙ ap (option_map numbered) c.in-Some.is,
  c.in_ok-take-in-Some.ensures,
)

pub returns-in-None : goal.returns-in-None
returns-in-None c = (
  sym (c.in_ok-next.ensures ∙ ap (λ z. next_in c.args.directions.now.il.now (names_in c.args.selection.now.bound.keys) (all_numbered z)) c.as_slice.ensures) ∙ ap (option_map numbered) c.in-None.is,
  refl,
)
