use Rattle.std.proofs.Common.{◌∙◌, ap, sym}
use Rattle.std.specs.List.{list_any}
use Rattle.st_order.specs.inner.Index.{names_in}
use Rattle.st_commands.specs.inner.Needing.{has_otherwise_under}
use Rattle.st_commands.proofs.NeededLemmas.{own_has, needed_have}
use Rattle.st_commands.proofs.needed.needs_otherwise.Goals as goal

pub returns-then-has_otherwise_under : goal.returns-then-has_otherwise_under
returns-then-has_otherwise_under c =
    own_has c.args.il.now c.args.relation.now c.in_ok-citations.citations c.in_ok-citations.ensures (sym c.has_otherwise_under.ensures ∙ c.if-has_otherwise_under.true)

pub returns : goal.returns
returns c =
    needed_have c.args.il.now c.args.relation.now c.in_ok-citations.citations c.in_ok-citations.ensures c.one_has_otherwise.result (names_in c.in_ok-needed.needed.keys)
    (sym c.has_otherwise_under.ensures ∙ c.if-has_otherwise_under.false) c.in_ok-needed.ensures
    (c.one_has_otherwise.ensures ∙ ap (λ ks. list_any (has_otherwise_under c.in_ok-citations.citations.rules.entries) (names_in ks)) c.as_slice.ensures.keys)
