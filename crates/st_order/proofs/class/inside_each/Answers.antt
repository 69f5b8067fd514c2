use Rattle.std.proofs.Common.{sym, ap, ◌∙◌}
use Rattle.st_order.specs.inner.Index.{names_in}
use Rattle.st_order.proofs.SameNames.{names_made}
use Rattle.st_order.proofs.ClassParts.{not_anchored, not_countable, not_bound, entered}
use Rattle.st_order.proofs.class.inside_each.Goals as goal

pub returns-then-not-anchored : goal.returns-then-not-anchored
returns-then-not-anchored c =
    not_anchored (names_in c.args.bound.now.keys) c.args.how.now c.args.list.now c.args.body.now (names_in c.as_slice-listed.result.now)
    (names_made c.as_slice-listed.result.now c.push_names.new.names c.new-listed.result c.args.list.now c.as_slice-listed.ensures c.in_ok-push_names.ensures c.new-listed.ensures) (sym c.in_ok-anchored.ensures ∙ c.if-not-anchored.true)

pub returns-then-not-countable : goal.returns-then-not-countable
returns-then-not-countable c =
    not_countable (names_in c.args.bound.now.keys) c.args.how.now c.args.list.now c.args.body.now (sym c.in_ok-countable.ensures ∙ c.if-not-countable.true)

pub returns-then-not-are_known : goal.returns-then-not-are_known
returns-then-not-are_known c =
    not_bound (names_in c.args.bound.now.keys) c.args.how.now c.args.list.now c.args.body.now (names_in c.as_slice-listed.result.now) (names_in c.as_slice-rest.result.now)
    (names_made c.as_slice-listed.result.now c.push_names.new.names c.new-listed.result c.args.list.now c.as_slice-listed.ensures c.in_ok-push_names.ensures c.new-listed.ensures) (ap names_in c.as_slice-rest.ensures ∙ c.in_ok-rest.ensures) (sym c.are_known.ensures ∙ c.if-not-are_known.true)

pub returns : goal.returns
returns c =
    entered (names_in c.args.bound.now.keys) c.args.how.now c.args.list.now c.args.body.now (names_in c.as_slice-listed.result.now) (names_in c.as_slice-rest.result.now) (names_in c.in_ok-inside.inside.keys)
    (names_made c.as_slice-listed.result.now c.push_names.new.names c.new-listed.result c.args.list.now c.as_slice-listed.ensures c.in_ok-push_names.ensures c.new-listed.ensures) (sym c.in_ok-anchored.ensures ∙ c.if-not-anchored.false) (sym c.in_ok-countable.ensures ∙ c.if-not-countable.false)
    (ap names_in c.as_slice-rest.ensures ∙ c.in_ok-rest.ensures) (sym c.are_known.ensures ∙ c.if-not-are_known.false) c.in_ok-inside.ensures
