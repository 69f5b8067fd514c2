use Rattle.std.proofs.Common.{rules, true}
use Rattle.st_elab_table.specs.Steps.{made, give}
use Rattle.st_elab_table.specs.Collections.{splice}
use Rattle.st_elab_table.specs.Elaboration.{ends, passes, misses}
use Rattle.st_elab_rows.proofs.Leaves.{refuted, proved}
use Rattle.st_elab_exp.proofs.collection.found_item.Goals as goal

pub returns-then-is_sub : goal.returns-then-is_sub
returns-then-is_sub c = (
  made c.in_ok-one.one c.args.element.now,
  passes (proved c.is_sub.result c.if-is_sub.true c.is_sub.ensures.exact.0)
      (c.in_ok-one.ensures c.args.context.now.scope.now (λ y. give y c.args.element.now) _ ends),
  search rules,
)

pub returns-then-is_sub-2 : goal.returns-then-is_sub-2
returns-then-is_sub-2 c = (
  record { exp = c.in_ok-list.list; ty = c.args.ty.now; spliced = true },
  misses (refuted c.is_sub.result c.if-is_sub.false c.is_sub.ensures.exact.1)
      (passes (proved c.is_sub-2.result c.if-is_sub-2.true c.is_sub-2.ensures.exact.0)
      (c.in_ok-list.ensures c.args.context.now.scope.now (λ y. splice (made y c.args.ty.now)) _ ends)),
  search rules,
)

pub returns : goal.returns
returns c =
    misses (refuted c.is_sub.result c.if-is_sub.false c.is_sub.ensures.exact.1)
    (misses (refuted c.is_sub-2.result c.if-is_sub-2.false c.is_sub-2.ensures.exact.1) ends)
