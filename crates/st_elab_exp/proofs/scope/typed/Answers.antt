use Rattle.std.proofs.Common.{ap, ◌∙◌}
use Rattle.st_elab_table.specs.Variables.{type_of_name}
use Rattle.st_elab_exp.proofs.Building.{next_typed, next_entry, same_pair}
use Rattle.st_elab_exp.proofs.scope.typed.Goals as goal

pub loop-entry-preserved : goal.loop-entry-preserved
loop-entry-preserved c = record {
  table = next_entry c.args.table.now c.loop-entry.entry-index c.entry-item.result _ _ _ c.loop-entry-test.true c.entry-item.is c.in_ok-push.ensures.ok
      (same_pair _ _ _ _ c.in_ok-copy.ensures (c.in_ok-dim.ensures ∙ c.as_slice.ensures)) c.loop-entry.invariant.table;
  types = next_typed c.args.decls.now _ _ _ c.in_ok-push.ensures.ok c.loop-entry.invariant.types
      (ap (type_of_name c.args.decls.now) c.in_ok-copy.ensures ∙ c.in_ok-ty.ensures);
}
