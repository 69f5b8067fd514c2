use Rattle.std.proofs.Common.{◌≡◌, map, drop}
use Rattle.st_elab_table.specs.Forms.{all_true, inferable}
use Rattle.st_elab_rows.proofs.form.+inferable.Given as goal

abbrev pub invariant-all_inferable-loop-part : goal.invariant-all_inferable-loop-part
invariant-all_inferable-loop-part l = all_true (map inferable l.parts) ≡ all_true (map inferable (drop l.part-index l.parts))
