use Rattle.std.proofs.Common.{◌∙◌}
use Rattle.st_elab_table.proofs.FoundByName.{fun_named-found}
use Rattle.st_elab_rows.proofs.variable.fun_named.Goals as goal

pub returns : goal.returns
returns c = c.first.ensures ∙ fun_named-found c.args.name.now c.args.funs.now
