use Rattle.std.proofs.Common.{sym, ap, ◌∙◌, subst}
use Rattle.st_type_table.specs.Breach.{IsSound}
use Rattle.st_elab_law.specs.Agreement.{syntaxes}
use Rattle.st_elab_def.proofs.tables.decls.Goals as goal

pub table_of-requires : goal.table_of-requires
table_of-requires c = subst IsSound (sym (c.in_ok-syntaxes.ensures ∙ ap syntaxes c.as_slice-defs.ensures)) c.requires
