use Rattle.std.proofs.Common.{sym, ap, ◌∙◌}
use Rattle.std.specs.Prelude.{is_some}
use Rattle.st_type_table.proofs.KeptLemmas.{bodied, body_of-kept}
use Rattle.st_type_table.proofs.meaning.is_declared.Goals as goal

pub returns-in-Some : goal.returns-in-Some
returns-in-Some c = sym (ap is_some (body_of-kept c.args.entries.now.entries c.args.name.now ∙ ap bodied (sym c.in-Some.ensures)))

pub returns-in-None : goal.returns-in-None
returns-in-None c = sym (ap is_some (body_of-kept c.args.entries.now.entries c.args.name.now ∙ ap bodied (sym c.in-None.ensures)))
