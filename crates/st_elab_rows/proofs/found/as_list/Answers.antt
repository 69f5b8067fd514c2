use Rattle.std.proofs.Common.{subst}
use Rattle.st_elab_table.specs.Elaboration.{Leads}
use Rattle.st_elab_rows.proofs.Leaves.{list_leads, list_fails}
use Rattle.st_elab_rows.proofs.found.as_list.Goals as goal

pub returns-in-List : goal.returns-in-List
returns-in-List c = λ S next a h. list_leads c.args.decls.now S c.args.at c.args.ty.now c.meaning.result.now c.in-List.element next a c.meaning.ensures.means c.in-List.is
    (subst (λ z. Leads c.args.decls.now S (next z) a) c.get.ensures h)

pub returns-in_default : goal.returns-in_default
returns-in_default c = λ S next. list_fails c.args.decls.now S c.args.at c.args.ty.now c.meaning.result.now next c.meaning.ensures.means c.in_default.not-List
