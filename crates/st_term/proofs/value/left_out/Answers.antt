use Rattle.std.proofs.Common.{ap, subst, refl}
use Rattle.st_il.specs.declared.value.Value.TheVariants as value
use Rattle.st_type_table.specs.Meaning.{Means}
use Rattle.st_term.specs.inner.TermElements.{list, option}
use Rattle.st_term.proofs.value.left_out.Goals as goal

pub returns-in-List : goal.returns-in-List
returns-in-List c = list c.in-List.field-0 (subst (Means c.args.types.now c.args.ty.now) c.in-List.is c.meaning.ensures.means) (ap value.List c.new.ensures)

pub returns-in-Opt : goal.returns-in-Opt
returns-in-Opt c = option c.in-Opt.field-0 (subst (Means c.args.types.now c.args.ty.now) c.in-Opt.is c.meaning.ensures.means) refl
