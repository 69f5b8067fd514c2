use Rattle.st_elab_rows.proofs.Leaves.{nat_leads, int_leads, number_fails}
use Rattle.st_elab_rows.proofs.found.as_number.Goals as goal

pub returns-in-Nat : goal.returns-in-Nat
returns-in-Nat c = λ S next a h. nat_leads c.args.decls.now S c.args.at c.args.ty.now c.meaning.result.now next a c.meaning.ensures.means c.in-Nat.is h

pub returns-in-Int : goal.returns-in-Int
returns-in-Int c = λ S next a h. int_leads c.args.decls.now S c.args.at c.args.ty.now c.meaning.result.now next a c.meaning.ensures.means c.in-Int.is h

pub returns-in_default : goal.returns-in_default
returns-in_default c = λ S next. number_fails c.args.decls.now S c.args.at c.args.ty.now c.meaning.result.now next c.meaning.ensures.means c.in_default.not-Nat c.in_default.not-Int
