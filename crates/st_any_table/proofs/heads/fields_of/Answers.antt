use Rattle.st_any_table.proofs.HeadsLemmas.{fields-exact}
use Rattle.st_any_table.proofs.heads.fields_of.Goals as goal

pub returns-in-Some : goal.returns-in-Some
returns-in-Some c = fields-exact c.args.defs.now c.args.ty.now c.in-Some.meaning.now c.fields_named.result c.in-Some.ensures c.fields_named.ensures

pub returns-in-None : goal.returns-in-None
returns-in-None c = λ fields h. c.in-None.ensures h.structure h.means
