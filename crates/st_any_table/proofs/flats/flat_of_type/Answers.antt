use Rattle.st_any_table.proofs.FlatsLemmas.{flat-of-type, no-cases}
use Rattle.st_any_table.proofs.flats.flat_of_type.Goals as goal

pub returns-in-Some : goal.returns-in-Some
returns-in-Some c = flat-of-type c.args.defs.now c.args.flats.now c.args.ty.now c.in-Some.meaning.now c.flat_here.result c.in-Some.ensures c.flat_here.ensures

pub returns-in-None : goal.returns-in-None
returns-in-None c = λ whole h. no-cases c.args.defs.now c.args.ty.now whole c.in-None.ensures h
