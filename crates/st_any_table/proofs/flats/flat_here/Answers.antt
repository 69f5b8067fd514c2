use Rattle.st_any_table.proofs.HeadsLemmas.{head-within, head-name, no-head-body}
use Rattle.st_any_table.proofs.FlatsLemmas.{flat-here-some, NoFlatHere-unnamed}
use Rattle.st_any_table.proofs.flats.flat_here.Goals as goal

pub flat_of_variant-requires : goal.flat_of_variant-requires
flat_of_variant-requires c = head-within c.args.defs.now c.args.ty.now c.in-Some.position c.in-Some.ensures

pub returns-in-Some : goal.returns-in-Some
returns-in-Some c = let n = head-name c.args.defs.now c.args.ty.now c.in-Some.position c.in-Some.ensures in
    flat-here-some c.args.defs.now c.args.flats.now c.requires.size c.requires.filled c.args.ty.now n.name c.in-Some.position n.is n.there c.flat_of_variant.result c.flat_of_variant.ensures

pub returns-in-None : goal.returns-in-None
returns-in-None c = NoFlatHere-unnamed c.args.defs.now c.args.ty.now (no-head-body c.args.defs.now c.args.ty.now c.in-None.ensures)
