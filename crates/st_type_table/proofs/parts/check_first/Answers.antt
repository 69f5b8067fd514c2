use Rattle.std.proofs.Common.{◌<◌, ap, sym, subst, length, arith}
use Rattle.std.proofs.lemmas.List.{length-map}
use Rattle.std.proofs.lemmas.Option.{slice_get-get_or}
use Rattle.st_type_table.specs.inner.Graph.{node_of, graph_of}
use Rattle.st_type_table.specs.inner.Components.{AreComponents}
use Rattle.st_type_table.proofs.PartLemmas.{Returns-first}
use Rattle.st_type_table.proofs.parts.check_first.Goals as goal

pub check_numbered-requires-clause-numbers : goal.check_numbered-requires-clause-numbers
check_numbered-requires-clause-numbers c =
    let numbers = c.as_slice-numbers.result.now in
    let e = ap length c.as_slice-numbers.ensures in
    let h = c.requires.within in
    let s = c.requires.survey.components.size in
    let l = length-map c.args.defs.now (node_of c.args.defs.now) in
    let within : c.args.at < length c.as_slice-numbers.result.now = omega (arith, e, h, s, l) in
    let components : AreComponents (graph_of c.args.defs.now) c.as_slice-numbers.result.now =
    subst (AreComponents (graph_of c.args.defs.now)) (sym c.as_slice-numbers.ensures) c.requires.survey.components in
    λ d there. Returns-first c.args.defs.now numbers _ c.args.at d there (c.requires.first d there) components (slice_get-get_or numbers c.args.at 0 within)
