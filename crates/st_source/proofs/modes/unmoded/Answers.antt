use Rattle.std.proofs.Common.{sym, ◌∙◌, ap, length, subst, get_or, ◌<◌}
use Rattle.std.specs.Prelude.{Some}
use Rattle.std.proofs.lemmas.Option.{slice_get-get_or}
use Rattle.st_source.proofs.SourcePlaces.{breach-placed, source-within}
use Rattle.st_source.proofs.Checks.{source_unmoded}
use Rattle.st_source.proofs.Specifications.{refuses_source}
use Rattle.st_source.proofs.modes.unmoded.Goals as goal

pub bounds-sources-place : goal.bounds-sources-place
bounds-sources-place c =
    subst (λ xs. c.args.place < length xs) (sym c.as_slice-sources.ensures)
    (breach-placed c.args.defs.now c.args.elaborated.now c.args.place c.args.rule c.requires.elaborated c.requires.first)

pub bounds-defs-number : goal.bounds-defs-number
bounds-defs-number c =
    source-within c.args.defs.now c.args.elaborated.now c.args.place (get_or c.as_slice-sources.result.now c.args.place 0) 0 c.requires.elaborated
    (breach-placed c.args.defs.now c.args.elaborated.now c.args.place c.args.rule c.requires.elaborated c.requires.first) (ap (λ xs. get_or xs c.args.place 0) c.as_slice-sources.ensures)

pub refused_in-requires : goal.refused_in-requires
refused_in-requires c =
    let placed = breach-placed c.args.defs.now c.args.elaborated.now c.args.place c.args.rule c.requires.elaborated c.requires.first in
    let within =
    source-within c.args.defs.now c.args.elaborated.now c.args.place (get_or c.as_slice-sources.result.now c.args.place 0) 0 c.requires.elaborated placed
    (ap (λ xs. get_or xs c.args.place 0) c.as_slice-sources.ensures) in
    c.requires.begin (get_or c.as_slice-sources.result.now c.args.place 0) c.index-defs-number.result
    (slice_get-get_or c.args.defs.now (get_or c.as_slice-sources.result.now c.args.place 0) c.index-defs-number.result within ∙ ap Some (sym c.index-defs-number.is))

pub returns : goal.returns
returns c =
    refuses_source c.args.names.now c.args.defs.now c.refused_in.result c.refused_in.ensures.status
    (source_unmoded c.args.names.now c.args.defs.now c.args.elaborated.now c.args.place (get_or c.as_slice-sources.result.now c.args.place 0) 0 c.args.rule c.index-defs-number.result
    c.refused_in.result c.requires.elaborated c.requires.first (ap (λ xs. get_or xs c.args.place 0) c.as_slice-sources.ensures) c.index-defs-number.is c.refused_in.ensures.bytes)
