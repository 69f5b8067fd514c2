use Rattle.std.proofs.Common.{◌≡◌, ◌<◌, ◌≤◌, length, refl, arith}
use Rattle.std.proofs.lemmas.Option.{slice_get_read}
use Rattle.st_term.proofs.TypedValues.{suffices_more, suffices_all}
use Rattle.st_term.proofs.typed.all_typed.Goals as goal

pub loop-i-preserved : goal.loop-i-preserved
loop-i-preserved c =
    let i = c.loop-i.i in
    let holes = c.args.holes.now in
    let values = c.args.values.now in
    let one : i < length holes = omega arith in
    let other : i < length values = omega arith in
    suffices_more c.args.types.now holes values i c.index-holes-i.result c.index-values-i.result c.loop-i.invariant (slice_get_read holes _ i c.index-holes-i.result refl one c.index-holes-i.is)
    (slice_get_read values _ i c.index-values-i.result refl other c.index-values-i.is) c.in_ok-typed.ensures

pub returns : goal.returns
returns c =
    let holes = c.args.holes.now in
    let values = c.args.values.now in
    let same : length holes ≡ length values = omega arith in
    let past : length holes ≤ c.loop-i.i = omega arith in
    suffices_all c.args.types.now holes values c.loop-i.i c.loop-i.invariant same past
