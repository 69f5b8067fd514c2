use Rattle.std.proofs.Common.{arith, ◌≡◌, ◌<◌, length, List, ◌++◌, subst, MatchOption}
use Rattle.st_il.specs.declared.value.Value.{Value}
use Rattle.st_search.proofs.Fitting.{FitsAt, fits_step, fits_at, fits_long}
use Rattle.st_search.proofs.holes.fitting.Goals as goal

pub returns-then-holes-values : goal.returns-then-holes-values
returns-then-holes-values c = λ vs f. let long = fits_long c.args.holes.now c.args.values.now vs f in absurd (omega (arith, long, c.if-holes-values.true))

pub returns-in_default : goal.returns-in_default
returns-in_default c = λ vs f.
    let short : c.loop-i.i < length c.args.values.now = omega (arith, c.if-holes-values.false, c.loop-i-test.true) in
    let w = fits_at c.args.holes.now c.args.values.now c.loop-i.i c.index-holes-i.result c.index-values-i.result vs c.loop-i-test.true c.index-holes-i.is short c.index-values-i.is f in
    subst (λ z. MatchOption z ((first : List Value) → FitsAt c.index-holes-i.result c.index-values-i.result first → ⊥) (λ longer. (first : List Value) × FitsAt c.index-holes-i.result c.index-values-i.result first × (longer ≡ c.loop-i.found ++ first))) c.in_default.is c.in_ok-longer.ensures w.0 w.1

pub loop-i-preserved : goal.loop-i-preserved
loop-i-preserved c =
    let short : c.loop-i.i < length c.args.values.now = omega (arith, c.if-holes-values.false, c.loop-i-test.true) in
    let w = subst (λ z. MatchOption z ((first : List Value) → FitsAt c.index-holes-i.result c.index-values-i.result first → ⊥) (λ longer. (first : List Value) × FitsAt c.index-holes-i.result c.index-values-i.result first × (longer ≡ c.loop-i.found ++ first))) c.in-Some.is c.in_ok-longer.ensures in
    fits_step c.args.holes.now c.args.values.now c.loop-i.i c.index-holes-i.result c.index-values-i.result c.loop-i.found w.0 c.in-Some.longer c.loop-i-test.true c.index-holes-i.is short c.index-values-i.is c.loop-i.invariant w.1 w.2
