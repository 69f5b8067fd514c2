use Rattle.std.proofs.Common.{◌≡◌, ◌<◌, take, length, true, refl, arith, take_all}
use Rattle.st_verify.proofs.Values.{AreCaseValues-length, AreCaseValues-at, AreCaseValues-more}
use Rattle.st_verify.proofs.typed.have_values.Goals as goal

pub returns-then-exps-values : goal.returns-then-exps-values
returns-then-exps-values c = (λ no. cc, λ have. absurd (c.if-exps-values.true (AreCaseValues-length c.args.exps.now c.args.values.now have)))

pub returns-then-not-has_value : goal.returns-then-not-has_value
returns-then-not-has_value c = (
  λ no. cc,
  λ have.
      let has =
      AreCaseValues-at c.args.exps.now c.args.values.now c.loop-i.i c.index-exps-i.result c.index-values-i.result have c.loop-i-test.true c.index-exps-i.is c.index-values-i.is in
      let yes : c.has_value.result ≡ true = c.has_value.ensures.1 has in
      cc,
)

pub loop-i-preserved : goal.loop-i-preserved
loop-i-preserved c =
    let at : c.loop-i.i < length c.args.values.now = omega arith in
    AreCaseValues-more c.args.exps.now c.args.values.now c.loop-i.i c.index-exps-i.result c.index-values-i.result c.loop-i-test.true at
    c.index-exps-i.is c.index-values-i.is c.loop-i.invariant (c.has_value.ensures.0 c.if-not-has_value.false)

pub returns : goal.returns
returns c =
    let whole : take c.loop-i.i c.args.exps.now ≡ c.args.exps.now = take_all _ _ c.loop-i-test.false in
    let whole_values : take c.loop-i.i c.args.values.now ≡ c.args.values.now = take_all _ _ (omega arith) in
    (λ yes. rw (whole, whole_values) at c.loop-i.invariant, λ have. refl)
