use Rattle.std.proofs.Common.{◌≡◌, ◌*◌, ◌^◌, ◌/◌, ◌<◌, ◌≤◌, arith, ◌∙◌, subst, ap}
use Rattle.st_num.proofs.Powers.{Turned, Turned-odd, Turned-even, none-left, odd-overflows, square-overflows, factor-positive}
use Rattle.st_num.proofs.arithmetic.raised.Goals as goal
use Rattle.st_num.proofs.arithmetic.raised.Goals.{then-left-eq1+in-Some, else-left-eq1}

pub returns : goal.returns
returns c =
    let kept = c.loop-left.invariant in
    let is : c.loop-left.done ≡ c.args.base ^ c.args.exponent = none-left _ _ _ _ (omega arith) kept.whole in
    (subst (λ n. n < 2 ^ 128) is kept.small, is)

pub returns-in_default : goal.returns-in_default
returns-in_default c = λ fits.
    let above : 2 ^ 128 ≤ c.args.base ^ c.args.exponent = odd-overflows c.loop-left.done c.loop-left.square c.loop-left.left _ (2 ^ 128) (omega arith) c.if-left-eq1.true c.loop-left.invariant.whole (omega (arith, c.in_default.ensures)) in
    omega (arith, above, fits)

pub returns-in_default-checked_mul : goal.returns-in_default-checked_mul
returns-in_default-checked_mul c = λ fits.
    let kept = c.loop-left.invariant in
    let turned : Turned c.if-left-eq1.done c.loop-left.square (c.loop-left.left / 2) (c.args.base ^ c.args.exponent) = elim c.if-left-eq1.branch [
      | then-left-eq1+in-Some w ↦ Turned-odd c.loop-left.done _ _ _ _ w.if-left-eq1.true kept.whole kept.positive (w.done-is ∙ w.in-Some.ensures.1)
      | else-left-eq1 w ↦ Turned-even c.loop-left.done _ _ _ _ w.if-left-eq1.false kept.whole kept.positive w.done-is
    ] in
    let above : 2 ^ 128 ≤ c.args.base ^ c.args.exponent = square-overflows c.if-left-eq1.done c.loop-left.square (c.loop-left.left / 2) _ (2 ^ 128) (omega arith) c.if-left-gt0.true turned.positive turned.whole (omega (arith, c.in_default-checked_mul.ensures)) in
    omega (arith, above, fits)

pub loop-left-preserved-then-left-gt0 : goal.loop-left-preserved-then-left-gt0
loop-left-preserved-then-left-gt0 c =
    let kept = c.loop-left.invariant in
    let turned : Turned c.if-left-eq1.done c.loop-left.square (c.loop-left.left / 2) (c.args.base ^ c.args.exponent) = elim c.if-left-eq1.branch [
      | then-left-eq1+in-Some w ↦ Turned-odd c.loop-left.done _ _ _ _ w.if-left-eq1.true kept.whole kept.positive (w.done-is ∙ w.in-Some.ensures.1)
      | else-left-eq1 w ↦ Turned-even c.loop-left.done _ _ _ _ w.if-left-eq1.false kept.whole kept.positive w.done-is
    ] in
    let is : c.in-Some-checked_mul.more ≡ c.loop-left.square * c.loop-left.square = c.in-Some-checked_mul.ensures.1 in
    record {
      whole = ap (λ x. c.if-left-eq1.done * x ^ (c.loop-left.left / 2)) is ∙ turned.whole;
      positive = λ more. turned.positive (factor-positive c.loop-left.square c.loop-left.square 1 (omega arith) (omega (arith, is, more)));
      small = elim c.if-left-eq1.branch [
        | then-left-eq1+in-Some w ↦ omega (arith, w.done-is, w.in-Some.ensures.1, w.in-Some.ensures.0)
        | else-left-eq1 w ↦ omega (arith, w.done-is, kept.small)
      ];
    }
