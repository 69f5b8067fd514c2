use Rattle.std.proofs.Common.{◌≡◌, refl, sym, subst, arith}
use Rattle.st_num.specs.Numeral.{IsDigitsOf}
use Rattle.st_words.proofs.NumbersLemmas.{number_found, number_digits}
use Rattle.st_words.proofs.number.number_of.Goals as goal

pub returns-in_default : goal.returns-in_default
returns-in_default c = λ n number.
    let found = number_found c.args.text.now c.as_bytes.result.now _ c.as_bytes.ensures.value c.in_default.ensures.value c.if-starts_with.ensures.cases c.args.low c.args.high n c.ranges.high.fits number in
    absurd (cc)

pub returns-in_default-try_from : goal.returns-in_default-try_from
returns-in_default-try_from c = λ n number.
    let found = number_found c.args.text.now c.as_bytes.result.now _ c.as_bytes.ensures.value c.in-Ok.ensures.value c.if-starts_with.ensures.cases c.args.low c.args.high n c.ranges.high.fits number in
    let same : c.in-Ok.number ≡ n = cc in
    c.in_default-try_from.ensures (omega (arith, c.ranges.high.fits, number.most))

pub returns-then-number-low : goal.returns-then-number-low
returns-then-number-low c = λ n number.
    let found = number_found c.args.text.now c.as_bytes.result.now _ c.as_bytes.ensures.value c.in-Ok.ensures.value c.if-starts_with.ensures.cases c.args.low c.args.high n c.ranges.high.fits number in
    let same : c.in-Ok.number ≡ n = cc in
    omega (arith, number.least, number.most, c.in-Ok-try_from.ensures.1)

pub returns : goal.returns
returns c = record {
  digits = subst (IsDigitsOf 10 c.args.text.now) (sym c.in-Ok-try_from.ensures.1) (number_digits c.args.text.now c.as_bytes.result.now _ c.as_bytes.ensures.value c.in-Ok.ensures.value c.if-starts_with.ensures.cases c.in-Ok.number refl);
  short = omega arith;
  least = omega arith;
  most = omega arith;
}
