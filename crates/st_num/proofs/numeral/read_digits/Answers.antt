use Rattle.std.proofs.Common.{◌≡◌, ◌<◌, ◌+◌, ◌*◌, ◌∙◌, arith, ap, sym, subst, take, get_or}
use Rattle.std.proofs.lemmas.Int.Digits.{digits_more, digits_value_more}
use Rattle.std.specs.Char.{digit_value}
use Rattle.std.specs.Str.Parse.{digits_value}
use Rattle.st_num.proofs.NumeralLemmas.{AllDigits-at, SomeIff-digit}
use Rattle.st_num.proofs.numeral.read_digits.Goals as goal

pub returns-in_default-clause-malformed : goal.returns-in_default-clause-malformed
returns-in_default-clause-malformed c = λ _ numeral.
    let here = AllDigits-at c.args.radix c.args.digits.now c.loop-byte.byte-index numeral.1 (omega arith) in
    c.in_default.ensures.value (subst (λ byte. digit_value byte < c.args.radix) (sym c.from.ensures) here)

pub loop-byte-preserved : goal.loop-byte-preserved
loop-byte-preserved c =
    let kept = c.loop-byte.invariant in
    let here : digit_value (get_or c.args.digits.now c.loop-byte.byte-index 0) < c.args.radix = subst (λ byte. digit_value byte < c.args.radix) c.from.ensures c.in-Some.ensures.value.0 in
    let digit : digit_value (get_or c.args.digits.now c.loop-byte.byte-index 0) ≡ c.in-Some.digit = ap digit_value (sym c.from.ensures) ∙ sym c.in-Some.ensures.value.1 in
    let so_far = digits_value c.args.radix (take c.loop-byte.byte-index c.args.digits.now) in
    let more = digits_value_more c.args.radix c.args.digits.now c.loop-byte.byte-index (omega arith) ∙ ap (λ d. so_far * c.args.radix + d) digit in
    record {
      digits = digits_more c.args.radix c.args.digits.now c.loop-byte.byte-index (omega arith) kept.digits here;
      value = SomeIff-digit c.loop-byte.value _ c.args.radix _ so_far _ (omega arith) more kept.value c.with_digit-value.ensures.none c.with_digit-value.ensures.some;
    }
