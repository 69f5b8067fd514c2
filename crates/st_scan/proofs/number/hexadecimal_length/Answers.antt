use Rattle.std.proofs.Common.{Some, codes, sym, ◌∙◌, arith}
use Rattle.std.proofs.lemmas.Bool.Decides.{Decides-eqb}
use Rattle.std.proofs.lemmas.List.Sums.{prefix_len-le-length}
use Rattle.std.proofs.lemmas.Slice.Eq.{strip_prefix_is}
use Rattle.st_scan.proofs.Numbers.{digit_in, no_hexadecimal, longest_hexadecimal}
use Rattle.st_scan.proofs.number.hexadecimal_length.Goals as goal

pub returns-then-count-eq0 : goal.returns-then-count-eq0
returns-then-count-eq0 c = no_hexadecimal _ _ (strip_prefix_is Decides-eqb _ (codes "0x") (Some c.in_ok-digits.digits) c.in_ok-digits.ensures.cases) (sym c.digit_count-count.ensures ∙ c.if-count-eq0.true)

pub overflow_add-result : goal.overflow_add-result
overflow_add-result c = omega (arith, c.digit_count-count.ensures, prefix_len-le-length (digit_in 16) c.in_ok-digits.digits.now, c.in_ok-digits.ensures.cases.2)

pub returns : goal.returns
returns c = longest_hexadecimal _ _ _ (strip_prefix_is Decides-eqb _ (codes "0x") (Some c.in_ok-digits.digits) c.in_ok-digits.ensures.cases) c.digit_count-count.ensures c.if-count-eq0.false
