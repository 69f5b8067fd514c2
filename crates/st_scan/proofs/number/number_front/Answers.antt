use Rattle.st_scan.proofs.Numbers.{hexadecimal_number, decimal_number}
use Rattle.st_scan.proofs.number.number_front.Goals as goal

pub returns-in-Some : goal.returns-in-Some
returns-in-Some c = hexadecimal_number _ _ c.in-Some.ensures

pub returns : goal.returns
returns c = decimal_number _ _ c.requires c.in_default.ensures c.digit_count-length.ensures
