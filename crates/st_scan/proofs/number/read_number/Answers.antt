use Rattle.std.proofs.Common.{ap, ◌∙◌, Err, ◌≡◌, arith}
use Rattle.st_num.specs.declared.numeral.NumFault.TheVariants.{Malformed, Large}
use Rattle.st_scan.proofs.Numbers.{number_reading, number_large}
use Rattle.st_scan.proofs.number.read_number.Goals as goal

pub unreachable-requires : goal.unreachable-requires
unreachable-requires c =
    let is : c.read_number.result ≡ Err Malformed = c.in-Err-Malformed.is ∙ ap Err c.in-Err-Malformed.field-0-is in
    c.read_number.ensures.malformed.0 is c.number_front-text.ensures.value c.number_front-text.ensures.spelled

pub returns-in-Ok : goal.returns-in-Ok
returns-in-Ok c =
    let both = (c.read_number.ensures.value c.in-Ok.value).0 c.in-Ok.is in
    number_reading _ _ _ c.number_front-text.ensures c.requires both.0 both.1

pub returns-in-Err-Large : goal.returns-in-Err-Large
returns-in-Err-Large c =
    let is : c.read_number.result ≡ Err Large = c.in-Err-Large.is ∙ ap Err c.in-Err-Large.field-0-is in
    let found = c.read_number.ensures.large.0 is in
    (number_large _ _ found.0 c.number_front-text.ensures c.requires found.1 found.2, omega arith)
