use Rattle.st_num.proofs.NumeralLemmas.{Spells-hexadecimal, Spells-decimal, after_prefix, reads_large, reads_malformed}
use Rattle.st_num.proofs.numeral.read_number.Goals as goal

pub returns-in-Some-clause-large : goal.returns-in-Some-clause-large
returns-in-Some-clause-large c =
    let prefixed = c.in-Some.ensures.cases in
    let read = c.read_digits.ensures in
    reads_large c.args.text.now c.in-Some.digits.now 16 c.read_digits.result (Spells-hexadecimal _ _ (after_prefix _ _ prefixed.0 prefixed.1)) read.ok read.large read.malformed

pub returns-in-Some-clause-malformed : goal.returns-in-Some-clause-malformed
returns-in-Some-clause-malformed c =
    let prefixed = c.in-Some.ensures.cases in
    let read = c.read_digits.ensures in
    reads_malformed c.args.text.now c.in-Some.digits.now 16 c.read_digits.result (Spells-hexadecimal _ _ (after_prefix _ _ prefixed.0 prefixed.1)) read.ok read.large read.malformed

pub returns-in-None-clause-large : goal.returns-in-None-clause-large
returns-in-None-clause-large c =
    let read = c.read_digits-in-None.ensures in
    reads_large c.args.text.now c.args.text.now 10 c.read_digits-in-None.result (Spells-decimal _ c.in-None.ensures.cases) read.ok read.large read.malformed

pub returns-in-None-clause-malformed : goal.returns-in-None-clause-malformed
returns-in-None-clause-malformed c =
    let read = c.read_digits-in-None.ensures in
    reads_malformed c.args.text.now c.args.text.now 10 c.read_digits-in-None.result (Spells-decimal _ c.in-None.ensures.cases) read.ok read.large read.malformed
