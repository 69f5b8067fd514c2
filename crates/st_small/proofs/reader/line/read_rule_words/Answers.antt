use Rattle.st_small.proofs.ReaderLines.{Stops-lower-colon, Stops-arrow, Stops-line, rule_relation, rule_slash, rule_name, rule_made, same_rule}
use Rattle.st_small.proofs.reader.line.read_rule_words.Goals as goal

pub returns-in_err-rest-2-clause-only : goal.returns-in_err-rest-2-clause-only
returns-in_err-rest-2-clause-only c = λ rule rest fits e.
    absurd (c.in_err-rest-2.ensures _ (rule_relation c.args.relation.now c.args.bytes.now _ c.args.relation.now rule rest e c.in_ok-rest.ensures))

pub returns-in_err-rest-3-clause-only : goal.returns-in_err-rest-3-clause-only
returns-in_err-rest-3-clause-only c = λ rule rest fits e.
    absurd (c.in_err-rest-3.ensures _ (rule_slash _ _ _ _ rule rest e c.in_ok-rest.ensures c.in_ok-rest-2.ensures))

pub returns-in_err-name-clause-only : goal.returns-in_err-name-clause-only
returns-in_err-name-clause-only c = λ rule rest fits e.
    let e3 = rule_name _ _ _ _ rule rest e c.in_ok-rest.ensures c.in_ok-rest-2.ensures _ c.in_ok-rest-3.ensures in
    absurd (c.in_err-name.ensures.only rule.name _ fits.name Stops-lower-colon e3)

pub returns-in_err-from-clause-only : goal.returns-in_err-from-clause-only
returns-in_err-from-clause-only c = λ rule rest fits e.
    let e3 = rule_name _ _ _ _ rule rest e c.in_ok-rest.ensures c.in_ok-rest-2.ensures _ c.in_ok-rest-3.ensures in
    let e4 = c.in_ok-name.ensures.only rule.name _ fits.name Stops-lower-colon e3 in
    absurd (c.in_err-from.ensures.only rule.from _ fits.from Stops-arrow e4.1)

pub returns-in_err-to-clause-only : goal.returns-in_err-to-clause-only
returns-in_err-to-clause-only c = λ rule rest fits e.
    let e3 = rule_name _ _ _ _ rule rest e c.in_ok-rest.ensures c.in_ok-rest-2.ensures _ c.in_ok-rest-3.ensures in
    let e4 = c.in_ok-name.ensures.only rule.name _ fits.name Stops-lower-colon e3 in
    let e5 = c.in_ok-from.ensures.only rule.from _ fits.from Stops-arrow e4.1 in
    absurd (c.in_err-to.ensures.only rule.to _ fits.to Stops-line e5.1)

pub returns-clause-only : goal.returns-clause-only
returns-clause-only c = λ rule rest fits e.
    let e3 = rule_name _ _ _ _ rule rest e c.in_ok-rest.ensures c.in_ok-rest-2.ensures _ c.in_ok-rest-3.ensures in
    let e4 = c.in_ok-name.ensures.only rule.name _ fits.name Stops-lower-colon e3 in
    let e5 = c.in_ok-from.ensures.only rule.from _ fits.from Stops-arrow e4.1 in
    let e6 = c.in_ok-to.ensures.only rule.to _ fits.to Stops-line e5.1 in
    (same_rule _ rule e4.0 e5.0 e6.0, e6.1)

pub returns-clause-read : goal.returns-clause-read
returns-clause-read c = (
  record { name = c.in_ok-name.ensures.read.0; from = c.in_ok-from.ensures.read.0; to = c.in_ok-to.ensures.read.0 },
  rule_made c.args.relation.now c.args.bytes.now _ _ _ _ _ c.in_ok-to.rest.now
      (record { name = c.in_ok-name.name.now; from = c.in_ok-from.from.now; to = c.in_ok-to.to.now })
      c.in_ok-rest.ensures c.in_ok-rest-2.ensures c.in_ok-rest-3.ensures c.in_ok-name.ensures.read.1
      c.in_ok-from.ensures.read.1 c.in_ok-to.ensures.read.1,
)
