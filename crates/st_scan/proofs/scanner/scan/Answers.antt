use Rattle.std.proofs.Common.{sym, subst}
use Rattle.st_num.specs.declared.rule.RuleId.TheVariants.{L4}
use Rattle.st_scan.specs.declared.read.Stop.TheVariants.{Refused}
use Rattle.st_scan.specs.Tokens.{Tokens}
use Rattle.st_scan.specs.inner.Steps.{StopsFile}
use Rattle.st_scan.proofs.Answers.{tokens_found, tokens_texts, only_list, tells_only, unread_utf8, utf8_first, token_first, told}
use Rattle.st_scan.proofs.scanner.scan.Goals as goal

pub returns-then-valid-bytes-clause-refused : goal.returns-then-valid-bytes-clause-refused
returns-then-valid-bytes-clause-refused c = told _ _ _ _ L4 c.refusal.ensures (unread_utf8 _ _ c.in-Ok.tokens _ c.in-Ok.ensures c.utf8_length-valid.ensures c.if-valid-bytes.true)

pub returns-then-valid-bytes-clause-only_fault : goal.returns-then-valid-bytes-clause-only_fault
returns-then-valid-bytes-clause-only_fault c = tells_only _ _ c.refusal.result (returns-then-valid-bytes-clause-refused c)

pub returns-then-valid-skipped-clause-refused : goal.returns-then-valid-skipped-clause-refused
returns-then-valid-skipped-clause-refused c =
    let fault : StopsFile c.args.file c.args.bytes.now (Refused c.in-Err-Refused.skipped c.in-Err-Refused.rule) = subst (StopsFile c.args.file c.args.bytes.now) c.in-Err-Refused.field-0-is c.in-Err-Refused.ensures in
    told _ _ _ _ L4 c.refusal-then-valid-skipped.ensures (utf8_first _ _ c.in-Err-Refused.skipped _ c.in-Err-Refused.rule fault.0 fault.1 c.utf8_length-valid.ensures c.if-valid-skipped.true)

pub returns-then-valid-skipped-clause-only_fault : goal.returns-then-valid-skipped-clause-only_fault
returns-then-valid-skipped-clause-only_fault c = tells_only _ _ c.refusal-then-valid-skipped.result (returns-then-valid-skipped-clause-refused c)

pub returns-else-valid-bytes-clause-only_tokens : goal.returns-else-valid-bytes-clause-only_tokens
returns-else-valid-bytes-clause-only_tokens c =
    let found : Tokens c.args.file c.args.bytes.now c.into_vec.result.items = subst (Tokens c.args.file c.args.bytes.now) (sym c.into_vec.ensures) (tokens_found _ _ _ _ c.in-Ok.ensures c.utf8_length-valid.ensures c.if-valid-bytes.false) in
    only_list _ _ _ found

pub returns-else-valid-bytes-clause-texts : goal.returns-else-valid-bytes-clause-texts
returns-else-valid-bytes-clause-texts c =
    let found : Tokens c.args.file c.args.bytes.now c.into_vec.result.items = subst (Tokens c.args.file c.args.bytes.now) (sym c.into_vec.ensures) (tokens_found _ _ _ _ c.in-Ok.ensures c.utf8_length-valid.ensures c.if-valid-bytes.false) in
    tokens_texts _ _ _ found

pub returns-else-valid-skipped-clause-refused : goal.returns-else-valid-skipped-clause-refused
returns-else-valid-skipped-clause-refused c =
    let fault : StopsFile c.args.file c.args.bytes.now (Refused c.in-Err-Refused.skipped c.in-Err-Refused.rule) = subst (StopsFile c.args.file c.args.bytes.now) c.in-Err-Refused.field-0-is c.in-Err-Refused.ensures in
    told _ _ _ _ _ c.refusal-in-Err-Refused.ensures (token_first _ _ c.in-Err-Refused.skipped _ c.in-Err-Refused.rule fault.0 fault.1 c.utf8_length-valid.ensures c.if-valid-skipped.false)

pub returns-else-valid-skipped-clause-only_fault : goal.returns-else-valid-skipped-clause-only_fault
returns-else-valid-skipped-clause-only_fault c = tells_only _ _ c.refusal-in-Err-Refused.result (returns-else-valid-skipped-clause-refused c)
