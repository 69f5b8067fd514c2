use Rattle.st_verify.proofs.Values.{case_has_value}
use Rattle.st_verify.proofs.typed.has_value.Goals as goal

pub returns-then-is_empty : goal.returns-then-is_empty
returns-then-is_empty c =
    let empty = c.is_empty.ensures.0 c.if-is_empty.true in
    let has = case_has_value c.args.exp.now c.in-Case.field-0 c.in-Case.tag c.in-Case.operands c.args.value.now c.in-Case.is empty in
    (λ yes. has.0 (c.is_case_of.ensures.0 yes), λ value. c.is_case_of.ensures.1 (has.1 value))
