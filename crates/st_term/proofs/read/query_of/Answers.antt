use Rattle.std.proofs.Common.{rules, sym, ◌∙◌, arith}
use Rattle.st_term.proofs.Readings.{none_there, only_one, found_stops, query_read}
use Rattle.st_term.proofs.read.query_of.Goals as goal

pub returns-in_err-found-in-len1 : goal.returns-in_err-found-in-len1
returns-in_err-found-in-len1 c =
    let exps = c.args.exps.now in
    found_stops c.args.decls.now exps c.closed-scope.result c.exp-item.result c.infer_exp.result c.from_residual-in_err-found-in-len1.result c.in_err-found-in-len1.field-0.0
    c.closed-scope.ensures (sym c.in_ok-at.ensures ∙ none_there c.in_ok-at.field-0 c.in_default.not-Some)
    (only_one exps c.exp-item.result (omega (arith, c.in-len1.len_at_least)) (omega (arith, c.in-len1.len_below)) c.exp-item.is)
    c.in_err-found-in-len1.was (search rules) c.infer_exp.ensures.told

pub returns-in_ok-found-in-len1 : goal.returns-in_ok-found-in-len1
returns-in_ok-found-in-len1 c =
    let exps = c.args.exps.now in
    query_read c.args.decls.now exps c.closed-scope.result c.exp-item.result c.infer_exp.result c.in_ok-found-in-len1.found
    c.closed-scope.ensures (sym c.in_ok-at.ensures ∙ none_there c.in_ok-at.field-0 c.in_default.not-Some)
    (only_one exps c.exp-item.result (omega (arith, c.in-len1.len_at_least)) (omega (arith, c.in-len1.len_below)) c.exp-item.is)
    c.in_ok-found-in-len1.was c.infer_exp.ensures.told
