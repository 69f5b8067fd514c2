use Rattle.std.proofs.Common.{rules, ap, ◌∙◌, ℕ, List, map}
use Rattle.st_il.specs.declared.ty.Ty.{Ty}
use Rattle.st_term.proofs.Readings.{given_to, parse_stops, text_read}
use Rattle.st_term.proofs.read.expressions.Goals as goal

pub returns-in_err-exps : goal.returns-in_err-exps
returns-in_err-exps c =
    parse_stops c.args.decls.now c.args.bytes.now c.in_ok-tokens.tokens.items c.parse_exp.result c.from_residual-in_err-exps.result c.in_err-exps.field-0.0
    c.in_ok-tokens.ensures.tokens c.in_err-exps.was (search rules)
    (given_to c.args.decls.now c.args.bytes.now c.in_ok-variables.variables c.as_slice-2.result.now c.in_ok-tokens.tokens.items c.deref.result.now c.parse_exp.result c.as_slice-2.ensures
    (c.in_ok-variables.ensures ∙ ap (map (λ (v : List ℕ × Ty). v.0)) c.as_slice.ensures) c.deref.ensures.value c.parse_exp.ensures)

pub returns : goal.returns
returns c =
    text_read c.args.decls.now c.args.bytes.now c.in_ok-tokens.tokens.items c.parse_exp.result c.in_ok-exps.exps c.in_ok-tokens.ensures.tokens c.in_ok-exps.was
    (given_to c.args.decls.now c.args.bytes.now c.in_ok-variables.variables c.as_slice-2.result.now c.in_ok-tokens.tokens.items c.deref.result.now c.parse_exp.result c.as_slice-2.ensures
    (c.in_ok-variables.ensures ∙ ap (map (λ (v : List ℕ × Ty). v.0)) c.as_slice.ensures) c.deref.ensures.value c.parse_exp.ensures)
