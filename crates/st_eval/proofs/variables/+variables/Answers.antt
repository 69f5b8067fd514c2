use Rattle.std.proofs.Common.{◌≡◌, ◌+◌, ◌<◌, ◌++◌, sym, ◌∙◌, ap, subst, arith}
use Rattle.st_il.specs.declared.expression.IlExp.{out-IlExp}
use Rattle.st_semantics.specs.Operands.{operands_at, item_exp, segment_exps}
use Rattle.st_semantics.specs.Formed.{AreFormed}
use Rattle.st_semantics.specs.Variables.{vars_of}
use Rattle.st_semantics.specs.References.{exps_now}
use Rattle.st_semantics.specs.inner.Weight.{weight, heaviest}
use Rattle.st_match.proofs.FormLevels.{formed_element}
use Rattle.st_semantics.proofs.Weights.{weight-operands, heaviest-element}
use Rattle.st_eval.proofs.BoundParts.{operand_parts}
use Rattle.st_eval.proofs.VariablesOf.{vars_of-next}
use Rattle.st_eval.proofs.variables.+variables.Goals as goal

pub variables_of-variables-requires : goal.variables_of-variables-requires
variables_of-variables-requires t c =
    let lighter = heaviest-element c.args.exps.now c.loop-i.i c.index-exps-i.result c.loop-i-test.true c.index-exps-i.is in
    let falls : weight c.index-exps-i.result.now < t = omega (arith, lighter, c.decreases) in
    let formed = formed_element c.requires.0 c.args.exps.now c.loop-i.i c.index-exps-i.result c.loop-i-test.true c.index-exps-i.is c.requires.1 in
    (falls, (c.requires.0, formed))

pub variables_of-loop-i-preserved : goal.variables_of-loop-i-preserved
variables_of-loop-i-preserved t c =
    vars_of-next c.loop-i.names c.in_ok-found.found c.in_ok-names.names c.args.exps.now c.loop-i.i c.index-exps-i.result
    (c.in_ok-names.ensures ∙ ap (λ z. c.loop-i.names ++ z) c.as_slice.ensures) c.in_ok-found.ensures c.loop-i-test.true c.index-exps-i.is
    ∙ c.loop-i.invariant

pub variables-variables_of-requires : goal.variables-variables_of-requires
variables-variables_of-requires t c =
    let same = ap exps_now c.as_slice-in_default.ensures ∙ c.in_ok-exps-in_default.ensures in
    let lighter = weight-operands c.args.exp.now in
    let weighs : heaviest (exps_now c.as_slice-in_default.result.now) ≡ heaviest (operands_at item_exp segment_exps (out-IlExp c.args.exp.now)) = ap heaviest same in
    let falls : 1 + heaviest (exps_now c.as_slice-in_default.result.now) < t = omega (arith, lighter, weighs, c.decreases) in
    let parts = operand_parts c.requires.0 c.args.exp.now c.requires.1 c.in_default.not-Var c.in_default.not-Iter in
    (falls, (c.requires.0, subst (AreFormed c.requires.0) (sym same) parts.formed))

pub variables-returns-in_ok-found-in_default : goal.variables-returns-in_ok-found-in_default
variables-returns-in_ok-found-in_default t c =
    let same = ap exps_now c.as_slice-in_default.ensures ∙ c.in_ok-exps-in_default.ensures in
    let parts = operand_parts c.requires.0 c.args.exp.now c.requires.1 c.in_default.not-Var c.in_default.not-Iter in
    c.in_ok-found-in_default.ensures ∙ (ap vars_of same ∙ sym parts.vars_are)
