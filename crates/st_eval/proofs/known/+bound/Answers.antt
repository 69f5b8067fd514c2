use Rattle.std.proofs.Common.{◌≡◌, ◌+◌, ◌<◌, sym, ◌∙◌, ap, subst, arith}
use Rattle.st_il.specs.declared.expression.IlExp.{out-IlExp}
use Rattle.st_il.specs.Names.{all_known}
use Rattle.st_semantics.specs.Operands.{operands_at, item_exp, segment_exps}
use Rattle.st_semantics.specs.Formed.{AreFormed}
use Rattle.st_semantics.specs.Iterations.{count_of, index_of}
use Rattle.st_semantics.specs.Variables.{vars, vars_of}
use Rattle.st_semantics.specs.References.{exps_now}
use Rattle.st_semantics.specs.inner.Weight.{weight, heaviest}
use Rattle.st_match.proofs.FormLevels.{formed_element}
use Rattle.st_semantics.proofs.Weights.{weight-operands, heaviest-element}
use Rattle.st_eval.specs.inner.Known.{names_now}
use Rattle.st_eval.proofs.BoundParts.{operand_parts, iteration_known}
use Rattle.st_eval.proofs.known.+bound.Goals as goal

pub are_bound-is_bound-requires : goal.are_bound-is_bound-requires
are_bound-is_bound-requires t c =
    let lighter = heaviest-element c.args.exps.now c.loop-i.i c.index-exps-i.result c.loop-i-test.true c.index-exps-i.is in
    let falls : weight c.index-exps-i.result.now < t = omega (arith, lighter, c.decreases) in
    let formed = formed_element c.requires.0 c.args.exps.now c.loop-i.i c.index-exps-i.result c.loop-i-test.true c.index-exps-i.is c.requires.1 in
    (falls, (c.requires.0, formed))

pub is_bound-are_bound-requires : goal.is_bound-are_bound-requires
is_bound-are_bound-requires t c =
    let same = ap exps_now c.as_slice-in_default.ensures ∙ c.in_ok-exps-in_default.ensures in
    let lighter = weight-operands c.args.exp.now in
    let weighs : heaviest (exps_now c.as_slice-in_default.result.now) ≡ heaviest (operands_at item_exp segment_exps (out-IlExp c.args.exp.now)) = ap heaviest same in
    let falls : 1 + heaviest (exps_now c.as_slice-in_default.result.now) < t = omega (arith, lighter, weighs, c.decreases) in
    let parts = operand_parts c.requires.0 c.args.exp.now c.requires.1 c.in_default.not-Var c.in_default.not-Iter in
    (falls, (c.requires.0, subst (AreFormed c.requires.0) (sym same) parts.formed))

pub is_bound-returns-in_ok-bound-in_default : goal.is_bound-returns-in_ok-bound-in_default
is_bound-returns-in_ok-bound-in_default t c =
    let same = ap exps_now c.as_slice-in_default.ensures ∙ c.in_ok-exps-in_default.ensures in
    let parts = operand_parts c.requires.0 c.args.exp.now c.requires.1 c.in_default.not-Var c.in_default.not-Iter in
    c.in_ok-bound-in_default.ensures ∙ ap (all_known (names_now c.args.known.now)) (ap vars_of same ∙ sym parts.vars_are)

pub is_iteration_bound-returns : goal.is_iteration_bound-returns
is_iteration_bound-returns t c =
    iteration_known (index_of c.args.how.now) (names_now c.args.known.now) (vars_of (count_of c.args.how.now)) c.args.names.now (vars c.args.body.now) _ _ _
    (c.in_ok-counted.ensures ∙ ap (λ z. all_known (names_now c.args.known.now) (vars_of z)) (ap exps_now c.as_slice.ensures ∙ c.in_ok-exps.ensures)) c.if-not-counted.false
    c.are_known.ensures c.if-not-are_known.false
    (c.in_ok-bound.ensures ∙ ap (λ z. all_known z (vars c.args.body.now)) (ap names_now c.as_slice-2.ensures ∙ c.in_ok-inner.ensures))
