use Rattle.std.proofs.Common.{◌≡◌, ◌+◌, ◌<◌, ◌∙◌, ap, max, arith}
use Rattle.st_il.specs.declared.expression.IlExp.{out-IlExp}
use Rattle.st_il.specs.declared.expression.IlExp.TheVariants as exp
use Rattle.st_semantics.specs.Iterations.{count_of}
use Rattle.st_semantics.specs.Operands.{operands_at, item_exp, segment_exps}
use Rattle.st_semantics.specs.Scopes.{listed_inside}
use Rattle.st_ilcheck.specs.Parts.{standing}
use Rattle.st_semantics.specs.References.{exps_now}
use Rattle.st_semantics.specs.inner.Weight.{weight, heaviest}
use Rattle.st_semantics.proofs.Weights.{weight-operands, weight-iteration, heaviest-element}
use Rattle.st_ilcheck.proofs.Builds.{parts-iterated, parts-plain, typings-moved, typings-next, typings-end, iterated-made}
use Rattle.st_ilcheck.proofs.typing.+typing.Goals as goal

pub typing_of-iterated-requires : goal.typing_of-iterated-requires
typing_of-iterated-requires t c =
    let heavy = weight-iteration c.args.exp.now c.in-Iter.how c.in-Iter.names c.in-Iter.body (ap out-IlExp c.in-Iter.is ∙ exp.outs-Iter c.in-Iter.how c.in-Iter.names c.in-Iter.body) in
    let same : weight c.get.result.now ≡ weight c.in-Iter.body = ap weight c.get.ensures in
    let falls : 2 + max (heaviest (count_of c.in-Iter.how)) (weight c.get.result.now) < t = omega (arith, heavy, same, c.decreases) in
    (falls, tt)

pub typing_of-typing_from-requires : goal.typing_of-typing_from-requires
typing_of-typing_from-requires t c =
    typings-moved c.args.language.now
    (parts-iterated c.args.listed.now c.args.exp.now c.in-Iter.how c.in-Iter.names c.as_slice.result.now c.in-Iter.body c.get.result.now c.in-Iter.is c.as_slice.ensures c.get.ensures)
    c.in_ok-parts-in-Iter.ensures

pub typing_of-typings_of-requires : goal.typing_of-typings_of-requires
typing_of-typings_of-requires t c =
    let same = ap exps_now c.as_slice-in_default.ensures ∙ c.in_ok-exps-in_default.ensures in
    let lighter = weight-operands c.args.exp.now in
    let weighs : heaviest (exps_now c.as_slice-in_default.result.now) ≡ heaviest (operands_at item_exp segment_exps (out-IlExp c.args.exp.now)) = ap heaviest same in
    let falls : 1 + heaviest (exps_now c.as_slice-in_default.result.now) < t = omega (arith, lighter, weighs, c.decreases) in
    (falls, tt)

pub typing_of-typing_from-requires-in_default : goal.typing_of-typing_from-requires-in_default
typing_of-typing_from-requires-in_default t c =
    typings-moved c.args.language.now
    (ap (standing c.args.listed.now) (ap exps_now c.as_slice-in_default.ensures ∙ c.in_ok-exps-in_default.ensures) ∙ parts-plain c.args.listed.now c.args.exp.now c.in_default.not-Iter)
    c.in_ok-parts-in_default.ensures

pub typings_of-typing_of-requires : goal.typings_of-typing_of-requires
typings_of-typing_of-requires t c =
    let lighter = heaviest-element c.args.exps.now c.loop-i.i c.index-exps-i.result c.loop-i-test.true c.index-exps-i.is in
    let falls : weight c.index-exps-i.result.now < t = omega (arith, lighter, c.decreases) in
    (falls, tt)

pub typings_of-loop-i-preserved : goal.typings_of-loop-i-preserved
typings_of-loop-i-preserved t c =
    typings-next c.args.language.now c.args.listed.now c.args.exps.now c.loop-i.i c.loop-i.types c.loop-i.broken c.loop-i.invariant c.index-exps-i.result c.in_ok-found.found.ty c.in_ok-found.found.broken _ c.in_ok-longer.longer
    c.loop-i-test.true c.index-exps-i.is c.in_ok-found.ensures c.in_ok-push.ensures.ok c.in_ok-longer.ensures

pub typings_of-returns : goal.typings_of-returns
typings_of-returns t c = typings-end c.args.language.now c.args.listed.now c.args.exps.now c.loop-i.i c.loop-i.types c.loop-i.broken c.loop-i.invariant c.loop-i-test.false

pub iterated-typings_of-requires : goal.iterated-typings_of-requires
iterated-typings_of-requires t c =
    let weighs : heaviest (exps_now c.as_slice.result.now) ≡ heaviest (count_of c.args.how.now) = ap heaviest (ap exps_now c.as_slice.ensures ∙ c.in_ok-exps.ensures) in
    let falls : 1 + heaviest (exps_now c.as_slice.result.now) < t = omega (arith, weighs, c.decreases) in
    (falls, tt)

pub iterated-returns : goal.iterated-returns
iterated-returns t c =
    iterated-made c.args.language.now c.args.listed.now (listed_inside c.args.how.now c.args.names.now c.args.listed.now) _ (count_of c.args.how.now) _ c.args.body.now
    c.in_ok-counted.counted.types _ c.in_ok-found.found.ty c.in_ok-counted.counted.broken c.in_ok-found.found.broken c.in_ok-broken.broken
    (ap exps_now c.as_slice.ensures ∙ c.in_ok-exps.ensures) (c.as_slice-2.ensures ∙ c.in_ok-inner.ensures) c.in_ok-counted.ensures c.in_ok-found.ensures c.in_ok-push.ensures.ok c.in_ok-broken.ensures
