use Rattle.std.proofs.Common.{◌≡◌, ◌+◌, ◌<◌, ◌∙◌, ap, max, arith}
use Rattle.st_il.specs.declared.expression.IlExp.{out-IlExp}
use Rattle.st_il.specs.declared.expression.IlExp.TheVariants as exp
use Rattle.st_semantics.specs.Iterations.{count_of}
use Rattle.st_semantics.specs.Operands.{operands_at, item_exp, segment_exps}
use Rattle.st_semantics.specs.References.{exps_now}
use Rattle.st_semantics.specs.inner.Weight.{weight, heaviest}
use Rattle.st_semantics.proofs.Weights.{weight-operands, weight-iteration, heaviest-element}
use Rattle.st_ilcheck.proofs.ContentsLemmas.{contents-plain, contents-iterated, contents-start, contents-next, contents-end, within-made}
use Rattle.st_ilcheck.proofs.contents.+contents.Goals as goal

pub contents_of-in_iteration-requires : goal.contents_of-in_iteration-requires
contents_of-in_iteration-requires t c =
    let heavy = weight-iteration c.args.exp.now c.in-Iter.how c.in-Iter.field-1 c.in-Iter.body (ap out-IlExp c.in-Iter.is ∙ exp.outs-Iter c.in-Iter.how c.in-Iter.field-1 c.in-Iter.body) in
    let same : weight c.get.result.now ≡ weight c.in-Iter.body = ap weight c.get.ensures in
    let falls : 2 + max (heaviest (count_of c.in-Iter.how)) (weight c.get.result.now) < t = omega (arith, heavy, same, c.decreases) in
    (falls, tt)

pub contents_of-returns-in_ok-all-in-Iter : goal.contents_of-returns-in_ok-all-in-Iter
contents_of-returns-in_ok-all-in-Iter t c =
    contents-iterated c.args.exp.now c.in-Iter.how c.in-Iter.field-1 c.in-Iter.body c.get.result.now c.in_ok-own.own c.in_ok-parts-in-Iter.parts c.in_ok-all-in-Iter.all
    c.in-Iter.is c.get.ensures c.in_ok-own.ensures c.in_ok-parts-in-Iter.ensures c.in_ok-all-in-Iter.ensures

pub contents_of-contents_in-requires : goal.contents_of-contents_in-requires
contents_of-contents_in-requires t c =
    let same = ap exps_now c.as_slice.ensures ∙ c.in_ok-exps-in_default.ensures in
    let lighter = weight-operands c.args.exp.now in
    let weighs : heaviest (exps_now c.as_slice.result.now) ≡ heaviest (operands_at item_exp segment_exps (out-IlExp c.args.exp.now)) = ap heaviest same in
    let falls : 1 + heaviest (exps_now c.as_slice.result.now) < t = omega (arith, lighter, weighs, c.decreases) in
    (falls, tt)

pub contents_of-returns-in_ok-all-in_default : goal.contents_of-returns-in_ok-all-in_default
contents_of-returns-in_ok-all-in_default t c =
    contents-plain c.args.exp.now (exps_now c.as_slice.result.now) c.in_ok-own.own c.in_ok-parts-in_default.parts c.in_ok-all-in_default.all
    c.in_ok-own.ensures c.in_default.not-Iter (ap exps_now c.as_slice.ensures ∙ c.in_ok-exps-in_default.ensures) c.in_ok-parts-in_default.ensures c.in_ok-all-in_default.ensures

pub contents_in-contents_of-requires : goal.contents_in-contents_of-requires
contents_in-contents_of-requires t c =
    let lighter = heaviest-element c.args.exps.now c.loop-i.i c.index-exps-i.result c.loop-i-test.true c.index-exps-i.is in
    let falls : weight c.index-exps-i.result.now < t = omega (arith, lighter, c.decreases) in
    (falls, tt)

pub contents_in-loop-i-init : goal.contents_in-loop-i-init
contents_in-loop-i-init t c = contents-start c.args.exps.now c.nothing-found.result c.nothing-found.ensures

pub contents_in-loop-i-preserved : goal.contents_in-loop-i-preserved
contents_in-loop-i-preserved t c =
    contents-next c.args.exps.now c.loop-i.i c.loop-i.found c.loop-i.invariant c.index-exps-i.result c.in_ok-more.more c.in_ok-longer.longer c.loop-i-test.true c.index-exps-i.is c.in_ok-more.ensures c.in_ok-longer.ensures

pub contents_in-returns : goal.contents_in-returns
contents_in-returns t c = contents-end c.args.exps.now c.loop-i.i c.loop-i.found c.loop-i.invariant c.loop-i-test.false

pub in_iteration-contents_in-requires : goal.in_iteration-contents_in-requires
in_iteration-contents_in-requires t c =
    let weighs : heaviest (exps_now c.as_slice.result.now) ≡ heaviest (count_of c.args.how.now) = ap heaviest (ap exps_now c.as_slice.ensures ∙ c.in_ok-exps.ensures) in
    let falls : 1 + heaviest (exps_now c.as_slice.result.now) < t = omega (arith, weighs, c.decreases) in
    (falls, tt)

pub in_iteration-returns : goal.in_iteration-returns
in_iteration-returns t c =
    within-made c.args.how.now c.args.body.now (exps_now c.as_slice.result.now) c.in_ok-counted.counted c.in_ok-found.found c.in_ok-inner.inner c.in_ok-all.all
    (ap exps_now c.as_slice.ensures ∙ c.in_ok-exps.ensures) c.in_ok-counted.ensures c.in_ok-found.ensures c.in_ok-inner.ensures c.in_ok-all.ensures
