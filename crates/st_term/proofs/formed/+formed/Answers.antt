use Rattle.std.proofs.Common.{◌≡◌, ◌+◌, ◌<◌, ◌∙◌, ap, subst, arith}
use Rattle.st_semantics.specs.Formed.{IsFormed, AreFormed}
use Rattle.st_semantics.specs.References.{exps_now}
use Rattle.st_semantics.specs.inner.Weight.{weight, heaviest}
use Rattle.st_semantics.proofs.Weights.{weight-operands, heaviest-element}
use Rattle.st_term.proofs.FormedExps.{operands_of, then_ok, formed_Absent, formed_Fields, formed_Iter, formed_other, formed_next, formed_end}
use Rattle.st_term.proofs.formed.+formed.Goals as goal

pub all_formed-formed-requires : goal.all_formed-formed-requires
all_formed-formed-requires t c =
    let lighter = heaviest-element c.args.exps.now c.loop-i.i c.index-exps-i.result c.loop-i-test.true c.index-exps-i.is in
    let falls : weight c.index-exps-i.result.now < t = omega (arith, lighter, c.decreases) in
    (falls, tt)

pub all_formed-loop-i-preserved : goal.all_formed-loop-i-preserved
all_formed-loop-i-preserved t c =
    formed_next c.args.types.now c.args.exps.now c.loop-i.i c.index-exps-i.result c.loop-i-test.true c.index-exps-i.is c.loop-i.invariant c.in_ok-formed.ensures

pub all_formed-returns : goal.all_formed-returns
all_formed-returns t c = formed_end c.args.types.now c.args.exps.now c.loop-i.i c.loop-i-test.false c.loop-i.invariant

pub formed-all_formed-requires-in_default : goal.formed-all_formed-requires-in_default
formed-all_formed-requires-in_default t c =
    let same = ap exps_now c.as_slice-in_default.ensures ∙ c.in_ok-exps-in_default.ensures in
    let lighter = weight-operands c.args.exp.now in
    let weighs : heaviest (exps_now c.as_slice-in_default.result.now) ≡ heaviest (operands_of c.args.exp.now) = ap heaviest same in
    let falls : 1 + heaviest (exps_now c.as_slice-in_default.result.now) < t = omega (arith, lighter, weighs, c.decreases) in
    (falls, tt)

pub formed-returns-in-Absent : goal.formed-returns-in-Absent
formed-returns-in-Absent t c = then_ok c.collection_fits.result (formed_Absent c.args.types.now c.args.exp.now c.in-Absent.ty c.in-Absent.is) c.collection_fits.ensures

pub formed-returns-in_ok-exps-in-Fields : goal.formed-returns-in_ok-exps-in-Fields
formed-returns-in_ok-exps-in-Fields t c =
    then_ok c.all_formed.result
    (formed_Fields c.args.types.now c.args.exp.now c.in-Fields.name c.in-Fields.parts (exps_now c.as_slice.result.now) c.len.result c.in-Fields.is c.len.ensures c.in_ok-fields_fit-in-Fields.ensures
    (ap exps_now c.as_slice.ensures ∙ c.in_ok-exps-in-Fields.ensures)) c.all_formed.ensures

pub formed-returns-in_ok-all_formed-in-Iter : goal.formed-returns-in_ok-all_formed-in-Iter
formed-returns-in_ok-all_formed-in-Iter t c =
    let counted = subst (AreFormed c.args.types.now) (ap exps_now c.as_slice-in-Iter.ensures ∙ c.in_ok-exps-in-Iter.ensures) c.in_ok-all_formed-in-Iter.ensures in
    then_ok c.formed.result
    (λ h. formed_Iter c.args.types.now c.args.exp.now c.in-Iter.how c.in-Iter.field-1 c.in-Iter.body c.in-Iter.is counted (subst (IsFormed c.args.types.now) c.get.ensures h)) c.formed.ensures

pub formed-returns-in_ok-exps-in_default : goal.formed-returns-in_ok-exps-in_default
formed-returns-in_ok-exps-in_default t c =
    then_ok c.all_formed-in_default.result
    (formed_other c.args.types.now c.args.exp.now (exps_now c.as_slice-in_default.result.now) c.in_default.not-Absent c.in_default.not-Fields c.in_default.not-Iter
    (ap exps_now c.as_slice-in_default.ensures ∙ c.in_ok-exps-in_default.ensures)) c.all_formed-in_default.ensures
