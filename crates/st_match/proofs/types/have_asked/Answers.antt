use Rattle.std.proofs.Common.{refl, sym, subst}
use Rattle.std.specs.List.{All}
use Rattle.std.proofs.lemmas.List.{take_all}
use Rattle.std.proofs.lemmas.List.Elements.{All-more, All-get_or}
use Rattle.st_match.specs.inner.Types.{HasAsked}
use Rattle.st_match.proofs.Tests.{refused}
use Rattle.st_match.proofs.types.have_asked.Goals as goal

pub returns-then-not-has_asked : goal.returns-then-not-has_asked
returns-then-not-has_asked c =
    let P = HasAsked c.args.types.now c.args.env.now in
    refused _ c.has_asked.result c.if-not-has_asked.true
    (λ s. c.has_asked.ensures.1 (subst P (sym c.one-item.is) (All-get_or P c.args.asked.now c.loop-one.one-index c.one-item.result c.loop-one-test.true s)))

pub loop-one-preserved : goal.loop-one-preserved
loop-one-preserved c =
    let P = HasAsked c.args.types.now c.args.env.now in
    All-more P c.args.asked.now c.loop-one.one-index c.one-item.result c.loop-one-test.true c.loop-one.invariant
    (subst P c.one-item.is (c.has_asked.ensures.0 c.if-not-has_asked.false))

pub returns : goal.returns
returns c = (
  λ t. subst (All (HasAsked c.args.types.now c.args.env.now)) (take_all c.loop-one.one-index c.args.asked.now c.loop-one-test.false) c.loop-one.invariant,
  λ s. refl,
)
