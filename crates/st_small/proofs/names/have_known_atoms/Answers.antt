use Rattle.std.proofs.Common.{sym, ◌∙◌, subst, true≢false, refl}
use Rattle.std.proofs.lemmas.List.{take_all}
use Rattle.std.proofs.lemmas.List.Elements.{All-more, All-same}
use Rattle.st_small.specs.inner.Names.{names_of, GoesBetween}
use Rattle.st_small.proofs.Elements.{not_all}
use Rattle.st_small.proofs.names.have_known_atoms.Goals as goal

pub loop-rule-preserved : goal.loop-rule-preserved
loop-rule-preserved c =
    All-more (GoesBetween (names_of c.args.atoms.now.keys)) c.args.rules.now c.loop-rule.rule-index c.rule-item.result
    c.loop-rule-test.true c.loop-rule.invariant
    (subst (GoesBetween (names_of c.args.atoms.now.keys)) c.rule-item.is (c.goes_between.ensures.0 c.if-not-goes_between.false))

pub returns-then-not-goes_between : goal.returns-then-not-goes_between
returns-then-not-goes_between c = (
  λ h. absurd (true≢false (sym h)),
  λ all. absurd (not_all (GoesBetween (names_of c.args.atoms.now.keys)) c.args.rules.now c.loop-rule.rule-index c.rule-item.result
      c.loop-rule-test.true c.rule-item.is
      (λ h. true≢false (sym (c.goes_between.ensures.1 h) ∙ c.if-not-goes_between.true)) all),
)

pub returns : goal.returns
returns c = (
  λ h. All-same (GoesBetween (names_of c.args.atoms.now.keys)) _ _ (sym (take_all c.loop-rule.rule-index c.args.rules.now c.loop-rule-test.false))
      c.loop-rule.invariant,
  λ all. refl,
)
