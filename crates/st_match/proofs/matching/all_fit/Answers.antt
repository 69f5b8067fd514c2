use Rattle.std.proofs.Common.{sym, arith}
use Rattle.st_semantics.proofs.Names.{true_false}
use Rattle.st_match.proofs.FitAll.{formed_at, pattern_at, FitAll-apart, FitAll-refused, FitAll-step, FitAll-end}
use Rattle.st_match.proofs.matching.all_fit.Goals as goal

pub returns-then-patterns-values : goal.returns-then-patterns-values
returns-then-patterns-values c = (
  λ f. absurd (true_false (sym f)),
  λ f. absurd (FitAll-apart c.args.sought.now.types.now c.args.env.now c.args.sought.now.patterns.now c.args.sought.now.values.now c.if-patterns-values.true f),
)

pub loop-i-init : goal.loop-i-init
loop-i-init c = (λ f. f, λ f. f)

pub fits-requires-clause-formed : goal.fits-requires-clause-formed
fits-requires-clause-formed c =
    formed_at c.args.sought.now.types.now c.args.sought.now.patterns.now c.loop-i.i c.index-patterns-i.result c.loop-i-test.true c.index-patterns-i.is c.requires.formed

pub fits-requires-clause-pattern : goal.fits-requires-clause-pattern
fits-requires-clause-pattern c = pattern_at c.args.sought.now.patterns.now c.loop-i.i c.index-patterns-i.result c.loop-i-test.true c.index-patterns-i.is c.requires.patterns

pub loop-i-preserved : goal.loop-i-preserved
loop-i-preserved c =
    FitAll-step c.args.sought.now.types.now c.args.env.now c.args.sought.now.patterns.now c.args.sought.now.values.now c.loop-i.i c.index-patterns-i.result c.index-values-i.result c.loop-i-test.true (omega arith)
    c.index-patterns-i.is c.index-values-i.is (c.in_ok-yes.ensures.0 c.if-not-yes.false) c.loop-i.invariant

pub returns-then-not-yes : goal.returns-then-not-yes
returns-then-not-yes c =
    FitAll-refused c.args.sought.now.types.now c.args.env.now c.args.sought.now.patterns.now c.args.sought.now.values.now c.loop-i.i c.index-patterns-i.result c.index-values-i.result c.loop-i-test.true (omega arith)
    c.index-patterns-i.is c.index-values-i.is c.in_ok-yes.yes c.if-not-yes.true c.in_ok-yes.ensures.1 c.loop-i.invariant.0

pub returns : goal.returns
returns c =
    FitAll-end c.args.sought.now.types.now c.args.env.now c.args.sought.now.patterns.now c.args.sought.now.values.now c.loop-i.i c.loop-i-test.false (omega arith) c.loop-i.invariant
