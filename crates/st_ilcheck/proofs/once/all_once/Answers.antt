use Rattle.std.proofs.Common.{rules}
use Rattle.st_ilcheck.specs.Declarations.{IsOnceIn}
use Rattle.st_ilcheck.proofs.Alls.{All-refuted, All-longer, All-whole}
use Rattle.st_ilcheck.proofs.once.all_once.Goals as goal

pub returns-then-not-is_once : goal.returns-then-not-is_once
returns-then-not-is_once c = (
  λ f. search rules,
  λ a. c.if-not-is_once.ensures.1 (All-refuted (IsOnceIn c.args.names.now) c.args.cited.now c.loop-i.i c.index-cited-i.result c.loop-i-test.true c.index-cited-i.is a),
)

pub loop-i-preserved : goal.loop-i-preserved
loop-i-preserved c =
    All-longer (IsOnceIn c.args.names.now) c.args.cited.now c.loop-i.i c.index-cited-i.result c.loop-i-test.true c.index-cited-i.is (c.if-not-is_once.ensures.0 (search rules)) c.loop-i.invariant

pub returns : goal.returns
returns c = (λ y. All-whole (IsOnceIn c.args.names.now) c.args.cited.now c.loop-i.i c.loop-i-test.false c.loop-i.invariant, λ a. search rules)
