use Rattle.std.proofs.Common.{rules}
use Rattle.st_ilcheck.specs.Variables.{IsListed}
use Rattle.st_ilcheck.proofs.Alls.{All-refuted, All-longer, All-whole}
use Rattle.st_ilcheck.proofs.variables.all_listed.Goals as goal

pub returns-then-not-is_listed : goal.returns-then-not-is_listed
returns-then-not-is_listed c = (
  λ f. search rules,
  λ a. c.if-not-is_listed.ensures.1 (All-refuted (IsListed c.args.listed.now) c.args.occurrences.now c.loop-i.i c.index-occurrences-i.result c.loop-i-test.true c.index-occurrences-i.is a),
)

pub loop-i-preserved : goal.loop-i-preserved
loop-i-preserved c =
    All-longer (IsListed c.args.listed.now) c.args.occurrences.now c.loop-i.i c.index-occurrences-i.result c.loop-i-test.true c.index-occurrences-i.is (c.if-not-is_listed.ensures.0 (search rules)) c.loop-i.invariant

pub returns : goal.returns
returns c = (λ y. All-whole (IsListed c.args.listed.now) c.args.occurrences.now c.loop-i.i c.loop-i-test.false c.loop-i.invariant, λ a. search rules)
