use Rattle.std.proofs.Common.{rules}
use Rattle.std.specs.Prelude.{Contains}
use Rattle.st_il.specs.declared.definition.Listed.{Listed}
use Rattle.st_ilcheck.proofs.Alls.{All-refuted, All-longer, All-whole}
use Rattle.st_ilcheck.proofs.variables.all_occur.Goals as goal

pub returns-then-not-occurs : goal.returns-then-not-occurs
returns-then-not-occurs c = (
  λ f. search rules,
  λ a. c.if-not-occurs.ensures.1 (All-refuted (λ (v : Listed). Contains c.args.occurrences.now (v.name, v.dim)) c.args.listed.now c.loop-i.i c.index-listed-i.result c.loop-i-test.true c.index-listed-i.is a),
)

pub loop-i-preserved : goal.loop-i-preserved
loop-i-preserved c =
    All-longer (λ (v : Listed). Contains c.args.occurrences.now (v.name, v.dim)) c.args.listed.now c.loop-i.i c.index-listed-i.result c.loop-i-test.true c.index-listed-i.is (c.if-not-occurs.ensures.0 (search rules)) c.loop-i.invariant

pub returns : goal.returns
returns c = (λ y. All-whole (λ (v : Listed). Contains c.args.occurrences.now (v.name, v.dim)) c.args.listed.now c.loop-i.i c.loop-i-test.false c.loop-i.invariant, λ a. search rules)
