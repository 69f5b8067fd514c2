use Rattle.std.proofs.Common.{None, true, ◌≡◌}
use Rattle.st_verify.specs.SmallVerdict.{Keeps, rules_on_lines}
use Rattle.st_verify.proofs.FirstBroken.{kept_here, broken_here, none_broken}
use Rattle.st_verify.proofs.verdict.broken_rule.Goals as goal

pub returns-then-not-keeps : goal.returns-then-not-keeps
returns-then-not-keeps c =
    c.loop-rule.invariant _ (broken_here (Keeps c.args.il.now c.args.notes.now c.args.line.now) rules_on_lines c.loop-rule.rule-index _ c.loop-rule-test.true
    (λ kept. let yes : c.keeps.result ≡ true = c.keeps.ensures.1 kept in cc))

pub loop-rule-preserved : goal.loop-rule-preserved
loop-rule-preserved c = λ broken later.
    c.loop-rule.invariant broken (kept_here (Keeps c.args.il.now c.args.notes.now c.args.line.now) rules_on_lines c.loop-rule.rule-index _ broken c.loop-rule-test.true
    (c.keeps.ensures.0 c.if-not-keeps.false) later)

pub returns : goal.returns
returns c =
    c.loop-rule.invariant None (none_broken (Keeps c.args.il.now c.args.notes.now c.args.line.now) rules_on_lines c.loop-rule.rule-index c.loop-rule-test.false)
