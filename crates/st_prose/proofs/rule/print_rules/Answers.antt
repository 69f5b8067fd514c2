use Rattle.st_prose.specs.ProseText.{rule_text}
use Rattle.st_prose.proofs.NumberedTexts.{referred_next}
use Rattle.st_prose.proofs.rule.print_rules.Goals as goal

pub loop-i-preserved : goal.loop-i-preserved
loop-i-preserved c =
    referred_next (rule_text c.args.index.now c.args.algorithms.now) c.args.rules.now c.loop-i.i c.index-rules-i.result c.loop-i.out.items _ _
    c.loop-i-test.true c.index-rules-i.is c.loop-i.invariant c.in_ok-print_rule.ensures
