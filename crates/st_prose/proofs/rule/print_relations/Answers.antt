use Rattle.st_prose.specs.ProseText.{relation_text}
use Rattle.st_prose.proofs.NumberedTexts.{referred_next}
use Rattle.st_prose.proofs.rule.print_relations.Goals as goal

pub loop-i-preserved : goal.loop-i-preserved
loop-i-preserved c =
    referred_next (relation_text c.args.index.now c.args.algos.now) c.relations-relations.result.now c.loop-i.i c.index-relations-i.result c.loop-i.out.items _ _
    c.loop-i-test.true c.index-relations-i.is c.loop-i.invariant c.in_ok-print_relation.ensures
