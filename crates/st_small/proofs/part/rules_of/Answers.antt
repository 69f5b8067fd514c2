use Rattle.std.proofs.Common.{◌∙◌, arith}
use Rattle.st_il.specs.Small.{rule_def}
use Rattle.st_small.proofs.Elements.{made_at}
use Rattle.st_small.proofs.part.rules_of.Goals as goal

pub returns-in_default : goal.returns-in_default
returns-in_default c = λ rules e.
    let at = made_at (rule_def c.args.relation.now c.args.syntax.now) c.args.defs.now rules c.loop-def.def-index c.def-item.result e (omega arith) in
    c.in_default.ensures at.0 (c.def-item.is ∙ at.1)
