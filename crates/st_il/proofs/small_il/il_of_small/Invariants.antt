use Rattle.std.proofs.Common.{◌≡◌, ◌∷◌, map, take}
use Rattle.st_il.specs.Small.{syntax_def, relation_def, rule_def}
use Rattle.st_il.proofs.small_il.il_of_small.Given as goal

abbrev pub invariant-loop-rule : goal.invariant-loop-rule
invariant-loop-rule l =
    l.defs ≡ syntax_def l.small.syntax l.small.atoms ∷ relation_def l.small.relation l.small.syntax
    ∷ map (rule_def l.small.relation l.small.syntax) (take l.rule-index l.small.rules)
