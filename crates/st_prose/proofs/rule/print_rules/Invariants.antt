use Rattle.std.proofs.Common.{◌≡◌, ◌++◌, drop, flat_map}
use Rattle.std.specs.List.{enumerate_from}
use Rattle.st_index.specs.Names.{all_now}
use Rattle.st_prose.specs.ProseText.{rule_text}
use Rattle.st_prose.proofs.rule.print_rules.Given as goal

abbrev pub invariant-loop-i : goal.invariant-loop-i
invariant-loop-i l =
    l.out.items ++ flat_map (rule_text l.index l.algorithms) (enumerate_from l.i (all_now (drop l.i l.rules)))
    ≡ l.initial.out.items ++ flat_map (rule_text l.index l.algorithms) (enumerate_from 0 (all_now l.rules))
