use Rattle.std.proofs.Common.{◌≡◌, ◌++◌, drop, flat_map}
use Rattle.std.specs.List.{enumerate_from}
use Rattle.st_index.specs.Names.{all_now}
use Rattle.st_prose.specs.ProseText.{relation_text}
use Rattle.st_prose.proofs.rule.print_relations.Given as goal

abbrev pub invariant-loop-i : goal.invariant-loop-i
invariant-loop-i l =
    l.out.items ++ flat_map (relation_text l.index l.algos) (enumerate_from l.i (all_now (drop l.i l.relations)))
    ≡ l.initial.out.items ++ flat_map (relation_text l.index l.algos) (enumerate_from 0 (all_now l.relations))
