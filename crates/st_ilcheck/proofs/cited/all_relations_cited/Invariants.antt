use Rattle.std.proofs.Common.{◌≡◌, ◌++◌, drop, map, List}
use Rattle.st_il.specs.declared.expression.IlPrem.{IlPrem}
use Rattle.st_il.specs.Names.{flattened}
use Rattle.st_semantics.specs.Variables.{relations_cited}
use Rattle.st_ilcheck.proofs.cited.all_relations_cited.Given as goal

abbrev pub invariant-loop-premise : goal.invariant-loop-premise
invariant-loop-premise l = l.names ++ (λ (ps : List IlPrem). flattened (map relations_cited ps)) (drop l.premise-index l.premises) ≡ (λ (ps : List IlPrem). flattened (map relations_cited ps)) l.premises
