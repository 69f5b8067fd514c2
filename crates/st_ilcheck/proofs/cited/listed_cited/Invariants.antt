use Rattle.std.proofs.Common.{◌≡◌, ◌++◌, drop, List}
use Rattle.st_il.specs.declared.definition.Listed.{Listed}
use Rattle.st_ilcheck.specs.Declarations.{types_cited, listed_types}
use Rattle.st_ilcheck.proofs.cited.listed_cited.Given as goal

abbrev pub invariant-loop-variable : goal.invariant-loop-variable
invariant-loop-variable l = l.names ++ (λ (ls : List Listed). types_cited (listed_types ls)) (drop l.variable-index l.listed) ≡ (λ (ls : List Listed). types_cited (listed_types ls)) l.listed
