use Rattle.std.proofs.Common.{◌≡◌, [], length, replicate, drop}
use Rattle.st_deps.specs.inner.Table.{all_citations}
use Rattle.st_deps.proofs.table.all_citations.Given as goal

abbrev pub invariant-loop-definition : goal.invariant-loop-definition
invariant-loop-definition l = record {
  size : length l.graph.items ≡ length l.names.keys;
  rest : all_citations l.names.keys (replicate (length l.names.keys) []) l.defs ≡ all_citations l.names.keys l.graph.items (drop l.definition-index l.defs);
}
