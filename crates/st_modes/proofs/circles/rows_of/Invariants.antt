use Rattle.std.proofs.Common.{◌≡◌, [], length, replicate, drop}
use Rattle.st_modes.specs.inner.Circles.{count_of, all_citations}
use Rattle.st_modes.proofs.circles.rows_of.Given as goal

abbrev pub invariant-loop-definition : goal.invariant-loop-definition
invariant-loop-definition l = record {
  size : length l.rows.items ≡ count_of l.citers;
  rest : all_citations l.citers (replicate (count_of l.citers) []) l.defs ≡ all_citations l.citers l.rows.items (drop l.definition-index l.defs);
}
