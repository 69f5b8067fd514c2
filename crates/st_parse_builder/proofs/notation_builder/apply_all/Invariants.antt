use Rattle.std.proofs.Common.{◌≡◌, [], take, reverse, Some}
use Rattle.st_parse_builder.specs.inner.NotationBuilding.{Stack, run}
use Rattle.st_parse_builder.specs.inner.NotationEntries.{entries}
use Rattle.st_parse_builder.specs.inner.HaveTrees.{HaveTrees}
use Rattle.st_parse_builder.proofs.notation_builder.apply_all.Given as goal

abbrev pub invariant-actions : goal.invariant-actions
invariant-actions l = record {
  fits : (s : Stack) → run (take l.action-index l.actions) [] ≡ Some s → reverse l.stack ≡ entries s;
  trees : (u : Stack) → HaveTrees (reverse l.stack) u → run (take l.action-index l.actions) [] ≡ Some u;
}
