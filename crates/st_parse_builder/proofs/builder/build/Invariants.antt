use Rattle.std.proofs.Common.{◌≡◌, [], take, reverse, Some}
use Rattle.st_parse_builder.specs.Variables.{occurrences}
use Rattle.st_parse_builder.specs.inner.Building.{Stack, run}
use Rattle.st_parse_builder.specs.inner.Entries.{Stands}
use Rattle.st_parse_builder.specs.inner.HaveTrees.{HaveTrees}
use Rattle.st_parse_builder.proofs.builder.build.Given as goal

abbrev pub invariant-actions : goal.invariant-actions
invariant-actions l = record {
  fits : (s : Stack) → run (take l.action-index l.actions) [] ≡ Some s → Stands (occurrences l.fn.seen) s l.stack l.seen;
  trees : (u : Stack) → HaveTrees (reverse l.stack) u → run (take l.action-index l.actions) [] ≡ Some u;
}
