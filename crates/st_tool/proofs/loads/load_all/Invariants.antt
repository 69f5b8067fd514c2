use Rattle.std.proofs.Common.{◌≡◌}
use Rattle.st_tool.specs.Loads.{counts_of}
use Rattle.st_tool.proofs.Loading.{HasGiven}
use Rattle.st_tool.proofs.loads.load_all.Given as goal

abbrev pub invariant-loop-number : goal.invariant-loop-number
invariant-loop-number g l = record {
  same : g.F.Files.held l.files ≡ g.F.Files.held l.fn.files;
  given : HasGiven (g.F.Files.held l.fn.files) l.limit l.names l.number l.given
      (counts_of (g.F.Files.loads l.fn.files) (g.F.Files.faults l.fn.files) (g.F.Files.last l.fn.files))
      (counts_of (g.F.Files.loads l.files) (g.F.Files.faults l.files) (g.F.Files.last l.files));
}
