use Rattle.std.proofs.Common.{◌≡◌, ◌++◌, drop, map, option_map}
use Rattle.st_semantics.specs.Paths.{Path, path_of}
use Rattle.st_match.specs.inner.Changes.{step_of}
use Rattle.st_match.proofs.path.path_of.Given as goal

abbrev pub invariant-loop-segment : goal.invariant-loop-segment
invariant-loop-segment l =
    path_of l.path l.fn.values ≡ option_map (λ (p : Path). (map step_of l.steps ++ p.0, p.1)) (path_of (drop l.segment-index l.path) l.left)
