use Rattle.std.proofs.Common.{◌≡◌, take}
use Rattle.st_num.proofs.dim.Dim.from_slice.Given as goal

-- the kinds so far are there
abbrev pub invariant-loop-kind : goal.invariant-loop-kind
invariant-loop-kind l = l.dim ≡ take l.kind-index l.kinds
