use Rattle.std.proofs.Common.{◌≤◌, ◌+◌, ℕ, List, ◌++◌, take}
use Rattle.st_scan.specs.Places.{IsBehind}
use Rattle.st_scan.proofs.line_column.LineColumn.behind.Given as goal

-- the place is that behind the bytes so far
abbrev pub invariant-loop-byte : goal.invariant-loop-byte
invariant-loop-byte l = record {
  same : (before : List ℕ) → IsBehind before l.fn.self → IsBehind (before ++ take l.byte-index l.bytes) l.here;
  lines : l.here.line ≤ l.fn.self.line + l.byte-index;
  columns : l.here.column ≤ l.fn.self.column + l.byte-index;
}
