use Rattle.std.proofs.Common.{length}
use Rattle.st_scan.specs.Tokens.{Run}
use Rattle.st_scan.specs.inner.Steps.{IsAt}
use Rattle.st_scan.proofs.scanner.read_tokens.Given as goal

-- the tokens so far stand before the rest
abbrev pub invariant-tokens : goal.invariant-tokens
invariant-tokens l = record {
  at : IsAt l.bytes l.rest l.place;
  run : Run l.file l.bytes l.bytes l.tokens l.rest;
}

abbrev pub decreases-tokens : goal.decreases-tokens
decreases-tokens l = length l.rest
