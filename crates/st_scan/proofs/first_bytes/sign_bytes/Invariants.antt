use Rattle.std.proofs.Common.{◌≡◌, ℕ, ◌<◌, get_or, length}
use Rattle.st_num.specs.Signs.{spelling}
use Rattle.st_num.specs.declared.mark.Mark.TheVariants.{Turnstile}
use Rattle.st_num.specs.declared.mark.TheConstants.Mark.{ALL as SIGNS}
use Rattle.st_scan.specs.inner.FirstBytes.{first_byte}
use Rattle.st_scan.proofs.first_bytes.sign_bytes.Given as goal

-- the first byte of each sign so far stands at its place
abbrev pub invariant-loop-at : goal.invariant-loop-at
invariant-loop-at l = record {
  long : length l.bytes ≡ 47;
  same : (k : ℕ) → k < l.at → get_or l.bytes k 0 ≡ first_byte (spelling (get_or SIGNS k Turnstile));
}
