-- What is read of a reader in several calls.
use Rattle.std.proofs.Common.{ℕ, ◌+◌, ◌≤◌, List, ◌++◌, length, Option, arith, length-append}
use Rattle.std.proofs.KnownBytes.{Consumes-trans}
use Rattle.std.specs.Io.KnownBytes.{Consumes}
use Rattle.st_outside.specs.inner.Reader.{ConsumesAtMost}

-- what two reads took is what they took together
pub ConsumesAtMost-both : (most : ℕ) (before mid now : Option (List ℕ)) (first second : List ℕ)
    → length first + length second ≤ most
    → Consumes before mid first → Consumes mid now second → ConsumesAtMost most before now
ConsumesAtMost-both most before mid now first second bounded one other = (
  first ++ second,
  Consumes-trans before mid now first second one other,
  omega (arith, length-append first second),
)
