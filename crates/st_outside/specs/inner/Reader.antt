-- How much is read of a reader that tells its bytes.
use Rattle.std.specs.Prelude.{ℕ, ◌≤◌, List, length, Option}
use Rattle.std.specs.Io.KnownBytes.{Consumes}

-- at most so many bytes were taken off the front of a reader
abbrev pub ConsumesAtMost : ℕ → Option (List ℕ) → Option (List ℕ) → Type 0
ConsumesAtMost most before now =
    (bytes : List ℕ) × Consumes before now bytes × (length bytes ≤ most)
