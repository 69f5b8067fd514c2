use Rattle.std.proofs.Common.{◌≡◌, ℕ, ◌<◌, get_or, length}
use Rattle.st_num.specs.Words.{word_spelling}
use Rattle.st_num.specs.declared.word.Word.TheVariants.{Syntax}
use Rattle.st_num.specs.declared.word.TheConstants.Word.{ALL as WORDS}
use Rattle.st_scan.specs.inner.FirstBytes.{first_byte}
use Rattle.st_scan.proofs.first_bytes.word_bytes.Given as goal

-- the first byte of each word so far stands at its place
abbrev pub invariant-loop-at : goal.invariant-loop-at
invariant-loop-at l = record {
  long : length l.bytes ≡ 18;
  same : (k : ℕ) → k < l.at → get_or l.bytes k 0 ≡ first_byte (word_spelling (get_or WORDS k Syntax));
}
