use Rattle.std.proofs.Common.{◌≡◌, drop, map, string_bytes}
use Rattle.st_words.specs.Arranged.{has_options}
use Rattle.st_words.proofs.read.has_options.Given as goal

-- the words so far decide nothing
abbrev pub invariant-loop-word : goal.invariant-loop-word
invariant-loop-word l = has_options (map string_bytes (drop l.word-index l.words)) ≡ has_options (map string_bytes l.words)
