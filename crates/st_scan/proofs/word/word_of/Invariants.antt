use Rattle.std.proofs.Common.{◌≡◌, ◌<◌, ℕ, get_or}
use Rattle.st_num.specs.Words.{word_spelling}
use Rattle.st_num.specs.declared.word.TheConstants.Word.{ALL as WORDS}
use Rattle.st_num.specs.declared.word.Word.TheVariants.{Syntax}
use Rattle.st_scan.proofs.word.word_of.Given as goal

-- no word so far is spelled so
abbrev pub invariant-loop-at : goal.invariant-loop-at
invariant-loop-at l = (k : ℕ) → k < l.at → ¬ (l.name ≡ word_spelling (get_or WORDS k Syntax))
