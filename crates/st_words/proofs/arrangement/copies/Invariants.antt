use Rattle.std.proofs.Common.{◌≡◌, take, map}
use Rattle.st_words.proofs.arrangement.copies.Given as goal

-- the words so far are copied
abbrev pub invariant-loop-word : goal.invariant-loop-word
invariant-loop-word l = l.copies ≡ map (λ word. word.now) (take l.word-index l.words)
