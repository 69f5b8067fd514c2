use Rattle.std.proofs.Common.{◌≡◌, ◌++◌, take}
use Rattle.st_words.proofs.command.push_copies.Given as goal

-- the words so far stand behind the names
abbrev pub invariant-loop-word : goal.invariant-loop-word
invariant-loop-word l = l.names ≡ l.initial.names ++ take l.word-index l.words
