use Rattle.std.proofs.Common.{◌≡◌, map, take}
use Rattle.st_erase.specs.Definitions.{mode_word}
use Rattle.st_erase.proofs.definition.mode_words.Given as goal

abbrev pub invariant-loop-input : goal.invariant-loop-input
invariant-loop-input l = l.words ≡ map mode_word (take l.input-index l.mode)
