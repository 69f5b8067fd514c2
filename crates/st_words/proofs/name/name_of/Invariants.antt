use Rattle.std.proofs.Common.{◌≡◌, ◌<◌, ℕ, get_or}
use Rattle.st_words.specs.Names.{name_spelling}
use Rattle.st_words.specs.declared.name.TheConstants.{NAMES}
use Rattle.st_words.specs.declared.name.CommandName.TheVariants.{Check}
use Rattle.st_words.proofs.name.name_of.Given as goal

-- no name so far is spelled so
abbrev pub invariant-loop-name : goal.invariant-loop-name
invariant-loop-name l = (k : ℕ) → k < l.name-index → ¬ (l.word ≡ name_spelling (get_or NAMES k Check))
