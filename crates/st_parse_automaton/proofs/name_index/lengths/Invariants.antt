use Rattle.std.proofs.Common.{◌≡◌, ℕ, List, true, length, take}
use Rattle.st_num.specs.Names.{is_among}
use Rattle.st_parse_automaton.specs.inner.NameIndexes.{has_length}
use Rattle.st_parse_automaton.proofs.name_index.lengths.Given as goal

abbrev pub invariant-names : goal.invariant-names
invariant-names l = (name : List ℕ) → is_among name (take l.name-index l.names) ≡ true → has_length l.lengths.keys (length name) ≡ true
