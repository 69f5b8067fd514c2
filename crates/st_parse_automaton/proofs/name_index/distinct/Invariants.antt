use Rattle.std.proofs.Common.{◌≡◌, ℕ, List, take}
use Rattle.st_num.specs.Names.{is_among}
use Rattle.st_parse_automaton.specs.inner.NameIndexes.{has_key}
use Rattle.st_parse_automaton.proofs.name_index.distinct.Given as goal

abbrev pub invariant-names : goal.invariant-names
invariant-names l = (name : List ℕ) → has_key l.distinct.keys name ≡ is_among name (take l.name-index l.names)
