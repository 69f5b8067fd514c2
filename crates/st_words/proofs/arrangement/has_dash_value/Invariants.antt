use Rattle.std.proofs.Common.{◌≡◌, drop, map, string_bytes}
use Rattle.st_words.specs.inner.Fronts.{dash_value_from, has_dash_value}
use Rattle.st_words.proofs.arrangement.has_dash_value.Given as goal

-- the words so far decide nothing
abbrev pub invariant-loop-word : goal.invariant-loop-word
invariant-loop-word l = dash_value_from l.is_behind (map string_bytes (drop l.word-index l.words)) ≡ has_dash_value (map string_bytes l.words)
