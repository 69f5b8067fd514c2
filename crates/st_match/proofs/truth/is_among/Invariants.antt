use Rattle.std.proofs.Common.{◌≡◌, drop}
use Rattle.std.specs.List.{list_any}
use Rattle.st_semantics.specs.Operators.{is_same}
use Rattle.st_match.proofs.truth.is_among.Given as goal

abbrev pub invariant-loop-element : goal.invariant-loop-element
invariant-loop-element l = list_any (is_same l.value) l.elements ≡ list_any (is_same l.value) (drop l.element-index l.elements)
