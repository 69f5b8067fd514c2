use Rattle.std.proofs.Common.{◌≡◌, ◌+◌, drop}
use Rattle.st_notation.specs.Elements.{before}
use Rattle.st_notation.proofs.element.before.Given as goal

abbrev pub invariant-loop-element : goal.invariant-loop-element
invariant-loop-element l = (before l.name l.elements ≡ l.count + before l.name (drop l.element-index l.elements)) × (l.count ≡ l.element-index)
