use Rattle.std.proofs.Common.{◌≡◌, drop}
use Rattle.st_semantics.specs.Forms.{spliced}
use Rattle.st_match.specs.inner.Joined.{list_of}
use Rattle.st_match.proofs.list.spliced.Given as goal

abbrev pub invariant-loop-item : goal.invariant-loop-item
invariant-loop-item l = spliced l.items l.fn.values ≡ list_of l.elements (spliced (drop l.item-index l.items) l.left.items)
