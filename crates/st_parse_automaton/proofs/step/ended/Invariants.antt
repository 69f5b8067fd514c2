use Rattle.std.proofs.Common.{◌≡◌, length, reverse}
use Rattle.st_parse_automaton.specs.inner.PartAutomaton as parts
use Rattle.st_parse_automaton.proofs.step.ended.Given as goal

abbrev pub invariant-open : goal.invariant-open
invariant-open l = parts.lower 0 20 l.fn.part (reverse l.frames) ≡ parts.lower 0 l.level l.whole (reverse l.rest)

abbrev pub decreases-open : goal.decreases-open
decreases-open l = length l.rest
