use Rattle.std.proofs.Common.{◌≡◌, length, reverse}
use Rattle.st_parse_automaton.specs.inner.PartAutomaton as parts
use Rattle.st_parse_automaton.proofs.close.lower.Given as goal

abbrev pub invariant-open : goal.invariant-open
invariant-open l = parts.lower l.level 20 l.fn.part (reverse l.initial.frames) ≡ parts.lower l.level l.at l.part (reverse l.frames)

abbrev pub decreases-open : goal.decreases-open
decreases-open l = length l.frames
