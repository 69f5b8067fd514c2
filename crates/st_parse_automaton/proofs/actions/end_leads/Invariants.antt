use Rattle.std.proofs.Common.{◌≡◌, ◌++◌, length, reverse}
use Rattle.st_parse_automaton.specs.inner.PartAutomaton.{lowering}
use Rattle.st_parse_automaton.proofs.actions.end_leads.Given as goal

abbrev pub invariant-open : goal.invariant-open
invariant-open l = l.actions ++ lowering l.level (reverse l.rest) ≡ l.initial.actions ++ lowering l.level (reverse l.frames)

abbrev pub decreases-open : goal.decreases-open
decreases-open l = length l.rest
