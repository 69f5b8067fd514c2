use Rattle.std.proofs.Common.{take}
use Rattle.st_parse_automaton.specs.Refusal.{terminals_of}
use Rattle.st_parse_automaton.proofs.Loop.{Follows}
use Rattle.st_parse_automaton.proofs.reader.read_tokens.Given as goal

abbrev pub invariant-tokens : goal.invariant-tokens
invariant-tokens l = Follows (take l.at (terminals_of l.tokens)) l.progress
