use Rattle.std.proofs.Common.{◌≡◌, ◌++◌, drop}
use Rattle.st_grammar.specs.Terminals.{declared_names, names_behind}
use Rattle.st_parse_automaton.proofs.class.declared_names.Given as goal

abbrev pub invariant-tokens : goal.invariant-tokens
invariant-tokens l = l.names ++ names_behind l.behind (drop l.at l.tokens) ≡ declared_names l.tokens
