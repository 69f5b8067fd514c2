use Rattle.std.proofs.Common.{◌≡◌, [], take, drop}
use Rattle.st_grammar.specs.Terminals.{is_declared}
use Rattle.st_parse_automaton.proofs.class.is_variable.Given as goal

abbrev pub invariant-parts : goal.invariant-parts
invariant-parts l = is_declared l.names [] l.name ≡ is_declared l.names (take l.at l.name) (drop l.at l.name)
