use Rattle.std.proofs.Common.{◌≡◌, length}
use Rattle.st_grammar.specs.Terminals.{drop_primes}
use Rattle.st_parse_automaton.proofs.class.drop_primes.Given as goal

abbrev pub invariant-primes : goal.invariant-primes
invariant-primes l = drop_primes l.name ≡ drop_primes l.rest

abbrev pub decreases-primes : goal.decreases-primes
decreases-primes l = length l.rest
