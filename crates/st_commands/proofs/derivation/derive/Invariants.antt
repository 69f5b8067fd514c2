use Rattle.st_commands.proofs.Derivations.{HasDerived}
use Rattle.st_commands.proofs.derivation.derive.Given as goal

abbrev pub invariant-loop : goal.invariant-loop
invariant-loop l = HasDerived l.small l.start l.atom l.counter l.lines
