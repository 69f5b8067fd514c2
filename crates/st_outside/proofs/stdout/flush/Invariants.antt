use Rattle.std.specs.Io.KnownBytes.{Keeps}
use Rattle.st_outside.proofs.stdout.flush.Given as goal

-- what the writer holds is kept
abbrev pub invariant-loop : goal.invariant-loop
invariant-loop g l = Keeps (g.W.Write.contents l.initial.writer) (g.W.Write.contents l.writer)
