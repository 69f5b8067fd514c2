use Rattle.std.specs.Io.KnownBytes.{Keeps}
use Rattle.st_outside.proofs.disk.read_some.Given as goal

-- no byte was given so far
abbrev pub invariant-loop : goal.invariant-loop
invariant-loop g l = Keeps (g.F.Read.remaining l.initial.file) (g.F.Read.remaining l.file)
