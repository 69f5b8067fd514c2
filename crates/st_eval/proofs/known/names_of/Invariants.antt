use Rattle.std.proofs.Common.{◌≡◌, ◌++◌, drop, map}
use Rattle.st_semantics.specs.Environments.{Entry}
use Rattle.st_eval.specs.inner.Known.{names_now}
use Rattle.st_eval.proofs.known.names_of.Given as goal

abbrev pub invariant-loop-entry : goal.invariant-loop-entry
invariant-loop-entry l = names_now l.names ++ map (λ (e : Entry). e.0) (drop l.entry-index l.env.entries) ≡ map (λ (e : Entry). e.0) l.env.entries
