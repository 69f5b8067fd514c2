use Rattle.std.proofs.Common.{◌≡◌, ◌++◌, map, drop}
use Rattle.st_semantics.specs.Environments.{Entry, names_of}
use Rattle.st_match.proofs.names.with_env_names.Given as goal

abbrev pub invariant-loop-entry : goal.invariant-loop-entry
invariant-loop-entry l = l.names ++ map (λ (e : Entry). e.0) (drop l.entry-index l.env.entries) ≡ names_of l.env
