use Rattle.std.proofs.Common.{◌≡◌, drop}
use Rattle.st_semantics.specs.Environments.{lookup, value_in}
use Rattle.st_eval.proofs.each.value_in.Given as goal

abbrev pub invariant-loop-entry : goal.invariant-loop-entry
invariant-loop-entry l = value_in l.env l.name ≡ lookup l.name (drop l.entry-index l.env.entries)
