use Rattle.std.specs.Option.{option_copied}
use Rattle.st_commands.specs.inner.Step.{IsLeastOf}
use Rattle.st_commands.proofs.step.least_step.Given as goal

abbrev pub invariant-loop-rule : goal.invariant-loop-rule
invariant-loop-rule l = IsLeastOf l.rules l.from l.rule-index (option_copied l.best)
