use Rattle.std.proofs.Common.{subst, ◌∙◌}
use Rattle.st_elab_def.specs.Phases.{all_declared}
use Rattle.st_elab_def.specs.inner.Walk.{Checks}
use Rattle.st_elab_def.proofs.signatures.check_variable.Goals as goal

pub returns : goal.returns
returns c = λ D k. subst (λ ns. Checks D (all_declared ns) c.check_names.result) (c.as_slice.ensures ∙ c.in_ok-names.ensures) (c.check_names.ensures D k)
