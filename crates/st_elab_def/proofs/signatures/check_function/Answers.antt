use Rattle.std.proofs.Common.{◌≡◌, subst, arith, [], ◌∷◌, ◌++◌}
use Rattle.std.specs.Prelude.{flat_map}
use Rattle.std.proofs.lemmas.Grind.{common_steps}
use Rattle.st_elab_def.specs.Phases.{names_in, all_declared}
use Rattle.st_elab_def.specs.inner.Walk.{Checks}
use Rattle.st_elab_def.proofs.signatures.check_function.Goals as goal

pub returns : goal.returns
returns c = λ D k.
    let names : c.as_slice.result.now ≡ flat_map names_in (c.args.params.now ++ c.args.value.now ∷ []) = grind (arith, common_steps) in
    subst (λ ns. Checks D (all_declared ns) c.check_names.result) names (c.check_names.ensures D k)
