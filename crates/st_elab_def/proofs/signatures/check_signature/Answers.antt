use Rattle.std.proofs.Common.{subst, ap, ◌∙◌, [], ◌∷◌, ◌++◌}
use Rattle.std.specs.Prelude.{flat_map}
use Rattle.st_el.specs.declared.definition.Def.{Def}
use Rattle.st_elab_def.specs.Phases.{names_in, all_declared, on_relation, on_signature, on_signature_at}
use Rattle.st_elab_def.specs.inner.Walk.{Checks}
use Rattle.st_elab_def.proofs.Checks.{checks-is}
use Rattle.st_elab_def.proofs.signatures.check_signature.Goals as goal

pub returns-in-Var : goal.returns-in-Var
returns-in-Var c = λ D d k e.
    checks-is D (on_signature d) (all_declared (names_in c.in-Var.typ)) c.check_variable.result
    (ap (on_signature_at d) (ap (λ (def : Def). def.node) e ∙ c.in-Var.is)) (c.check_variable.ensures D k)

pub returns-in-Relation : goal.returns-in-Relation
returns-in-Relation c = λ D d k e.
    checks-is D (on_signature d) (on_relation c.args.def.now c.in-Relation.notation) c.check_relation.result
    (ap (on_signature_at d) (ap (λ (def : Def). def.node) e ∙ c.in-Relation.is) ∙ ap (λ def. on_relation def c.in-Relation.notation) e) (c.check_relation.ensures D k)

pub returns-in-Fun : goal.returns-in-Fun
returns-in-Fun c = λ D d k e.
    checks-is D (on_signature d) (all_declared (flat_map names_in (c.in-Fun.params ++ c.in-Fun.value ∷ []))) c.check_function.result
    (ap (on_signature_at d) (ap (λ (def : Def). def.node) e ∙ c.in-Fun.is))
    (subst (λ ps. Checks D (all_declared (flat_map names_in (ps ++ c.in-Fun.value ∷ []))) c.check_function.result) c.as_slice.ensures (c.check_function.ensures D k))
