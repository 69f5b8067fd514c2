use Rattle.std.proofs.Common.{sym, ◌∙◌, ap, subst, List, ℕ}
use Rattle.st_il.specs.declared.ty.Ty.{Ty}
use Rattle.st_il.specs.declared.ty.Ty.TheVariants as ty
use Rattle.st_type_table.specs.Cases.{HasFields}
use Rattle.st_semantics.specs.Forms.{building}
use Rattle.st_match.proofs.operations.record_of.Goals as goal

pub returns-in-None : goal.returns-in-None
returns-in-None c = λ declared h. absurd (c.in-None.ensures.none declared (subst (λ n. HasFields c.args.types.now (ty.Name n) declared) (sym c.in_ok-copy.ensures) h))

pub returns-in_ok-outcome-in-Some : goal.returns-in_ok-outcome-in-Some
returns-in_ok-outcome-in-Some c = λ declared h.
    c.in_ok-outcome-in-Some.ensures
    ∙ ap (λ (d : List (List ℕ × Ty)). building d c.args.operands)
    (sym (c.in-Some.ensures.one declared (subst (λ n. HasFields c.args.types.now (ty.Name n) declared) (sym c.in_ok-copy.ensures) h)))
