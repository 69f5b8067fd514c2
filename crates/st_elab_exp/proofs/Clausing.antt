-- The arguments of a clause, as the code asks them.
use Rattle.std.proofs.Common.{◌≡◌, List}
use Rattle.st_il.specs.declared.ty.Ty.{Ty}
use Rattle.st_il.specs.declared.definition.FunDef.{FunDef}
use Rattle.st_elab_table.specs.declared.decls.Scope.{Scope}
use Rattle.st_dims.specs.declared.within.Within.{Within}
use Rattle.st_elab_table.specs.Steps.{each_asked}
use Rattle.st_elab_table.specs.Elaboration.{around}
use Rattle.st_elab_table.specs.Clauses.{ClauseParts, argument_questions}

pub questions_are : (S : Scope) (f : FunDef) (c : ClauseParts) (w : Within) (tys : List Ty) → w ≡ around S → tys ≡ f.params
    → each_asked w c.args tys ≡ argument_questions S f c
questions_are S f c w tys is are = λ i. each_asked (is i) c.args (are i)
