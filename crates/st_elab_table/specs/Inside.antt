-- What an expression is inside of iterations.
use Rattle.st_el.specs.declared.expression.Exp.{Exp}
use Rattle.st_il.specs.declared.ty.Ty.{Ty}
use Rattle.st_il.specs.declared.expression.IlExp.{IlExp}
use Rattle.st_elab_table.specs.declared.decls.Decls.{Decls}
use Rattle.st_elab_table.specs.declared.decls.Scope.{Scope}
use Rattle.st_dims.specs.declared.within.Within.{Within}
use Rattle.st_elab_table.specs.Questions.{Breach, Gives, Fails}
use Rattle.st_elab_table.specs.Steps.{made, asked}
use Rattle.st_elab_table.specs.Elaboration.{Answered}

-- An expression, inside of this, is elaborated at a type.
abbrev pub ElabInside : Decls → Scope → Within → Exp → Ty → IlExp → Type 0
ElabInside D S w e t x = Answered D S (asked w e t) (Gives (made x t))

-- The first asked part whose condition is false, where an expression is asked inside of this.
abbrev pub InsideBreach : Decls → Scope → Within → Exp → Ty → Breach → Type 0
InsideBreach D S w e t b = Answered D S (asked w e t) (Fails b)
