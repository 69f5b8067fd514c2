use Rattle.std.proofs.Common.{rules}
use Rattle.st_il.specs.declared.ty.Ty.TheVariants as typ
use Rattle.st_il.specs.declared.ty.NumTy.{NumTy}
use Rattle.st_il.specs.declared.expression.IlExp.{IlExp}
use Rattle.st_elab_table.specs.Questions.{Breach, Fails, Step}
use Rattle.st_elab_table.specs.Operands.{order_row, both_numeric}
use Rattle.st_elab_table.specs.Operators.{ordered}
use Rattle.st_elab_table.specs.Steps.{give}
use Rattle.st_elab_table.specs.Elaboration.{Leads}
use Rattle.st_elab_rows.proofs.Builds.{Told-stops, gives_made}
use Rattle.st_elab_rows.proofs.number.order_row.Goals as goal

pub returns-in_err-both : goal.returns-in_err-both
returns-in_err-both g c = Told-stops _ _
    (λ (b : Breach). (next : NumTy → IlExp → IlExp → Step) → Leads c.args.context.now.decls.now c.args.context.now.scope.now (both_numeric c.args.context.now.within.now c.args.left.now c.args.right.now next) (Fails b))
    (λ (b : Breach). Leads c.args.context.now.decls.now c.args.context.now.scope.now (order_row c.args.context.now.within.now c.args.sign c.args.left.now c.args.right.now) (Fails b))
    c.both_numeric.result c.from_residual.result c.in_err-both.field-0.0 c.in_err-both.was (search rules)
    (λ b k. k (λ n x y. give (ordered c.args.sign x y) typ.Bool)) c.both_numeric.ensures

pub returns : goal.returns
returns g c = c.in_ok-both.ensures (λ n x y. give (ordered c.args.sign x y) typ.Bool) _ (gives_made _ _ _ _ _ (search rules))
