use Rattle.std.proofs.Common.{rules}
use Rattle.st_il.specs.declared.ty.Ty.TheVariants as typ
use Rattle.st_il.specs.declared.ty.NumTy.TheVariants as number
use Rattle.st_il.specs.declared.expression.IlExp.TheVariants as il
use Rattle.st_elab_table.specs.Steps.{give, injected}
use Rattle.st_elab_rows.proofs.Builds.{gives_made}
use Rattle.st_elab_rows.proofs.number.negation_row.Goals as goal

pub returns : goal.returns
returns g c = c.in_ok-number.ensures.1 (λ m n. give (il.Neg (injected n number.Int m.exp)) typ.Int) _ (gives_made _ _ _ _ _ (search rules))
