use Rattle.std.proofs.Common.{rules}
use Rattle.st_il.specs.declared.ty.Ty.TheVariants as typ
use Rattle.st_il.specs.declared.expression.IlExp.TheVariants as il
use Rattle.st_elab_table.specs.Questions.{Asks}
use Rattle.st_elab_table.specs.Steps.{asked, give, number_type}
use Rattle.st_elab_rows.proofs.Builds.{gives_made, leading_by, reaches_stops}
use Rattle.st_elab_rows.proofs.number.power_row.Goals as goal

pub returns-in_err-exponent : goal.returns-in_err-exponent
returns-in_err-exponent g c = leading_by _ _ _ _ _ _ (λ a h. c.in_ok-base.ensures.1 (λ a n. Asks (asked c.args.context.now.within.now c.args.right.now typ.Nat) (λ b. give (il.Pow n a.exp b.exp) (number_type n))) a h)
    (reaches_stops _ _ _ _ _ _ c.asked.result c.from_residual-in_err-exponent.result c.in_err-exponent.field-0.0 c.in_err-exponent.was (search rules) c.asked.ensures)

pub returns : goal.returns
returns g c = c.in_ok-base.ensures.1 (λ a n. Asks (asked c.args.context.now.within.now c.args.right.now typ.Nat) (λ b. give (il.Pow n a.exp b.exp) (number_type n))) _ (c.in_ok-exponent.ensures _ _ (gives_made _ _ _ _ _ (search rules)))
