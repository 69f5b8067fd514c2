use Rattle.std.proofs.Common.{rules}
use Rattle.st_il.specs.declared.ty.NumTy.{NumTy}
use Rattle.st_elab_table.specs.Questions.{Made, Breach, Fails, Step}
use Rattle.st_elab_table.specs.Forms.{place}
use Rattle.st_elab_table.specs.Operands.{numeric}
use Rattle.st_elab_table.specs.Steps.{as_number}
use Rattle.st_elab_table.specs.Elaboration.{Leads}
use Rattle.st_elab_rows.specs.Asking.{made_by}
use Rattle.st_elab_rows.proofs.Builds.{Told-stops}
use Rattle.st_elab_rows.proofs.number.number_operand.Goals as goal

pub returns-in_err-ty : goal.returns-in_err-ty
returns-in_err-ty g c = Told-stops _ _
    (λ (b : Breach). (next : NumTy → Step) → Leads c.args.context.now.decls.now c.args.context.now.scope.now (as_number (place c.args.operand.now) c.in_ok-number.number.ty next) (Fails b))
    (λ (b : Breach). (next : Made → NumTy → Step) → Leads c.args.context.now.decls.now c.args.context.now.scope.now (numeric c.args.context.now.within.now c.args.operand.now next) (Fails b))
    c.as_number.result c.from_residual-in_err-ty.result c.in_err-ty.field-0.0 c.in_err-ty.was (search rules)
    (λ b k. λ next. c.in_ok-number.ensures _ _ (k (λ n. next (made_by c.in_ok-number.number) n))) (c.as_number.ensures c.args.context.now.scope.now)

pub returns : goal.returns
returns g c = (c.in_ok-number.number.ty, λ next a h. c.in_ok-number.ensures _ a (c.in_ok-ty.ensures c.args.context.now.scope.now (λ n. next (made_by c.in_ok-number.number) n) a h))
