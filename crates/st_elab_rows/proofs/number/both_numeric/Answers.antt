use Rattle.std.proofs.Common.{rules, ap, ◌∙◌}
use Rattle.st_il.specs.declared.ty.NumTy.{NumTy}
use Rattle.st_il.specs.declared.expression.IlExp.{IlExp}
use Rattle.st_elab_table.specs.Questions.{Made, Breach, Fails, Step}
use Rattle.st_elab_table.specs.Operands.{numeric, both_numeric}
use Rattle.st_elab_table.specs.Steps.{injected, wider}
use Rattle.st_elab_table.specs.Elaboration.{Leads}
use Rattle.st_elab_rows.proofs.Builds.{Told-stops, leads_three}
use Rattle.st_elab_rows.proofs.number.both_numeric.Goals as goal

pub returns-in_err-other : goal.returns-in_err-other
returns-in_err-other g c = Told-stops _ _
    (λ (b : Breach). (next : Made → NumTy → Step) → Leads c.args.context.now.decls.now c.args.context.now.scope.now (numeric c.args.context.now.within.now c.args.right.now next) (Fails b))
    (λ (b : Breach). (next : NumTy → IlExp → IlExp → Step) → Leads c.args.context.now.decls.now c.args.context.now.scope.now (both_numeric c.args.context.now.within.now c.args.left.now c.args.right.now next) (Fails b))
    c.number_operand-2.result c.from_residual-in_err-other.result c.in_err-other.field-0.0 c.in_err-other.was (search rules)
    (λ b k. λ next. c.in_ok-one.ensures.1 (λ a m. numeric c.args.context.now.within.now c.args.right.now (λ b n. next (wider m n) (injected m (wider m n) a.exp) (injected n (wider m n) b.exp))) _ (k (λ b n. next (wider c.in_ok-one.one.number n) (injected c.in_ok-one.one.number (wider c.in_ok-one.one.number n) c.in_ok-one.one.exp) (injected n (wider c.in_ok-one.one.number n) b.exp)))) c.number_operand-2.ensures

pub returns : goal.returns
returns g c = λ next a h. c.in_ok-one.ensures.1 (λ a m. numeric c.args.context.now.within.now c.args.right.now (λ b n. next (wider m n) (injected m (wider m n) a.exp) (injected n (wider m n) b.exp))) a (c.in_ok-other.ensures.1
    (λ b n. next (wider c.in_ok-one.one.number n) (injected c.in_ok-one.one.number (wider c.in_ok-one.one.number n) c.in_ok-one.one.exp) (injected n (wider c.in_ok-one.one.number n) b.exp)) a
    (leads_three _ _ next _ _ _ _ _ _ a c.wider-number.ensures
    (c.in_ok-left.ensures ∙ ap (λ k. injected c.in_ok-one.one.number k c.in_ok-one.one.exp) c.wider-number.ensures)
    (c.in_ok-right.ensures ∙ ap (λ k. injected c.in_ok-other.other.number k c.in_ok-other.other.exp) c.wider-number.ensures) h))
