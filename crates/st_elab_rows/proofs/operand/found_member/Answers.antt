use Rattle.std.proofs.Common.{rules, subst}
use Rattle.st_elab_table.specs.Questions.{Made, Answer, Step, Asks}
use Rattle.st_elab_table.specs.Steps.{asked}
use Rattle.st_elab_table.specs.Elaboration.{Leads}
use Rattle.st_elab_rows.specs.Asking.{made_by}
use Rattle.st_elab_rows.specs.Told.{Reaches}
use Rattle.st_elab_rows.proofs.Builds.{gives_made, leading_by, reaches_stops}
use Rattle.st_elab_rows.proofs.operand.found_member.Goals as goal

pub returns-in_err-all : goal.returns-in_err-all
returns-in_err-all g c = leading_by _ _ _ _ _ _ (λ a h. c.in_ok-one.ensures _ a h)
    (reaches_stops _ _ _ _ _ _ c.asked.result c.from_residual-in_err-all.result c.in_err-all.field-0.0 c.in_err-all.was (search rules)
    (subst (λ z. Reaches c.args.context.now.decls.now c.args.context.now.scope.now (λ next. Asks (asked c.args.context.now.within.now c.args.list.now z) next) made_by c.asked.result) c.in_ok-ty.ensures c.asked.ensures))

pub returns : goal.returns
returns g c = c.in_ok-one.ensures _ _
    ((subst (λ z. (next : Made → Step) (a : Answer) → Leads c.args.context.now.decls.now c.args.context.now.scope.now (next (made_by c.in_ok-all.all)) a → Leads c.args.context.now.decls.now c.args.context.now.scope.now (Asks (asked c.args.context.now.within.now c.args.list.now z) next) a) c.in_ok-ty.ensures c.in_ok-all.ensures) _ _
    (gives_made _ _ _ _ _ (search rules)))
