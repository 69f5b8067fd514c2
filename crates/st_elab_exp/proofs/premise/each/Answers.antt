use Rattle.std.proofs.Common.{rules, ap, ◌∙◌, ◌≡◌, sym, subst, length}
use Rattle.st_el.specs.declared.expression.Count.{out-Count}
use Rattle.st_il.specs.declared.expression.IlPrem.TheVariants as premise
use Rattle.st_dims.specs.declared.within.Within.{Within}
use Rattle.st_il.specs.Occurrences.{occurs_in_prem}
use Rattle.st_elab_table.specs.Questions.{Breach}
use Rattle.st_elab_table.specs.Iterations.{iterated, iterated_in}
use Rattle.st_elab_table.specs.Collections.{counted_at}
use Rattle.st_elab_table.specs.Elaboration.{Stopped}
use Rattle.st_elab_rows.proofs.Builds.{Told-stops}
use Rattle.st_elab_table.specs.Premises.{ElabPrem, each, PremBreach, in_count}
use Rattle.st_elab_exp.proofs.premise.each.Goals as goal

pub returns-in_err-times : goal.returns-in_err-times
returns-in_err-times c = λ p q is h.
    let D = c.args.decls.now in
    let S = c.args.scope.now in
    let w = c.args.within.now in
    Told-stops _ _ (λ (b : Breach). Stopped D S (counted_at w (out-Count c.args.count.now)) b) (λ (b : Breach). PremBreach D S w p b)
    c.check_count.result c.from_residual.result c.in_err-times.field-0.0 c.in_err-times.was (search rules)
    (λ b k. in_count q c.args.count.now c.args.prem is (subst (λ z. ElabPrem D S z q c.args.prem) c.requires h) k) c.check_count.ensures

pub returns : goal.returns
returns c = λ p q is h.
    let D = c.args.decls.now in
    let S = c.args.scope.now in
    let w = c.args.within.now in
    let x = c.args.prem in
    let names : c.in_ok-names.names ≡ iterated S w c.args.count.now (λ name. occurs_in_prem name x) =
    c.in_ok-names.ensures ∙ ap (λ (z : Within). iterated_in S.variables (length w.kinds) z.indices (λ name. occurs_in_prem name c.get.result.now)) c.requires
    ∙ ap (λ z. iterated S w c.args.count.now (λ name. occurs_in_prem name z)) c.get.ensures in
    subst (λ z. ElabPrem D S w p (premise.Each c.in_ok-times.times z x)) (sym names)
    (each q c.args.count.now x c.in_ok-times.times is (subst (λ z. ElabPrem D S z q x) c.requires h) c.in_ok-times.ensures)
