use Rattle.std.proofs.Common.{rules, ap, ◌∙◌}
use Rattle.st_el.specs.declared.definition.PremNode.{out-PremNode}
use Rattle.st_el.specs.declared.definition.PremNode.TheVariants as node
use Rattle.st_elab_table.specs.Questions.{Breach}
use Rattle.st_elab_rows.proofs.Builds.{Told-stops}
use Rattle.st_elab_table.specs.Premises.{PremBreach, otherwise}
use Rattle.st_elab_exp.proofs.Building.{premise_breach}
use Rattle.st_elab_exp.proofs.premise.+elaborate_prem.Goals as goal

pub returns-in_err-one-in-Each : goal.returns-in_err-one-in-Each
returns-in_err-one-in-Each t c =
    let D = c.args.decls.now in
    let S = c.args.scope.now in
    let w = c.args.within.now in
    let p = c.args.prem.now in
    let inner = c.in_ok-inner-in-Each.inner in
    Told-stops _ _ (λ (b : Breach). PremBreach D S inner c.get.result.now b) (λ (b : Breach). PremBreach D S w p b)
    c.elaborate_prem.result c.from_residual-in_err-one-in-Each.result c.in_err-one-in-Each.field-0.0 c.in_err-one-in-Each.was (search rules)
    (λ b k. premise_breach D S w inner p c.in-Each.body c.get.result.now c.in-Each.count b (ap out-PremNode c.in-Each.is ∙ node.outs-Each _ _) c.in_ok-inner-in-Each.ensures c.get.ensures k) c.elaborate_prem.ensures

pub returns-in-Otherwise : goal.returns-in-Otherwise
returns-in-Otherwise t c = otherwise (search rules)
