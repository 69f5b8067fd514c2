use Rattle.std.proofs.Common.{rules, map}
use Rattle.st_il.specs.declared.ty.Ty.TheVariants as typ
use Rattle.st_il.specs.declared.expression.IlExp.TheVariants as il
use Rattle.st_elab_table.specs.Questions.{Breach, Fails}
use Rattle.st_elab_table.specs.Inferred.{inferred_tuple}
use Rattle.st_elab_table.specs.Steps.{give, found}
use Rattle.st_elab_table.specs.Elaboration.{Leads}
use Rattle.st_elab_table.specs.Parts.{Breaks}
use Rattle.st_elab_rows.proofs.Builds.{Told-stops, leads_breaks, gives_made}
use Rattle.st_elab_exp.proofs.Pairing.{pairs_lead}
use Rattle.st_elab_exp.proofs.inferred.tuple_row.Goals as goal

pub returns-in_err-all : goal.returns-in_err-all
returns-in_err-all g c =
    let x = c.args.context.now in
    let qs = map (found x.within.now) c.args.exps.now in
    Told-stops _ _
    (λ (b : Breach). Breaks x.decls.now x.scope.now qs b)
    (λ (b : Breach). Leads x.decls.now x.scope.now (inferred_tuple x.within.now c.args.exps.now) (Fails b))
    c.each_found.result c.from_residual.result c.in_err-all.field-0.0 c.in_err-all.was (search rules)
    (λ b k. leads_breaks x.decls.now x.scope.now qs _ b k) c.each_found.ensures

pub returns : goal.returns
returns g c =
    let x = c.args.context.now in
    pairs_lead x (map (found x.within.now) c.args.exps.now) c.in_ok-all.all (λ xs ts. give (il.Tuple xs) (typ.Tuple ts)) _ c.in_ok-all.ensures (gives_made _ _ _ _ _ (search rules))
