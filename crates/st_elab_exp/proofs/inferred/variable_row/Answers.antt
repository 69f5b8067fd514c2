use Rattle.std.proofs.Common.{rules, sym, ◌∙◌}
use Rattle.st_elab_rows.proofs.Builds.{gives_made}
use Rattle.st_elab_exp.proofs.Inferring.{no_type, has_type}
use Rattle.st_elab_exp.proofs.inferred.variable_row.Goals as goal

pub returns-in_default : goal.returns-in_default
returns-in_default c =
    let x = c.args.context.now in
    no_type x.decls.now x.scope.now c.args.at c.args.name.now _ (sym c.in_ok-ty.ensures ∙ c.in_default.is)

pub returns : goal.returns
returns c =
    let x = c.args.context.now in
    has_type x.decls.now x.scope.now c.args.at c.args.name.now _ c.in-Some.ty _ (sym c.in_ok-ty.ensures ∙ c.in-Some.is) (gives_made _ _ _ _ _ (search rules))
