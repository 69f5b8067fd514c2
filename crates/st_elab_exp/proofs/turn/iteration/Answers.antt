use Rattle.std.proofs.Common.{ap, ◌∙◌}
use Rattle.st_il.specs.declared.expression.IlExp.TheVariants as il
use Rattle.st_elab_table.specs.Steps.{made}
use Rattle.st_elab_rows.proofs.Builds.{gives_made}
use Rattle.st_elab_exp.proofs.Turning.{names_are}
use Rattle.st_elab_exp.proofs.turn.iteration.Goals as goal

pub returns : goal.returns
returns g c =
    let x = c.args.context.now in
    c.in_ok-times.ensures _ _ (gives_made _ _ _ _ _ (c.in_ok-given.ensures ∙ ap (λ z. made (il.Iter c.in_ok-times.times z c.args.body) c.args.ty)
    (names_are x.scope.now x.within.now c.args.inner.now c.args.count.now _ _ _ c.in_ok-names.ensures c.requires.inside c.get.ensures)))
