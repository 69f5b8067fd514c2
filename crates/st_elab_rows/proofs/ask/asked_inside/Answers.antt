use Rattle.std.proofs.Common.{subst}
use Rattle.st_elab_rows.specs.Told.{Tells}
use Rattle.st_elab_rows.specs.Asking.{made_by}
use Rattle.st_elab_rows.proofs.Builds.{asks_reach}
use Rattle.st_elab_rows.proofs.ask.asked_inside.Goals as goal

pub returns : goal.returns
returns g c = asks_reach _ _ _ _ _
    (subst (λ q. Tells c.args.context.now.decls.now c.args.context.now.scope.now q made_by c.answer.result) (c.by_itself.ensures c.args.inner.now c.args.ty) c.answer.ensures)
