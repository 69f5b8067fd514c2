use Rattle.std.proofs.Common.{subst, sym, ◌≡◌, []}
use Rattle.st_dims.specs.Breaches.{IsFirst}
use Rattle.st_elab_table.specs.Scopes.{untyped, no_type}
use Rattle.st_elab_exp.specs.inner.Typing.{AreTyped}
use Rattle.st_elab_exp.proofs.Naming.{all_named}
use Rattle.st_elab_exp.proofs.scope.scope_of.Goals as goal

pub returns-in-Some : goal.returns-in-Some
returns-in-Some c = no_type c.in-Some.at (subst (λ z. IsFirst z (untyped c.args.decls.now c.args.mentions.now)) c.in-Some.is c.in_ok-at.ensures)

pub typed-requires : goal.typed-requires
typed-requires c =
    let D = c.args.decls.now in
    let mentions = c.args.mentions.now in
    let typed : untyped D mentions ≡ [] = subst (λ z. IsFirst z (untyped D mentions)) c.in_default.is c.in_ok-at.ensures in
    subst (AreTyped D) (sym c.as_slice.ensures)
    (all_named D mentions c.in_ok-table.table typed (c.in_ok-table.ensures D typed).0)
