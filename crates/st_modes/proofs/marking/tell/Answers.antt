use Rattle.std.proofs.Common.{refl, ap, ◌∙◌, ◌++◌, ◌∷◌, [], if◌then◌else◌}
use Rattle.st_order.specs.Known.{all_now}
use Rattle.st_modes.proofs.HasTold.{tells}
use Rattle.st_modes.proofs.marking.tell.Goals as goal

pub returns : goal.returns
returns c rs h =
    tells c.args.indexed.now.directions.il.now rs c.args.relation.now c.args.told.now _ c.in_ok-found.found.orders _ c.in_ok-found.ensures.orders refl c.in_ok-mark.ensures c.in_ok-push.ensures.ok
    c.in_ok-push-2.ensures.ok
    (c.in_ok-push_unfit.ensures ∙ ap (λ b. all_now c.args.told.now.unfit ++ (if b then c.args.relation.now ∷ [] else [])) c.is_some.ensures) h
