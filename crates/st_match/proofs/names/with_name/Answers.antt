use Rattle.std.proofs.Common.{◌≤◌, ◌++◌, ◌∷◌, sym, subst, length, take, drop}
use Rattle.st_match.specs.inner.Names.{IsInserted}
use Rattle.st_match.proofs.names.with_name.Goals as goal

pub insert_at-requires : goal.insert_at-requires
insert_at-requires c = subst (λ z. c.in-Some.at ≤ length z) c.as_slice.ensures c.in-Some.ensures.0

pub returns-in_ok-more-in-Some : goal.returns-in_ok-more-in-Some
returns-in_ok-more-in-Some c =
    subst (IsInserted c.args.name.now c.args.names) (sym c.in_ok-more-in-Some.ensures)
    (subst (λ z. IsInserted c.args.name.now z (take c.in-Some.at z ++ c.args.name.now ∷ drop c.in-Some.at z)) c.as_slice.ensures c.in-Some.ensures.1)

pub returns-in-None : goal.returns-in-None
returns-in-None c = subst (λ z. IsInserted c.args.name.now z z) c.as_slice.ensures c.in-None.ensures
