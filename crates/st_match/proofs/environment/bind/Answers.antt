use Rattle.std.proofs.Common.{rules, sym, ◌∙◌, ap, subst, [], ◌∷◌}
use Rattle.st_il.specs.Names.{has_name}
use Rattle.st_match.specs.inner.Fitting.{HasValue}
use Rattle.st_match.specs.inner.Covering.{Covers}
use Rattle.st_match.proofs.HasValue.{HasValue-bound, HasValue-same}
use Rattle.st_match.proofs.environment.bind.Goals as goal

pub returns-in_ok-found-in-Some : goal.returns-in_ok-found-in-Some
returns-in_ok-found-in-Some c =
    subst (Covers (HasValue c.args.name.now c.args.value.now) (has_name (c.args.name.now ∷ [])) (c.args.env.now ∷ []))
    (sym (c.in_ok-found-in-Some.ensures ∙ ap (λ z. z ∷ []) c.in_ok-same-in-Some.ensures))
    (HasValue-same c.args.name.now c.args.value.now c.args.env.now c.in-Some.known.now (search rules))

pub returns-in_ok-found-in-None : goal.returns-in_ok-found-in-None
returns-in_ok-found-in-None c =
    subst (Covers (HasValue c.args.name.now c.args.value.now) (has_name (c.args.name.now ∷ [])) (c.args.env.now ∷ [])) (sym c.in_ok-found-in-None.ensures)
    (HasValue-bound c.args.name.now c.args.value.now c.args.env.now c.in_ok-longer-in-None.longer c.in_ok-longer-in-None.ensures)
