use Rattle.std.proofs.Common.{[], ◌∷◌, ap, ◌∙◌, option_and_then, reverse}
use Rattle.st_parse_builder.specs.Notations.{typ_meaning}
use Rattle.st_parse_builder.specs.inner.NotationBuilding.{run, the_typ, typ_built}
use Rattle.st_parse_builder.proofs.HaveTrees.{no_tree}
use Rattle.st_parse_builder.proofs.NotationHaveTrees.{typ_has}
use Rattle.st_parse_builder.proofs.NotationBuilds.{typ_builds}
use Rattle.st_parse_builder.proofs.NotationGiven.{typ_given}
use Rattle.st_parse_builder.proofs.Tops.{on_some}
use Rattle.st_parse_builder.proofs.notation_builder.build_typ.Goals as goal

pub returns-clause-exact : goal.returns-clause-exact
returns-clause-exact c t h =
    on_some (run c.args.actions.now []) t the_typ h
    (λ s i j. typ_given s t (reverse c.in_ok-stack.stack) c.only.result c.typ_of.result j (c.in_ok-stack.ensures.fits s i) c.only.ensures c.typ_of.ensures)

pub returns-clause-none : goal.returns-clause-none
returns-clause-none c h =
    no_tree c.typ_of.result.tree (typ_built c.args.actions.now)
    (λ t i.
    let has = typ_has (reverse c.in_ok-stack.stack) c.only.result c.typ_of.result t c.only.ensures c.typ_of.ensures i in
    ap (option_and_then the_typ) (c.in_ok-stack.ensures.trees (has.0 ∷ []) has.1) ∙ has.2)
    h

pub returns-clause-tree : goal.returns-clause-tree
returns-clause-tree c t f e =
    returns-clause-exact c (typ_meaning t) (ap (λ l. option_and_then the_typ (run l [])) e ∙ ap (option_and_then the_typ) (typ_builds t f []))
