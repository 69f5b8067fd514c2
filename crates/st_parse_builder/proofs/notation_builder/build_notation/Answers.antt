use Rattle.std.proofs.Common.{[], ◌∷◌, ap, ◌∙◌, option_and_then, reverse}
use Rattle.st_parse_builder.specs.Notations.{notation_meaning}
use Rattle.st_parse_builder.specs.inner.NotationBuilding.{run, the_notation, notation_built}
use Rattle.st_parse_builder.proofs.HaveTrees.{no_tree}
use Rattle.st_parse_builder.proofs.NotationHaveTrees.{notation_has}
use Rattle.st_parse_builder.proofs.NotationBuilds.{notation_builds, one_notation}
use Rattle.st_parse_builder.proofs.NotationGiven.{notation_given, told_all}
use Rattle.st_parse_builder.proofs.Tops.{on_some}
use Rattle.st_parse_builder.proofs.notation_builder.build_notation.Goals as goal

pub returns-clause-exact : goal.returns-clause-exact
returns-clause-exact c n h =
    on_some (run c.args.actions.now []) n the_notation h
    (λ s i j. notation_given s n (reverse c.in_ok-stack.stack) c.only.result c.notation_of.result (told_all c.args.actions.now [] s tt i) j (c.in_ok-stack.ensures.fits s i) c.only.ensures c.notation_of.ensures)

pub returns-clause-none : goal.returns-clause-none
returns-clause-none c h =
    no_tree c.notation_of.result.tree (notation_built c.args.actions.now)
    (λ n i.
    let has = notation_has (reverse c.in_ok-stack.stack) c.only.result c.notation_of.result n c.only.ensures c.notation_of.ensures i in
    ap (option_and_then the_notation) (c.in_ok-stack.ensures.trees (has.0 ∷ []) has.1) ∙ has.2)
    h

pub returns-clause-tree : goal.returns-clause-tree
returns-clause-tree c t f e =
    returns-clause-exact c (notation_meaning t) (ap (λ l. option_and_then the_notation (run l [])) e ∙ ap (option_and_then the_notation) (notation_builds t f []) ∙ one_notation t)
