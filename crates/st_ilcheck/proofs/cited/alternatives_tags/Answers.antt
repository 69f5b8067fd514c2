use Rattle.std.proofs.Common.{refl, ap, ◌∙◌, ◌++◌, List}
use Rattle.std.specs.List.{flat_map}
use Rattle.st_il.specs.declared.definition.Alternative.{Alternative}
use Rattle.st_ilcheck.specs.Declarations.{alternative_tags}
use Rattle.st_ilcheck.proofs.Walks.{walk-next, walk-end}
use Rattle.st_ilcheck.proofs.cited.alternatives_tags.Goals as goal

pub loop-alternative-preserved : goal.loop-alternative-preserved
loop-alternative-preserved c =
    walk-next (λ (all : List Alternative). flat_map alternative_tags all) (λ (a : Alternative). alternative_tags a) c.args.alternatives.now c.loop-alternative.alternative-index (λ x rest. refl) c.alternative-item.result c.loop-alternative.tags c.in_ok-longer.longer c.loop-alternative-test.true c.alternative-item.is
    (c.in_ok-longer.ensures ∙ ap (λ z. c.loop-alternative.tags ++ z) c.in_ok-more.ensures) c.loop-alternative.invariant

pub returns : goal.returns
returns c = walk-end (λ (all : List Alternative). flat_map alternative_tags all) (λ (a : Alternative). alternative_tags a) c.args.alternatives.now c.loop-alternative.alternative-index refl c.loop-alternative.tags c.loop-alternative-test.false c.loop-alternative.invariant
