use Rattle.st_parse_builder.proofs.PartLemmas.{above_high, above_low}
use Rattle.st_parse_builder.proofs.built.above.Goals as goal

pub returns-then-parts-gt-HIGHEST_TREE : goal.returns-then-parts-gt-HIGHEST_TREE
returns-then-parts-gt-HIGHEST_TREE c = above_high c.args.parts c.if-parts-gt-HIGHEST_TREE.true

pub returns-else-parts-gt-HIGHEST_TREE : goal.returns-else-parts-gt-HIGHEST_TREE
returns-else-parts-gt-HIGHEST_TREE c = above_low c.args.parts c.if-parts-gt-HIGHEST_TREE.false
