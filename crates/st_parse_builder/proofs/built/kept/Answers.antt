use Rattle.st_parse_builder.proofs.PartLemmas.{kept_high, kept_low}
use Rattle.st_parse_builder.proofs.built.kept.Goals as goal

pub returns-then-height-gt-HIGHEST_TREE : goal.returns-then-height-gt-HIGHEST_TREE
returns-then-height-gt-HIGHEST_TREE g c = kept_high c.args.height c.args.tree c.if-height-gt-HIGHEST_TREE.true

pub returns-else-height-gt-HIGHEST_TREE : goal.returns-else-height-gt-HIGHEST_TREE
returns-else-height-gt-HIGHEST_TREE g c = kept_low c.args.height c.args.tree c.if-height-gt-HIGHEST_TREE.false
