use Rattle.st_parse_builder.proofs.PartLemmas.{kept_low, kept_high}
use Rattle.st_parse.proofs.kept.where_low.Goals as goal

pub returns-then-premise-gt-HIGHEST_TREE : goal.returns-then-premise-gt-HIGHEST_TREE
returns-then-premise-gt-HIGHEST_TREE g c = kept_high c.args.premise c.args.taken c.if-premise-gt-HIGHEST_TREE.true

pub returns-else-premise-gt-HIGHEST_TREE : goal.returns-else-premise-gt-HIGHEST_TREE
returns-else-premise-gt-HIGHEST_TREE g c = kept_low c.args.premise c.args.taken c.if-premise-gt-HIGHEST_TREE.false
