use Rattle.std.proofs.Common.{◌∙◌, sym, ap}
use Rattle.st_parse_builder.specs.Definitions.{defs_meaning}
use Rattle.st_parse_builder.proofs.laws.one_source.Goals as goal

pub returns : goal.returns
returns c names tokens a b p q =
    sym p.meant ∙ ap defs_meaning (c.one_list.ensures _ p.trees q.trees p.grammar q.grammar) ∙ q.meant
