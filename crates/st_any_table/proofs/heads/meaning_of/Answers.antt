use Rattle.std.proofs.Common.{rules}
use Rattle.st_any_table.proofs.HeadsLemmas.{Means-ends}
use Rattle.st_any_table.proofs.heads.meaning_of.Goals as goal

pub followed-requires-clause-ends : goal.followed-requires-clause-ends
followed-requires-clause-ends c = c.if-ends.ensures.0 (search rules)

pub returns : goal.returns
returns c = λ u m. let f = c.if-ends.ensures.1 (Means-ends c.args.defs.now c.args.ty.now u m) in cc
