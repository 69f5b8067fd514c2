use Rattle.std.proofs.Common.{rules}
use Rattle.st_any_table.proofs.HeadsLemmas.{joins-here, no-joins}
use Rattle.st_any_table.proofs.joining.joins.Goals as goal

pub returns-in-Some : goal.returns-in-Some
returns-in-Some c = joins-here c.args.defs.now c.args.ty.now c.in-Some.meaning.now c.joins_here.result c.in-Some.ensures c.joins_here.ensures

pub returns-in-None : goal.returns-in-None
returns-in-None c = (λ f. search rules, λ j. absurd (no-joins c.args.defs.now c.args.ty.now c.in-None.ensures j))
