use Rattle.st_eval.specs.inner.Known.{names_now}
use Rattle.st_eval.proofs.Counts.{unknown_count-is, unknown_count-none}
use Rattle.st_eval.proofs.each.unknown_count.Goals as goal

pub returns-in-None : goal.returns-in-None
returns-in-None c = unknown_count-none (names_now c.args.known.now) c.args.how.now c.in-None.ensures

pub returns-in-Some : goal.returns-in-Some
returns-in-Some c = unknown_count-is (names_now c.args.known.now) c.args.how.now c.in-Some.exp.now c.in-Some.ensures c.unknown_variable.result c.unknown_variable.ensures
