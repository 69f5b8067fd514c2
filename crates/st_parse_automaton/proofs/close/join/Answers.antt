use Rattle.std.proofs.Common.{sym, ◌∙◌}
use Rattle.st_parse_automaton.specs.inner.Readings.{lowered_of}
use Rattle.st_parse_automaton.proofs.Lowering.{joins_not}
use Rattle.st_parse_automaton.proofs.close.join.Goals as goal

pub returns-then-not-joins : goal.returns-then-not-joins
returns-then-not-joins c = λ x. joins_not c.separate.result c.args.base c.args.mark (lowered_of c.args.lowered) c.args.actions.now c.separate.new.actions x (sym c.joins.ensures ∙ c.if-not-joins.true) (c.separate.ensures x)
