use Rattle.std.proofs.Common.{reverse, sym, ap}
use Rattle.st_parse_automaton.specs.inner.PartAutomaton as parts
use Rattle.st_parse_automaton.proofs.Lowering.{same_move}
use Rattle.st_parse_automaton.proofs.step.behind.Goals as goal

pub returns-in-Close : goal.returns-in-Close
returns-in-Close c =
    same_move c.behind_closing.result c.args.actions.now c.behind_closing.new.actions c.args.token.now (parts.behind_closing c.in-Close.closing c.args.part (reverse c.args.frames)) (parts.behind c.args.base c.args.part (reverse c.args.frames) c.args.shape)
    (ap (parts.behind c.args.base c.args.part (reverse c.args.frames)) (sym c.in-Close.is)) (c.behind_closing.ensures c.args.token.now)
