use Rattle.std.proofs.Common.{reverse, sym, ap}
use Rattle.st_parse_automaton.specs.inner.PartAutomaton as parts
use Rattle.st_parse_automaton.proofs.Lowering.{same_move}
use Rattle.st_parse_automaton.proofs.begin.begin_closing.Goals as goal

pub returns-in-ByRound : goal.returns-in-ByRound
returns-in-ByRound c =
    same_move c.no_arguments.result c.args.actions.now c.no_arguments.new.actions c.args.token.now (parts.no_arguments (reverse c.args.frames)) (parts.begin_closing c.args.base c.args.closing (reverse c.args.frames))
    (ap (λ k. parts.begin_closing c.args.base k (reverse c.args.frames)) (sym c.in-ByRound.is)) (c.no_arguments.ensures c.args.token.now)
