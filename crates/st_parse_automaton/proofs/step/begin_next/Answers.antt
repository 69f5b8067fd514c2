use Rattle.std.proofs.Common.{reverse, ap}
use Rattle.st_parse_automaton.specs.inner.PartAutomaton as parts
use Rattle.st_parse_automaton.proofs.Lowering.{acts_first}
use Rattle.st_parse_automaton.proofs.step.begin_next.Goals as goal

pub returns : goal.returns
returns c =
    acts_first c.begin.result c.args.actions.now (parts.extending (reverse c.args.frames)) c.extend.new.actions c.begin.new.actions c.args.token.now (parts.begin c.args.base (reverse c.in_ok-extended.extended) c.args.shape)
    (parts.begin c.args.base (parts.extend c.args.base (reverse c.args.frames)) c.args.shape)
    c.in_ok-extended.ensures.acts (ap (λ gs. parts.begin c.args.base gs c.args.shape) c.in_ok-extended.ensures.open) c.begin.ensures
