use Rattle.std.proofs.Common.{◌++◌, reverse, ap, ◌∙◌}
use Rattle.st_parse_automaton.specs.inner.PartAutomaton as parts
use Rattle.st_parse_automaton.specs.inner.Readings.{lowered_of}
use Rattle.st_parse_automaton.proofs.Lowering.{acts_first}
use Rattle.st_parse_automaton.proofs.step.behind_closing.Goals as goal

pub returns : goal.returns
returns c = λ x.
    acts_first c.close.result c.args.actions.now (parts.lowering 0 (reverse c.args.frames)) c.end_leads.new.actions c.close.new.actions x (parts.close c.args.closing (lowered_of c.in_ok-lowered.lowered))
    (parts.close c.args.closing (parts.lower 0 20 c.args.part (reverse c.args.frames)))
    (c.in_ok-end_leads.ensures ∙ ap (λ gs. c.args.actions.now ++ parts.lowering 0 (reverse gs)) c.as_slice.ensures) (ap (parts.close c.args.closing) c.in_ok-lowered.ensures) (c.close.ensures x)
