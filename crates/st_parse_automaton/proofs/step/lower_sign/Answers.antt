use Rattle.std.proofs.Common.{◌≡◌, ◌++◌, reverse, ap, ◌∙◌}
use Rattle.st_parse_automaton.specs.inner.PartAutomaton as parts
use Rattle.st_parse_automaton.specs.inner.Readings.{lowered_of}
use Rattle.st_parse_automaton.proofs.Lowering.{acts_first}
use Rattle.st_parse_automaton.proofs.step.lower_sign.Goals as goal

pub returns : goal.returns
returns c = λ x.
    let fs = reverse c.args.frames in
    let n = parts.pull (parts.top c.args.base fs) c.args.mark in
    let level : c.pull-level.result ≡ n = c.pull-level.ensures ∙ ap (λ σ. parts.pull σ c.args.mark) c.top.ensures in
    acts_first c.join.result c.args.actions.now (parts.lowering n fs) c.end_leads.new.actions c.join.new.actions x (parts.join c.args.base c.args.mark (lowered_of c.in_ok-lowered.lowered))
    (parts.join c.args.base c.args.mark (parts.lower n 20 c.args.part fs))
    (c.in_ok-end_leads.ensures ∙ ap (λ gs. c.args.actions.now ++ parts.lowering c.pull-level.result (reverse gs)) c.as_slice.ensures ∙ ap (λ k. c.args.actions.now ++ parts.lowering k fs) level)
    (ap (parts.join c.args.base c.args.mark) (c.in_ok-lowered.ensures ∙ ap (λ k. parts.lower k 20 c.args.part fs) level)) (c.join.ensures x)
