use Rattle.std.proofs.Common.{sym, option_map, ◌∙◌}
use Rattle.st_parse_automaton.specs.inner.PartAutomaton as parts
use Rattle.st_parse_automaton.specs.inner.Readings.{reading_of, progress_of}
use Rattle.st_parse_automaton.proofs.Advances.{left}
use Rattle.st_parse_automaton.proofs.definition_automaton.leave.Goals as goal

pub returns : goal.returns
returns c = λ x.
    c.stand.ensures x
    ∙ left x c.args.slot c.args.class c.args.brackets.now c.in_ok-copy.field-0 (reading_of c.args.reading.now) c.in-Some.part c.len.result c.filled-position.result c.new-actions.result c.end.new.actions (option_map progress_of c.in_ok-next.next)
    (parts.finish (reading_of c.args.reading.now)) (sym c.finish.ensures ∙ c.in-Some.is) c.filled-position.ensures c.len.ensures c.new-actions.ensures c.in_ok-end.ensures c.in_ok-next.ensures c.in_ok-copy.ensures
