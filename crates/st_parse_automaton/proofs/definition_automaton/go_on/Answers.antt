use Rattle.std.proofs.Common.{None, reverse, option_map, sym, ap, ◌∙◌}
use Rattle.st_parse_automaton.specs.inner.PartAutomaton as parts
use Rattle.st_parse_automaton.specs.inner.DefinitionAutomaton.{slot_sort, taken, behind_part, advanced}
use Rattle.st_parse_automaton.specs.inner.Readings.{reading_of, step_of}
use Rattle.st_parse_automaton.proofs.Advances.{taken_more, taken_other}
use Rattle.st_parse_automaton.proofs.definition_automaton.go_on.Goals as goal

pub returns-in-Some : goal.returns-in-Some
returns-in-Some c =
    let x = c.args.token.now in
    let ks = reverse c.args.brackets.now in
    let st = reading_of c.args.reading.now in
    taken_more x c.args.slot ks (parts.step (slot_sort c.args.slot) st c.args.class.shape) (behind_part c.args.slot c.args.class ks (parts.finishing st) (parts.finish st)) (step_of c.in-Some.step)
    (ap (option_map step_of) (sym c.in-Some.is) ∙ c.in_ok-step.ensures ∙ ap (λ fs. advanced x (taken c.args.slot ks (parts.step (slot_sort c.args.slot) (c.args.reading.now.expected, reverse fs) c.args.class.shape) None)) c.in_ok-copy.ensures)

pub returns-in-None : goal.returns-in-None
returns-in-None c =
    let x = c.args.token.now in
    let ks = reverse c.args.brackets.now in
    let st = reading_of c.args.reading.now in
    taken_other c.leave.result x c.args.slot ks (parts.step (slot_sort c.args.slot) st c.args.class.shape) (behind_part c.args.slot c.args.class ks (parts.finishing st) (parts.finish st))
    (ap (option_map step_of) (sym c.in-None.is) ∙ c.in_ok-step.ensures ∙ ap (λ fs. advanced x (taken c.args.slot ks (parts.step (slot_sort c.args.slot) (c.args.reading.now.expected, reverse fs) c.args.class.shape) None)) c.in_ok-copy.ensures)
    (c.leave.ensures x)
