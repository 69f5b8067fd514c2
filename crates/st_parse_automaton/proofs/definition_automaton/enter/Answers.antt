use Rattle.std.proofs.Common.{[], None, reverse, option_map, sym, ap, ◌∙◌}
use Rattle.st_parse_automaton.specs.declared.part_automaton.Expected.TheVariants.{Operand}
use Rattle.st_parse_automaton.specs.declared.position.Advance.TheVariants.{At}
use Rattle.st_parse_automaton.specs.inner.PartAutomaton as parts
use Rattle.st_parse_automaton.specs.inner.DefinitionAutomaton.{slot_sort, stands, taken, position_step, advanced}
use Rattle.st_parse_automaton.specs.inner.Readings.{step_of}
use Rattle.st_parse_automaton.proofs.Advances.{taken_more, taken_other}
use Rattle.st_parse_automaton.proofs.definition_automaton.enter.Goals as goal

pub returns-in-Some : goal.returns-in-Some
returns-in-Some c =
    let x = c.args.token.now in
    let ks = reverse c.args.brackets.now in
    taken_more x c.args.slot ks (parts.step (slot_sort c.args.slot) (Operand, []) c.args.class.shape) (stands (At c.args.position) parts.adds_nothing (position_step c.args.position c.args.class ks)) (step_of c.in-Some.step)
    (ap (option_map step_of) (sym c.in-Some.is) ∙ c.in_ok-step.ensures ∙ ap (λ fs. advanced x (taken c.args.slot ks (parts.step (slot_sort c.args.slot) (Operand, reverse fs) c.args.class.shape) None)) c.new.ensures)

pub returns-in-None : goal.returns-in-None
returns-in-None c =
    let x = c.args.token.now in
    let ks = reverse c.args.brackets.now in
    taken_other c.stand_at.result x c.args.slot ks (parts.step (slot_sort c.args.slot) (Operand, []) c.args.class.shape) (stands (At c.args.position) parts.adds_nothing (position_step c.args.position c.args.class ks))
    (ap (option_map step_of) (sym c.in-None.is) ∙ c.in_ok-step.ensures ∙ ap (λ fs. advanced x (taken c.args.slot ks (parts.step (slot_sort c.args.slot) (Operand, reverse fs) c.args.class.shape) None)) c.new.ensures)
    (c.stand_at.ensures x)
