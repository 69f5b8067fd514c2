use Rattle.std.proofs.Common.{reverse, option_map, ap, ◌∙◌}
use Rattle.st_parse_automaton.specs.declared.position.Advance.TheVariants.{At}
use Rattle.st_parse_automaton.specs.inner.PartAutomaton.{adds_nothing}
use Rattle.st_parse_automaton.specs.inner.DefinitionAutomaton.{stands, position_step, advanced}
use Rattle.st_parse_automaton.specs.inner.Readings.{progress_of}
use Rattle.st_parse_automaton.proofs.definition_automaton.stand_at.Goals as goal

pub returns : goal.returns
returns c = λ x.
    c.stand.ensures x
    ∙ ap (λ acts. advanced x (stands (At c.args.position) (λ y. acts) (option_map progress_of c.in_ok-next.next))) c.new.ensures
    ∙ ap (λ o. advanced x (stands (At c.args.position) adds_nothing o)) (c.in_ok-next.ensures ∙ ap (λ ks. position_step c.args.position c.args.class (reverse ks)) c.in_ok-copy.ensures)
