use Rattle.std.proofs.Common.{None, reverse, sym, ap, ◌∙◌}
use Rattle.st_parse_automaton.specs.inner.DefinitionAutomaton.{at_position, advance, advanced}
use Rattle.st_parse_automaton.specs.inner.Readings.{progress_of}
use Rattle.st_parse_automaton.proofs.Advances.{same_step}
use Rattle.st_parse_automaton.proofs.definition_automaton.advance.Goals as goal

pub returns-in-None : goal.returns-in-None
returns-in-None c =
    let x = c.args.token.now in
    let ks = reverse c.in-At.here.brackets in
    same_step c.stand_at.result (advanced x (at_position None c.in-At.here.position c.args.class ks)) (advanced x (advance (progress_of c.args.progress.now) c.args.class))
    (sym (ap (λ p. advanced x (advance (progress_of p) c.args.class)) c.in-At.is ∙ ap (λ q. advanced x (at_position q c.in-At.here.position c.args.class ks)) (sym c.entering.ensures ∙ c.in-None.is)))
    (c.stand_at.ensures x)
