-- What the tokens of a part add, one after another.
use Rattle.std.proofs.Common.{◌≡◌, List, [], ◌∷◌, ◌++◌, Option, Some, None, option_and_then, refl, sym, ap, ◌∙◌}
use Rattle.st_num.specs.declared.token.Token.{Token}
use Rattle.st_grammar.specs.declared.sort.Sort.{Sort}
use Rattle.st_grammar.specs.Terminals.{Terminal}
use Rattle.st_grammar.specs.Trees.{Tree}
use Rattle.st_grammar.specs.Reading.{State, step, reads, start}
use Rattle.st_grammar.specs.Reading as part
use Rattle.st_grammar.specs.Definitions.{token_in}
use Rattle.st_grammar.proofs.Sound.{seen, state_base, Holds, ReachedBy}
use Rattle.st_grammar.proofs.Steps.{steps}
use Rattle.st_parse_automaton.specs.declared.part_automaton.Expected.TheVariants.{Operand}
use Rattle.st_parse_automaton.specs.inner.Shapes.{shape}
use Rattle.st_parse_automaton.specs.inner.PartAutomaton as parts
use Rattle.st_parse_automaton.specs.inner.PartAutomaton.{followed, emissions}
use Rattle.st_parse_automaton.proofs.View.{state_of}
use Rattle.st_parse_automaton.proofs.Simulation.{Agree, moves_are, finishing_is}
use Rattle.st_grammar.specs.declared.action.Action.{Action}
use Rattle.st_grammar.specs.inner.Actions.{acts}
use Rattle.st_grammar.specs.inner.Emission as emission
use Rattle.st_grammar.proofs.Emission.{emits_part}

pub emissions_are : (w : List Terminal) (st : State) (t : Tree) → Holds st → reads st w ≡ Some t → emissions (state_base st) (state_of st) w ≡ emission.emissions st w
emissions_are [] st t h e = finishing_is st
emissions_are (l ∷ w) st t h e = go (parts.step (state_base st) (state_of st) (shape l)) (step st l) (moves_are st l h) (steps st l h) e (λ next k f. emissions_are w next t k f)
  where
    go : (o : Option parts.Move) (q : Option State) → Agree (token_in l) (emission.emitted st l) o q → ReachedBy (state_base st) (seen st ++ l ∷ []) q
        → option_and_then part.finish (option_and_then (λ next. part.reading next w) q) ≡ Some t
        → ((next : State) → Holds next → reads next w ≡ Some t → emissions (state_base next) (state_of next) w ≡ emission.emissions next w)
        → followed (λ later. emissions (state_base st) later w) (token_in l) o ≡ emission.emitted st l ++ emission.on_next (λ next. emission.emissions next w) q
    go None None a r f later = absurd (cc)
    go None (Some next) a r f later = absurd a
    go (Some m) None a r f later = absurd a
    go (Some m) (Some next) a r f later =
        ap (λ acts. acts ++ emissions (state_base st) m.0 w) a.1
        ∙ ap (λ v. emission.emitted st l ++ emissions (state_base st) v w) a.0
        ∙ ap (λ σ. emission.emitted st l ++ emissions σ (state_of next) w) (sym r.based)
        ∙ ap (λ acts. emission.emitted st l ++ acts) (later next r.holds f)

pub part_emits : (σ : Sort) (us : List Terminal) (t : Tree) → reads (start σ) us ≡ Some t → acts t ≡ emissions σ (Operand, []) us
part_emits σ us t e = emits_part σ us t e ∙ sym (emissions_are us (start σ) t (tt, tt) e)
