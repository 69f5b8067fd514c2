-- Where a step of the code leads.
use Rattle.std.proofs.Common.{◌≡◌, List, Option, Some, None, Result, Ok, Err, IfOk, option_map, refl, ap}
use Rattle.st_num.specs.declared.token.Token.{Token}
use Rattle.st_grammar.specs.declared.action.Action.{Action}
use Rattle.st_parse_automaton.specs.declared.position.Advance.{Advance}
use Rattle.st_parse_automaton.specs.declared.position.Step.{Step}
use Rattle.st_parse_automaton.specs.inner.DefinitionAutomaton.{State, Taken, advanced}
use Rattle.st_parse_automaton.specs.inner.Readings.{step_of}
use Rattle.st_parse_automaton.proofs.DefinitionSimulation.{led}
use Rattle.st_parse_faults.specs.inner.Seen.{state_behind}

leads_there : (x : Token) (r : Option Step) (o : Option Taken) → option_map step_of r ≡ advanced x o → state_behind r ≡ led o
leads_there x None None e = refl
leads_there x None (Some t) e = absurd (cc)
leads_there x (Some s) None e = absurd (cc)
leads_there x (Some s) (Some t) e = ap (option_map (λ (q : Advance × State × List Action). q.1)) e

pub leads : {E : Type 0} (r : Result (Option Step) E) (x : Token) (o : Option Taken) → IfOk r (λ step. option_map step_of step ≡ advanced x o) → IfOk r (λ step. state_behind step ≡ led o)
leads (Ok step) x o h = leads_there x step o h
leads (Err fault) x o h = tt
