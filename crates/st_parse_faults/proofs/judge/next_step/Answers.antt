use Rattle.st_parse_automaton.specs.inner.DefinitionAutomaton.{advance}
use Rattle.st_parse_automaton.specs.inner.Readings.{progress_of}
use Rattle.st_parse_faults.proofs.Stepping.{leads}
use Rattle.st_parse_faults.proofs.judge.next_step.Goals as goal

pub returns-clause-leads : goal.returns-clause-leads
returns-clause-leads c = leads c.advance.result c.args.token.now (advance (progress_of c.args.progress.now) c.args.class) c.advance.ensures
