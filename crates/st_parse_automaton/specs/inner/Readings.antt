-- The states of the parser as those of the automata: the innermost frame comes first.
use Rattle.std.specs.Prelude.{List, reverse, Option, Some, None}
use Rattle.st_grammar.specs.declared.action.Action.{Action}
use Rattle.st_parse_automaton.specs.declared.position.Step.{Step}
use Rattle.st_parse_automaton.specs.declared.position.Advance.{Advance}
use Rattle.st_parse_automaton.specs.declared.part_automaton.Reading.{Reading}
use Rattle.st_parse_automaton.specs.declared.close.Lowered.{Lowered}
use Rattle.st_parse_automaton.specs.declared.position.Progress.{Progress}
use Rattle.st_parse_automaton.specs.declared.position.Progress.TheVariants as code
use Rattle.st_parse_automaton.specs.inner.PartAutomaton as parts
use Rattle.st_parse_automaton.specs.inner.DefinitionAutomaton as definitions

-- how far the parser has read a part, as a state of the automaton of parts
abbrev pub reading_of : Reading → parts.State
reading_of r = (r.expected, reverse r.frames)

-- how far the parser has read a part, where it goes on, and the actions there
abbrev pub reached : Option Reading → List Action → Option (parts.State × List Action)
reached None acts = None
reached (Some r) acts = Some (reading_of r, acts)

-- what the parser has closed over a part, as the automaton of parts has it
abbrev pub lowered_of : Lowered → parts.Lowered
lowered_of l = (l.level, l.part, reverse l.frames)

-- how far the parser has read definitions, as a state of their automaton
abbrev pub progress_of : Progress → definitions.State
progress_of (code.At a) = definitions.at a.position (reverse a.brackets)
progress_of (code.Inside s r ks) = definitions.inside s (reading_of r) (reverse ks)

-- how a token stands, where it leads, and what it adds to the actions
abbrev pub step_of : Step → Advance × definitions.State × List Action
step_of s = (s.advance, progress_of s.progress, s.actions)
