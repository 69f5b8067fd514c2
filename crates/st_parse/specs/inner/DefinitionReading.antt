-- What the reader of definitions makes of a token.
use Rattle.std.specs.Prelude.{◌≡◌, List, [], Some}
use Rattle.st_num.specs.declared.token.Token.{Token}
use Rattle.st_grammar.specs.declared.action.Action.{Action}
use Rattle.st_el.specs.Plain.{nowhere}
use Rattle.st_parse_automaton.specs.declared.position.Advance.{Advance}
use Rattle.st_parse_automaton.specs.declared.position.Progress.{Progress}
use Rattle.st_parse_automaton.specs.declared.position.TokenClass.{TokenClass}
use Rattle.st_parse_automaton.specs.inner.Readings.{progress_of}
use Rattle.st_parse_faults.specs.declared.judge.Seen.{Seen}
use Rattle.st_parse_faults.specs.declared.judge.TokenVerdict.{TokenVerdict}
use Rattle.st_parse_faults.specs.inner.Seen as seen
use Rattle.st_parse.specs.declared.parser.DefinitionReader.{DefinitionReader}
use Rattle.st_parse.specs.inner.Drafts.{begun}
use Rattle.st_parse.specs.inner.Work.{Work, added_work, turned_work, MayTurn}
use Rattle.st_parse.specs.inner.Kept.{Draws, Keeps}

-- Before the first token nothing is read.
pub record Begins (d : DefinitionReader) : Type 0 where
  pub kept : Draws d.kept (begun [] nowhere)
  pub arguments : d.parts.arguments ≡ []
  pub actions : d.parts.actions ≡ []
  pub words : d.parts.words ≡ []

-- This is the verdict on a token of this class, where this is known before it.
pub record JudgesToken (known : Seen) (l : TokenClass) (x : Token) (v : TokenVerdict) : Type 0 where
  pub value : seen.verdict_of v ≡ seen.judge (seen.summary_of known) x.kind l
  pub step : seen.Stands (progress_of known.progress) l x v

-- A token that stands so, leads there and adds these actions makes the latter of what was kept.
abbrev pub TakesToken : Advance → Progress → TokenClass → Token → List Action
    → DefinitionReader → DefinitionReader → Type 0
TakesToken a next l x acts old new =
    (before after : Work) → Keeps old.kept old.parts before
    → MayTurn a (progress_of next) (added_work acts before)
    → turned_work a (progress_of next) l x (added_work acts before) ≡ Some after
    → Keeps new.kept new.parts after
