-- Where premises are met.
use Rattle.std.specs.Prelude.{◌≡◌, List}
use Rattle.st_il.specs.declared.value.Value.{Value}
use Rattle.st_semantics.specs.declared.outcome.Outcome.{Outcome}
use Rattle.st_il.specs.Names.{Name}
use Rattle.st_il.specs.Definitions.{syntaxes}
use Rattle.st_semantics.specs.Calls.{CallAt}
use Rattle.st_semantics.specs.Laws.{CallsAreSingle}
use Rattle.st_eval.specs.declared.reading.Setting.{Setting}

-- the types are those of the language, whose calls come to one outcome at most
pub record IsSetting (s : Setting) : Type 0 where
  pub types_are : s.types.now ≡ syntaxes s.index.now
  pub single : CallsAreSingle s.index.now

-- what is answered is what calls come to
pub record AnswersCalls (s : Setting) (A : Name → List Value → Outcome → Type 0) : Type 0 where
  pub answers : (fun : Name) (vs : List Value) (o : Outcome) → A fun vs o
      → CallAt s.index.now s.depth fun vs o
