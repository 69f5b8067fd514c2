-- The value of a term, from what it was elaborated to: that of evaluation.
use Rattle.std.specs.Prelude.{List, []}
use Rattle.st_il.specs.declared.definition.SyntaxDef.{SyntaxDef}
use Rattle.st_il.specs.declared.expression.IlExp.{IlExp}
use Rattle.st_il.specs.declared.value.Env.{Env}
use Rattle.st_il.specs.declared.value.Value.{Value}
use Rattle.st_semantics.specs.declared.outcome.Outcome.TheVariants.{Val}
use Rattle.st_semantics.specs.Evaluation.{tasks, Gives}
use Rattle.st_semantics.specs.Holding.{value_by, HaveValues}
use Rattle.st_semantics.specs.Matching.{no_answers}

-- the environment that gives no variable a value
abbrev pub nothing : Env
nothing = record { entries = [] }

-- The expression has this value, where no variable and no call has one.
abbrev pub IsTermValue : List SyntaxDef → IlExp → Value → Type 0
IsTermValue defs e v = Gives defs no_answers nothing e (Val v)

-- the expressions have these values, one each
abbrev pub AreTermValues : List SyntaxDef → List IlExp → List Value → Type 0
AreTermValues defs es vs = HaveValues (value_by defs no_answers) (tasks nothing es) vs
