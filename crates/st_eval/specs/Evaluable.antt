-- Of which languages calls can be run.
use Rattle.std.specs.Prelude.{◌≡◌, List, ◌∷◌, ◌++◌, All}
use Rattle.st_il.specs.declared.definition.ClauseDef.{ClauseDef}
use Rattle.st_il.specs.declared.definition.Il.{Il}
use Rattle.st_il.specs.declared.definition.SyntaxDef.{SyntaxDef}
use Rattle.st_il.specs.declared.expression.IlPrem.{IlPrem}
use Rattle.st_il.specs.Definitions.{syntaxes, clauses_in}
use Rattle.st_semantics.specs.Formed.{IsFormed, AreFormed}
use Rattle.st_semantics.specs.ModeRules.{bound_in_clause}
use Rattle.st_semantics.specs.Laws.{CallsAreSingle}
use Rattle.st_eval.specs.Steps.{IsRunnable}
use Rattle.st_eval.specs.CanBeMet.{CanBeMet}

-- What the rules M3, M4, M6 and M7 and typing say of a clause that is tried: it can be run, records
-- and absent parts in its arguments and in its result fit their types, and each of its premises can
-- be met with what is bound before it.
pub record CanBeTried (il : Il) (c : ClauseDef) : Type 0 where
  pub runnable : IsRunnable il c
  pub arguments : AreFormed (syntaxes il) c.args
  pub result : IsFormed (syntaxes il) c.result
  pub premises : (before : List IlPrem) (p : IlPrem) (after : List IlPrem)
      → c.premises ≡ before ++ p ∷ after
      → CanBeMet il (bound_in_clause c before) c.variables p

-- The types are those of the language, its calls come to one outcome at most, and each of its clauses
-- can be tried.
pub record IsEvaluable (il : Il) (types : List SyntaxDef) : Type 0 where
  pub types_are : types ≡ syntaxes il
  pub single : CallsAreSingle il
  pub clauses : All (CanBeTried il) (clauses_in il.defs)
