-- What a query comes to over an internal language.
use Rattle.std.specs.Prelude.{ℕ, List}
use Rattle.st_il.specs.declared.definition.Il.{Il}
use Rattle.st_il.specs.declared.expression.IlExp.{IlExp}
use Rattle.st_semantics.specs.declared.outcome.Outcome.{Outcome}
use Rattle.st_semantics.specs.Calls.{ValueAt}
use Rattle.st_elab_law.specs.Agreement.{decls_in}
use Rattle.st_term.specs.Reading.{IsQuery}
use Rattle.st_term.specs.TermValue.{nothing}

-- The bytes are the text of a query, and where so many calls may be open at once, and no variable
-- has a value, it comes to this.
pub record ComesTo (il : Il) (depth : ℕ) (bytes : List ℕ) (o : Outcome) : Type 0 where
  pub query : IlExp
  pub read : IsQuery (decls_in il.defs) bytes query
  pub comes : ValueAt il depth nothing query o
