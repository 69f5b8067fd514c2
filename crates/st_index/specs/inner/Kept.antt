-- What an index keeps of its language.
use Rattle.std.specs.Prelude.{◌≡◌, ℕ, List, []}
use Rattle.std.specs.Borrow.{Bor}
use Rattle.st_il.specs.declared.definition.ClauseDef.{ClauseDef}
use Rattle.st_il.specs.declared.definition.FunDef.{FunDef}
use Rattle.st_il.specs.declared.definition.Il.{Il}
use Rattle.st_il.specs.declared.definition.RelationDef.{RelationDef}
use Rattle.st_il.specs.declared.definition.RuleDef.{RuleDef}
use Rattle.st_il.specs.declared.definition.SyntaxDef.{SyntaxDef}
use Rattle.st_il.specs.Names.{Name}
use Rattle.st_il.specs.Definitions as defs
use Rattle.st_index.specs.inner.Groups.{members}

-- The definitions of each kind are those of the language, and under each name stand its rules and
-- its clauses.
pub record IsKept (il : Il) (syntaxes : List SyntaxDef) (relations : List RelationDef)
    (functions : List FunDef) (rules : List (Bor (List ℕ) × List (Bor RuleDef)))
    (clauses : List (Bor (List ℕ) × List (Bor ClauseDef))) (no_rules : List (Bor RuleDef))
    (no_clauses : List (Bor ClauseDef)) : Type 0 where
  pub syntaxes_are : syntaxes ≡ defs.syntaxes il
  pub relations_are : relations ≡ defs.relations il
  pub functions_are : functions ≡ defs.funs_in il.defs
  pub rules_are : (name : Name) → members rules name ≡ defs.rules_of il name
  pub clauses_are : (name : Name) → members clauses name ≡ defs.clauses_of il name
  pub no_rules_are : no_rules ≡ []
  pub no_clauses_are : no_clauses ≡ []
