-- Rules and clauses by the names of what they belong to: elaborated, or the first breach in one.
use Rattle.std.specs.Prelude.{◌≡◌, ℕ, List, Some}
use Rattle.st_num.specs.declared.span.Span.{Span}
use Rattle.st_el.specs.declared.expression.Exp.{Exp}
use Rattle.st_el.specs.declared.definition.Prem.{Prem}
use Rattle.st_il.specs.declared.definition.ClauseDef.{ClauseDef}
use Rattle.st_il.specs.declared.definition.FunDef.{FunDef}
use Rattle.st_il.specs.declared.definition.RelationDef.{RelationDef}
use Rattle.st_il.specs.declared.definition.RuleDef.{RuleDef}
use Rattle.st_elab_table.specs.declared.decls.Decls.{Decls}
use Rattle.st_elab_table.specs.Inferred.{fun_named}
use Rattle.st_elab_table.specs.Questions.{Breach as PartBreach}
use Rattle.st_elab_table.specs.Judgements.{relation_named}
use Rattle.st_elab_table.specs.Rules.{ElabRule, RuleBreach}
use Rattle.st_elab_table.specs.Clauses.{ClauseParts, ElabClause, ClauseBreach}

-- A rule of the relation of this name is elaborated.
pub record ElabRuleOf (D : Decls) (r name : List ℕ) (conclusion : Exp) (premises : List Prem)
    (x : RuleDef) : Type 0 where
  pub relation : RelationDef
  pub declared : relation_named D.relations r ≡ Some relation
  pub elaborated : ElabRule D relation name conclusion premises x

-- The first breach in a rule of the relation of this name.
pub record RuleBreachOf (D : Decls) (r : List ℕ) (conclusion : Exp) (premises : List Prem)
    (b : PartBreach) : Type 0 where
  pub relation : RelationDef
  pub declared : relation_named D.relations r ≡ Some relation
  pub broken : RuleBreach D relation conclusion premises b

-- A clause of the function of this name is elaborated.
pub record ElabClauseOf (D : Decls) (name : List ℕ) (c : ClauseParts) (x : ClauseDef)
    : Type 0 where
  pub fun : FunDef
  pub declared : fun_named D.funs name ≡ Some fun
  pub elaborated : ElabClause D fun c x

-- The first breach in a clause of the function of this name, whose definition stands there.
pub record ClauseBreachOf (D : Decls) (name : List ℕ) (at : Span) (c : ClauseParts)
    (b : PartBreach) : Type 0 where
  pub fun : FunDef
  pub declared : fun_named D.funs name ≡ Some fun
  pub broken : ClauseBreach D fun at c b
