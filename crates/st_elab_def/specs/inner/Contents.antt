-- What rules and clauses are made to.
use Rattle.std.specs.Prelude.{◌≡◌, ℕ, List, Bool, true, false, Option, Some, None}
use Rattle.st_num.specs.declared.span.Span.{Span}
use Rattle.st_el.specs.declared.definition.Def.{Def}
use Rattle.st_el.specs.declared.definition.DefNode.{DefNode}
use Rattle.st_el.specs.declared.definition.DefNode.TheVariants.{Rule, Clause}
use Rattle.st_el.specs.declared.definition.Prem.{Prem}
use Rattle.st_el.specs.declared.expression.Exp.{Exp}
use Rattle.st_il.specs.declared.definition.ClauseDef.{ClauseDef}
use Rattle.st_il.specs.declared.definition.IlDef.{IlDef}
use Rattle.st_il.specs.declared.definition.IlDef.TheVariants as il
use Rattle.st_il.specs.declared.definition.RuleDef.{RuleDef}
use Rattle.st_elab_table.specs.declared.decls.Decls.{Decls}
use Rattle.st_elab_table.specs.Clauses.{ClauseParts}
use Rattle.st_elab_def.specs.Contents.{ElabRuleOf, ElabClauseOf}
use Rattle.st_elab_def.specs.Definitions.{Definition}
use Rattle.st_elab_def.specs.Elaboration.{ElabDef}
use Rattle.st_elab_def.specs.Phases.{on_rule, on_clause, on_content}
use Rattle.st_elab_def.specs.inner.Walk.{AllPassAt}

-- What the rule asks passes, and this is what it is.
pub record MakesRule (D : Decls) (before : List Def) (at : Span) (r name : List ℕ)
    (conclusion : Exp) (premises : List Prem) (x : IlDef) : Type 0 where
  pub passes : AllPassAt D (on_rule before at r name conclusion premises)
  pub rule : RuleDef
  pub elaborated : ElabRuleOf D r name conclusion premises rule
  pub is : x ≡ il.Rule rule

-- What the clause asks passes, and this is what it is.
pub record MakesClause (D : Decls) (at : Span) (name : List ℕ) (c : ClauseParts) (x : IlDef)
    : Type 0 where
  pub passes : AllPassAt D (on_clause at name c)
  pub clause : ClauseDef
  pub elaborated : ElabClauseOf D name c clause
  pub is : x ≡ il.Clause clause

-- a rule or a clause
abbrev pub is_content : DefNode → Bool
is_content (Rule r name conclusion premises) = true
is_content (Clause name args value premises) = true
is_content node = false

-- this is what the definition is, if it is a rule or a clause
abbrev pub Makes : Decls → Definition → Option IlDef → Type 0
Makes D d (Some x) = (is_content d.def.node ≡ true) × ElabDef D d.def x
Makes D d None = is_content d.def.node ≡ false

-- What the definition asks passes, and this is what it is, if it is a rule or a clause.
pub record MakesContent (D : Decls) (d : Definition) (made : Option IlDef) : Type 0 where
  pub passes : AllPassAt D (on_content d)
  pub makes : Makes D d made
