-- The law of typing of rules and clauses.
use Rattle.std.specs.Prelude.{◌≡◌, ℕ, List, [], Some}
use Rattle.st_el.specs.declared.expression.Exp.{Exp}
use Rattle.st_el.specs.declared.definition.Prem.{Prem}
use Rattle.st_il.specs.declared.definition.ClauseDef.{ClauseDef}
use Rattle.st_il.specs.declared.definition.FunDef.{FunDef}
use Rattle.st_il.specs.declared.definition.Il.{Il}
use Rattle.st_il.specs.declared.definition.RelationDef.{RelationDef}
use Rattle.st_il.specs.declared.definition.RuleDef.{RuleDef}
use Rattle.st_type_table.specs.Breach.{IsSound}
use Rattle.st_il.specs.Definitions.{relations}
use Rattle.st_elab_table.specs.declared.decls.Decls.{Decls}
use Rattle.st_elab_table.specs.Inferred.{fun_named}
use Rattle.st_elab_table.specs.Judgements.{relation_named}
use Rattle.st_elab_table.specs.Rules.{ElabRule}
use Rattle.st_elab_table.specs.Clauses.{ClauseParts, ElabClause}
use Rattle.st_ilcheck.specs.Definitions.{RuleBreaks, ClauseBreaks}
use Rattle.st_elab_typed.specs.Law.{IsDeclaredIn}
use Rattle.st_elab_typed.specs.RuleNames.{RuleKeepsNames, ClauseKeepsNames}

-- all that is declared is what the internal language declares
pub record AreDeclaredIn (il : Il) (D : Decls) : Type 0 where
  pub expressions : IsDeclaredIn il D
  pub relations_are : D.relations ≡ relations il

-- What a rule is elaborated to breaks no rule on types, where its names are kept.
abbrev pub RuleIsTyped : Type 0
RuleIsTyped = (il : Il) (D : Decls) → AreDeclaredIn il D → IsSound D.types
    → (R : RelationDef) → relation_named D.relations R.name ≡ Some R
    → (name : List ℕ) (conclusion : Exp) (premises : List Prem) (rule : RuleDef)
    → ElabRule D R name conclusion premises rule → RuleKeepsNames rule → RuleBreaks il rule []

-- What a clause is elaborated to breaks no rule on types, where its names are kept.
abbrev pub ClauseIsTyped : Type 0
ClauseIsTyped = (il : Il) (D : Decls) → AreDeclaredIn il D → IsSound D.types
    → (f : FunDef) → fun_named D.funs f.name ≡ Some f → (c : ClauseParts) (clause : ClauseDef)
    → ElabClause D f c clause → ClauseKeepsNames clause → ClauseBreaks il clause []
