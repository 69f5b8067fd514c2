-- Rules: what they are in the internal language, and the first breach in one.
use Rattle.std.specs.Prelude.{◌≡◌, ℕ, List, [], ◌∷◌, map}
use Rattle.st_el.specs.declared.expression.Exp.{Exp}
use Rattle.st_el.specs.declared.definition.Prem.{Prem}
use Rattle.st_il.specs.declared.expression.IlExp.{IlExp}
use Rattle.st_il.specs.declared.definition.RelationDef.{RelationDef}
use Rattle.st_il.specs.declared.definition.RuleDef.{RuleDef}
use Rattle.st_dims.specs.Mentions.{mentions_in}
use Rattle.st_elab_table.specs.declared.decls.Decls.{Decls}
use Rattle.st_elab_table.specs.declared.decls.Scope.{Scope}
use Rattle.st_elab_table.specs.Questions.{Breach}
use Rattle.st_elab_table.specs.Elaboration.{around}
use Rattle.st_elab_table.specs.Judgements.{Judged, JudgedBreach}
use Rattle.st_elab_table.specs.Premises.{ElabPrems, PremsBreach}
use Rattle.st_elab_table.specs.Scopes.{IsScope, VariableBreach, listed}

-- The scope of a rule with this conclusion and these premises.
abbrev pub IsRuleScope : Decls → Exp → List Prem → Scope → Type 0
IsRuleScope D conclusion premises S = IsScope D (mentions_in (conclusion ∷ []) premises) S

-- A rule of this relation and name is elaborated, in the scope of its variables.
pub record ElabRule (D : Decls) (R : RelationDef) (name : List ℕ) (conclusion : Exp)
    (premises : List Prem) (rule : RuleDef) : Type 0 where
  pub scope : Scope
  pub is_scope : IsRuleScope D conclusion premises scope
  pub relation_is : rule.relation ≡ R.name
  pub name_is : rule.name ≡ name
  pub variables_are : rule.variables ≡ map listed scope.variables
  pub judged : Judged D scope (around scope) R conclusion rule.conclusion
  pub holding : ElabPrems D scope (around scope) premises rule.premises

-- The first breach in a rule: at its variables, in its conclusion, or in its premises.
pub data RuleBreach (D : Decls) (R : RelationDef) (conclusion : Exp) (premises : List Prem)
    (b : Breach) : Type 0 where
  at_variable : VariableBreach D (mentions_in (conclusion ∷ []) premises) b
      → RuleBreach D R conclusion premises b
  in_conclusion : (S : Scope) → IsRuleScope D conclusion premises S
      → JudgedBreach D S (around S) R conclusion b → RuleBreach D R conclusion premises b
  in_premises : (S : Scope) (xs : List IlExp) → IsRuleScope D conclusion premises S
      → Judged D S (around S) R conclusion xs → PremsBreach D S (around S) premises b
      → RuleBreach D R conclusion premises b
