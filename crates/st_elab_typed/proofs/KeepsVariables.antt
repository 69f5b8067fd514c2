-- The variables of an elaborated rule or clause are listed.
use Rattle.std.proofs.Common.{◌≡◌, sym, subst, ℕ, List, [], ◌∷◌, ◌++◌, map}
use Rattle.st_el.specs.declared.expression.Exp.{Exp}
use Rattle.st_el.specs.declared.definition.Prem.{Prem}
use Rattle.st_il.specs.declared.definition.ClauseDef.{ClauseDef}
use Rattle.st_il.specs.declared.definition.FunDef.{FunDef}
use Rattle.st_il.specs.declared.definition.IlDef.TheVariants as def
use Rattle.st_il.specs.declared.definition.Listed.{Listed}
use Rattle.st_il.specs.declared.definition.RelationDef.{RelationDef}
use Rattle.st_il.specs.declared.definition.RuleDef.{RuleDef}
use Rattle.st_il.specs.declared.expression.IlExp.{IlExp}
use Rattle.st_il.specs.declared.expression.IlPrem.{IlPrem}
use Rattle.st_dims.specs.declared.mention.Mention.{Mention}
use Rattle.st_dims.specs.Mentions.{mentions_in}
use Rattle.st_ilcheck.specs.Variables.{AreListed, Occurrence, all_occurrences}
use Rattle.st_ilcheck.specs.Typed.{KeepsVariables}
use Rattle.st_elab_table.specs.declared.decls.Decls.{Decls}
use Rattle.st_elab_table.specs.declared.decls.Scope.{Scope}
use Rattle.st_elab_law.specs.Notes.{occurs, Notes, beside, all_of, mentioned}
use Rattle.st_elab_law.specs.Noted.{noted, prem_noted, all_noted}
use Rattle.st_elab_table.specs.Clauses.{ClauseParts, mentions_of, ElabClause}
use Rattle.st_elab_table.specs.Rules.{ElabRule}
use Rattle.st_elab_table.specs.Scopes.{IsScope, listed}
use Rattle.st_elab_law.proofs.NotesOfRules.{rule_notes, clause_notes}
use Rattle.st_elab_typed.proofs.Members.{Has}
use Rattle.st_elab_typed.proofs.PremisesSeen.{all_occurrences-seen, outside-shows, outside-comes}
use Rattle.st_elab_typed.proofs.AreListed.{variables_in, noted-variable, variable-noted, scope_listed}

module _ (mentions : List Mention) (es : List IlExp) (ps : List IlPrem) (same : all_noted es ps ≡ mentioned mentions) where
  abbrev whole : Notes
  whole = beside (all_of (map noted es)) (all_of (map prem_noted ps))

  -- what occurs is mentioned
  pub occurs-mentioned : (o : Occurrence) → Has (all_occurrences es ps) o → Has (variables_in mentions) o
  occurs-mentioned o h = noted-variable mentions o.0 o.1 (subst (λ z. Has z (occurs o.0 o.1)) same (outside-shows (all_occurrences es ps) whole (all_occurrences-seen es ps) o h))

  -- what is mentioned occurs
  mentioned-occurs : (o : Occurrence) → Has (variables_in mentions) o → Has (all_occurrences es ps) o
  mentioned-occurs o h = outside-comes (all_occurrences es ps) whole (all_occurrences-seen es ps) o (subst (λ z. Has z (occurs o.0 o.1)) (sym same) (variable-noted mentions o h))

  listed_by : (D : Decls) (S : Scope) (ls : List Listed) → IsScope D mentions S → ls ≡ map listed S.variables → AreListed ls (all_occurrences es ps)
  listed_by D S ls is e = subst (λ z. AreListed z (all_occurrences es ps)) (sym e) (scope_listed D mentions S is (all_occurrences es ps) occurs-mentioned mentioned-occurs)

pub rule_variables : (D : Decls) (R : RelationDef) (name : List ℕ) (conclusion : Exp) (premises : List Prem) (rule : RuleDef) → ElabRule D R name conclusion premises rule → KeepsVariables (def.Rule rule)
rule_variables D R name conclusion premises rule h =
    listed_by (mentions_in (conclusion ∷ []) premises) rule.conclusion rule.premises (rule_notes D R name conclusion premises rule h) D h.scope rule.variables h.is_scope h.variables_are

pub clause_variables : (D : Decls) (f : FunDef) (c : ClauseParts) (clause : ClauseDef) → ElabClause D f c clause → KeepsVariables (def.Clause clause)
clause_variables D f c clause h =
    listed_by (mentions_of c) (clause.args ++ clause.result ∷ []) clause.premises (clause_notes D f c clause h) D h.scope clause.variables h.is_scope h.variables_are
