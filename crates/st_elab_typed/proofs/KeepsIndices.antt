-- The indices of an elaborated rule or clause occur only in bodies that have them as their index.
use Rattle.std.proofs.Common.{◌≡◌, sym, ap, ◌∙◌, subst, ℕ, List, [], ◌∷◌, ◌++◌, false, inl, inr}
use Rattle.std.proofs.lemmas.Bool.{true≢false}
use Rattle.st_el.specs.declared.expression.Exp.{Exp}
use Rattle.st_el.specs.declared.definition.Prem.{Prem}
use Rattle.st_il.specs.declared.definition.ClauseDef.{ClauseDef}
use Rattle.st_il.specs.declared.definition.FunDef.{FunDef}
use Rattle.st_il.specs.declared.definition.IlDef.TheVariants as def
use Rattle.st_il.specs.declared.definition.RelationDef.{RelationDef}
use Rattle.st_il.specs.declared.definition.RuleDef.{RuleDef}
use Rattle.st_il.specs.declared.expression.IlExp.{IlExp}
use Rattle.st_il.specs.declared.expression.IlPrem.{IlPrem}
use Rattle.st_dims.specs.declared.mention.Mention.{Mention}
use Rattle.st_dims.specs.declared.mention.Mention.TheVariants.{Occurs, Indexes, Iterates}
use Rattle.st_dims.specs.Mentions.{mentions_in, occurrences_in, indices_in}
use Rattle.st_il.specs.Names.{has_name}
use Rattle.st_ilcheck.specs.Variables.{Occurrence, all_occurrences, all_indices, names_of, IndicesStayInside}
use Rattle.st_ilcheck.specs.Typed.{KeepsIndices}
use Rattle.st_elab_table.specs.declared.decls.Decls.{Decls}
use Rattle.st_elab_table.specs.declared.decls.Scope.{Scope}
use Rattle.st_elab_table.specs.Clauses.{ClauseParts, mentions_of, ElabClause}
use Rattle.st_elab_table.specs.Rules.{ElabRule}
use Rattle.st_elab_table.specs.Scopes.{IsScope, table_of}
use Rattle.st_elab_law.specs.Notes.{indexes, mentioned}
use Rattle.st_elab_law.specs.Noted.{all_noted}
use Rattle.st_elab_typed.proofs.Members.{Has, Has-from_map, All-from_Has, none_from_Has, any_from_Has}
use Rattle.st_elab_typed.proofs.AreListed.{chained, placed}
use Rattle.st_elab_typed.proofs.IndicesNoted.{all_indices-noted}
use Rattle.st_elab_typed.proofs.KeepsVariables.{occurs-mentioned}
use Rattle.st_elab_law.proofs.NotesOfRules.{rule_notes, clause_notes}

-- an index that is noted of a source is among its indices
pub indexes-mentioned : (ms : List Mention) (i : List ℕ) → Has (mentioned ms) (indexes i) → Has (indices_in ms) i
indexes-mentioned [] i h = absurd h
indexes-mentioned (Occurs o ∷ ms) i (inl e) = absurd (cc)
indexes-mentioned (Occurs o ∷ ms) i (inr h) = indexes-mentioned ms i h
indexes-mentioned (Indexes name ∷ ms) i (inl e) = inl (cc)
indexes-mentioned (Indexes name ∷ ms) i (inr h) = inr (indexes-mentioned ms i h)
indexes-mentioned (Iterates j ∷ ms) i (inl e) = absurd (cc)
indexes-mentioned (Iterates j ∷ ms) i (inr h) = indexes-mentioned ms i h

module _ (mentions : List Mention) (es : List IlExp) (ps : List IlPrem) (D : Decls) (S : Scope) (is : IsScope D mentions S) where
  -- what occurs is none of the indices
  stay : all_noted es ps ≡ mentioned mentions → IndicesStayInside es ps
  stay same =
      All-from_Has (λ i. has_name (names_of (all_occurrences es ps)) i ≡ false) (all_indices es ps) (λ i h.
      none_from_Has i (names_of (all_occurrences es ps)) (λ k.
      let o = Has-from_map (λ (z : Occurrence). z.0) (all_occurrences es ps) i k in
      let m = Has-from_map chained (occurrences_in mentions) o.0 (occurs-mentioned mentions es ps same o.0 o.1) in
      let free = (placed mentions (table_of S.variables) is.sound.placed m.0 m.1).no_index in
      let name : m.0.name ≡ i = ap (λ (z : Occurrence). z.0) m.2 ∙ o.2 in
      let index : Has (indices_in mentions) m.0.name = subst (Has (indices_in mentions)) (sym name) (indexes-mentioned mentions i (subst (λ z. Has z (indexes i)) same (all_indices-noted es ps i h))) in
      true≢false (sym (any_from_Has m.0.name (indices_in mentions) index) ∙ free)))

pub rule_indices : (D : Decls) (R : RelationDef) (name : List ℕ) (conclusion : Exp) (premises : List Prem) (rule : RuleDef) → ElabRule D R name conclusion premises rule → KeepsIndices (def.Rule rule)
rule_indices D R name conclusion premises rule h =
    stay (mentions_in (conclusion ∷ []) premises) rule.conclusion rule.premises D h.scope h.is_scope (rule_notes D R name conclusion premises rule h)

pub clause_indices : (D : Decls) (f : FunDef) (c : ClauseParts) (clause : ClauseDef) → ElabClause D f c clause → KeepsIndices (def.Clause clause)
clause_indices D f c clause h =
    stay (mentions_of c) (clause.args ++ clause.result ∷ []) clause.premises D h.scope h.is_scope (clause_notes D f c clause h)
