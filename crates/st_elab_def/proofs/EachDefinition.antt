-- What holds of elaborated rules and clauses holds of each definition of an elaborated source.
use Rattle.std.proofs.Common.{◌≡◌, sym, subst, List, [], ◌∷◌}
use Rattle.std.specs.List.{AllByRecursion}
use Rattle.st_el.specs.declared.definition.Def.{Def}
use Rattle.st_el.specs.declared.definition.DefNode.{DefNode}
use Rattle.st_el.specs.declared.definition.DefNode.TheVariants.{Syntax, Var, Relation, Rule, Fun, Clause}
use Rattle.st_el.specs.declared.definition.Hint.{Hint}
use Rattle.st_il.specs.declared.definition.IlDef.{IlDef}
use Rattle.st_il.specs.declared.definition.IlDef.TheVariants as il
use Rattle.st_ilcheck.specs.Typed.{KeepsVariables, KeepsIndices}
use Rattle.st_elab_table.specs.declared.decls.Decls.{Decls}
use Rattle.st_elab_def.specs.declared.elaborated.Elaborated.{Elaborated}
use Rattle.st_elab_def.specs.DeclsOf.{declared_at, decls_of}
use Rattle.st_elab_def.specs.Elaboration.{declaration, rule, clause, ElabDefs, IsElaborated}
use Rattle.st_elab_def.specs.Fragments.{joined}
use Rattle.st_elab_typed.specs.RuleNames.{DefKeepsNames}
use Rattle.st_elab_typed.proofs.KeepsVariables.{rule_variables, clause_variables}
use Rattle.st_elab_typed.proofs.KeepsIndices.{rule_indices, clause_indices}
use Rattle.st_elab_typed.proofs.KeepsNames.{rule_names, clause_names}
use Rattle.st_elab_def.specs.Sources.{NodeRepeatsNoOtherwise, RepeatNoOtherwise}
use Rattle.st_elab_def.specs.Keeping.{AllKeepVariables, AllKeepIndices, AllKeepNames}
use Rattle.st_elab_def.proofs.Joined.{joined_each}

pub first_is : (x y : IlDef) → x ∷ [] ≡ y ∷ [] → x ≡ y
first_is x y h = cc

pub none_is : (y : IlDef) → [] ≡ y ∷ [] → ⊥
none_is y h = cc

-- no rule and no clause is declared
abbrev pub IsDeclaration : IlDef → Type 0
IsDeclaration (il.Rule r) = ⊥
IsDeclaration (il.Clause c) = ⊥
IsDeclaration d = Unit {0}

pub declaration_form : (hints : List Hint) (node : DefNode) (x : IlDef) → declared_at hints node ≡ x ∷ [] → IsDeclaration x
declaration_form hints (Syntax name fragment b) x is = subst IsDeclaration (first_is _ x is) tt
declaration_form hints (Var name t) x is = subst IsDeclaration (first_is _ x is) tt
declaration_form hints (Relation name n) x is = subst IsDeclaration (first_is _ x is) tt
declaration_form hints (Rule r name e ps) x is = absurd (none_is x is)
declaration_form hints (Fun name ts t) x is = subst IsDeclaration (first_is _ x is) tt
declaration_form hints (Clause name as' e ps) x is = absurd (none_is x is)

variables_kept : (x : IlDef) → IsDeclaration x → KeepsVariables x
variables_kept (il.Rule r) h = absurd h
variables_kept (il.Clause c) h = absurd h
variables_kept d h = tt

indices_kept : (x : IlDef) → IsDeclaration x → KeepsIndices x
indices_kept (il.Rule r) h = absurd h
indices_kept (il.Clause c) h = absurd h
indices_kept d h = tt

names_kept : (x : IlDef) → IsDeclaration x → DefKeepsNames x
names_kept (il.Rule r) h = absurd h
names_kept (il.Clause c) h = absurd h
names_kept d h = tt

module _ (D : Decls) where
  all_variables : (ds : List Def) (xs : List IlDef) → ElabDefs D ds xs → AllByRecursion KeepsVariables xs
  all_variables [] [] h = tt
  all_variables [] (x ∷ xs) h = absurd h
  all_variables (def ∷ ds) [] h = absurd h
  all_variables (def ∷ ds) (x ∷ xs) (declaration is, hs) = (variables_kept x (declaration_form def.hints def.node x is), all_variables ds xs hs)
  all_variables (def ∷ ds) (x ∷ xs) (rule r name e ps y is el of, hs) =
      (subst KeepsVariables (sym of) (rule_variables D el.relation name e ps y el.elaborated), all_variables ds xs hs)
  all_variables (def ∷ ds) (x ∷ xs) (clause name args result ps y is el of, hs) =
      (subst KeepsVariables (sym of) (clause_variables D el.fun _ y el.elaborated), all_variables ds xs hs)

  all_indices : (ds : List Def) (xs : List IlDef) → ElabDefs D ds xs → AllByRecursion KeepsIndices xs
  all_indices [] [] h = tt
  all_indices [] (x ∷ xs) h = absurd h
  all_indices (def ∷ ds) [] h = absurd h
  all_indices (def ∷ ds) (x ∷ xs) (declaration is, hs) = (indices_kept x (declaration_form def.hints def.node x is), all_indices ds xs hs)
  all_indices (def ∷ ds) (x ∷ xs) (rule r name e ps y is el of, hs) =
      (subst KeepsIndices (sym of) (rule_indices D el.relation name e ps y el.elaborated), all_indices ds xs hs)
  all_indices (def ∷ ds) (x ∷ xs) (clause name args result ps y is el of, hs) =
      (subst KeepsIndices (sym of) (clause_indices D el.fun _ y el.elaborated), all_indices ds xs hs)

  all_names : (ds : List Def) (xs : List IlDef) → RepeatNoOtherwise ds → ElabDefs D ds xs → AllByRecursion DefKeepsNames xs
  all_names [] [] r h = tt
  all_names [] (x ∷ xs) r h = absurd h
  all_names (def ∷ ds) [] r h = absurd h
  all_names (def ∷ ds) (x ∷ xs) (r, rs) (declaration is, hs) = (names_kept x (declaration_form def.hints def.node x is), all_names ds xs rs hs)
  all_names (def ∷ ds) (x ∷ xs) (r, rs) (rule n name e ps y is el of, hs) =
      (subst DefKeepsNames (sym of) (rule_names D el.relation name e ps y (subst NodeRepeatsNoOtherwise is r) el.elaborated), all_names ds xs rs hs)
  all_names (def ∷ ds) (x ∷ xs) (r, rs) (clause name args result ps y is el of, hs) =
      (subst DefKeepsNames (sym of) (clause_names D el.fun _ y (subst NodeRepeatsNoOtherwise is r) el.elaborated), all_names ds xs rs hs)

pub elaborated_variables : (defs : List Def) (e : Elaborated) → IsElaborated defs e → AllKeepVariables e.il
elaborated_variables defs e is = all_variables (decls_of defs) (joined defs) e.il.defs is.definitions

pub elaborated_indices : (defs : List Def) (e : Elaborated) → IsElaborated defs e → AllKeepIndices e.il
elaborated_indices defs e is = all_indices (decls_of defs) (joined defs) e.il.defs is.definitions

pub elaborated_names : (defs : List Def) (e : Elaborated) → RepeatNoOtherwise defs → IsElaborated defs e → AllKeepNames e.il
elaborated_names defs e r is = all_names (decls_of defs) (joined defs) e.il.defs (joined_each (λ hints node. NodeRepeatsNoOtherwise node) (λ hints name piece b behind h k. tt) [] defs r) is.definitions
