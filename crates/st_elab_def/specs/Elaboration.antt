-- The internal language of a source.
use Rattle.std.specs.Prelude.{◌≡◌, ℕ, List, [], ◌∷◌}
use Rattle.st_el.specs.declared.expression.Exp.{Exp}
use Rattle.st_el.specs.declared.definition.Def.{Def}
use Rattle.st_el.specs.declared.definition.DefNode.TheVariants.{Rule, Clause}
use Rattle.st_el.specs.declared.definition.Prem.{Prem}
use Rattle.st_il.specs.declared.definition.ClauseDef.{ClauseDef}
use Rattle.st_il.specs.declared.definition.IlDef.{IlDef}
use Rattle.st_il.specs.declared.definition.IlDef.TheVariants as il
use Rattle.st_il.specs.declared.definition.RuleDef.{RuleDef}
use Rattle.st_elab_table.specs.declared.decls.Decls.{Decls}
use Rattle.st_elab_table.specs.Clauses.{parts_of}
use Rattle.st_elab_def.specs.declared.elaborated.Elaborated.{Elaborated}
use Rattle.st_elab_def.specs.Fragments.{joined, sources_of}
use Rattle.st_elab_def.specs.DeclsOf.{declared_by, decls_of}
use Rattle.st_elab_def.specs.Contents.{ElabRuleOf, ElabClauseOf}
use Rattle.st_elab_def.specs.Breaches.{IsSound}

-- A definition is elaborated: a declaration is what it declares, and a rule or a clause is
-- elaborated over all declarations.
pub data ElabDef (D : Decls) : Def → IlDef → Type 0 where
  declaration : {def : Def} {x : IlDef} → declared_by def ≡ x ∷ [] → ElabDef D def x
  rule : {def : Def} {x : IlDef} (r name : List ℕ) (conclusion : Exp) (premises : List Prem)
      (y : RuleDef) → def.node ≡ Rule r name conclusion premises
      → ElabRuleOf D r name conclusion premises y → x ≡ il.Rule y → ElabDef D def x
  clause : {def : Def} {x : IlDef} (name : List ℕ) (args : List Exp) (result : Exp)
      (premises : List Prem) (y : ClauseDef) → def.node ≡ Clause name args result premises
      → ElabClauseOf D name (parts_of args result premises) y → x ≡ il.Clause y → ElabDef D def x

-- each definition is elaborated, in order
abbrev pub ElabDefs : Decls → List Def → List IlDef → Type 0
ElabDefs D [] [] = Unit {0}
ElabDefs D [] (x ∷ xs) = ⊥
ElabDefs D (def ∷ defs) [] = ⊥
ElabDefs D (def ∷ defs) (x ∷ xs) = ElabDef D def x × ElabDefs D defs xs

-- A source is elaborated: no condition on it is false, and each of its definitions is elaborated,
-- its fragments joined.
pub record IsElaborated (defs : List Def) (e : Elaborated) : Type 0 where
  pub sound : IsSound defs
  pub definitions : ElabDefs (decls_of defs) (joined defs) e.il.defs
  pub sources : e.sources ≡ sources_of defs
