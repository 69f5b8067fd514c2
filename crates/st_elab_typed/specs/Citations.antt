-- T1: what a rule or a clause cites is declared, and its tags are templates.
use Rattle.std.specs.Prelude.{◌≡◌, ℕ, List, All, Some, None}
use Rattle.std.specs.List.{AllByRecursion}
use Rattle.st_il.specs.declared.definition.Alternative.{Alternative}
use Rattle.st_il.specs.declared.definition.Alternative.TheVariants as alternative
use Rattle.st_il.specs.declared.definition.FunDef.{FunDef}
use Rattle.st_il.specs.declared.definition.RelationDef.{RelationDef}
use Rattle.st_il.specs.declared.definition.SyntaxBody.{SyntaxBody}
use Rattle.st_il.specs.declared.definition.SyntaxBody.TheVariants as body
use Rattle.st_il.specs.declared.ty.Ty.{Ty}
use Rattle.st_type_table.specs.Leads.{names_in}
use Rattle.st_type_table.specs.Meaning.{body_of}
use Rattle.st_ilcheck.specs.Declarations.{IsTag, Cited}
use Rattle.st_elab_table.specs.declared.decls.Decls.{Decls}
use Rattle.st_elab_table.specs.Inferred.{fun_named}
use Rattle.st_elab_table.specs.Judgements.{relation_named}

-- the name is that of a declared syntax
abbrev pub IsSyntax : Decls → List ℕ → Type 0
IsSyntax D name = body_of D.types name ≡ None → ⊥

-- the name is that of a declared function
abbrev pub IsFunction : Decls → List ℕ → Type 0
IsFunction D name = (f : FunDef) × (fun_named D.funs name ≡ Some f)

-- the name is that of a declared relation
abbrev pub IsRelation : Decls → List ℕ → Type 0
IsRelation D name = (R : RelationDef) × (relation_named D.relations name ≡ Some R)

-- the names in a type are declared
abbrev pub IsKnown : Decls → Ty → Type 0
IsKnown D t = AllByRecursion (IsSyntax D) (names_in t)

-- the names in an alternative are declared
abbrev pub AlternativeKnown : Decls → Alternative → Type 0
AlternativeKnown D (alternative.Case tag operands) = AllByRecursion (IsKnown D) operands
AlternativeKnown D (alternative.Incl name) = IsSyntax D name

-- the names in a body are declared
abbrev pub BodyKnown : Decls → SyntaxBody → Type 0
BodyKnown D (body.Alias t) = IsKnown D t
BodyKnown D (body.Variant alternatives) = AllByRecursion (AlternativeKnown D) alternatives
BodyKnown D (body.Fields fields) = AllByRecursion (λ (f : List ℕ × Ty). IsKnown D f.1) fields

-- the names in the types of all declarations are declared
pub record AreKnown (D : Decls) : Type 0 where
  pub bodies : (name : List ℕ) (b : SyntaxBody) → body_of D.types name ≡ Some b → BodyKnown D b
  pub vars : AllByRecursion (λ (v : List ℕ × Ty). IsKnown D v.1) D.vars
  pub params : AllByRecursion (λ (f : FunDef). AllByRecursion (IsKnown D) f.params) D.funs
  pub results : AllByRecursion (λ (f : FunDef). IsKnown D f.result) D.funs
  pub holes : AllByRecursion (λ (r : RelationDef). AllByRecursion (IsKnown D) r.holes) D.relations

-- What is cited is declared, and each tag is a template with as many holes as operands.
pub record CitesKnown (D : Decls) (c : Cited) : Type 0 where
  pub syntaxes : All (IsSyntax D) c.syntaxes
  pub relations : All (IsRelation D) c.relations
  pub functions : All (IsFunction D) c.functions
  pub tagged : All IsTag c.tags
