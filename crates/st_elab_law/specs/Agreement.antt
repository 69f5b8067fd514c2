-- When elaboration and erasure look in the same definitions.
use Rattle.std.specs.Prelude.{◌≡◌, ℕ, List, [], ◌∷◌, flat_map}
use Rattle.st_il.specs.declared.ty.Ty.{Ty}
use Rattle.st_il.specs.declared.definition.FunDef.{FunDef}
use Rattle.st_il.specs.declared.definition.Il.{Il}
use Rattle.st_il.specs.declared.definition.IlDef.{IlDef}
use Rattle.st_il.specs.declared.definition.IlDef.TheVariants as def
use Rattle.st_il.specs.declared.definition.RelationDef.{RelationDef}
use Rattle.st_il.specs.declared.definition.SyntaxDef.{SyntaxDef}
use Rattle.st_elab_table.specs.declared.decls.Decls.{Decls}

-- ---- the table of types

-- the syntax that this definition declares, if it is one, before later ones
abbrev pub with_syntax : IlDef → List SyntaxDef → List SyntaxDef
with_syntax (def.Syntax syntax) later = syntax ∷ later
with_syntax _ later = later

-- the syntaxes among definitions, in their order
abbrev pub syntaxes : List IlDef → List SyntaxDef
syntaxes [] = []
syntaxes (d ∷ ds) = with_syntax d (syntaxes ds)

-- the types that are declared are the syntaxes of these definitions
abbrev pub IsTableOf : List IlDef → Decls → Type 0
IsTableOf defs D = D.types ≡ syntaxes defs

-- ---- declarations

-- the variable that a definition gives a type, if it gives one
abbrev pub var_in : IlDef → List (List ℕ × Ty)
var_in (def.Var name t) = (name, t) ∷ []
var_in _ = []

-- the function that a definition declares, if it declares one
abbrev pub fun_in : IlDef → List FunDef
fun_in (def.Fun fun) = fun ∷ []
fun_in _ = []

-- the relation that a definition declares, if it declares one
abbrev pub relation_in : IlDef → List RelationDef
relation_in (def.Relation relation) = relation ∷ []
relation_in _ = []

-- what these definitions declare
abbrev pub decls_in : List IlDef → Decls
decls_in defs =
    record {
      types = syntaxes defs;
      vars = flat_map var_in defs;
      funs = flat_map fun_in defs;
      relations = flat_map relation_in defs;
    }

-- these are the declarations of the definitions
abbrev pub Declares : Il → Decls → Type 0
Declares il D = D ≡ decls_in il.defs
