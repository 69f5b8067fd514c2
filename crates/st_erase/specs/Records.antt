-- The fields of the record that a name leads to.
use Rattle.std.specs.Prelude.{ℕ, zero, suc, List, [], ◌∷◌, map, if◌then◌else◌, Option, Some, None}
use Rattle.st_num.specs.Names.{same_name}
use Rattle.st_il.specs.declared.definition.IlDef.{IlDef}
use Rattle.st_il.specs.declared.definition.IlDef.TheVariants as def
use Rattle.st_il.specs.declared.definition.SyntaxDef.{SyntaxDef}
use Rattle.st_il.specs.declared.definition.SyntaxBody.{SyntaxBody}
use Rattle.st_il.specs.declared.definition.SyntaxBody.TheVariants as body
use Rattle.st_il.specs.declared.ty.Ty.{Ty, out-Ty}
use Rattle.st_il.specs.declared.ty.Ty.TheOpen.{Ty-F}

-- the body of the syntax where this is its name, and else the body from later syntaxes
abbrev pub named : List ℕ → SyntaxDef → Option SyntaxBody → Option SyntaxBody
named name syntax later = if same_name name syntax.name then Some syntax.body else later

-- the body of the syntax of this name, from a definition or else from later ones
abbrev pub body_in : List ℕ → IlDef → Option SyntaxBody → Option SyntaxBody
body_in name (def.Syntax syntax) later = named name syntax later
body_in name _ later = later

-- the body of the first syntax of this name
abbrev pub body_of : List ℕ → List IlDef → Option SyntaxBody
body_of name [] = None
body_of name (d ∷ ds) = body_in name d (body_of name ds)

-- what an alias leads to, where it is a name
abbrev pub next_name : Ty-F Ty → Option (List ℕ)
next_name (Ty-F.Name name) = Some name
next_name _ = None

-- the name of a field
abbrev pub field_name : List ℕ × Ty → List ℕ
field_name field = field.0

-- the names of the fields where an alias leads, which are none where it leads to no name
abbrev pub on_by : (List ℕ → List (List ℕ)) → Option (List ℕ) → List (List ℕ)
on_by behind None = []
on_by behind (Some name) = behind name

-- the names of the fields of a body, where this tells those behind an alias
abbrev pub fields_by : (List ℕ → List (List ℕ)) → Option SyntaxBody → List (List ℕ)
fields_by behind None = []
fields_by behind (Some (body.Fields fields)) = map field_name fields
fields_by behind (Some (body.Variant cases)) = []
fields_by behind (Some (body.Alias t)) = on_by behind (next_name (out-Ty t))

-- the names of the fields of the record that a name leads to, after so many aliases at most
abbrev pub fields_of : ℕ → List IlDef → List ℕ → List (List ℕ)
fields_of zero ds name = []
fields_of (suc n) ds name = fields_by (fields_of n ds) (body_of name ds)
