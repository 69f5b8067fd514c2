-- What a definition declares, what it belongs to, and the names that stand in it.
use Rattle.std.specs.Prelude.{◌≡◌, List, [], ◌∷◌, ◌++◌, map, if◌then◌else◌, Option, Some, None, Contains}
use Rattle.st_num.specs.Names.{is_among}
use Rattle.st_il.specs.declared.ty.Ty.{Ty}
use Rattle.st_il.specs.declared.definition.Il.{Il}
use Rattle.st_il.specs.declared.definition.IlDef.{IlDef}
use Rattle.st_il.specs.declared.definition.IlDef.TheVariants as def
use Rattle.st_il.specs.declared.definition.SyntaxBody.{SyntaxBody}
use Rattle.st_il.specs.declared.definition.SyntaxBody.TheVariants as body
use Rattle.st_il.specs.declared.definition.Alternative.{Alternative}
use Rattle.st_il.specs.declared.definition.Alternative.TheVariants as alternative
use Rattle.st_il.specs.declared.definition.Listed.{Listed}
use Rattle.st_deps.specs.Cited.{Name, fun_name, in_all, type_names, exp_names, prem_names}

-- the names in several types
abbrev pub types_names : List Ty → List Name
types_names types = in_all (map type_names types)

-- the names in an alternative of a variant: in its operands, or of the variant that it includes
abbrev pub alternative_names : Alternative → List Name
alternative_names (alternative.Case tag operands) = types_names operands
alternative_names (alternative.Incl name) = name ∷ []

-- the names in the type of a field
abbrev pub field_names : Name × Ty → List Name
field_names field = type_names field.1

-- the names in the body of a syntax
abbrev pub body_names : SyntaxBody → List Name
body_names (body.Alias type) = type_names type
body_names (body.Variant alternatives) = in_all (map alternative_names alternatives)
body_names (body.Fields fields) = in_all (map field_names fields)

-- the names in the type of a variable
abbrev pub variable_names : Listed → List Name
variable_names variable = type_names variable.ty

-- the names that stand in a definition, but for the one that it declares or belongs to
abbrev pub names_in : IlDef → List Name
names_in (def.Syntax d) = body_names d.body
names_in (def.Var name type) = []
names_in (def.Relation d) = types_names d.holes
names_in (def.Rule d) =
    in_all (map variable_names d.variables) ++ in_all (map exp_names d.conclusion)
    ++ in_all (map prem_names d.premises)
names_in (def.Fun d) = types_names d.params ++ type_names d.result
names_in (def.Clause d) =
    in_all (map variable_names d.variables) ++ in_all (map exp_names d.args)
    ++ exp_names d.result ++ in_all (map prem_names d.premises)

-- the name that a definition declares: a syntax, a relation or a function
abbrev pub declared_by : IlDef → Option Name
declared_by (def.Syntax d) = Some d.name
declared_by (def.Relation d) = Some d.name
declared_by (def.Fun d) = Some (fun_name d.name)
declared_by definition = None

-- the name that a definition declares, or of which it is a rule or a clause
abbrev pub owner : IlDef → Option Name
owner (def.Syntax d) = Some d.name
owner (def.Var name type) = None
owner (def.Relation d) = Some d.name
owner (def.Rule d) = Some d.relation
owner (def.Fun d) = Some (fun_name d.name)
owner (def.Clause d) = Some (fun_name d.fun)

-- a name behind others, unless it is one of them
abbrev pub with_name : List Name → Option Name → List Name
with_name known None = known
with_name known (Some name) = if is_among name known then known else known ++ name ∷ []

-- the names that definitions declare, behind those known, without those that are there already
abbrev pub names_declared : List Name → List IlDef → List Name
names_declared known [] = known
names_declared known (d ∷ ds) = names_declared (with_name known (declared_by d)) ds

-- the names that are declared, each once, in the order of their declarations
abbrev pub declared : Il → List Name
declared il = names_declared [] il.defs

-- The first name cites the second: both are declared, and the second stands in what declares the
-- first, or in a rule or a clause of it.
pub record Cites (il : Il) (x y : Name) : Type 0 where
  pub from : Contains (declared il) x
  pub to : Contains (declared il) y
  pub where_cited : IlDef
  pub stands : Contains il.defs where_cited
  pub of_first : owner where_cited ≡ Some x
  pub has_second : Contains (names_in where_cited) y
