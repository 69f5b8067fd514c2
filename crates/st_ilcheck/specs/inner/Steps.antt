-- What contracts inside the crate say of paths, cases and lookups.
use Rattle.std.specs.Prelude.{◌≡◌, List, ◌++◌, Option, Some, None, find, bytes_eq}
use Rattle.st_il.specs.declared.definition.FunDef.{FunDef}
use Rattle.st_il.specs.declared.definition.IlDef.{IlDef}
use Rattle.st_il.specs.declared.definition.RelationDef.{RelationDef}
use Rattle.st_il.specs.declared.definition.SyntaxDef.{SyntaxDef}
use Rattle.st_il.specs.declared.expression.IlExp.TheOpen.{PathSeg-F}
use Rattle.st_il.specs.declared.expression.PathSeg.{PathSeg, out-PathSeg}
use Rattle.st_il.specs.declared.ty.Ty.{Ty}
use Rattle.st_il.specs.Names.{Name}
use Rattle.st_il.specs.Definitions.{relations_in, funs_in}
use Rattle.st_ilcheck.specs.FoundTypes.{IsFieldOf, IsElementOf}
use Rattle.st_ilcheck.specs.Rules.{LeadsTo}

-- a level of a step leads from values of the first type to values of the second
abbrev pub StepsAt : {E K L S : Type 0} → List SyntaxDef → PathSeg-F E K L S → Ty → Ty → Type 0
StepsAt defs (PathSeg-F.Field name) t u = IsFieldOf defs name t u
StepsAt defs (PathSeg-F.PathSeg::At e) t u = IsElementOf defs t u
StepsAt defs (PathSeg-F.PathSeg::Slice e g) t u = (x : Ty) × (IsElementOf defs t x × (t ≡ u))

-- a step of a path leads from values of the first type to values of the second
abbrev pub Steps : List SyntaxDef → PathSeg → Ty → Ty → Type 0
Steps defs s t u = StepsAt defs (out-PathSeg s) t u

-- the function of a name among definitions
abbrev pub function_in : Name → List IlDef → Option FunDef
function_in name defs = find (λ (f : FunDef). bytes_eq name f.name) (funs_in defs)

-- the relation of a name among definitions
abbrev pub relation_in : Name → List IlDef → Option RelationDef
relation_in name defs = find (λ (r : RelationDef). bytes_eq name r.name) (relations_in defs)

-- the path leads from a type to this place, and to no other one
pub record PlaceAt (defs : List SyntaxDef) (path : List PathSeg) (t w : Ty) : Type 0 where
  pub leads : LeadsTo defs path t w
  pub one : (v : Ty) → LeadsTo defs path t v → v ≡ w

-- these types before others, where all of those are there
abbrev pub behind_types : List Ty → Option (List Ty) → Option (List Ty)
behind_types ts None = None
behind_types ts (Some us) = Some (ts ++ us)
