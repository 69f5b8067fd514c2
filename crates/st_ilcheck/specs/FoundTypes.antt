-- Which type an expression has, found from those of its parts without one being asked. Each has
-- one at most. What names its type has it, whether or not its own rule is kept.
use Rattle.std.specs.Prelude.{◌≡◌, List, [], ◌∷◌, Option, Some, None, option_map, MatchOption}
use Rattle.st_num.specs.declared.dim.Kind.{Kind}
use Rattle.st_il.specs.declared.definition.FunDef.{FunDef}
use Rattle.st_il.specs.declared.definition.Il.{Il}
use Rattle.st_il.specs.declared.definition.Listed.{Listed}
use Rattle.st_il.specs.declared.definition.SyntaxDef.{SyntaxDef}
use Rattle.st_il.specs.declared.expression.IlExp.TheOpen.{IlExp-F}
use Rattle.st_il.specs.declared.ty.Ty.{Ty}
use Rattle.st_il.specs.declared.ty.Ty.TheVariants as ty
use Rattle.st_type_table.specs.Cases.{HasFields}
use Rattle.st_type_table.specs.Meaning.{Means}
use Rattle.st_il.specs.Names.{Name}
use Rattle.st_semantics.specs.Environments.{wrapped, type_of, listed_as}
use Rattle.st_semantics.specs.Iterations.{kind_of}
use Rattle.st_semantics.specs.OperationTypes.{Level, number_type, field_type}
use Rattle.st_semantics.specs.Typing.{function_named}

-- where the type of an expression is found
pub data Origin : Type 0 where
  -- by itself, where it has one
  Named : (type : Option Ty) → Origin
  -- it is that of the first part
  OfFirst : Origin
  -- it is that of a field of the first part
  OfField : (name : Name) → Origin
  -- it is that of the elements of the first part
  OfElement : Origin
  -- it is the tuple of those of the parts
  OfParts : Origin
  -- it is the option of that of the first part
  OfOption : Origin
  -- it is the list or the option of that of the last part, which is the body of an iteration
  OfBody : (kind : Kind) → Origin

-- arithmetic, and what is read of numbers
abbrev pub number_origin : Level → Origin
number_origin (IlExp-F.Number n) = Named (Some ty.Nat)
number_origin (IlExp-F.Len e) = Named (Some ty.Nat)
number_origin (IlExp-F.Neg e) = Named (Some ty.Int)
number_origin (IlExp-F.Add type e g) = Named (Some (number_type type))
number_origin (IlExp-F.Sub type e g) = Named (Some (number_type type))
number_origin (IlExp-F.Mul type e g) = Named (Some (number_type type))
number_origin (IlExp-F.Div type e g) = Named (Some (number_type type))
number_origin (IlExp-F.Rem type e g) = Named (Some (number_type type))
number_origin (IlExp-F.Pow type e g) = Named (Some (number_type type))
-- every other one is a truth value
number_origin _ = Named (Some ty.Bool)

-- where the type of a level is found
abbrev pub origin : Il → List Listed → Level → Origin
origin il ls (IlExp-F.Var x) = Named (option_map type_of (listed_as x ls))
origin il ls (IlExp-F.Call fun es) =
    Named (option_map (λ (f : FunDef). f.result) (function_named il fun))
origin il ls (IlExp-F.Text text) = Named (Some ty.Text)
origin il ls (IlExp-F.Case type tag es) = Named (Some (ty.Name type))
origin il ls (IlExp-F.Fields type es) = Named (Some (ty.Name type))
origin il ls (IlExp-F.List t items) = Named (Some (ty.List t))
origin il ls (IlExp-F.Empty t) = Named (Some (ty.Opt t))
origin il ls (IlExp-F.Absent t) = Named (Some t)
origin il ls (IlExp-F.Up t e) = Named (Some t)
origin il ls (IlExp-F.Set e path g) = OfFirst
origin il ls (IlExp-F.Extend e path g) = OfFirst
origin il ls (IlExp-F.Cat e g) = OfFirst
origin il ls (IlExp-F.Join e g) = OfFirst
origin il ls (IlExp-F.IlExp::Slice e g h) = OfFirst
origin il ls (IlExp-F.Dot e name) = OfField name
origin il ls (IlExp-F.IlExp::At e g) = OfElement
origin il ls (IlExp-F.Tuple es) = OfParts
origin il ls (IlExp-F.Present e) = OfOption
origin il ls (IlExp-F.Iter how xs body) = OfBody (kind_of how)
origin il ls level = number_origin level

-- ---- from the types of the parts

-- the type of the first part
abbrev pub first_type : List (Option Ty) → Option Ty
first_type [] = None
first_type (o ∷ os) = o

-- the type of the last part
abbrev pub last_type : List (Option Ty) → Option Ty
last_type [] = None
last_type (o ∷ []) = o
last_type (o ∷ p ∷ os) = last_type (p ∷ os)

-- a type before others, where all are there
abbrev pub before_types : Option Ty → Option (List Ty) → Option (List Ty)
before_types None ts = None
before_types (Some t) None = None
before_types (Some t) (Some ts) = Some (t ∷ ts)

-- the types of all parts, where each has one
abbrev pub all_types : List (Option Ty) → Option (List Ty)
all_types [] = Some []
all_types (o ∷ os) = before_types o (all_types os)

-- the type is a record with a field of this name and that type
pub record IsFieldOf (defs : List SyntaxDef) (name : Name) (t u : Ty) : Type 0 where
  pub declared : List (Name × Ty)
  pub has : HasFields defs t declared
  pub found : field_type name declared ≡ Some u

-- the first type is a list of elements of the second
abbrev pub IsElementOf : List SyntaxDef → Ty → Ty → Type 0
IsElementOf defs t u = Means defs t (ty.List u)

-- one is chosen of which the fact holds, and none where there is none
abbrev pub Chosen : (Ty → Type 0) → Option Ty → Type 0
Chosen P o = MatchOption o ((t : Ty) → P t → ⊥) P

-- one is chosen that stands so to this type, where there is this type
abbrev pub ChosenFrom : (Ty → Ty → Type 0) → Option Ty → Option Ty → Type 0
ChosenFrom R None o = o ≡ None
ChosenFrom R (Some t) o = Chosen (R t) o

-- From the types of its parts an expression with this origin has that type, or none.
abbrev pub TypeFrom : List SyntaxDef → Origin → List (Option Ty) → Option Ty → Type 0
TypeFrom defs (Named t) os o = o ≡ t
TypeFrom defs OfFirst os o = o ≡ first_type os
TypeFrom defs (OfField name) os o = ChosenFrom (IsFieldOf defs name) (first_type os) o
TypeFrom defs OfElement os o = ChosenFrom (IsElementOf defs) (first_type os) o
TypeFrom defs OfParts os o = o ≡ option_map ty.Tuple (all_types os)
TypeFrom defs OfOption os o = o ≡ option_map ty.Opt (first_type os)
TypeFrom defs (OfBody kind) os o = o ≡ option_map (wrapped (kind ∷ [])) (last_type os)
