-- What the name of a syntax stands for among definitions,
-- and what a type is without the aliases at its top.
use Rattle.std.specs.Prelude.{◌≡◌, ℕ, List, [], ◌∷◌, Option, Some, None, if◌then◌else◌, nat_eq}
use Rattle.std.specs.Cmp.Lexicographic.{pointwise}
use Rattle.st_il.specs.declared.ty.Ty.{Ty, out-Ty}
use Rattle.st_il.specs.declared.ty.Ty.TheOpen.{Ty-F}
use Rattle.st_il.specs.declared.definition.SyntaxDef.{SyntaxDef}
use Rattle.st_il.specs.declared.definition.SyntaxBody.{SyntaxBody}
use Rattle.st_il.specs.declared.definition.SyntaxBody.TheVariants as body
use Rattle.st_il.specs.declared.definition.Alternative.{Alternative}

-- the body of the first definition of this name
abbrev pub body_of : List SyntaxDef → List ℕ → Option SyntaxBody
body_of [] name = None
body_of (d ∷ ds) name = if pointwise nat_eq name d.name then Some d.body else body_of ds name

-- the body that a type names, by the top of the type
abbrev pub named_at : {X : Type 0} → List SyntaxDef → Ty-F X → Option SyntaxBody
named_at defs (Ty-F.Name name) = body_of defs name
named_at defs Ty-F.Bool = None
named_at defs Ty-F.Nat = None
named_at defs Ty-F.Int = None
named_at defs Ty-F.Text = None
named_at defs (Ty-F.List t) = None
named_at defs (Ty-F.Opt t) = None
named_at defs (Ty-F.Tuple ts) = None

-- the body that a type names
abbrev pub named : List SyntaxDef → Ty → Option SyntaxBody
named defs t = named_at defs (out-Ty t)

-- the type that a body is an alias of, where it is an alias
abbrev pub aliased : Option SyntaxBody → Option Ty
aliased (Some (body.Alias t)) = Some t
aliased (Some (body.Variant alternatives)) = None
aliased (Some (body.Fields fields)) = None
aliased None = None

-- the alternatives of a body, where it is a variant
abbrev pub listed : Option SyntaxBody → Option (List Alternative)
listed (Some (body.Alias t)) = None
listed (Some (body.Variant alternatives)) = Some alternatives
listed (Some (body.Fields fields)) = None
listed None = None

-- the fields of a body, where it is a record
abbrev pub recorded : Option SyntaxBody → Option (List (List ℕ × Ty))
recorded (Some (body.Alias t)) = None
recorded (Some (body.Variant alternatives)) = None
recorded (Some (body.Fields fields)) = Some fields
recorded None = None

-- what the type stands for, where it is the name of an alias
abbrev pub alias_of : List SyntaxDef → Ty → Option Ty
alias_of defs t = aliased (named defs t)

-- the alternatives of the type, where it is the name of a variant
abbrev pub alternatives_of : List SyntaxDef → Ty → Option (List Alternative)
alternatives_of defs t = listed (named defs t)

-- the fields of the type, where it is the name of a record
abbrev pub fields_of : List SyntaxDef → Ty → Option (List (List ℕ × Ty))
fields_of defs t = recorded (named defs t)

-- The first type, without the aliases at its top, is the second.
pub data Means (defs : List SyntaxDef) : Ty → Ty → Type 0 where
  itself : {t u : Ty} → alias_of defs t ≡ None → t ≡ u → Means defs t u
  alias : {t u : Ty} (written : Ty) → alias_of defs t ≡ Some written → Means defs written u
      → Means defs t u
