-- Which types are subtypes.
use Rattle.std.specs.Prelude.{◌≡◌, List, [], ◌∷◌, Some}
use Rattle.st_il.specs.declared.ty.Ty.{Ty}
use Rattle.st_il.specs.declared.ty.Ty.TheVariants as ty
use Rattle.st_il.specs.declared.definition.SyntaxDef.{SyntaxDef}
use Rattle.st_type_table.specs.declared.entry.CaseDef.{CaseDef}
use Rattle.st_type_table.specs.Meaning.{Means}
use Rattle.st_type_table.specs.Cases.{HasCases, operands_of}
use Rattle.st_type_table.specs.Same.{Same, SameAll}

-- the case stands among these, with the same tag and equal operand types
pub record StandsIn (defs : List SyntaxDef) (c : CaseDef) (cases : List CaseDef) : Type 0 where
  pub operands : List Ty
  pub found : operands_of cases c.tag ≡ Some operands
  pub equal : SameAll defs c.operands operands

-- each of these cases stands among the others, with the same tag and equal operand types
abbrev pub AllStandIn : List SyntaxDef → List CaseDef → List CaseDef → Type 0
AllStandIn defs [] others = Unit {0}
AllStandIn defs (c ∷ cs) others = StandsIn defs c others × AllStandIn defs cs others

-- both are variants, and each case of the first stands in the second
pub record IsContained (defs : List SyntaxDef) (a b : Ty) : Type 0 where
  pub lower : List CaseDef
  pub upper : List CaseDef
  pub lower_cases : HasCases defs a lower
  pub upper_cases : HasCases defs b upper
  pub stand : AllStandIn defs lower upper

-- The first type is a subtype of the second:
-- they are equal, or `nat` under `int`, or variants of which the second has each case of the first,
-- or lists or options of such types.
pub data Sub (defs : List SyntaxDef) : Ty → Ty → Type 0 where
  same : {a b : Ty} → Same defs a b → Sub defs a b
  number : {a b : Ty} → Means defs a ty.Nat → Means defs b ty.Int → Sub defs a b
  variant : {a b : Ty} → IsContained defs a b → Sub defs a b
  list : {a b : Ty} (x y : Ty) → Means defs a (ty.List x) → Means defs b (ty.List y) → Sub defs x y
      → Sub defs a b
  option : {a b : Ty} (x y : Ty) → Means defs a (ty.Opt x) → Means defs b (ty.Opt y) → Sub defs x y
      → Sub defs a b
