-- One level of two types, as the code compares them.
use Rattle.std.specs.Prelude.{List}
use Rattle.st_il.specs.declared.ty.Ty.{Ty}
use Rattle.st_il.specs.declared.ty.Ty.TheOpen.{Ty-F}
use Rattle.st_il.specs.declared.ty.Ty.TheVariants as ty
use Rattle.st_il.specs.declared.definition.SyntaxDef.{SyntaxDef}
use Rattle.st_type_table.specs.Meaning.{Means}
use Rattle.st_type_table.specs.Sub.{Sub}
use Rattle.st_types.specs.declared.sub.Level.{Level}
use Rattle.st_types.specs.declared.sub.Level.TheVariants as level

-- The first type is below the second by numbers or by elements.
pub data IsUnder (defs : List SyntaxDef) : Ty → Ty → Type 0 where
  number : {a b : Ty} → Means defs a ty.Nat → Means defs b ty.Int → IsUnder defs a b
  list : {a b : Ty} (x y : Ty) → Means defs a (ty.List x) → Means defs b (ty.List y) → Sub defs x y
      → IsUnder defs a b
  option : {a b : Ty} (x y : Ty) → Means defs a (ty.Opt x) → Means defs b (ty.Opt y) → Sub defs x y
      → IsUnder defs a b

-- the first meaning is below the second by numbers or by elements
abbrev pub UnderAt : List SyntaxDef → Ty-F Ty → Ty-F Ty → Type 0
UnderAt defs Ty-F.Nat Ty-F.Int = Unit {0}
UnderAt defs (Ty-F.List x) (Ty-F.List y) = Sub defs x y
UnderAt defs (Ty-F.Opt x) (Ty-F.Opt y) = Sub defs x y
UnderAt defs _ _ = ⊥

-- What one level of two types says: the first is below, or apart, or as these elements are.
pub data Said : Type 0 where
  under : Said
  apart : Said
  elements : Ty → Ty → Said

-- what is told by a level
abbrev pub told : Level → Said
told level.Below = Said.under
told level.Apart = Said.apart
told (level.Elements one other) = Said.elements one.now other.now

-- what two meanings say
abbrev pub level_at : Ty-F Ty → Ty-F Ty → Said
level_at Ty-F.Nat Ty-F.Int = Said.under
level_at (Ty-F.List x) (Ty-F.List y) = Said.elements x y
level_at (Ty-F.Opt x) (Ty-F.Opt y) = Said.elements x y
level_at _ _ = Said.apart

-- what is said makes the first type a subtype
abbrev pub Holds : List SyntaxDef → Said → Type 0
Holds defs Said.under = Unit {0}
Holds defs Said.apart = ⊥
Holds defs (Said.elements x y) = Sub defs x y
