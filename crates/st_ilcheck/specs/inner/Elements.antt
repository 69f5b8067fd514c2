-- Elements by the tops of types.
use Rattle.std.specs.Prelude.{Bool, true, false, Option, Some, None}
use Rattle.st_il.specs.declared.ty.Ty.{Ty}
use Rattle.st_il.specs.declared.ty.Ty.TheOpen.{Ty-F}

-- the type of the elements, by the top of a type
abbrev pub element_at : Ty-F Ty → Option Ty
element_at (Ty-F.List t) = Some t
element_at _ = None

-- whether it is a list or an option, by the top of a type
abbrev pub is_sequence : Ty-F Ty → Bool
is_sequence (Ty-F.List t) = true
is_sequence (Ty-F.Opt t) = true
is_sequence _ = false
