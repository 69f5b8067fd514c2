-- A value of a type has each type above it.
use Rattle.std.specs.Prelude.{List}
use Rattle.st_il.specs.declared.ty.Ty.{Ty}
use Rattle.st_il.specs.declared.value.Value.{Value}
use Rattle.st_il.specs.declared.definition.SyntaxDef.{SyntaxDef}
use Rattle.st_type_table.specs.HasType.{HasType}

-- each value of the one type has the other
abbrev pub GoesUp : List SyntaxDef → Ty → Ty → Type 0
GoesUp defs a b = (v : Value) → HasType defs v a → HasType defs v b
