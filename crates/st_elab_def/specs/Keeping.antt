-- What the internal language of a source keeps of typing.
use Rattle.std.specs.Prelude.{◌≡◌, ℕ, take, Some, slice_get}
use Rattle.std.specs.List.{AllByRecursion}
use Rattle.st_il.specs.declared.definition.Il.{Il}
use Rattle.st_il.specs.declared.definition.IlDef.{IlDef}
use Rattle.st_ilcheck.specs.Declarations.{AreNamed}
use Rattle.st_ilcheck.specs.Typed.{KeepsVariables, KeepsIndices}
use Rattle.st_elab_typed.specs.RuleNames.{DefKeepsNames}

-- T2: in each definition the variables are listed
abbrev pub AllKeepVariables : Il → Type 0
AllKeepVariables il = AllByRecursion KeepsVariables il.defs

-- T14: in each definition the indices stay inside of their bodies
abbrev pub AllKeepIndices : Il → Type 0
AllKeepIndices il = AllByRecursion KeepsIndices il.defs

-- T14: in each definition the iterations name exactly what they go over
abbrev pub AllKeepNames : Il → Type 0
AllKeepNames il = AllByRecursion DefKeepsNames il.defs

-- T1: each definition declares what is new behind those before it, as the conditions on it ask,
-- and cites what is declared, once
abbrev pub AllAreNamed : Il → Type 0
AllAreNamed il =
    (at : ℕ) (d : IlDef) → slice_get il.defs at ≡ Some d → AreNamed il (take at il.defs) d
