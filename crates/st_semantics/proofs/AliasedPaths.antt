-- A path leads through an alias of a list type.
use Rattle.std.proofs.Common.{◌≡◌, refl, List, [], ◌∷◌, Some, None}
use Rattle.std.specs.Prelude.{codes}
use Rattle.st_il.specs.declared.definition.SyntaxDef.{SyntaxDef}
use Rattle.st_il.specs.declared.definition.SyntaxBody.TheVariants as body
use Rattle.st_il.specs.declared.expression.IlExp.{IlExp}
use Rattle.st_il.specs.declared.expression.IlExp.TheOpen.{IlExp-F}
use Rattle.st_il.specs.declared.expression.PathSeg.{PathSeg}
use Rattle.st_il.specs.declared.expression.PathSeg.TheVariants as step
use Rattle.st_il.specs.declared.ty.Ty.{Ty}
use Rattle.st_il.specs.declared.ty.Ty.TheVariants as ty
use Rattle.st_type_table.specs.Cases.{HasFields}
use Rattle.st_type_table.specs.Meaning.{Means, itself, alias, alias_of, fields_of}
use Rattle.st_il.specs.Names.{Name}
use Rattle.st_semantics.specs.OperationTypes as row
use Rattle.st_semantics.specs.OperationTypes.{PathType, OperationType}

-- ---- `syntax bytes = nat*`, `syntax mem = {DATA bytes}`: the types in `m[.DATA[i] = b]`

abbrev bytes : Ty
bytes = ty.Name (codes "bytes")

abbrev mem : Ty
mem = ty.Name (codes "mem")

abbrev declared : List (Name × Ty)
declared = (codes "DATA", bytes) ∷ []

abbrev defs : List SyntaxDef
defs =
    record { name = codes "bytes"; body = body.Alias (ty.List ty.Nat) }
    ∷ record { name = codes "mem"; body = body.Fields declared } ∷ []

bytes_is : alias_of defs bytes ≡ Some (ty.List ty.Nat)
bytes_is = simp (ty.outs-Name (codes "bytes")) refl

lists_no_alias : alias_of defs (ty.List ty.Nat) ≡ None
lists_no_alias = simp (ty.outs-List ty.Nat) refl

mem_no_alias : alias_of defs mem ≡ None
mem_no_alias = simp (ty.outs-Name (codes "mem")) refl

mem_fields : fields_of defs mem ≡ Some declared
mem_fields = simp (ty.outs-Name (codes "mem")) refl

bytes_mean : Means defs bytes (ty.List ty.Nat)
bytes_mean = alias (ty.List ty.Nat) bytes_is (itself lists_no_alias refl)

mem_has : HasFields defs mem declared
mem_has = record { structure = mem; means = itself mem_no_alias refl; declared = mem_fields }

abbrev path : IlExp → List PathSeg
path i = step.Field (codes "DATA") ∷ step.At i ∷ []

leads : (i : IlExp) → PathType defs (path i) mem (ty.Nat ∷ []) ty.Nat
leads i =
    row.field (codes "DATA") bytes declared (step.outs-Field (codes "DATA")) mem_has refl
    (row.element ty.Nat i (step.outs-At i) bytes_mean row.here)

pub is_typed : (m i b : IlExp) → OperationType defs (IlExp-F.Set m (path i) b) (mem ∷ ty.Nat ∷ ty.Nat ∷ []) mem
is_typed m i b = row.structure (row.set (ty.Nat ∷ []) ty.Nat (leads i))
