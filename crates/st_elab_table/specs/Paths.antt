-- The table: parts of lists and records, and changes at paths.
use Rattle.std.specs.Prelude.{ℕ, List, [], ◌∷◌, Option, Some, None}
use Rattle.std.specs.Map.{lookup}
use Rattle.st_num.specs.declared.span.Span.{Span}
use Rattle.st_num.specs.declared.rule.RuleId.TheVariants.{Y4, Y5}
use Rattle.st_num.specs.Names.{same_name}
use Rattle.st_el.specs.declared.expression.Exp.{Exp}
use Rattle.st_el.specs.declared.expression.Node.{Node}
use Rattle.st_el.specs.declared.expression.Count.{Count}
use Rattle.st_el.specs.declared.expression.Count.TheOpen.{Seg-F}
use Rattle.st_el.specs.declared.expression.Seg.{Seg, out-Seg}
use Rattle.st_il.specs.declared.ty.Ty.{Ty}
use Rattle.st_il.specs.declared.ty.Ty.TheVariants as ty
use Rattle.st_il.specs.declared.expression.IlExp.TheVariants as il
use Rattle.st_il.specs.declared.expression.PathSeg.{PathSeg}
use Rattle.st_il.specs.declared.expression.PathSeg.TheVariants as step
use Rattle.st_type_table.specs.Meaning.{fields_of}
use Rattle.st_elab_table.specs.declared.decls.Decls.{Decls}
use Rattle.st_dims.specs.declared.within.Within.{Within}
use Rattle.st_elab_table.specs.Forms.{place}
use Rattle.st_elab_table.specs.Questions.{Step, Asks, Opens}
use Rattle.st_elab_table.specs.Steps.{breach, give, asked, found, as_list}

-- ---- lists and paths

-- the length of a list whose type is inferred, a `nat`
abbrev pub length_row : Within → Exp → Step
length_row w e = Asks (found w e) (λ m. as_list (place e) m.ty (λ x. give (il.Len m.exp) ty.Nat))

-- the element of a list at a position, which is asked at `nat`
abbrev pub position_row : Within → Exp → Exp → Step
position_row w e i =
    Asks (found w e)
    (λ m. as_list (place e) m.ty (λ x. Asks (asked w i ty.Nat) (λ a. give (il.At m.exp a.exp) x)))

-- a slice of a list, which has the type of that list
abbrev pub slice_row : Within → Exp → Exp → Exp → Step
slice_row w e i n =
    Asks (found w e) (λ m. as_list (place e) m.ty (λ x.
    Asks (asked w i ty.Nat)
    (λ a. Asks (asked w n ty.Nat) (λ b. give (il.Slice m.exp a.exp b.exp) m.ty))))

-- what follows from the type of a field that was looked up; Y4 here where there is none
abbrev pub declared_field : Span → (Ty → Step) → Option Ty → Step
declared_field at next None = breach at Y4
declared_field at next (Some t) = next t

-- what follows from the type of a field among those of a type:
-- Y5 at the first place where it has no fields, Y4 at the other where it has none of this name
abbrev pub field_by : Span → Span → List ℕ → (Ty → Step) → Option (List (List ℕ × Ty)) → Step
field_by at whole name next None = breach at Y5
field_by at whole name next (Some fields) =
    declared_field whole next (lookup (same_name name) fields)

-- What follows from the type of a field of a record type:
-- Y5 at the first place where it is no record, Y4 at the other where it has no such field.
abbrev pub as_field : Decls → Span → Span → List ℕ → Ty → (Ty → Step) → Step
as_field D at whole name t next = Opens t (λ u. field_by at whole name next (fields_of D.types u))

-- a field of a record whose type is inferred
abbrev pub field_row : Decls → Within → Span → Exp → List ℕ → Step
field_row D w at e name =
    Asks (found w e) (λ m. as_field D (place e) at name m.ty (λ t. give (il.Dot m.exp name) t))

-- a step of a path from a part of the type t, and the type of the part to which it leads
abbrev pub step_row : Decls → Within → Span → Ty → (PathSeg → Ty → Step)
    → Seg-F Count Node Seg Exp → Step
step_row D w at t next (Seg-F.Field name) = as_field D at at name t (next (step.Field name))
step_row D w at t next (Seg-F.Seg::At i) =
    as_list at t (λ x. Asks (asked w i ty.Nat) (λ a. next (step.At a.exp) x))
step_row D w at t next (Seg-F.Seg::Slice i n) =
    as_list at t (λ x.
    Asks (asked w i ty.Nat)
    (λ a. Asks (asked w n ty.Nat) (λ b. next (step.Slice a.exp b.exp) t)))

-- a path from a part of the type t, and the type of the part to which it leads
abbrev pub along : Decls → Within → Span → List Seg → Ty → (List PathSeg → Ty → Step) → Step
along D w at [] t next = next [] t
along D w at (s ∷ ss) t next =
    step_row D w at t (λ p u. along D w at ss u (λ ps v. next (p ∷ ps) v)) (out-Seg s)

-- An update asks the new value at the type of the part at the path.
abbrev pub update_row : Decls → Within → Span → Exp → List Seg → Exp → Step
update_row D w at e path value =
    Asks (found w e) (λ m. along D w at path m.ty (λ ps t.
    Asks (asked w value t) (λ v. give (il.Set m.exp ps v.exp) m.ty)))

-- An extension asks the list that it adds at the type of the part at the path, a list type.
abbrev pub extension_row : Decls → Within → Span → Exp → List Seg → Exp → Step
extension_row D w at e path list =
    Asks (found w e) (λ m. along D w at path m.ty (λ ps t.
    as_list at t (λ x. Asks (asked w list t) (λ l. give (il.Extend m.exp ps l.exp) m.ty))))
