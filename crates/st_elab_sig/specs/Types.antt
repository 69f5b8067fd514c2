-- Types: what a written type is in the internal language.
use Rattle.st_el.specs.declared.ty.Typ.{Typ, fold-Typ}
use Rattle.st_el.specs.declared.ty.TypNode.TheOpen.{TypNode-F}
use Rattle.st_il.specs.declared.ty.Ty.{Ty}
use Rattle.st_il.specs.declared.ty.Ty.TheVariants as ty

-- the type of a level whose parts are these types
abbrev pub ty_at : TypNode-F Ty Ty → Ty
ty_at TypNode-F.Bool = ty.Bool
ty_at TypNode-F.Nat = ty.Nat
ty_at TypNode-F.Int = ty.Int
ty_at TypNode-F.Text = ty.Text
ty_at (TypNode-F.Name name) = ty.Name name
ty_at (TypNode-F.Star element) = ty.List element
ty_at (TypNode-F.Quest element) = ty.Opt element
ty_at (TypNode-F.Tuple parts) = ty.Tuple parts

-- a type without its place, with `*` as a list and `?` as an option
abbrev pub ty_of : Typ → Ty
ty_of = fold-Typ Ty Ty ty_at (λ typ. typ.node)
