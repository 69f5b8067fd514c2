-- How a template is written as a notation: its holes filled by types.
use Rattle.std.specs.Prelude.{ℕ, List, [], ◌∷◌, map, Option, Some, None}
use Rattle.st_num.specs.declared.mark.Mark.{Mark}
use Rattle.st_el.specs.Plain.{nowhere}
use Rattle.st_el.specs.declared.ty.Typ.{Typ, roll-Typ}
use Rattle.st_el.specs.declared.ty.TypNode.{TypNode}
use Rattle.st_el.specs.declared.ty.TypNode.TheVariants as typ_node
use Rattle.st_el.specs.declared.notation.Notation.{Notation, roll-Notation}
use Rattle.st_el.specs.declared.notation.NotNode.{NotNode}
use Rattle.st_el.specs.declared.notation.NotNode.TheVariants as not_node
use Rattle.st_il.specs.declared.template.Template.{Template, fold-Template}
use Rattle.st_il.specs.declared.template.Template.TheOpen.{Template-F}
use Rattle.st_il.specs.declared.ty.Ty.{Ty, fold-Ty}
use Rattle.st_il.specs.declared.ty.Ty.TheOpen.{Ty-F}
use Rattle.st_il.specs.Tags.{template_of}

-- ---- types

-- a type that stands in no text
abbrev pub typ : TypNode → Typ
typ n = roll-Typ (record { at = nowhere; node = n })

-- a type as it is written, where its parts are already
abbrev pub ty_at : Ty-F Typ → Typ
ty_at Ty-F.Bool = typ typ_node.Bool
ty_at Ty-F.Nat = typ typ_node.Nat
ty_at Ty-F.Int = typ typ_node.Int
ty_at Ty-F.Text = typ typ_node.Text
ty_at (Ty-F.Name name) = typ (typ_node.Name name)
ty_at (Ty-F.List t) = typ (typ_node.Star t)
ty_at (Ty-F.Opt t) = typ (typ_node.Quest t)
ty_at (Ty-F.Tuple ts) = typ (typ_node.Tuple ts)

-- a type as it is written
abbrev pub erased_ty : Ty → Typ
erased_ty = fold-Ty Typ ty_at

-- ---- notations

-- a notation that stands in no text
abbrev pub notation : NotNode → Notation
notation n = roll-Notation (record { at = nowhere; node = n })

-- a notation, and the types for the holes behind it
pub record Noted (X : Type 0) : Type 0 where
  pub out : X
  pub rest : List Typ

-- how a template is written as a notation, by the types for its holes and those behind it
abbrev pub Note : Type 0
Note = List Typ → Noted Notation

-- a hole is filled by the next type
abbrev pub note_hole : Note
note_hole [] = record { out = notation (not_node.Seq []); rest = [] }
note_hole (t ∷ ts) = record { out = notation (not_node.Hole t); rest = ts }

-- a notation, and the others with the types that it left
abbrev pub behind_note : Noted Notation → (List Typ → Noted (List Notation)) → Noted (List Notation)
behind_note first others =
    record { out = first.out ∷ (others first.rest).out; rest = (others first.rest).rest }

-- how the parts of a sequence are written, from left to right
abbrev pub note_parts : List Note → List Typ → Noted (List Notation)
note_parts [] ts = record { out = []; rest = ts }
note_parts (part ∷ parts) ts = behind_note (part ts) (note_parts parts)

-- how two sides are written with a sign between them
abbrev pub note_infix : Noted Notation → Mark → Note → Noted Notation
note_infix left sign right =
    record {
      out = notation (not_node.Infix left.out sign (right left.rest).out);
      rest = (right left.rest).rest;
    }

-- how a template is written as a notation, by how its parts are
abbrev pub note_at : Template-F Note → Note
note_at (Template-F.Atom name) ts = record { out = notation (not_node.Atom name); rest = ts }
note_at Template-F.Hole ts = note_hole ts
note_at (Template-F.Seq parts) ts =
    record
    { out = notation (not_node.Seq (note_parts parts ts).out); rest = (note_parts parts ts).rest }
note_at (Template-F.Infix left sign right) ts = note_infix (left ts) sign right
note_at (Template-F.Bracket opening inside) ts =
    record { out = notation (not_node.Bracket opening (inside ts).out); rest = (inside ts).rest }

-- how a template is written as a notation
abbrev pub note_of : Template → Note
note_of = fold-Template Note note_at

-- the notation of a template with these types; it is empty where there is no template
abbrev pub note_by : Option Template → List Typ → Notation
note_by None ts = notation (not_node.Seq [])
note_by (Some t) ts = (note_of t ts).out

-- the notation of a tag, with these types in its holes
abbrev pub notation_of : List ℕ → List Ty → Notation
notation_of tag tys = note_by (template_of tag) (map erased_ty tys)
