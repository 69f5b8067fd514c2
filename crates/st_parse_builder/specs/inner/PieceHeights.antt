-- The heights of the pieces on a stack: that of the highest tree in each.
use Rattle.std.specs.Prelude.{ℕ, List, map, Option, Some, None}
use Rattle.st_el.specs.declared.expression.Exp.{Exp}
use Rattle.st_el.specs.declared.ty.Typ.{Typ}
use Rattle.st_el.specs.declared.notation.Notation.{Notation, out-Notation}
use Rattle.st_el.specs.declared.notation.NotNode.{NotNode, out-NotNode}
use Rattle.st_el.specs.declared.notation.NotNode.TheOpen.{NotNode-F}
use Rattle.st_parse_builder.specs.declared.piece.Piece.{Piece}
use Rattle.st_parse_builder.specs.declared.piece.Piece.TheVariants.{Done, Parts, Fields, Path, Label, Here}
use Rattle.st_parse_builder.specs.declared.notation_piece.NotationPiece.{NotationPiece}
use Rattle.st_parse_builder.specs.declared.notation_piece.NotationPiece.TheVariants.{Hole as a_type, Whole as whole, Types as types, Elements as elements, From as from_place}
use Rattle.st_parse_builder.specs.Heights.{highest, height, seg_height, typ_height, notation_height}

-- the height of the expression of a field
abbrev pub field_height : List ℕ × Exp → ℕ
field_height f = height f.1

-- the height of the highest expression in a piece, and 0 where it holds none
abbrev pub piece_height : Piece → ℕ
piece_height (Done e) = height e
piece_height (Parts at es) = highest (map height es)
piece_height (Fields at fs) = highest (map field_height fs)
piece_height (Path ps) = highest (map seg_height ps)
piece_height (Label name) = 0
piece_height (Here at) = 0

-- the height of the highest type or notation in a piece, and 0 where it holds none
abbrev pub notation_piece_height : NotationPiece → ℕ
notation_piece_height (a_type at t) = typ_height t
notation_piece_height (whole n) = notation_height n
notation_piece_height (types at ts) = highest (map typ_height ts)
notation_piece_height (elements at ns) = highest (map notation_height ns)
notation_piece_height (from_place at) = 0

-- ---- a type alone

-- the type that a notation is, where it is a type alone
abbrev pub typ_in : NotNode-F NotNode Notation → Option Typ
typ_in (NotNode-F.Hole t) = Some t
typ_in n = None

-- the same of a notation with its place
abbrev pub lone_typ : Notation → Option Typ
lone_typ n = typ_in (out-NotNode (out-Notation n).node)

-- the height of the type where there is one, and else this height
abbrev pub height_or : ℕ → Option Typ → ℕ
height_or tall None = tall
height_or tall (Some t) = typ_height t

-- A notation that is a type alone may be an alias, and is built as high as that type.
abbrev pub open_height : Notation → ℕ
open_height n = height_or (notation_height n) (lone_typ n)
