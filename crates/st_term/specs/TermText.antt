-- The text of values, as terms are written.
use Rattle.std.specs.Prelude.{ℕ, ℤ, pos, negsuc, List, [], ◌∷◌, ◌++◌, map, flat_map, codes, Bool, true, false, if◌then◌else◌, Option, Some, None}
use Rattle.std.specs.Fmt.{signed_decimal}
use Rattle.st_num.specs.declared.mark.Mark.{Mark}
use Rattle.st_num.specs.Signs.{spelling}
use Rattle.st_num.specs.Signs as signs
use Rattle.st_text.specs.Text.{quoted}
use Rattle.st_il.specs.declared.value.Value.{Value, fold-Value}
use Rattle.st_il.specs.declared.value.Value.TheOpen.{Value-F}
use Rattle.st_il.specs.declared.template.Template.{Template, out-Template, fold-Template}
use Rattle.st_il.specs.declared.template.Template.TheOpen.{Template-F}
use Rattle.st_il.specs.Tags.{template_of}
use Rattle.st_term.specs.declared.place.Place.{Place}
use Rattle.st_term.specs.declared.place.Place.TheVariants.{Alone, Side, Element}
use Rattle.st_term.specs.declared.piece.HolePlace.{HolePlace}
use Rattle.st_term.specs.declared.piece.HolePlace.TheVariants.{Whole, Last, Among}

-- texts with this text between them
abbrev pub separated : List ℕ → List (List ℕ) → List ℕ
separated between [] = []
separated between (text ∷ texts) = text ++ flat_map (λ next. between ++ next) texts

-- a text in parentheses, where it needs them
abbrev pub wrapped : Bool → List ℕ → List ℕ
wrapped needs text = if needs then codes "(" ++ text ++ codes ")" else text

-- ---- the pieces of a notation

-- a piece of a notation
pub data Piece : Type 0 where
  hole : Piece
  atom : (name : List ℕ) → Piece
  -- a sign between two sides
  divider : (sign : Mark) → Piece
  opening : (sign : Mark) → Piece
  closing : (sign : Mark) → Piece

-- the pieces of a level whose parts have these pieces
abbrev pub pieces_at : Template-F (List Piece) → List Piece
pieces_at (Template-F.Atom name) = atom name ∷ []
pieces_at Template-F.Hole = hole ∷ []
pieces_at (Template-F.Seq parts) = flat_map (λ part. part) parts
pieces_at (Template-F.Infix left sign right) = left ++ divider sign ∷ right
pieces_at (Template-F.Bracket sign inside) =
    opening sign ∷ inside ++ closing (signs.closing sign) ∷ []

-- the pieces of a notation, in order
abbrev pub pieces_of : Template → List Piece
pieces_of = fold-Template (List Piece) pieces_at

-- a side of a sign or the inside of a bracket begins behind this piece, or behind none
abbrev pub begins : Option Piece → Bool
begins None = true
begins (Some (divider sign)) = true
begins (Some (opening sign)) = true
begins (Some piece) = false

-- a side of a sign or the inside of a bracket ends before this piece, or before none
abbrev pub ends : Option Piece → Bool
ends None = true
ends (Some (divider sign)) = true
ends (Some (closing sign)) = true
ends (Some piece) = false

-- the piece is an atom
abbrev pub is_atom : Option Piece → Bool
is_atom (Some (atom name)) = true
is_atom piece = false

-- where a hole stands between these pieces
abbrev pub hole_place : Option Piece → Option Piece → HolePlace
hole_place before behind =
    if ends behind then (if begins before then Whole else Last)
    else if is_atom behind then Last else Among

-- how a piece is written that is no hole
abbrev pub piece_text : Piece → List ℕ
piece_text hole = []
piece_text (atom name) = name
piece_text (divider sign) = spelling sign
piece_text (opening sign) = spelling sign
piece_text (closing sign) = spelling sign

-- the first of some pieces
abbrev pub first : List Piece → Option Piece
first [] = None
first (piece ∷ pieces) = Some piece

-- ---- values

-- a value as it is shown: its text where it stands, and its elements where it is a list or an option
pub record Shown : Type 0 where
  pub at : Place → List ℕ
  pub elements : Option (List (List ℕ))

-- this text, wherever it stands
abbrev pub everywhere : List ℕ → Shown
everywhere text = record { at = λ place. text; elements = None }

-- the text of a value as an element
abbrev pub element_text : Shown → List ℕ
element_text v = v.at Element

-- the place is that of an element
abbrev pub is_element : Place → Bool
is_element Element = true
is_element place = false

-- elements with spaces between them, or `eps` where there are none
abbrev pub list_text : List (List ℕ) → List ℕ
list_text [] = codes "eps"
list_text (text ∷ texts) = separated (codes " ") (text ∷ texts)

-- a list or an option of these elements
abbrev pub collection : List (List ℕ) → Shown
collection texts =
    record { at = λ place. wrapped (is_element place) (list_text texts); elements = Some texts }

-- A case needs parentheses as a side where its notation has a top sign, and as an element unless its
-- notation is one atom or one bracket.
abbrev pub needs_parens : Template-F Template → Place → Bool
needs_parens y Alone = false
needs_parens (Template-F.Infix left sign right) Side = true
needs_parens y Side = false
needs_parens (Template-F.Atom name) Element = false
needs_parens (Template-F.Bracket sign inside) Element = false
needs_parens y Element = true

-- the elements that stand for a value at the end of a sequence: those of a list or an option
abbrev pub last_texts : Option (List (List ℕ)) → List ℕ → List (List ℕ)
last_texts (Some texts) text = texts
last_texts None text = text ∷ []

-- what stands in a hole
abbrev pub hole_texts : HolePlace → Shown → List (List ℕ)
hole_texts Whole v = v.at Side ∷ []
hole_texts Last v = last_texts v.elements (element_text v)
hole_texts Among v = element_text v ∷ []

-- the pieces with these operands in their holes
abbrev pub pieces_texts : Option Piece → List Piece → List Shown → List (List ℕ)
pieces_texts before [] vs = []
pieces_texts before (hole ∷ ps) [] = pieces_texts (Some hole) ps []
pieces_texts before (hole ∷ ps) (v ∷ vs) =
    hole_texts (hole_place before (first ps)) v ++ pieces_texts (Some hole) ps vs
pieces_texts before (p ∷ ps) vs = piece_text p ∷ pieces_texts (Some p) ps vs

-- a notation with these operands in its holes
abbrev pub case_text : Template → List Shown → List ℕ
case_text t vs = separated (codes " ") (pieces_texts None (pieces_of t) vs)

-- the text of a case of this notation where it stands; what is no notation has none
abbrev pub case_at : Option Template → List Shown → Place → List ℕ
case_at None vs place = []
case_at (Some t) vs place = wrapped (needs_parens (out-Template t) place) (case_text t vs)

-- a case with this tag
abbrev pub case_shown : List ℕ → List Shown → Shown
case_shown tag vs = record { at = case_at (template_of tag) vs; elements = None }

-- how a truth value is written
abbrev pub truth : Bool → List ℕ
truth true = codes "true"
truth false = codes "false"

-- how a number is written, as `3` or `$(-3)`
abbrev pub number_text : ℤ → List ℕ
number_text (pos n) = signed_decimal (pos n)
number_text (negsuc n) = codes "$(" ++ signed_decimal (negsuc n) ++ codes ")"

-- values by themselves with commas between them
abbrev pub listed : List Shown → List ℕ
listed vs = separated (codes ", ") (map (λ (v : Shown). v.at Alone) vs)

-- a field of a record: its name and its value
abbrev pub field_text : List ℕ × Shown → List ℕ
field_text field = field.0 ++ codes " " ++ field.1.at Alone

-- a level whose parts are shown so
abbrev pub shown_at : Value-F Shown → Shown
shown_at (Value-F.Bool b) = everywhere (truth b)
shown_at (Value-F.Num z) = everywhere (number_text z)
shown_at (Value-F.Text text) = everywhere (quoted text)
shown_at (Value-F.Case tag vs) = case_shown tag vs
shown_at (Value-F.Fields fields) =
    everywhere (codes "{" ++ separated (codes ", ") (map field_text fields) ++ codes "}")
shown_at (Value-F.Tuple vs) = everywhere (codes "(" ++ listed vs ++ codes ")")
shown_at (Value-F.List vs) = collection (map element_text vs)
shown_at (Value-F.Opt None) = collection []
shown_at (Value-F.Opt (Some v)) = collection (element_text v ∷ [])

-- how a value is shown
abbrev pub shown : Value → Shown
shown = fold-Value Shown shown_at

-- the text of a term: its values with commas between them
abbrev pub term_text : List Value → List ℕ
term_text values = listed (map shown values)
