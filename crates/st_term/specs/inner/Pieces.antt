-- Pieces of notations as the code has them, and texts behind others.
use Rattle.std.specs.Prelude.{◌≡◌, ℕ, List, [], ◌∷◌, ◌++◌, drop, codes, Bool, true, false, Option, Some, None}
use Rattle.st_il.specs.declared.value.Value.{Value}
use Rattle.st_term.specs.declared.piece.Piece.{Piece as CodePiece}
use Rattle.st_term.specs.declared.piece.Piece.TheVariants as code
use Rattle.st_term.specs.declared.print.Progress.{Progress}
use Rattle.st_term.specs.TermText.{Piece, hole, atom, divider, opening, closing, first, list_text, pieces_texts, Shown, shown}

-- a piece of the code
abbrev pub piece_now : CodePiece → Piece
piece_now code.Hole = hole
piece_now (code.Atom name) = atom name.now
piece_now (code.Divider sign) = divider sign
piece_now (code.Opening sign) = opening sign
piece_now (code.Closing sign) = closing sign

-- the space before a text that stands behind another
abbrev pub gap : Bool → List ℕ
gap true = codes " "
gap false = []

-- texts with spaces between them, and one before the first where it stands behind another
abbrev pub continued : Bool → List (List ℕ) → List ℕ
continued behind [] = []
continued behind (text ∷ texts) = gap behind ++ (text ++ continued true texts)

-- whether a text stands before what follows these
abbrev pub is_behind : Bool → List (List ℕ) → Bool
is_behind behind [] = behind
is_behind behind (text ∷ texts) = true

-- behind a text that may stand there, these texts were written, and it is known whether one stands
-- before what follows
pub record FollowsOn (behind after : Bool) (old new : List ℕ) (texts : List (List ℕ)) : Type 0 where
  pub written : new ≡ old ++ continued behind texts
  pub then : after ≡ is_behind behind texts

-- a field of a record, its value shown
abbrev pub shown_field : List ℕ × Value → List ℕ × Shown
shown_field field = (field.0, shown field.1)

-- the text of what is left of the pieces, behind this one
abbrev pub rest_text : Option Piece → List Piece → List Shown → Progress → List ℕ
rest_text before ps vs progress =
    continued progress.behind (pieces_texts before ps (drop progress.used vs))

-- A piece was printed between these: what is left behind it completes the same text.
abbrev pub Goes : Option Piece → Piece → Option Piece → List Shown → Progress → Progress → List ℕ
    → List ℕ → Type 0
Goes before p behind vs now next old new =
    (ps : List Piece) → first ps ≡ behind
    → new ++ rest_text (Some p) ps vs next ≡ old ++ rest_text before (p ∷ ps) vs now

-- the text of these elements, where there are any to speak of
abbrev pub collected : Option (List (List ℕ)) → List ℕ
collected None = []
collected (Some texts) = list_text texts

-- the text of a list or an option without parentheses
abbrev pub collection_text : Value → List ℕ
collection_text v = collected (shown v).elements
