-- What an action takes off the pieces of types and notations on top.
use Rattle.std.proofs.Common.{◌≡◌, List, [], ◌∷◌, ◌++◌, Option, Some, None, option_and_then, refl}
use Rattle.st_num.specs.declared.span.Span.{Span}
use Rattle.st_el.specs.declared.ty.Typ.{Typ}
use Rattle.st_el.specs.declared.notation.Notation.{Notation}
use Rattle.st_parse_builder.specs.declared.notation_piece.NotationPiece.{NotationPiece}
use Rattle.st_parse_builder.specs.declared.notation_piece.NotationPiece.TheVariants.{Hole as a_type, Whole as whole, Types as types, Elements as elements, From as from_place}
use Rattle.st_parse_builder.specs.Notations.{hole}
use Rattle.st_parse_builder.specs.inner.NotationBuilding.{Stack, put, put_part, top_notation, top_type, top_whole, top_place}

-- the notation that a piece is
abbrev pub reads : NotationPiece → Option Notation
reads (a_type b t) = Some (hole b t)
reads (whole n) = Some n
reads p = None

pub on_notation : (s u : Stack) (g : Notation × Stack → Option Stack) {P : Type 0} → option_and_then g (top_notation s) ≡ Some u
    → ((p : NotationPiece) (n : Notation) (r : Stack) → s ≡ p ∷ r → reads p ≡ Some n → g (n, r) ≡ Some u → P) → P
on_notation (a_type b t ∷ s) u g h k = k (a_type b t) (hole b t) s refl refl h
on_notation (whole n ∷ s) u g h k = k (whole n) n s refl refl h
on_notation s u g h k = absurd (cc)

pub on_type : (s u : Stack) (g : Span × Typ × Stack → Option Stack) {P : Type 0} → option_and_then g (top_type s) ≡ Some u
    → ((b : Span) (t : Typ) (r : Stack) → s ≡ a_type b t ∷ r → g (b, t, r) ≡ Some u → P) → P
on_type (a_type b t ∷ s) u g h k = k b t s refl h
on_type s u g h k = absurd (cc)

pub on_whole : (s u : Stack) (g : Notation × Stack → Option Stack) {P : Type 0} → option_and_then g (top_whole s) ≡ Some u
    → ((n : Notation) (r : Stack) → s ≡ whole n ∷ r → g (n, r) ≡ Some u → P) → P
on_whole (whole n ∷ s) u g h k = k n s refl h
on_whole s u g h k = absurd (cc)

pub on_place : (s u : Stack) (g : Span × Stack → Option Stack) {P : Type 0} → option_and_then g (top_place s) ≡ Some u
    → ((b : Span) (r : Stack) → s ≡ from_place b ∷ r → g (b, r) ≡ Some u → P) → P
on_place (from_place b ∷ s) u g h k = k b s refl h
on_place s u g h k = absurd (cc)

-- a type behind types, or a part as a notation behind elements
pub on_part : (p : NotationPiece) (s u : Stack) {P : Type 0} → put_part p s ≡ Some u
    → ((b c : Span) (t : Typ) (ts : List Typ) (r : Stack) → p ≡ a_type b t → s ≡ types c ts ∷ r → put (types c (ts ++ t ∷ [])) r ≡ Some u → P)
    → ((c : Span) (n : Notation) (ns : List Notation) (r : Stack) → reads p ≡ Some n → s ≡ elements c ns ∷ r → put (elements c (ns ++ n ∷ [])) r ≡ Some u → P) → P
on_part (a_type b t) (types c ts ∷ s) u h k l = k b c t ts s refl refl h
on_part (a_type b t) (elements c ns ∷ s) u h k l = l c (hole b t) ns s refl refl h
on_part (whole n) (elements c ns ∷ s) u h k l = l c n ns s refl refl h
on_part p s u h k l = absurd (cc)
