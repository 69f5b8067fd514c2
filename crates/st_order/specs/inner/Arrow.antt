-- How a tag is gone through, part by part, for an arrow outside of brackets and the holes before it.
use Rattle.std.specs.Prelude.{ℕ, ◌+◌, ◌-◌, Bool, true, false, nat_eq, List, [], ◌∷◌, ◌++◌, map, replicate, find, Option, Some, None, bytes_eq, codes, if◌then◌else◌, ◌==◌}
use Rattle.std.specs.List.{slice_split}
use Rattle.std.specs.Option.{option_map, option_and_then}
use Rattle.st_num.specs.Signs.{spelling}
use Rattle.st_num.specs.declared.mark.Mark.{Mark}
use Rattle.st_num.specs.declared.mark.Mark.TheVariants.{Turnstile, ReverseTurnstile, SquigglyArrow, SquigglyArrowStar, TickParen, TickBracket, TickBrace, CloseParen, CloseBracket, CloseBrace}
use Rattle.st_num.specs.declared.mark.TheConstants.Mark.{ALL}
use Rattle.st_order.specs.declared.arrow.Piece.{Piece}
use Rattle.st_order.specs.declared.arrow.Piece.TheVariants as piece
use Rattle.st_order.specs.declared.arrow.Scan.{Scan}
use Rattle.st_order.specs.declared.arrow.Sides.{Sides}

-- ---- the parts

-- the sign is written so
abbrev pub is_written : List ℕ → Mark → Bool
is_written text sign = bytes_eq (spelling sign) text

-- what a sign is to an arrow
abbrev pub piece_of_sign : Mark → Piece
piece_of_sign SquigglyArrow = piece.Arrow
piece_of_sign SquigglyArrowStar = piece.Arrow
piece_of_sign Turnstile = piece.Looser
piece_of_sign ReverseTurnstile = piece.Looser
piece_of_sign TickParen = piece.Opening
piece_of_sign TickBracket = piece.Opening
piece_of_sign TickBrace = piece.Opening
piece_of_sign CloseParen = piece.Closing
piece_of_sign CloseBracket = piece.Closing
piece_of_sign CloseBrace = piece.Closing
piece_of_sign _ = piece.Other

-- what a part is to an arrow, where it is this sign or none
abbrev pub piece_found : Option Mark → Piece
piece_found None = piece.Other
piece_found (Some sign) = piece_of_sign sign

-- what a part is to an arrow, by how it is written
abbrev pub piece_of : List ℕ → Piece
piece_of text =
    if bytes_eq text (codes "%") then piece.Hole else piece_found (find (is_written text) ALL)

-- the parts of a tag
abbrev pub pieces : List ℕ → List Piece
pieces tag = map piece_of (slice_split (λ byte. byte == 32) tag)

-- ---- the scan

-- nothing is read
abbrev pub started : Scan
started = record { depth = 0; holes = 0; before = None }

-- one more part is read, unless the arrow is not at the top
abbrev pub taken : Scan → Piece → Option Scan
taken scan piece.Hole = Some (record { depth = scan.depth; holes = scan.holes + 1; before = scan.before })
taken scan piece.Opening =
    Some (record { depth = scan.depth + 1; holes = scan.holes; before = scan.before })
taken scan piece.Closing =
    Some (record { depth = scan.depth - 1; holes = scan.holes; before = scan.before })
taken scan piece.Arrow =
    Some (if nat_eq scan.depth 0
    then record { depth = scan.depth; holes = scan.holes; before = Some scan.holes } else scan)
taken scan piece.Looser = if nat_eq scan.depth 0 then None else Some scan
taken scan piece.Other = Some scan

-- the holes on the sides of the arrow, where it was met
abbrev pub sides_at : Scan → Option Sides
sides_at scan = option_map (λ (n : ℕ). record { before = n; holes = scan.holes }) scan.before

-- what is found when these parts are read as well
abbrev pub leads : Scan → List Piece → Option Sides
leads scan [] = sides_at scan
leads scan (p ∷ ps) = option_and_then (λ (next : Scan). leads next ps) (taken scan p)

-- those before the arrow are inputs
abbrev pub told_by : Sides → List Bool
told_by sides = replicate sides.before true ++ replicate (sides.holes - sides.before) false
