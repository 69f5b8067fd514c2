-- Where a fault stands in the text.
use Rattle.std.specs.Prelude.{ℕ, ◌-◌, List, length, Option, Some, None, slice_get, nat_lt, if◌then◌else◌}
use Rattle.st_num.specs.declared.span.Span.{Span}
use Rattle.st_num.specs.declared.token.Token.{Token}

-- the place of a token; the start of the first file where there is none
abbrev pub place_of : Option Token → Span
place_of None = record { file = 0; line = 1; column = 1 }
place_of (Some token) = token.at

-- the place of token k, or of the last token where there are no more
abbrev pub place_at : List Token → ℕ → Span
place_at tokens k =
    if nat_lt k (length tokens) then place_of (slice_get tokens k)
    else place_of (slice_get tokens (length tokens - 1))
