-- Kinds of bytes.
use Rattle.std.specs.Prelude.{ℕ, Bool, not, ◌&&◌, ◌||◌, ◌==◌, nat_le}

-- a space, a tab, a carriage return or a line feed
abbrev pub is_blank : ℕ → Bool
is_blank b = b == 32 || b == 9 || b == 13 || b == 10

-- the byte that ends a line
abbrev pub is_line_feed : ℕ → Bool
is_line_feed b = b == 10

-- a lower-case letter
abbrev pub is_lower : ℕ → Bool
is_lower b = nat_le 97 b && nat_le b 122

-- an upper-case letter
abbrev pub is_upper : ℕ → Bool
is_upper b = nat_le 65 b && nat_le b 90

-- a letter of either case
abbrev pub is_letter : ℕ → Bool
is_letter b = is_lower b || is_upper b

-- a decimal digit
abbrev pub is_digit : ℕ → Bool
is_digit b = nat_le 48 b && nat_le b 57

-- a letter, a digit, `_` or `'`
abbrev pub is_name_part : ℕ → Bool
is_name_part b = is_letter b || is_digit b || b == 95 || b == 39

-- may stand in a text: no control character but a line feed and a tab
abbrev pub is_text_byte : ℕ → Bool
is_text_byte b = nat_le 32 b || b == 10 || b == 9

-- a character of UTF-8 begins with it
abbrev pub begins_character : ℕ → Bool
begins_character b = not (nat_le 128 b && nat_le b 191)
