-- What stands next in a text, behind its quote.
use Rattle.std.specs.Prelude.{◌≡◌, ◌≢◌, ℕ, ◌-◌, List, [], ◌∷◌, ◌++◌, length, IsTrue, if◌then◌else◌}
use Rattle.st_num.specs.declared.rule.RuleId.TheVariants.{L1, L2}
use Rattle.st_scan.specs.Bytes.{is_text_byte}
use Rattle.st_num.specs.Texts.{escaped}
use Rattle.st_scan.specs.Faults.{closes_text, is_wrong}
use Rattle.st_scan.specs.declared.read.Stop.{Stop}
use Rattle.st_scan.specs.declared.read.Stop.TheVariants.{Refused}
use Rattle.st_scan.specs.declared.text.Piece.{Piece}
use Rattle.st_scan.specs.declared.text.Piece.TheVariants.{Byte, Quote, Wrong}

-- a byte of the text, escaped or not; the quote that ends it; or the end or a wrong byte
abbrev pub IsPiece : List ℕ → Piece → Type 0
IsPiece bytes (Byte byte size) =
    (rest : List ℕ) × (bytes ≡ escaped byte ++ rest) × IsTrue (is_text_byte byte)
    × (size ≡ length (escaped byte))
IsPiece bytes Quote = (rest : List ℕ) × (bytes ≡ 34 ∷ rest)
IsPiece bytes Wrong = bytes ≢ [] → IsTrue (is_wrong bytes)

-- the letter behind a `\` stands for this byte
abbrev pub IsEscape : ℕ → ℕ → Type 0
IsEscape letter byte = (escaped byte ≡ 92 ∷ letter ∷ []) × IsTrue (is_text_byte byte)

-- the letter behind a `\` is that of no escape
abbrev pub NoEscape : ℕ → Type 0
NoEscape letter = (letter ≢ 34) × (letter ≢ 92) × (letter ≢ 110) × (letter ≢ 116)

-- a wrong byte at the rest of a text that is closed, or else the quote of a text that is not
abbrev pub text_stop : List ℕ → List ℕ → Stop
text_stop bytes rest =
    if closes_text rest then Refused (length bytes - length rest) L1 else Refused 0 L2
