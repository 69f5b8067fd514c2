-- The first bytes of signs and reserved words, by which they are looked up.
use Rattle.std.specs.Prelude.{ℕ, List, map, get_or}
use Rattle.st_num.specs.Signs.{spelling}
use Rattle.st_num.specs.Words.{word_spelling}
use Rattle.st_num.specs.declared.mark.TheConstants.Mark.{ALL as SIGNS}
use Rattle.st_num.specs.declared.word.TheConstants.Word.{ALL as WORDS}

-- the byte with which these begin, and 0 where there is none
abbrev pub first_byte : List ℕ → ℕ
first_byte bytes = get_or bytes 0 0

-- the first byte of each sign, in the order of their table
unfoldable pub sign_bytes : List ℕ
sign_bytes = map (λ mark. first_byte (spelling mark)) SIGNS

-- the first byte of each reserved word, in the order of their table
unfoldable pub word_bytes : List ℕ
word_bytes = map (λ word. first_byte (word_spelling word)) WORDS
