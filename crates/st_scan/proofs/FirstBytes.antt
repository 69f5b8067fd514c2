-- What the first bytes of signs and reserved words tell.
use Rattle.std.proofs.Common.{◌≡◌, ◌≢◌, ℕ, ◌<◌, List, ◌++◌, length, get_or, refl, sym, ap, ◌∙◌, arith}
use Rattle.std.proofs.lemmas.List.{get_or-map, ext_get_or}
use Rattle.st_num.specs.Signs.{spelling}
use Rattle.st_num.specs.Words.{word_spelling}
use Rattle.st_num.specs.declared.mark.Mark.{Mark}
use Rattle.st_num.specs.declared.mark.Mark.TheVariants.{Turnstile}
use Rattle.st_num.specs.declared.mark.TheConstants.Mark.{ALL as SIGNS}
use Rattle.st_num.specs.declared.word.TheConstants.Word.{ALL as WORDS}
use Rattle.st_num.specs.declared.word.Word.TheVariants.{Syntax}
use Rattle.st_scan.specs.inner.FirstBytes.{first_byte, sign_bytes, word_bytes}

pub sign_byte : (i : ℕ) → i < 47 → get_or sign_bytes i 0 ≡ first_byte (spelling (get_or SIGNS i Turnstile))
unfolding sign_bytes
sign_byte i h = get_or-map (λ mark. first_byte (spelling mark)) SIGNS i Turnstile 0 h

pub word_byte : (i : ℕ) → i < 18 → get_or word_bytes i 0 ≡ first_byte (word_spelling (get_or WORDS i Syntax))
unfolding word_bytes
word_byte i h = get_or-map (λ word. first_byte (word_spelling word)) WORDS i Syntax 0 h

sign_count : length sign_bytes ≡ 47
unfolding sign_bytes
sign_count = refl

word_count : length word_bytes ≡ 18
unfolding word_bytes
word_count = refl

-- a list that has the first byte of each sign at its place
pub sign_bytes_are : (bytes : List ℕ) → length bytes ≡ 47 → ((k : ℕ) → k < 47 → get_or bytes k 0 ≡ first_byte (spelling (get_or SIGNS k Turnstile))) → bytes ≡ sign_bytes
sign_bytes_are bytes l all = ext_get_or 0 bytes sign_bytes (l ∙ sym sign_count) (λ i h. let below : i < 47 = omega (arith, h, l) in all i below ∙ sym (sign_byte i below))

-- a list that has the first byte of each word at its place
pub word_bytes_are : (bytes : List ℕ) → length bytes ≡ 18 → ((k : ℕ) → k < 18 → get_or bytes k 0 ≡ first_byte (word_spelling (get_or WORDS k Syntax))) → bytes ≡ word_bytes
word_bytes_are bytes l all = ext_get_or 0 bytes word_bytes (l ∙ sym word_count) (λ i h. let below : i < 18 = omega (arith, h, l) in all i below ∙ sym (word_byte i below))

-- a sign stands at the front by its first byte
sign_front : (m : Mark) (rest : List ℕ) → first_byte (spelling m ++ rest) ≡ first_byte (spelling m)
sign_front Turnstile rest = refl
sign_front _ rest = refl

-- a sign that begins with another byte does not stand at the front
pub sign_elsewhere : (bytes rest : List ℕ) (m : Mark) → first_byte (spelling m) ≢ first_byte bytes → bytes ≢ spelling m ++ rest
sign_elsewhere bytes rest m other e = other (sym (sign_front m rest) ∙ ap first_byte (sym e))

-- the sign at this place of the table begins with another byte
pub sign_other : (signs bytes : List ℕ) (i b : ℕ) → signs ≡ sign_bytes → i < 47 → get_or signs i 0 ≢ b → first_byte bytes ≡ b → (rest : List ℕ) → ¬ (bytes ≡ spelling (get_or SIGNS i Turnstile) ++ rest)
sign_other signs bytes i b are below differs is rest = sign_elsewhere bytes rest (get_or SIGNS i Turnstile) (λ e. differs (ap (λ u. get_or u i 0) are ∙ sign_byte i below ∙ e ∙ is))

-- the word at this place of the table begins with another byte
pub word_other : (words name : List ℕ) (i b : ℕ) → words ≡ word_bytes → i < 18 → get_or words i 0 ≢ b → first_byte name ≡ b → ¬ (name ≡ word_spelling (get_or WORDS i Syntax))
word_other words name i b are below differs is e = differs (ap (λ u. get_or u i 0) are ∙ word_byte i below ∙ sym (ap first_byte e) ∙ is)
