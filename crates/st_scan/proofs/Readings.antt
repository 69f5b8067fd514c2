-- What is read is the longest token at its place.
use Rattle.std.proofs.Common.{◌≡◌, ◌≢◌, ℕ, suc, ◌+◌, ◌-◌, ◌≤◌, List, [], ◌∷◌, ◌++◌, length, take, drop, Bool, true, false, refl, sym, ap, ◌∙◌, subst, if◌then◌else◌, cond, arith, ◌&&◌, ◌||◌, ◌==◌}
use Rattle.std.proofs.lemmas.Bool.{eqb-true, ne_eqb, and_parts, and_from, false≢true}
use Rattle.std.proofs.lemmas.List.{take-append-drop, take_rest}
use Rattle.std.proofs.lemmas.List.Sums.{take_while-cons}
use Rattle.std.proofs.lemmas.List.Folds.{length-prefix_len}
use Rattle.std.specs.List.{prefix_len, take_while, list_all}
use Rattle.st_num.specs.Signs.{spelling}
use Rattle.st_num.specs.declared.mark.Mark.{Mark}
use Rattle.st_num.specs.declared.token.TokenKind.{TokenKind}
use Rattle.st_num.specs.declared.token.TokenKind.TheVariants.{Low, Number, Dot, Fun, Sign}
use Rattle.st_scan.specs.Bytes.{is_letter, is_upper, is_digit, is_name_part}
use Rattle.st_scan.specs.Gaps.{opens_comment}
use Rattle.st_scan.specs.Spelling.{Spells, is_name, begins_lower}
use Rattle.st_scan.specs.Tokens.{IsInRange}
use Rattle.st_scan.specs.Signs.{NoSign, LongestSign}
use Rattle.st_scan.specs.Faults.{NoToken, IsQuote}
use Rattle.st_scan.specs.inner.Readings.{begins_letter, begins_quote, begins_dot, begins_fun, BeginsSign, IsReading}
use Rattle.st_scan.proofs.Texts.{tail_of}
use Rattle.st_scan.proofs.Spelled.{group, group_at, letter_group, spelled_group, as_word, as_dot, as_fun, as_sign}

-- ---- the longest front that passes a test

-- a front that passes is no longer than the longest one
pub passing_short : (p : ℕ → Bool) (other more : List ℕ) → list_all p other ≡ true → length other ≤ prefix_len p (other ++ more)
passing_short p [] more e = omega arith
passing_short p (b ∷ bs) more e =
    let both = and_parts (p b) (list_all p bs) e in
    let rest : length bs ≤ prefix_len p (bs ++ more) = passing_short p bs more both.1 in
    let here : prefix_len p (b ∷ bs ++ more) ≡ 1 + prefix_len p (bs ++ more) = ap (λ t. cond t (1 + prefix_len p (bs ++ more)) 0) both.0 in
    omega (arith, rest, here)

pub front_passes : (p : ℕ → Bool) (bytes : List ℕ) → list_all p (take_while p bytes) ≡ true
front_passes p [] = refl
front_passes p (b ∷ bs) = ap (list_all p) (take_while-cons p b bs) ∙ go (p b) refl (front_passes p bs)
  where
    go : (t : Bool) → p b ≡ t → list_all p (take_while p bs) ≡ true → list_all p (cond t (b ∷ take_while p bs) []) ≡ true
    go true e more = and_from (p b) (list_all p (take_while p bs)) e more
    go false e more = refl

-- what stands behind the longest front
abbrev pub behind_front : (ℕ → Bool) → List ℕ → List ℕ
behind_front p bytes = drop (prefix_len p bytes) bytes

pub front_split : (p : ℕ → Bool) (bytes : List ℕ) → bytes ≡ take_while p bytes ++ behind_front p bytes
front_split p bytes = sym (take-append-drop (prefix_len p bytes) bytes)

pub front_short : (p : ℕ → Bool) (bytes other more : List ℕ) → bytes ≡ other ++ more → list_all p other ≡ true → length other ≤ length (take_while p bytes)
front_short p bytes other more e passes =
    let short : length other ≤ prefix_len p bytes = subst (λ u. length other ≤ prefix_len p u) (sym e) (passing_short p other more passes) in
    omega (arith, short, length-prefix_len p bytes)

-- ---- names

letter_part : (b : ℕ) → is_letter b ≡ true → is_name_part b ≡ true
letter_part b e = ap (λ t. t || is_digit b || b == 95 || b == 39) e

pub front_name : (bytes : List ℕ) → begins_letter bytes ≡ true → is_name (take_while is_name_part bytes) ≡ true
front_name [] e = absurd (false≢true e)
front_name (b ∷ bs) e =
    ap is_name (take_while-cons is_name_part b bs ∙ ap (λ t. cond t (b ∷ take_while is_name_part bs) []) (letter_part b e))
    ∙ and_from (is_letter b) (list_all is_name_part (take_while is_name_part bs)) e (front_passes is_name_part bs)

pub opens_first : (b : ℕ) (bs : List ℕ) → b ≢ 40 → opens_comment (b ∷ bs) ≡ false
opens_first b [] n = refl
opens_first b (c ∷ bs) n = ap (λ t. t && c == 59) (ne_eqb b 40 n)

letter_opens : (bytes : List ℕ) → begins_letter bytes ≡ true → opens_comment bytes ≡ false
letter_opens [] e = refl
letter_opens (b ∷ bs) e = opens_first b bs (λ is. false≢true (ap is_letter (sym is) ∙ e))

letter_starts : (bytes : List ℕ) → begins_letter bytes ≡ true → group_at bytes ≡ 0
letter_starts [] e = absurd (false≢true e)
letter_starts (b ∷ bs) e = letter_group b bs e

-- a kind that is no number has no range
pub unranged : (kind : TokenKind) → group kind ≢ 1 → IsInRange kind
unranged (Number n) e = absurd (e refl)
unranged (Low name) e = tt
unranged _ e = tt

pub name_reading : (bytes : List ℕ) (kind : TokenKind) → begins_letter bytes ≡ true → Spells (take_while is_name_part bytes) kind → IsReading bytes (record { kind = kind; length = length (take_while is_name_part bytes) })
name_reading bytes kind e spelled = record {
  text = take_while is_name_part bytes;
  rest = behind_front is_name_part bytes;
  longest = record {
    split = front_split is_name_part bytes;
    spelled = spelled;
    longest = λ other more another parted also.
        let first : 0 ≡ group another = sym (letter_starts bytes e) ∙ ap group_at parted ∙ spelled_group other more another also in
        front_short is_name_part bytes other more parted (as_word other another (sym first) also);
    no_comment = letter_opens bytes e;
  };
  in_range =
      let first : 0 ≡ group kind = sym (letter_starts bytes e) ∙ ap group_at (front_split is_name_part bytes) ∙ spelled_group (take_while is_name_part bytes) (behind_front is_name_part bytes) kind spelled in
      unranged kind (λ one. absurd (omega (arith, first, one)));
  taken = refl;
}

-- ---- names behind a sign

-- a name behind a sign of one byte, where each token that begins so is a name behind that sign
sign_and_name : (sign : ℕ) (behind : List ℕ) (kind : TokenKind) → sign ≢ 40 → Spells (sign ∷ take_while is_name_part behind) kind → IsInRange kind
    → ((other : List ℕ) (another : TokenKind) → group another ≡ group kind → Spells other another → (name : List ℕ) × (other ≡ sign ∷ name) × (list_all is_name_part name ≡ true))
    → IsReading (sign ∷ behind) (record { kind = kind; length = length (take_while is_name_part behind) + 1 })
sign_and_name sign behind kind apart spelled ranged alike = record {
  text = sign ∷ take_while is_name_part behind;
  rest = behind_front is_name_part behind;
  longest = record {
    split = ap (λ u. sign ∷ u) (front_split is_name_part behind);
    spelled = spelled;
    longest = λ other more another parted also.
        let same : group another ≡ group kind =
        sym (spelled_group other more another also) ∙ ap group_at (sym parted ∙ ap (λ u. sign ∷ u) (front_split is_name_part behind))
        ∙ spelled_group (sign ∷ take_while is_name_part behind) (behind_front is_name_part behind) kind spelled in
        let found = alike other another same also in
        let short : length found.0 ≤ length (take_while is_name_part behind) = front_short is_name_part behind found.0 more (ap tail_of (parted ∙ ap (λ u. u ++ more) found.1)) found.2 in
        let long : length other ≡ suc (length found.0) = ap length found.1 in
        omega (arith, short, long);
    no_comment = opens_first sign behind apart;
  };
  in_range = ranged;
  taken = omega arith;
}

pub dot_reading : (bytes : List ℕ) → begins_dot bytes ≡ true → IsReading bytes (record { kind = Dot (take_while is_name_part (drop 1 bytes)); length = length (take_while is_name_part (drop 1 bytes)) + 1 })
dot_reading [] e = absurd (false≢true e)
dot_reading (b ∷ bs) e =
    let both = and_parts (b == 46) (begins_letter bs) e in
    subst (λ s. IsReading (s ∷ bs) (record { kind = Dot (take_while is_name_part bs); length = length (take_while is_name_part bs) + 1 })) (sym (eqb-true b 46 both.0))
    (sign_and_name 46 bs (Dot (take_while is_name_part bs)) (λ h. absurd (omega (arith, h))) (refl, front_name bs both.1) tt
    (λ other another same also. let found = as_dot other another same also in (found.0, found.2, found.3)))

pub fun_reading : (bytes : List ℕ) → begins_fun bytes ≡ true → IsReading bytes (record { kind = Fun (take_while is_name_part (drop 1 bytes)); length = length (take_while is_name_part (drop 1 bytes)) + 1 })
fun_reading [] e = absurd (false≢true e)
fun_reading (b ∷ bs) e =
    let both = and_parts (b == 36) (begins_lower bs) e in
    subst (λ s. IsReading (s ∷ bs) (record { kind = Fun (take_while is_name_part bs); length = length (take_while is_name_part bs) + 1 })) (sym (eqb-true b 36 both.0))
    (sign_and_name 36 bs (Fun (take_while is_name_part bs)) (λ h. absurd (omega (arith, h))) (refl, front_name bs (lower_letter bs both.1), front_lower bs both.1) tt
    (λ other another same also. let found = as_fun other another same also in (found.0, found.2, found.3)))
  where
    lower_letter : (u : List ℕ) → begins_lower u ≡ true → begins_letter u ≡ true
    lower_letter [] h = absurd (false≢true h)
    lower_letter (c ∷ cs) h = ap (λ t. t || is_upper c) h

    front_lower : (u : List ℕ) → begins_lower u ≡ true → begins_lower (take_while is_name_part u) ≡ true
    front_lower [] h = absurd (false≢true h)
    front_lower (c ∷ cs) h =
        ap begins_lower (take_while-cons is_name_part c cs ∙ ap (λ t. cond t (c ∷ take_while is_name_part cs) []) (letter_part c (ap (λ t. t || is_upper c) h))) ∙ h

-- ---- signs

pub sign_starts : (b : ℕ) (bs : List ℕ) → is_letter b ≡ false → is_digit b ≡ false → (b == 34) ≡ false → begins_dot (b ∷ bs) ≡ false → begins_fun (b ∷ bs) ≡ false → group_at (b ∷ bs) ≡ 5
sign_starts b bs letter digit quote dot fun =
    ap (λ t. if t then 0 else if is_digit b then 1 else if b == 34 then 2 else if begins_dot (b ∷ bs) then 3 else if begins_fun (b ∷ bs) then 4 else 5) letter
    ∙ ap (λ t. if t then 1 else if b == 34 then 2 else if begins_dot (b ∷ bs) then 3 else if begins_fun (b ∷ bs) then 4 else 5) digit
    ∙ ap (λ t. if t then 2 else if begins_dot (b ∷ bs) then 3 else if begins_fun (b ∷ bs) then 4 else 5) quote
    ∙ ap (λ t. if t then 3 else if begins_fun (b ∷ bs) then 4 else 5) dot
    ∙ ap (λ t. if t then 4 else 5) fun

pub sign_reading : (bytes : List ℕ) (m : Mark) → group_at bytes ≡ 5 → opens_comment bytes ≡ false → LongestSign bytes m → IsReading bytes (record { kind = Sign m; length = length (spelling m) })
sign_reading bytes m starts closed sign = record {
  text = spelling m;
  rest = sign.rest;
  longest = record {
    split = sign.split;
    spelled = refl;
    longest = λ other more another parted also.
        let same : group another ≡ 5 = sym (spelled_group other more another also) ∙ ap group_at (sym parted) ∙ starts in
        let found = as_sign other another same also in
        let short : length (spelling found.0) ≤ length (spelling m) = sign.longest found.0 more (parted ∙ ap (λ u. u ++ more) found.2) in
        let long : length other ≡ length (spelling found.0) = ap length found.2 in
        omega (arith, short, long);
    no_comment = closed;
  };
  in_range = tt;
  taken = refl;
}

pub begins_sign : (bytes : List ℕ) → BeginsSign bytes → group_at bytes ≡ 5
begins_sign [] h = absurd (h.some refl)
begins_sign (b ∷ bs) h = sign_starts b bs h.no_letter h.no_digit h.no_quote h.no_dot h.no_fun

pub unquoted : (bytes : List ℕ) → begins_quote bytes ≡ false → (behind : List ℕ) → ¬ (IsQuote bytes behind)
unquoted bytes e behind q = false≢true (sym e ∙ ap begins_quote q)

pub unsigned_token : (bytes : List ℕ) → group_at bytes ≡ 5 → NoSign bytes → NoToken bytes
unsigned_token bytes starts none text rest kind parted spelled =
    let same : group kind ≡ 5 = sym (spelled_group text rest kind spelled) ∙ ap group_at (sym parted) ∙ starts in
    let found = as_sign text kind same spelled in
    none.never found.0 rest (parted ∙ ap (λ u. u ++ rest) found.2)

-- ---- the same, of what the calls give

pub name_read : (bytes name : List ℕ) (kind : TokenKind) → name ≡ take_while is_name_part bytes → begins_letter bytes ≡ true → Spells name kind → IsReading bytes (record { kind = kind; length = length name })
name_read bytes name kind is e spelled =
    subst (λ u. IsReading bytes (record { kind = kind; length = length u })) (sym is) (name_reading bytes kind e (subst (λ u. Spells u kind) is spelled))

pub dot_read : (bytes name content : List ℕ) → name ≡ take_while is_name_part (take (length bytes - 1) (drop 1 bytes)) → content ≡ name → begins_dot bytes ≡ true → IsReading bytes (record { kind = Dot content; length = length name + 1 })
dot_read bytes name content is copied e =
    let same : name ≡ take_while is_name_part (drop 1 bytes) = is ∙ ap (take_while is_name_part) (take_rest bytes 1) in
    subst (λ u. IsReading bytes (record { kind = Dot u; length = length name + 1 })) (sym copied)
    (subst (λ u. IsReading bytes (record { kind = Dot u; length = length u + 1 })) (sym same) (dot_reading bytes e))

pub fun_read : (bytes name content : List ℕ) → name ≡ take_while is_name_part (take (length bytes - 1) (drop 1 bytes)) → content ≡ name → begins_fun bytes ≡ true → IsReading bytes (record { kind = Fun content; length = length name + 1 })
fun_read bytes name content is copied e =
    let same : name ≡ take_while is_name_part (drop 1 bytes) = is ∙ ap (take_while is_name_part) (take_rest bytes 1) in
    subst (λ u. IsReading bytes (record { kind = Fun u; length = length name + 1 })) (sym copied)
    (subst (λ u. IsReading bytes (record { kind = Fun u; length = length u + 1 })) (sym same) (fun_reading bytes e))
