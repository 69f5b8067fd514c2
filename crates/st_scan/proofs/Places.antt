-- Lines and columns, one byte further.
use Rattle.std.proofs.Common.{◌≡◌, ◌≢◌, ℕ, ◌+◌, ◌-◌, ◌≤◌, List, [], ◌∷◌, ◌++◌, length, drop, Bool, true, false, sym, ap, ◌∙◌, cond, arith, not}
use Rattle.std.proofs.lemmas.Bool.{eq-eqb, ne_eqb}
use Rattle.std.proofs.lemmas.List.{reverse-append, drop_all, drop-append-le, length-append, length-drop}
use Rattle.std.proofs.lemmas.List.Sums.{sum_by_push, suffix_len-le-length, count_by-le-length}
use Rattle.std.specs.Prelude.{reverse}
use Rattle.std.specs.List.{after_last, suffix_len, prefix_len, count_by}
use Rattle.st_scan.specs.Bytes.{is_line_feed, begins_character}
use Rattle.st_scan.specs.Places.{line_behind, column_behind, IsBehind}
use Rattle.st_scan.specs.declared.line_column.LineColumn.{LineColumn}

suffix_push : (q : ℕ → Bool) (xs : List ℕ) (b : ℕ) → suffix_len q (xs ++ b ∷ []) ≡ prefix_len q (b ∷ reverse xs)
suffix_push q xs b = ap (prefix_len q) (reverse-append xs (b ∷ []))

length_push : (xs : List ℕ) (b : ℕ) → length (xs ++ b ∷ []) ≡ length xs + 1
length_push xs b = length-append xs (b ∷ [])

after_feed : (xs : List ℕ) (b : ℕ) → is_line_feed b ≡ true → after_last is_line_feed (xs ++ b ∷ []) ≡ []
after_feed xs b e =
    let none : suffix_len (λ x. not (is_line_feed x)) (xs ++ b ∷ []) ≡ 0 = suffix_push (λ x. not (is_line_feed x)) xs b ∙ ap (λ t. cond (not t) (1 + prefix_len (λ x. not (is_line_feed x)) (reverse xs)) 0) e in
    drop_all (length (xs ++ b ∷ []) - suffix_len (λ x. not (is_line_feed x)) (xs ++ b ∷ [])) (xs ++ b ∷ []) (omega (arith, none))

after_other : (xs : List ℕ) (b : ℕ) → is_line_feed b ≡ false → after_last is_line_feed (xs ++ b ∷ []) ≡ after_last is_line_feed xs ++ b ∷ []
after_other xs b e =
    let one : suffix_len (λ x. not (is_line_feed x)) (xs ++ b ∷ []) ≡ 1 + suffix_len (λ x. not (is_line_feed x)) xs = suffix_push (λ x. not (is_line_feed x)) xs b ∙ ap (λ t. cond (not t) (1 + prefix_len (λ x. not (is_line_feed x)) (reverse xs)) 0) e in
    let short : suffix_len (λ x. not (is_line_feed x)) xs ≤ length xs = suffix_len-le-length (λ x. not (is_line_feed x)) xs in
    let from : length (xs ++ b ∷ []) - suffix_len (λ x. not (is_line_feed x)) (xs ++ b ∷ []) ≡ length xs - suffix_len (λ x. not (is_line_feed x)) xs = omega (arith, one, short, length_push xs b) in
    ap (λ n. drop n (xs ++ b ∷ [])) from ∙ drop-append-le (length xs - suffix_len (λ x. not (is_line_feed x)) xs) xs (b ∷ []) (omega arith)

feeds_push : (xs : List ℕ) (b : ℕ) → count_by is_line_feed (xs ++ b ∷ []) ≡ count_by is_line_feed xs + cond (is_line_feed b) 1 0
feeds_push xs b = sum_by_push (λ x. cond (is_line_feed x) 1 0) xs b

characters_push : (xs : List ℕ) (b : ℕ) → count_by begins_character (xs ++ b ∷ []) ≡ count_by begins_character xs + cond (begins_character b) 1 0
characters_push xs b = sum_by_push (λ x. cond (begins_character x) 1 0) xs b

line_other : (before : List ℕ) (b : ℕ) → b ≢ 10 → line_behind (before ++ b ∷ []) ≡ line_behind before
line_other before b e =
    let none : ◌≡◌ {A = ℕ} (cond (is_line_feed b) 1 0) 0 = ap (λ t. cond t 1 0) (ne_eqb b 10 e) in
    omega (arith, feeds_push before b, none)

column_other : (before : List ℕ) (b : ℕ) → b ≢ 10 → column_behind (before ++ b ∷ []) ≡ column_behind before + cond (begins_character b) 1 0
column_other before b e =
    let pushed : count_by begins_character (after_last is_line_feed (before ++ b ∷ [])) ≡ count_by begins_character (after_last is_line_feed before) + cond (begins_character b) 1 0 = ap (count_by begins_character) (after_other before b (ne_eqb b 10 e)) ∙ characters_push (after_last is_line_feed before) b in
    omega (arith, pushed)

pub behind_feed : (before : List ℕ) (here there : LineColumn) (b : ℕ) → IsBehind before here → b ≡ 10 → there.line ≡ here.line + 1 → there.column ≡ 1 → IsBehind (before ++ b ∷ []) there
behind_feed before here there b h e l c =
    let feed : is_line_feed b ≡ true = eq-eqb b 10 e in
    let one : ◌≡◌ {A = ℕ} (cond (is_line_feed b) 1 0) 1 = ap (λ t. cond t 1 0) feed in
    let none : count_by begins_character (after_last is_line_feed (before ++ b ∷ [])) ≡ 0 = ap (count_by begins_character) (after_feed before b feed) in
    record { line = omega (arith, l, h.line, feeds_push before b, one); column = omega (arith, c, none) }

pub behind_first : (before : List ℕ) (here there : LineColumn) (b : ℕ) → IsBehind before here → b ≢ 10 → begins_character b ≡ true → there.line ≡ here.line → there.column ≡ here.column + 1 → IsBehind (before ++ b ∷ []) there
behind_first before here there b h e f l c =
    let one : ◌≡◌ {A = ℕ} (cond (begins_character b) 1 0) 1 = ap (λ t. cond t 1 0) f in
    record { line = l ∙ h.line ∙ sym (line_other before b e); column = omega (arith, c, h.column, column_other before b e, one) }

pub behind_other : (before : List ℕ) (here there : LineColumn) (b : ℕ) → IsBehind before here → b ≢ 10 → begins_character b ≡ false → there.line ≡ here.line → there.column ≡ here.column → IsBehind (before ++ b ∷ []) there
behind_other before here there b h e f l c =
    let none : ◌≡◌ {A = ℕ} (cond (begins_character b) 1 0) 0 = ap (λ t. cond t 1 0) f in
    record { line = l ∙ h.line ∙ sym (line_other before b e); column = omega (arith, c, h.column, column_other before b e, none) }

-- the counts are no more than the bytes and one
pub line_short : (before : List ℕ) → line_behind before ≤ length before + 1
line_short before = omega (arith, count_by-le-length is_line_feed before)

pub column_short : (before : List ℕ) → column_behind before ≤ length before + 1
column_short before = omega (arith, count_by-le-length begins_character (after_last is_line_feed before), length-drop {A = ℕ})
