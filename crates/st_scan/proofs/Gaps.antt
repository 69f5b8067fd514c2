-- One step through blanks and comments, as the loops take it.
use Rattle.std.proofs.Common.{◌≡◌, ℕ, zero, suc, ◌+◌, ◌-◌, ◌<◌, List, [], ◌∷◌, ◌++◌, length, Bool, true, false, refl, sym, ap, ◌∙◌, if◌then◌else◌, arith, append_assoc}
use Rattle.st_scan.specs.Bytes.{is_blank, is_line_feed}
use Rattle.st_scan.specs.Gaps.{opens, closes, starts_line, Within, between, line, comment, gap}

-- two bytes at the front
front_two : (b c : ℕ) (xs others behind : List ℕ) → xs ≡ b ∷ others → others ≡ c ∷ behind → xs ≡ b ∷ c ∷ behind
front_two b c xs others behind e f = e ∙ ap (λ u. b ∷ u) f

pub comment_ends : (start : List ℕ) (b c : ℕ) (xs others behind : List ℕ) → xs ≡ b ∷ others → others ≡ c ∷ behind → closes b c ≡ true → gap (comment start 0) xs ≡ gap between behind
unfolding gap
comment_ends start b c xs others behind e f h = ap (gap (comment start 0)) (front_two b c xs others behind e f) ∙ ap (λ t. if t then gap between behind else if opens b c then gap (comment start 1) behind else gap (comment start 0) (c ∷ behind)) h

pub comment_closes : (start : List ℕ) (n b c : ℕ) (xs others behind : List ℕ) → xs ≡ b ∷ others → others ≡ c ∷ behind → closes b c ≡ true → 0 < n → gap (comment start n) xs ≡ gap (comment start (n - 1)) behind
unfolding gap
comment_closes start zero b c xs others behind e f h p = absurd (omega arith)
comment_closes start (suc n) b c xs others behind e f h p =
    let back : n ≡ suc n - 1 = omega arith in
    ap (gap (comment start (suc n))) (front_two b c xs others behind e f) ∙ ap (λ t. if t then gap (comment start n) behind else if opens b c then gap (comment start (suc (suc n))) behind else gap (comment start (suc n)) (c ∷ behind)) h ∙ ap (λ m. gap (comment start m) behind) back

opens_front : (start : List ℕ) (n b c : ℕ) (bs : List ℕ) → closes b c ≡ false → opens b c ≡ true → gap (comment start n) (b ∷ c ∷ bs) ≡ gap (comment start (n + 1)) bs
unfolding gap
opens_front start zero b c bs g h =
    ap (λ t. if t then gap between bs else if opens b c then gap (comment start 1) bs else gap (comment start 0) (c ∷ bs)) g
    ∙ ap (λ t. if t then gap (comment start 1) bs else gap (comment start 0) (c ∷ bs)) h
opens_front start (suc n) b c bs g h =
    let up : suc (suc n) ≡ suc n + 1 = omega arith in
    ap (λ t. if t then gap (comment start n) bs else if opens b c then gap (comment start (suc (suc n))) bs else gap (comment start (suc n)) (c ∷ bs)) g
    ∙ ap (λ t. if t then gap (comment start (suc (suc n))) bs else gap (comment start (suc n)) (c ∷ bs)) h ∙ ap (λ m. gap (comment start m) bs) up

goes_front : (start : List ℕ) (n b c : ℕ) (bs : List ℕ) → closes b c ≡ false → opens b c ≡ false → gap (comment start n) (b ∷ c ∷ bs) ≡ gap (comment start n) (c ∷ bs)
unfolding gap
goes_front start zero b c bs g h =
    ap (λ t. if t then gap between bs else if opens b c then gap (comment start 1) bs else gap (comment start 0) (c ∷ bs)) g
    ∙ ap (λ t. if t then gap (comment start 1) bs else gap (comment start 0) (c ∷ bs)) h
goes_front start (suc n) b c bs g h =
    ap (λ t. if t then gap (comment start n) bs else if opens b c then gap (comment start (suc (suc n))) bs else gap (comment start (suc n)) (c ∷ bs)) g
    ∙ ap (λ t. if t then gap (comment start (suc (suc n))) bs else gap (comment start (suc n)) (c ∷ bs)) h

pub comment_opens : (start : List ℕ) (n b c : ℕ) (xs others behind : List ℕ) → xs ≡ b ∷ others → others ≡ c ∷ behind → closes b c ≡ false → opens b c ≡ true → gap (comment start n) xs ≡ gap (comment start (n + 1)) behind
comment_opens start n b c xs others behind e f g h = ap (gap (comment start n)) (front_two b c xs others behind e f) ∙ opens_front start n b c behind g h

pub comment_goes : (start : List ℕ) (n b c : ℕ) (xs others behind : List ℕ) → xs ≡ b ∷ others → others ≡ c ∷ behind → closes b c ≡ false → opens b c ≡ false → gap (comment start n) xs ≡ gap (comment start n) others
comment_goes start n b c xs others behind e f g h = ap (gap (comment start n)) (front_two b c xs others behind e f) ∙ goes_front start n b c behind g h ∙ ap (gap (comment start n)) (sym f)

pub comment_empty : (start : List ℕ) (n : ℕ) (xs : List ℕ) → length xs ≡ 0 → gap (comment start n) xs ≡ start
unfolding gap
comment_empty start n (b ∷ xs) e = absurd (omega arith)
comment_empty start zero [] e = refl
comment_empty start (suc n) [] e = refl

comment_one : (start : List ℕ) (n b : ℕ) → gap (comment start n) (b ∷ []) ≡ start
unfolding gap
comment_one start zero b = refl
comment_one start (suc n) b = refl

pub comment_last : (start : List ℕ) (n b : ℕ) (xs others : List ℕ) → xs ≡ b ∷ others → length others ≡ 0 → gap (comment start n) xs ≡ start
comment_last start n b xs (c ∷ others) e f = absurd (omega arith)
comment_last start n b xs [] e f = ap (gap (comment start n)) e ∙ comment_one start n b

pub gap_empty : (xs : List ℕ) → length xs ≡ 0 → xs ≡ gap between xs
unfolding gap
gap_empty (b ∷ xs) e = absurd (omega arith)
gap_empty [] e = refl

blank_front : (b : ℕ) (others : List ℕ) → is_blank b ≡ true → gap between (b ∷ others) ≡ gap between others
unfolding gap
blank_front b [] h = ap (λ t. if t then [] else b ∷ []) h
blank_front b (c ∷ bs) h = ap (λ t. if t then gap between (c ∷ bs) else if starts_line b c then gap line bs else if opens b c then gap (comment (b ∷ c ∷ bs) 0) bs else b ∷ c ∷ bs) h

pub gap_blank : (b : ℕ) (xs others : List ℕ) → xs ≡ b ∷ others → is_blank b ≡ true → gap between xs ≡ gap between others
gap_blank b xs others e h = ap (gap between) e ∙ blank_front b others h

two_front : (b c : ℕ) (bs : List ℕ) → is_blank b ≡ false → gap between (b ∷ c ∷ bs) ≡ (if starts_line b c then gap line bs else if opens b c then gap (comment (b ∷ c ∷ bs) 0) bs else b ∷ c ∷ bs)
unfolding gap
two_front b c bs h = ap (λ t. if t then gap between (c ∷ bs) else if starts_line b c then gap line bs else if opens b c then gap (comment (b ∷ c ∷ bs) 0) bs else b ∷ c ∷ bs) h

pub gap_line : (b c : ℕ) (xs others behind : List ℕ) → xs ≡ b ∷ others → others ≡ c ∷ behind → is_blank b ≡ false → starts_line b c ≡ true → gap between xs ≡ gap line behind
gap_line b c xs others behind e f h k = ap (gap between) (front_two b c xs others behind e f) ∙ two_front b c behind h ∙ ap (λ t. if t then gap line behind else if opens b c then gap (comment (b ∷ c ∷ behind) 0) behind else b ∷ c ∷ behind) k

pub gap_comment : (b c : ℕ) (xs others behind : List ℕ) → xs ≡ b ∷ others → others ≡ c ∷ behind → is_blank b ≡ false → starts_line b c ≡ false → opens b c ≡ true → gap between xs ≡ gap (comment xs 0) behind
gap_comment b c xs others behind e f h k l =
    ap (gap between) (front_two b c xs others behind e f) ∙ two_front b c behind h
    ∙ ap (λ t. if t then gap line behind else if opens b c then gap (comment (b ∷ c ∷ behind) 0) behind else b ∷ c ∷ behind) k
    ∙ ap (λ t. if t then gap (comment (b ∷ c ∷ behind) 0) behind else b ∷ c ∷ behind) l
    ∙ ap (λ u. gap (comment u 0) behind) (sym (front_two b c xs others behind e f))

pub gap_ends : (b c : ℕ) (xs others behind : List ℕ) → xs ≡ b ∷ others → others ≡ c ∷ behind → is_blank b ≡ false → starts_line b c ≡ false → opens b c ≡ false → xs ≡ gap between xs
gap_ends b c xs others behind e f h k l =
    front_two b c xs others behind e f
    ∙ sym (ap (gap between) (front_two b c xs others behind e f) ∙ two_front b c behind h ∙ ap (λ t. if t then gap line behind else if opens b c then gap (comment (b ∷ c ∷ behind) 0) behind else b ∷ c ∷ behind) k ∙ ap (λ t. if t then gap (comment (b ∷ c ∷ behind) 0) behind else b ∷ c ∷ behind) l)

last_front : (b : ℕ) → is_blank b ≡ false → gap between (b ∷ []) ≡ b ∷ []
unfolding gap
last_front b h = ap (λ t. if t then [] else b ∷ []) h

pub gap_last : (b : ℕ) (xs others : List ℕ) → xs ≡ b ∷ others → length others ≡ 0 → is_blank b ≡ false → xs ≡ gap between xs
gap_last b xs (c ∷ others) e f h = absurd (omega arith)
gap_last b xs [] e f h = e ∙ sym (ap (gap between) e ∙ last_front b h)

-- ---- the gap is at the front

-- the second list is the end of the first
pub record IsEnd (bytes rest : List ℕ) : Type 0 where
  pub front : List ℕ
  pub joined : bytes ≡ front ++ rest

end_tail : (whole : List ℕ) (b : ℕ) (bs : List ℕ) → IsEnd whole (b ∷ bs) → IsEnd whole bs
end_tail whole b bs h = record { front = h.front ++ b ∷ []; joined = h.joined ∙ sym (append_assoc h.front (b ∷ []) bs) }

-- where a comment that is open began
abbrev Began : Within → List ℕ → Type 0
Began between whole = Unit {0}
Began line whole = Unit {0}
Began (comment start n) whole = IsEnd whole start

either : (whole : List ℕ) (t : Bool) (x y : List ℕ) → IsEnd whole x → IsEnd whole y → IsEnd whole (if t then x else y)
either whole true x y p q = p
either whole false x y p q = q

gap_end : (w : Within) (bs whole : List ℕ) → IsEnd whole bs → Began w whole → IsEnd whole (gap w bs)
unfolding gap
gap_end between [] whole h s = h
gap_end between (b ∷ []) whole h s = either whole (is_blank b) [] (b ∷ []) (end_tail whole b [] h) h
gap_end between (b ∷ c ∷ bs) whole h s =
    let tail = end_tail whole b (c ∷ bs) h in
    let behind = end_tail whole c bs tail in
    either whole (is_blank b) (gap between (c ∷ bs)) (if starts_line b c then gap line bs else if opens b c then gap (comment (b ∷ c ∷ bs) 0) bs else b ∷ c ∷ bs) (gap_end between (c ∷ bs) whole tail tt)
    (either whole (starts_line b c) (gap line bs) (if opens b c then gap (comment (b ∷ c ∷ bs) 0) bs else b ∷ c ∷ bs) (gap_end line bs whole behind tt)
    (either whole (opens b c) (gap (comment (b ∷ c ∷ bs) 0) bs) (b ∷ c ∷ bs) (gap_end (comment (b ∷ c ∷ bs) 0) bs whole behind h) h))
gap_end line [] whole h s = h
gap_end line (b ∷ bs) whole h s =
    let tail = end_tail whole b bs h in
    either whole (is_line_feed b) (gap between bs) (gap line bs) (gap_end between bs whole tail tt) (gap_end line bs whole tail tt)
gap_end (comment start zero) [] whole h s = s
gap_end (comment start (suc n)) [] whole h s = s
gap_end (comment start zero) (b ∷ []) whole h s = s
gap_end (comment start (suc n)) (b ∷ []) whole h s = s
gap_end (comment start zero) (b ∷ c ∷ bs) whole h s =
    let tail = end_tail whole b (c ∷ bs) h in
    let behind = end_tail whole c bs tail in
    either whole (closes b c) (gap between bs) (if opens b c then gap (comment start 1) bs else gap (comment start zero) (c ∷ bs)) (gap_end between bs whole behind tt)
    (either whole (opens b c) (gap (comment start 1) bs) (gap (comment start zero) (c ∷ bs)) (gap_end (comment start 1) bs whole behind s) (gap_end (comment start zero) (c ∷ bs) whole tail s))
gap_end (comment start (suc n)) (b ∷ c ∷ bs) whole h s =
    let tail = end_tail whole b (c ∷ bs) h in
    let behind = end_tail whole c bs tail in
    either whole (closes b c) (gap (comment start n) bs) (if opens b c then gap (comment start (suc (suc n))) bs else gap (comment start (suc n)) (c ∷ bs)) (gap_end (comment start n) bs whole behind s)
    (either whole (opens b c) (gap (comment start (suc (suc n))) bs) (gap (comment start (suc n)) (c ∷ bs)) (gap_end (comment start (suc (suc n))) bs whole behind s) (gap_end (comment start (suc n)) (c ∷ bs) whole tail s))

-- what stands behind the gap ends the bytes
pub gap_is_end : (bytes : List ℕ) → IsEnd bytes (gap between bytes)
gap_is_end bytes = gap_end between bytes bytes (record { front = []; joined = refl }) tt
