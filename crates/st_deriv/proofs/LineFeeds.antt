-- The texts of lines have no line feed.
use Rattle.std.proofs.Common.{◌≡◌, ◌≢◌, ℕ, zero, suc, ◌<◌, List, [], ◌∷◌, ◌++◌, flat_map, true, sym, ap, subst, arith, inl, inr}
use Rattle.std.specs.List.{All, list_all}
use Rattle.st_text.specs.Text.{TextTree, word, quote, list, TextTrees, none, more, escape_letter, escaped, is_word_byte, text, row_text, behind, IsSpelled, AreSpelled}
use Rattle.st_text.proofs.Bytes.{and_true, escaped_forms}
use Rattle.st_deriv.specs.LineText.{line_trees}
use Rattle.st_deriv.specs.Laws.{NoLineFeed}

-- none of the bytes is a line feed
abbrev HasNone : List ℕ → Type 0
HasNone [] = Unit {0}
HasNone (byte ∷ bytes) = (byte ≢ 10) × HasNone bytes

HasNone-append : (xs ys : List ℕ) → HasNone xs → HasNone ys → HasNone (xs ++ ys)
HasNone-append [] ys p q = q
HasNone-append (x ∷ xs) ys p q = (p.0, HasNone-append xs ys p.1 q)

HasNone-All : (xs : List ℕ) → HasNone xs → All (λ byte. byte ≢ 10) xs
HasNone-All [] p k d h = absurd (omega arith)
HasNone-All (x ∷ xs) p zero d h = p.0
HasNone-All (x ∷ xs) p (suc k) d h = HasNone-All xs p.1 k d (omega arith)

word_byte : (byte : ℕ) → is_word_byte byte ≡ true → byte ≢ 10
word_byte byte h e = let same : is_word_byte byte ≡ is_word_byte 10 = ap is_word_byte e in absurd (cc)

HasNone-word : (w : List ℕ) → list_all is_word_byte w ≡ true → HasNone w
HasNone-word [] h = tt
HasNone-word (byte ∷ w) h =
    let both = and_true (is_word_byte byte) (list_all is_word_byte w) h in
    (word_byte byte both.0, HasNone-word w both.1)

other : (byte : ℕ) → (10 < byte) → byte ≢ 10
other byte h e = omega arith

letter : (byte : ℕ) → escape_letter byte ≢ 10
letter byte e = grind arith

plain : (byte : ℕ) → escape_letter byte ≡ 0 → byte ≢ 10
plain byte h e = grind arith

HasNone-escaped : (byte : ℕ) → HasNone (escaped byte)
HasNone-escaped byte = elim (escaped_forms byte) [
  | inl p ↦ subst HasNone (sym p.0) (other 92 (omega arith), (letter byte, tt))
  | inr p ↦ subst HasNone (sym p.0) (plain byte p.1, tt)
]

HasNone-content : (s : List ℕ) → HasNone (flat_map escaped s)
HasNone-content [] = tt
HasNone-content (byte ∷ s) = HasNone-append (escaped byte) (flat_map escaped s) (HasNone-escaped byte) (HasNone-content s)

mutual
  HasNone-text : (t : TextTree) → IsSpelled t → HasNone (text t)
  HasNone-text (word w) h = HasNone-word w h.1
  HasNone-text (quote s) h = (other 34 (omega arith), HasNone-append (flat_map escaped s) (34 ∷ []) (HasNone-content s) (other 34 (omega arith), tt))
  HasNone-text (list ts) h = (other 40 (omega arith), HasNone-append (row_text ts) (41 ∷ []) (HasNone-row ts h) (other 41 (omega arith), tt))

  HasNone-row : (ts : TextTrees) → AreSpelled ts → HasNone (row_text ts)
  HasNone-row none h = tt
  HasNone-row (more t ts) h = HasNone-append (text t) (behind ts) (HasNone-text t h.0) (HasNone-behind ts h.1)

  HasNone-behind : (ts : TextTrees) → AreSpelled ts → HasNone (behind ts)
  HasNone-behind none h = tt
  HasNone-behind (more t ts) h = (other 32 (omega arith), HasNone-append (text t) (behind ts) (HasNone-text t h.0) (HasNone-behind ts h.1))

pub no_line_feed : NoLineFeed
no_line_feed line bytes t = subst (All (λ byte. byte ≢ 10)) (sym t.is) (HasNone-All (row_text (line_trees line)) (HasNone-row (line_trees line) t.has.spelled.spelled))
