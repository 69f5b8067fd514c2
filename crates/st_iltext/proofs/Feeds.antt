-- No text has a line feed.
use Rattle.std.proofs.Common.{◌≡◌, ◌≢◌, ℕ, zero, suc, ◌<◌, List, [], ◌∷◌, ◌++◌, length, flat_map, true, sym, subst, arith, inl, inr, get_or}
use Rattle.std.specs.List.{list_all}
use Rattle.st_text.specs.Text.{TextTree, word, quote, list, TextTrees, none, more, escape_letter, escaped, is_word_byte, text, row_text, behind, IsSpelled, AreSpelled, HasText}
use Rattle.st_text.proofs.Bytes.{and_true, escaped_forms}
use Rattle.st_iltext.proofs.Lines.{IsLine}

NoFeed : List ℕ → Type 0
NoFeed [] = Unit {0}
NoFeed (b ∷ bs) = (b ≢ 10) × NoFeed bs

NoFeed-append : (bs cs : List ℕ) → NoFeed bs → NoFeed cs → NoFeed (bs ++ cs)
unfolding NoFeed
NoFeed-append [] cs p q = q
NoFeed-append (b ∷ bs) cs p q = (p.0, NoFeed-append bs cs p.1 q)

NoFeed-at : (bs : List ℕ) (k : ℕ) → NoFeed bs → k < length bs → get_or bs k 10 ≡ 10 → ⊥
unfolding NoFeed
NoFeed-at [] k p h e = omega (arith, h)
NoFeed-at (b ∷ bs) zero p h e = p.0 e
NoFeed-at (b ∷ bs) (suc k) p h e = NoFeed-at bs k p.1 (omega (arith, h)) e

NoFeed-line : (bs : List ℕ) → NoFeed bs → IsLine bs
NoFeed-line bs p = λ there. NoFeed-at bs there.0 p there.1 there.2

NoFeed-word : (w : List ℕ) → list_all is_word_byte w ≡ true → NoFeed w
unfolding NoFeed
NoFeed-word [] e = tt
NoFeed-word (b ∷ w) e = let p = and_true (is_word_byte b) (list_all is_word_byte w) e in (no_feed b p.0, NoFeed-word w p.1)
  where
    no_feed : (c : ℕ) → is_word_byte c ≡ true → c ≢ 10
    no_feed c is e = grind arith

NoFeed-escaped : (b : ℕ) → NoFeed (escaped b)
unfolding NoFeed
NoFeed-escaped b = elim (escaped_forms b) [
  | inl p ↦ subst NoFeed (sym p.0) (λ e. omega (arith, e), (letter b p.1, tt))
  | inr p ↦ subst NoFeed (sym p.0) (plain b p.1, tt)
]
  where
    letter : (c : ℕ) → 0 < escape_letter c → escape_letter c ≢ 10
    letter c h e = grind arith

    plain : (c : ℕ) → escape_letter c ≡ 0 → c ≢ 10
    plain c h e = grind arith

NoFeed-content : (s : List ℕ) → NoFeed (flat_map escaped s)
unfolding NoFeed
NoFeed-content [] = tt
NoFeed-content (b ∷ s) = NoFeed-append (escaped b) (flat_map escaped s) (NoFeed-escaped b) (NoFeed-content s)

one : (b : ℕ) → b ≢ 10 → NoFeed (b ∷ [])
unfolding NoFeed
one b n = (n, tt)

more_feed : (b : ℕ) (bs : List ℕ) → b ≢ 10 → NoFeed bs → NoFeed (b ∷ bs)
unfolding NoFeed
more_feed b bs n p = (n, p)

empty : NoFeed []
unfolding NoFeed
empty = tt

mutual
  NoFeed-text : (t : TextTree) → IsSpelled t → NoFeed (text t)
  NoFeed-text (word w) h = NoFeed-word w h.1
  NoFeed-text (quote s) h = more_feed 34 _ (λ e. omega (arith, e)) (NoFeed-append (flat_map escaped s) (34 ∷ []) (NoFeed-content s) (one 34 (λ e. omega (arith, e))))
  NoFeed-text (list ts) h = more_feed 40 _ (λ e. omega (arith, e)) (NoFeed-append (row_text ts) (41 ∷ []) (NoFeed-row ts h) (one 41 (λ e. omega (arith, e))))

  NoFeed-row : (ts : TextTrees) → AreSpelled ts → NoFeed (row_text ts)
  NoFeed-row none h = empty
  NoFeed-row (more t ts) h = NoFeed-append (text t) (behind ts) (NoFeed-text t h.0) (NoFeed-behind ts h.1)

  NoFeed-behind : (ts : TextTrees) → AreSpelled ts → NoFeed (behind ts)
  NoFeed-behind none h = empty
  NoFeed-behind (more t ts) h = more_feed 32 _ (λ e. omega (arith, e)) (NoFeed-append (text t) (behind ts) (NoFeed-text t h.0) (NoFeed-behind ts h.1))

pub text-line : (t : TextTree) → HasText t → IsLine (text t)
text-line t h = NoFeed-line (text t) (NoFeed-text t h.spelled)
