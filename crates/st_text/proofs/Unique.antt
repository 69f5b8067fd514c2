-- A text has one tree, and bytes are the texts of one row.
use Rattle.std.proofs.Common.{subst, ◌≡◌, ℕ, List, [], ◌∷◌, ◌++◌, flat_map, true, refl, sym, ap, ap₂, ◌∙◌, append_assoc, append-nil, arith, inl}
use Rattle.st_text.specs.Laws.{OneText, OneTree, OneRow, OneFront, NoFrontOfAnother}
use Rattle.st_text.specs.Text.{TextTree, word, quote, list, TextTrees, none, more, escaped, is_word_byte, text, row_text, behind, IsSpelled, AreSpelled, Ends}
use Rattle.st_text.specs.inner.Fronts.{Closes}
use Rattle.st_text.proofs.Bytes.{heads, tails, and_true, Ends-no_word, Stops-from_Ends, Ends-from_Closes, Closes-no_space, words_unique, content_unique}

-- the first byte of a text tells its kind
abbrev pub First : TextTree → List ℕ → Type 0
First (word w) bs = (b : ℕ) × (u : List ℕ) × (bs ≡ b ∷ u) × (is_word_byte b ≡ true)
First (quote s) bs = (u : List ℕ) × (bs ≡ 34 ∷ u)
First (list ts) bs = (u : List ℕ) × (bs ≡ 40 ∷ u)

pub first : (t : TextTree) (w : List ℕ) → IsSpelled t → First t (text t ++ w)
first (word []) w h = absurd (omega (arith, h.0))
first (word (b ∷ u)) w h = (b, u ++ w, refl, (and_true _ _ h.1).0)
first (quote s) w h = (flat_map escaped s ++ (34 ∷ []) ++ w, refl)
first (list ts) w h = (row_text ts ++ (41 ∷ []) ++ w, refl)

-- a text begins with no byte that ends one
pub text-no_end : (t : TextTree) (w x : List ℕ) (b : ℕ) → IsSpelled t → text t ++ w ≡ b ∷ x → Ends (b ∷ x) → ⊥
text-no_end (word a) w x b h e k = let f = first (word a) w h in Ends-no_word b x (subst (λ c. is_word_byte c ≡ true) (heads (sym f.2 ∙ e)) f.3) k
text-no_end (quote s) w x b h e k = let same : 34 ≡ b = heads e in grind arith
text-no_end (list ts) w x b h e k = let same : 40 ≡ b = heads e in grind arith

pub word-first : (a w x : List ℕ) (b : ℕ) → IsSpelled (word a) → a ++ w ≡ b ∷ x → is_word_byte b ≡ true
word-first a w x b h e = let f = first (word a) w h in subst (λ c. is_word_byte c ≡ true) (heads (sym f.2 ∙ e)) f.3

-- no text stands where a row is closed
pub Closes-no_text : (w : List ℕ) (t : TextTree) (x : List ℕ) → IsSpelled t → Closes w → w ≡ text t ++ x → ⊥
Closes-no_text (b ∷ w) t x h k e = text-no_end t x w b h (sym e) (Ends-from_Closes (b ∷ w) k)
Closes-no_text [] (word []) x h k e = omega (arith, h.0)
Closes-no_text [] (word (b ∷ a)) x h k e = cc e
Closes-no_text [] (quote s) x h k e = cc e
Closes-no_text [] (list ts) x h k e = cc e

pub behind_ends : (ts : TextTrees) (w : List ℕ) → Closes w → Ends (behind ts ++ w)
behind_ends none w k = Ends-from_Closes w k
behind_ends (more t ts) w k = inl refl

-- the text of a list up to its closing parenthesis
pub list_tail : (ts : TextTrees) (w : List ℕ) → (row_text ts ++ 41 ∷ []) ++ w ≡ row_text ts ++ 41 ∷ w
list_tail ts w = append_assoc (row_text ts) (41 ∷ []) w

pub quote_tail : (s w : List ℕ) → (flat_map escaped s ++ 34 ∷ []) ++ w ≡ flat_map escaped s ++ 34 ∷ w
quote_tail s w = append_assoc (flat_map escaped s) (34 ∷ []) w

mutual
  pub unique : (t u : TextTree) (w x : List ℕ) → IsSpelled t → IsSpelled u → text t ++ w ≡ text u ++ x → Ends w → Ends x → (t ≡ u) × (w ≡ x)
  unique (word a) (word b) w x p q e f g = let r = words_unique a b w x p.1 q.1 e (Stops-from_Ends w f) (Stops-from_Ends x g) in (ap word r.0, r.1)
  unique (quote s) (quote r) w x p q e f g =
      let k = content_unique s r w x (sym (quote_tail s w) ∙ tails e ∙ quote_tail r x) in
      (ap quote k.0, k.1)
  unique (list ts) (list us) w x p q e f g =
      let k = unique_row ts us (41 ∷ w) (41 ∷ x) p q (sym (list_tail ts w) ∙ tails e ∙ list_tail us x) (inl refl) (inl refl) in
      (ap list k.0, tails k.1)
  unique (word a) (quote r) w x p q e f g = absurd (cc (word-first a w _ 34 p e))
  unique (word a) (list us) w x p q e f g = absurd (cc (word-first a w _ 40 p e))
  unique (quote s) (word b) w x p q e f g = absurd (cc (word-first b x _ 34 q (sym e)))
  unique (quote s) (list us) w x p q e f g = absurd (omega (arith, heads e))
  unique (list ts) (word b) w x p q e f g = absurd (cc (word-first b x _ 40 q (sym e)))
  unique (list ts) (quote r) w x p q e f g = absurd (omega (arith, heads e))

  pub unique_row : (ts us : TextTrees) (w x : List ℕ) → AreSpelled ts → AreSpelled us → row_text ts ++ w ≡ row_text us ++ x → Closes w → Closes x → (ts ≡ us) × (w ≡ x)
  unique_row none none w x p q e f g = (refl, e)
  unique_row none (more u us) w x p q e f g = absurd (Closes-no_text w u (behind us ++ x) q.0 f (e ∙ append_assoc (text u) (behind us) x))
  unique_row (more t ts) none w x p q e f g = absurd (Closes-no_text x t (behind ts ++ w) p.0 g (sym e ∙ append_assoc (text t) (behind ts) w))
  unique_row (more t ts) (more u us) w x p q e f g =
      let k = unique t u (behind ts ++ w) (behind us ++ x) p.0 q.0 (sym (append_assoc (text t) (behind ts) w) ∙ e ∙ append_assoc (text u) (behind us) x) (behind_ends ts w f) (behind_ends us x g) in
      let r = unique_behind ts us w x p.1 q.1 k.1 f g in
      (ap₂ more k.0 r.0, r.1)

  pub unique_behind : (ts us : TextTrees) (w x : List ℕ) → AreSpelled ts → AreSpelled us → behind ts ++ w ≡ behind us ++ x → Closes w → Closes x → (ts ≡ us) × (w ≡ x)
  unique_behind none none w x p q e f g = (refl, e)
  unique_behind none (more u us) w x p q e f g = absurd (Closes-no_space ((text u ++ behind us) ++ x) (subst Closes e f))
  unique_behind (more t ts) none w x p q e f g = absurd (Closes-no_space ((text t ++ behind ts) ++ w) (subst Closes (sym e) g))
  unique_behind (more t ts) (more u us) w x p q e f g =
      let k = unique t u (behind ts ++ w) (behind us ++ x) p.0 q.0 (sym (append_assoc (text t) (behind ts) w) ∙ tails e ∙ append_assoc (text u) (behind us) x) (behind_ends ts w f) (behind_ends us x g) in
      let r = unique_behind ts us w x p.1 q.1 k.1 f g in
      (ap₂ more k.0 r.0, r.1)

-- ---- the laws

pub one_text : OneText
one_text t bytes others p q = p.is ∙ sym q.is

pub one_front : OneFront
one_front t u bytes rest other p q = unique t u rest other p.has.spelled q.has.spelled (sym p.is ∙ q.is) p.ends q.ends

pub one_tree : OneTree
one_tree t u bytes p q =
    (unique t u [] [] p.has.spelled q.has.spelled (append-nil (text t) ∙ sym p.is ∙ q.is ∙ sym (append-nil (text u))) tt tt).0

pub one_row : OneRow
one_row ts us bytes p q =
    (unique_row ts us [] [] p.have.spelled q.have.spelled (append-nil (row_text ts) ∙ sym p.is ∙ q.is ∙ sym (append-nil (row_text us))) tt tt).0

pub no_front_of_another : NoFrontOfAnother
no_front_of_another t u b c rest p q f g e =
    let k = unique t u (b ∷ rest) (c ∷ []) p.spelled q.spelled (sym (append_assoc (text t) (b ∷ []) rest) ∙ sym e) f g in
    (k.0, heads k.1, tails k.1)
