-- What the readers of words need.
use Rattle.std.proofs.Common.{subst, ◌≡◌, ℕ, zero, suc, ◌<◌, List, [], ◌∷◌, ◌++◌, length, drop, get_or, flat_map, true, false, sym, ap, ◌∙◌, arith, rules}
use Rattle.std.specs.List.{list_all}
use Rattle.st_text.specs.Text.{TextTree, word, quote, list, escaped, is_word_byte, row_text, Ends}
use Rattle.st_text.specs.inner.Fronts.{Reads, ReadsNoTree, FirstIsWord, Stops}
use Rattle.st_text.specs.Trees.{tree_of}
use Rattle.st_text.specs.declared.tree.TextTree.{Word, the_lemmas}
use Rattle.st_text.proofs.Bytes.{Stops-from_Ends, words_unique}

pub Stops-drop : (bytes : List ℕ) (n : ℕ) → (n < length bytes → is_word_byte (get_or bytes n 0) ≡ false) → Stops (drop n bytes)
Stops-drop [] zero h = tt
Stops-drop [] (suc n) h = tt
Stops-drop (b ∷ bs) zero h = h (omega arith)
Stops-drop (b ∷ bs) (suc n) h = Stops-drop bs n (λ k. h (omega arith))

pub word_reads : (limit : ℕ) (bytes a w : List ℕ) → FirstIsWord bytes → bytes ≡ a ++ w → list_all is_word_byte a ≡ true → Stops w → Ends w → Reads limit bytes (word a) w
word_reads limit [] a w f e p s k = absurd f
word_reads limit (b ∷ bs) [] w f e p s k = let never : is_word_byte b ≡ false = subst Stops (sym e) s in absurd (cc)
word_reads limit (b ∷ bs) (c ∷ a) w f e p s k = record { spelled = (omega arith, p); shallow = omega arith; is = e; ends = k }

word_refused : (limit : ℕ) (bytes a w : List ℕ) → FirstIsWord bytes → bytes ≡ a ++ w → list_all is_word_byte a ≡ true → Stops w → (Ends w → ⊥) → (t : TextTree) (x : List ℕ) → Reads limit bytes t x → ⊥
word_refused limit bytes a w f e p s never (word b) x r =
    let k = words_unique a b w x p r.spelled.1 (sym e ∙ r.is) s (Stops-from_Ends x r.ends) in never (subst Ends (sym k.1) r.ends)
word_refused limit bytes a w f e p s never (quote b) x r = let g : FirstIsWord (34 ∷ (flat_map escaped b ++ 34 ∷ [] ++ x)) = subst FirstIsWord r.is f in absurd (cc g)
word_refused limit bytes a w f e p s never (list ts) x r = let g : FirstIsWord (40 ∷ (row_text ts ++ 41 ∷ [] ++ x)) = subst FirstIsWord r.is f in absurd (cc g)

pub word_none : (limit : ℕ) (bytes a w : List ℕ) → FirstIsWord bytes → bytes ≡ a ++ w → list_all is_word_byte a ≡ true → Stops w → (Ends w → ⊥) → ReadsNoTree limit bytes
word_none limit bytes a w f e p s n = record { never = word_refused limit bytes a w f e p s n }

pub tree_of-Word : (w : List ℕ) → tree_of (Word w) ≡ word w
tree_of-Word w = search (rules, the_lemmas)

pub word_answer : (limit : ℕ) (bytes a b w : List ℕ) → FirstIsWord bytes → bytes ≡ a ++ w → b ≡ a → list_all is_word_byte a ≡ true → Stops w → Ends w → Reads limit bytes (tree_of (Word b)) w
word_answer limit bytes a b w f e g p s k = subst (λ u. Reads limit bytes u w) (sym (ap (λ c. tree_of (Word c)) g ∙ tree_of-Word a)) (word_reads limit bytes a w f e p s k)
