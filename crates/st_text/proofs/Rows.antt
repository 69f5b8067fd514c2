-- What the readers of lists and rows need.
use Rattle.std.proofs.Common.{subst, ◌≡◌, ℕ, ◌-◌, ◌≤◌, ◌<◌, List, [], ◌∷◌, ◌++◌, length, map, true, false, refl, sym, ap, ◌∙◌, append_assoc, append-nil, arith, rules, inl, inr, Result, Err}
use Rattle.std.specs.List.{list_all}
use Rattle.st_text.specs.Text.{TextTree, word, quote, list, TextTrees, none, more, is_word_byte, text, row_text, behind, depth, row_depth, IsSpelled, AreSpelled, Ends}
use Rattle.std.specs.Borrow.{Bor}
use Rattle.st_text.specs.declared.fault.TextFault.{TextFault}
use Rattle.st_text.specs.declared.fault.TextFault.TheVariants.{Malformed, Memory}
use Rattle.st_text.specs.inner.Fronts.{Reads, ReadsRow, ReadsNoTree, ReadsNoRow, AnswersTree, AnswersRow, Closes}
use Rattle.st_text.specs.Trees.{row_of, tree_of, trees_of}
use Rattle.st_text.specs.declared.tree.TextTree as program
use Rattle.st_text.specs.declared.tree.TextTree.{List as ListTree, the_lemmas}
use Rattle.st_text.proofs.Bytes.{heads, tails, and_true, Closes-no_space}
use Rattle.st_text.proofs.Unique.{Closes-no_text, behind_ends, list_tail, unique, unique_row}

-- ---- the trees of a row, one by one

-- the text of trees behind another
abbrev trail : List TextTree → List ℕ
trail ts = behind (row_of ts)

trail_ends : (ts : List TextTree) (r : List ℕ) → Ends r → Ends (trail ts ++ r)
trail_ends [] r e = e
trail_ends (t ∷ ts) r e = inl refl

map-push : (ts : List program.TextTree) (t : program.TextTree) → map tree_of (ts ++ t ∷ []) ≡ map tree_of ts ++ tree_of t ∷ []
map-push [] t = refl
map-push (x ∷ ts) t = ap (λ u. tree_of x ∷ u) (map-push ts t)

trail-push : (ts : List TextTree) (t : TextTree) (r : List ℕ) → trail ts ++ (32 ∷ (text t ++ r)) ≡ trail (ts ++ t ∷ []) ++ r
trail-push [] t r = ap (λ u. 32 ∷ u) (ap (λ u. u ++ r) (sym (append-nil (text t))))
trail-push (x ∷ ts) t r = ap (λ u. 32 ∷ u) (append_assoc (text x) (trail ts) (32 ∷ (text t ++ r)) ∙ ap (λ u. text x ++ u) (trail-push ts t r) ∙ sym (append_assoc (text x) (trail (ts ++ t ∷ [])) r))

AreSpelled-push : (ts : List TextTree) (t : TextTree) → AreSpelled (row_of ts) → IsSpelled t → AreSpelled (row_of (ts ++ t ∷ []))
AreSpelled-push [] t e h = (h, tt)
AreSpelled-push (x ∷ ts) t e h = (e.0, AreSpelled-push ts t e.1 h)

row_depth-push : (ts : List TextTree) (t : TextTree) (limit : ℕ) → row_depth (row_of ts) ≤ limit → depth t ≤ limit → row_depth (row_of (ts ++ t ∷ [])) ≤ limit
row_depth-push [] t limit e h = omega arith
row_depth-push (x ∷ ts) t limit e h = omega (arith, row_depth-push ts t limit (omega arith) h)

-- these trees, one at least, are read, and the rest is to be read
record Listed (limit : ℕ) (bytes : List ℕ) (first : TextTree) (others : List TextTree) (rest : List ℕ) : Type 0 where
  spelled : IsSpelled first
  shallow : depth first ≤ limit
  each : AreSpelled (row_of others)
  all_shallow : row_depth (row_of others) ≤ limit
  is : bytes ≡ text first ++ (trail others ++ rest)
  ends : Ends rest

ListedAs : ℕ → List ℕ → List TextTree → List ℕ → Type 0
ListedAs limit bytes [] rest = ⊥
ListedAs limit bytes (t ∷ ts) rest = Listed limit bytes t ts rest

pub record RowSoFar (limit : ℕ) (bytes : List ℕ) (found : List program.TextTree) (rest : List ℕ) : Type 0 where
  listed : ListedAs limit bytes (map tree_of found) rest

pub row_first : (limit : ℕ) (bytes : List ℕ) (found : List program.TextTree) (t : program.TextTree) (rest : List ℕ) → Reads limit bytes (tree_of t) rest → found ≡ t ∷ [] → RowSoFar limit bytes found rest
unfolding ListedAs
row_first limit bytes found t rest r e = subst (λ f. RowSoFar limit bytes f rest) (sym e) (record { listed = record { spelled = r.spelled; shallow = r.shallow; each = tt; all_shallow = omega arith; is = r.is; ends = r.ends } })

listed_more : (limit : ℕ) (bytes : List ℕ) (ts : List TextTree) (t : TextTree) (rest others behind_it : List ℕ) → ListedAs limit bytes ts rest → rest ≡ 32 ∷ others → Reads limit others t behind_it → ListedAs limit bytes (ts ++ t ∷ []) behind_it
unfolding ListedAs
listed_more limit bytes [] t rest others b l e r = absurd l
listed_more limit bytes (x ∷ ts) t rest others b l e r = record {
  spelled = l.spelled;
  shallow = l.shallow;
  each = AreSpelled-push ts t l.each r.spelled;
  all_shallow = row_depth-push ts t limit l.all_shallow r.shallow;
  is = l.is ∙ ap (λ u. text x ++ u) (ap (λ u. trail ts ++ u) (e ∙ ap (λ u. 32 ∷ u) r.is) ∙ trail-push ts t b);
  ends = r.ends;
}

pub row_more : (limit : ℕ) (bytes : List ℕ) (found longer : List program.TextTree) (t : program.TextTree) (rest others behind_it : List ℕ) → RowSoFar limit bytes found rest → rest ≡ 32 ∷ others → Reads limit others (tree_of t) behind_it → longer ≡ found ++ t ∷ [] → RowSoFar limit bytes longer behind_it
row_more limit bytes found longer t rest others b i e r g =
    subst (λ f. RowSoFar limit bytes f b) (sym g) (record { listed = subst (λ f. ListedAs limit bytes f b) (sym (map-push found t)) (listed_more limit bytes (map tree_of found) (tree_of t) rest others b i.listed e r) })

-- what ends a text and is no space closes a row
closes_here : (w : List ℕ) → Ends w → ((x : List ℕ) → w ≡ 32 ∷ x → ⊥) → Closes w
closes_here [] e n = tt
closes_here (b ∷ w) (inl e) n = absurd (n w (ap (λ c. c ∷ w) e))
closes_here (b ∷ w) (inr (inl e)) n = inl e
closes_here (b ∷ w) (inr (inr e)) n = inr e

listed_close : (limit : ℕ) (bytes : List ℕ) (ts : List TextTree) (rest : List ℕ) → ListedAs limit bytes ts rest → ((x : List ℕ) → rest ≡ 32 ∷ x → ⊥) → ReadsRow limit bytes (row_of ts) rest
unfolding ListedAs
listed_close limit bytes [] rest l n = absurd l
listed_close limit bytes (t ∷ ts) rest l n = record {
  spelled = (l.spelled, l.each);
  shallow = omega (arith, l.shallow, l.all_shallow);
  is = l.is ∙ sym (append_assoc (text t) (trail ts) rest);
  closes = closes_here rest l.ends n;
}

pub row_close : (limit : ℕ) (bytes : List ℕ) (found : List program.TextTree) (rest : List ℕ) → RowSoFar limit bytes found rest → ((x : List ℕ) → rest ≡ 32 ∷ x → ⊥) → ReadsRow limit bytes (trees_of found) rest
row_close limit bytes found rest i n = listed_close limit bytes (map tree_of found) rest i.listed n

-- what is read so far is the front of all that the bytes may be
trail_split : (f : List TextTree) (us : TextTrees) (r w : List ℕ) → AreSpelled (row_of f) → AreSpelled us → Ends r → Closes w → behind us ++ w ≡ trail f ++ r
    → (vs : TextTrees) × AreSpelled vs × (row_depth vs ≤ row_depth us) × (r ≡ behind vs ++ w)
trail_split [] us r w p q k g e = (us, q, omega arith, sym e)
trail_split (t ∷ f) none r w p q k g e = absurd (Closes-no_space ((text t ++ trail f) ++ r) (subst Closes e g))
trail_split (t ∷ f) (more u us) r w p q k g e =
    let h = unique u t (behind us ++ w) (trail f ++ r) q.0 p.0 (sym (append_assoc (text u) (behind us) w) ∙ tails e ∙ append_assoc (text t) (trail f) r) (behind_ends us w g) (trail_ends f r k) in
    let i = trail_split f us r w p.1 q.1 k g h.1 in
    (i.0, i.1, omega (arith, i.2), i.3)

listed_none : (limit : ℕ) (bytes : List ℕ) (ts : List TextTree) (rest others : List ℕ) → ListedAs limit bytes ts rest → rest ≡ 32 ∷ others → ReadsNoTree limit others → (us : TextTrees) (w : List ℕ) → ReadsRow limit bytes us w → ⊥
unfolding ListedAs
listed_none limit bytes [] rest others l e n us w r = l
listed_none limit bytes (t ∷ ts) rest others l e n none w r = Closes-no_text w t (trail ts ++ rest) l.spelled r.closes (sym r.is ∙ l.is)
listed_none limit bytes (t ∷ ts) rest others l e n (more u us) w r =
    let h = unique u t (behind us ++ w) (trail ts ++ rest) r.spelled.0 l.spelled (sym (append_assoc (text u) (behind us) w) ∙ sym r.is ∙ l.is) (behind_ends us w r.closes) (trail_ends ts rest l.ends) in
    let k = trail_split ts us rest w l.each r.spelled.1 l.ends r.closes h.1 in
    none_behind k.0 k.1 (omega (arith, r.shallow, k.2)) k.3
  where
    none_behind : (vs : TextTrees) → AreSpelled vs → row_depth vs ≤ limit → rest ≡ behind vs ++ w → ⊥
    none_behind none s d f = Closes-no_space others (subst Closes (sym f ∙ e) r.closes)
    none_behind (more v vs) s d f = n.never v (behind vs ++ w) (record { spelled = s.0; shallow = omega arith; is = tails (sym e ∙ f) ∙ append_assoc (text v) (behind vs) w; ends = behind_ends vs w r.closes })

pub row_none : (limit : ℕ) (bytes : List ℕ) (found : List program.TextTree) (rest others : List ℕ) → RowSoFar limit bytes found rest → rest ≡ 32 ∷ others → ReadsNoTree limit others → ReadsNoRow limit bytes
row_none limit bytes found rest others i e n = record { never = listed_none limit bytes (map tree_of found) rest others i.listed e n }

-- a fault of the next tree is one of the row
pub row_passed : (limit : ℕ) (bytes rest others : List ℕ) (found : List program.TextTree) (fault : TextFault) (result : Result (List program.TextTree × Bor (List ℕ)) TextFault)
    → RowSoFar limit bytes found rest → rest ≡ 32 ∷ others → AnswersTree limit others (Err fault) → result ≡ Err fault → AnswersRow limit bytes result
row_passed limit bytes rest others found (Malformed line) result i e said is = subst (AnswersRow limit bytes) (sym is) (said.0, row_none limit bytes found rest others i e said.1)
row_passed limit bytes rest others found Memory result i e said is = subst (AnswersRow limit bytes) (sym is) tt

pub row_no_first : (limit : ℕ) (bytes : List ℕ) → (Closes bytes → ⊥) → ReadsNoTree limit bytes → ReadsNoRow limit bytes
row_no_first limit bytes a n = record { never = go }
  where
    go : (ts : TextTrees) (w : List ℕ) → ReadsRow limit bytes ts w → ⊥
    go none w r = a (subst Closes (sym r.is) r.closes)
    go (more t ts) w r = n.never t (behind ts ++ w) (record { spelled = r.spelled.0; shallow = omega (arith, r.shallow); is = r.is ∙ append_assoc (text t) (behind ts) w; ends = behind_ends ts w r.closes })

pub row_empty : (limit : ℕ) (bytes : List ℕ) (found : List program.TextTree) → found ≡ [] → Closes bytes → ReadsRow limit bytes (trees_of found) bytes
row_empty limit bytes found f e = subst (λ u. ReadsRow limit bytes (trees_of u) bytes) (sym f) (record { spelled = tt; shallow = omega arith; is = refl; closes = e })

-- ---- a list

pub tree_of-List : (ts : List program.TextTree) → tree_of (ListTree ts) ≡ list (trees_of ts)
tree_of-List ts = search (rules, the_lemmas)

pub list_answer : (limit : ℕ) (bytes rest behind_it : List ℕ) (found : List program.TextTree) → 0 < limit → ReadsRow (limit - 1) bytes (trees_of found) rest → rest ≡ 41 ∷ behind_it → Ends behind_it → Reads limit (40 ∷ bytes) (tree_of (ListTree found)) behind_it
list_answer limit bytes rest w found p r e k = subst (λ u. Reads limit (40 ∷ bytes) u w) (sym (tree_of-List found))
    (record { spelled = r.spelled; shallow = omega (arith, r.shallow); is = ap (λ u. 40 ∷ u) (r.is ∙ ap (λ u. row_text (trees_of found) ++ u) e ∙ sym (list_tail (trees_of found) w)); ends = k })

-- what begins with a parenthesis is a list or nothing
list_only : (limit : ℕ) (bytes : List ℕ) → ((ts : TextTrees) (w : List ℕ) → 0 < limit → ReadsRow (limit - 1) bytes ts (41 ∷ w) → Ends w → ⊥) → ReadsNoTree limit (40 ∷ bytes)
list_only limit bytes n = record { never = go }
  where
    go : (t : TextTree) (w : List ℕ) → Reads limit (40 ∷ bytes) t w → ⊥
    go (word []) w r = absurd (omega (arith, r.spelled.0))
    go (word (b ∷ a)) w r = let f : 40 ≡ b = heads r.is in let yes : is_word_byte b ≡ true = (and_true (is_word_byte b) (list_all is_word_byte a) r.spelled.1).0 in let same : is_word_byte 40 ≡ is_word_byte b = ap is_word_byte f in absurd (cc)
    go (quote s) w r = absurd (omega (arith, heads r.is))
    go (list ts) w r = n ts w (omega (arith, r.shallow)) (record { spelled = r.spelled; shallow = omega (arith, r.shallow); is = tails r.is ∙ list_tail ts w; closes = inl refl }) r.ends

pub list_none : (limit : ℕ) (bytes : List ℕ) → ReadsNoRow (limit - 1) bytes → ReadsNoTree limit (40 ∷ bytes)
list_none limit bytes n = list_only limit bytes (λ ts w p r k. n.never ts (41 ∷ w) r)

pub list_too_deep : (limit : ℕ) (bytes : List ℕ) → limit ≡ 0 → ReadsNoTree limit (40 ∷ bytes)
list_too_deep limit bytes z = list_only limit bytes (λ ts w p r k. omega arith)

-- a row at the front of the bytes ends at one place
row_rest : (limit : ℕ) (bytes w x : List ℕ) (ts us : TextTrees) → ReadsRow limit bytes ts w → ReadsRow limit bytes us x → w ≡ x
row_rest limit bytes w x ts us r q = (unique_row ts us w x r.spelled q.spelled (sym r.is ∙ q.is) r.closes q.closes).1

pub list_not_closed : (limit : ℕ) (bytes rest : List ℕ) (found : TextTrees) → ReadsRow (limit - 1) bytes found rest → ((w : List ℕ) → rest ≡ 41 ∷ w → ⊥) → ReadsNoTree limit (40 ∷ bytes)
list_not_closed limit bytes rest found r n = list_only limit bytes (λ ts w p q k. n w (row_rest (limit - 1) bytes rest (41 ∷ w) found ts r q))

pub list_no_end : (limit : ℕ) (bytes rest behind_it : List ℕ) (found : TextTrees) → ReadsRow (limit - 1) bytes found rest → rest ≡ 41 ∷ behind_it → (Ends behind_it → ⊥) → ReadsNoTree limit (40 ∷ bytes)
list_no_end limit bytes rest b found r e n = list_only limit bytes (λ ts w p q k. n (subst Ends (tails (row_rest (limit - 1) bytes (41 ∷ w) rest ts found q r ∙ e)) k))

-- ---- a tree

pub tree_at_end : (limit : ℕ) (bytes : List ℕ) → length bytes ≡ 0 → ReadsNoTree limit bytes
tree_at_end limit (x ∷ bytes) e = absurd (omega arith)
tree_at_end limit [] e = record { never = go }
  where
    go : (t : TextTree) (w : List ℕ) → Reads limit [] t w → ⊥
    go (word []) w r = absurd (omega (arith, r.spelled.0))
    go (word (c ∷ a)) w r = cc (r.is)
    go (quote s) w r = cc (r.is)
    go (list ts) w r = cc (r.is)

-- a byte with which no text begins
pub tree_no_first : (limit : ℕ) (bytes others : List ℕ) (b : ℕ) → bytes ≡ b ∷ others → (b ≡ 34 → ⊥) → (b ≡ 40 → ⊥) → is_word_byte b ≡ false → ReadsNoTree limit bytes
tree_no_first limit bytes others b e q l f = record { never = go }
  where
    go : (t : TextTree) (w : List ℕ) → Reads limit bytes t w → ⊥
    go (word []) w r = absurd (omega (arith, r.spelled.0))
    go (word (c ∷ a)) w r = let g : b ≡ c = heads (sym e ∙ r.is) in let yes : is_word_byte c ≡ true = (and_true (is_word_byte c) (list_all is_word_byte a) r.spelled.1).0 in let same : is_word_byte b ≡ is_word_byte c = ap is_word_byte g in absurd (cc)
    go (quote s) w r = q (heads (sym e ∙ r.is))
    go (list ts) w r = l (heads (sym e ∙ r.is))

-- ---- what each reader's goals need

pub ruleset list_steps = (list_none, list_too_deep, list_not_closed, list_no_end, list_answer)

pub ruleset row_steps = (row_empty, row_no_first, row_first, row_more, row_none, row_close)
