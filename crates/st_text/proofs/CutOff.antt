-- Lemmas on texts that are written in part.
use Rattle.std.proofs.Common.{◌≡◌, ℕ, ◌<◌, ◌+◌, List, [], ◌∷◌, ◌++◌, length, drop, get_or, flat_map, Result, Ok, Err, OnErr, sym, ap, ◌∙◌, append_assoc, append-nil, arith, add-one}
use Rattle.std.proofs.Math.Seq.{drop-cons}
use Rattle.st_text.specs.Printing.{IsCutOff}
use Rattle.st_text.specs.declared.tree.TextTree as program
use Rattle.st_text.specs.Text.{escape_letter, escaped, text, row_text, behind}
use Rattle.st_text.specs.Trees.{tree_of, trees_of}

pub OnErr-any : {T E : Type 0} (r : Result T E) (P : Type 0) → P → OnErr r P
OnErr-any (Ok x) P p = tt
OnErr-any (Err e) P p = p

-- a part of the text is written whole, and the next part in part
pub cut_off_behind : (old mid new text done part left : List ℕ) → mid ≡ old ++ done → text ≡ done ++ (part ++ left) → IsCutOff mid part new → IsCutOff old text new
cut_off_behind old mid new text done part left e s p = record {
  done = done ++ p.done;
  left = p.left ++ left;
  split = s ∙ ap (λ u. done ++ u) (ap (λ u. u ++ left) p.split ∙ append_assoc p.done p.left left) ∙ sym (append_assoc done p.done (p.left ++ left));
  is = p.is ∙ ap (λ u. u ++ p.done) e ∙ append_assoc old done p.done;
}

-- a part of the text is written whole, and nothing behind it
pub cut_off_here : (old new text done left : List ℕ) → new ≡ old ++ done → text ≡ done ++ left → IsCutOff old text new
cut_off_here old new text done left e s = record { done = done; left = left; split = s; is = e }

-- the first part of the text is written in part
pub cut_off_first : (old new text part left : List ℕ) → text ≡ part ++ left → IsCutOff old part new → IsCutOff old text new
cut_off_first old new text part left s p = cut_off_behind old old new text [] part left (sym (append-nil old)) s p

-- ---- texts written piece by piece: `left` is still to be written

pub record Written (old text new left : List ℕ) : Type 0 where
  pub done : List ℕ
  pub split : text ≡ done ++ left
  pub is : new ≡ old ++ done

pub written_step : (old text new left newer part left' : List ℕ) → Written old text new left → left ≡ part ++ left' → newer ≡ new ++ part → Written old text newer left'
written_step old text new left newer part left' w s e = record {
  done = w.done ++ part;
  split = w.split ∙ ap (λ u. w.done ++ u) s ∙ sym (append_assoc w.done part left');
  is = e ∙ ap (λ u. u ++ part) w.is ∙ append_assoc old w.done part;
}

pub written_cut : (old text new left newer part left' : List ℕ) → Written old text new left → left ≡ part ++ left' → IsCutOff new part newer → IsCutOff old text newer
written_cut old text new left newer part left' w s p = cut_off_behind old new newer text w.done part left' w.is (w.split ∙ ap (λ u. w.done ++ u) s) p

pub written_none : (old text new left newer : List ℕ) → Written old text new left → newer ≡ new → IsCutOff old text newer
written_none old text new left newer w e = record { done = w.done; left = left; split = w.split; is = e ∙ w.is }

-- ---- bytes between quotes

pub escaped-letter : (b : ℕ) → (escape_letter b ≡ 0 → ⊥) → escaped b ≡ 92 ∷ escape_letter b ∷ []
unfolding escaped
escaped-letter b h = grind arith

pub drop-next : {X : Type 0} (xs : List X) (i : ℕ) (d : X) → i < length xs → drop i xs ≡ get_or xs i d ∷ drop (i + 1) xs
drop-next xs i d h = rw (add-one, drop-cons xs i d)

pub content-drop : (s : List ℕ) (i : ℕ) → i < length s → flat_map escaped (drop i s) ≡ escaped (get_or s i 0) ++ flat_map escaped (drop (i + 1) s)
content-drop s i h = ap (flat_map escaped) (drop-next s i 0 h)

-- ---- rows

pub behind-drop : (ts : List program.TextTree) (i : ℕ) (t : program.TextTree) → i < length ts → t ≡ get_or ts i t
    → behind (trees_of (drop i ts)) ≡ (32 ∷ text (tree_of t)) ++ behind (trees_of (drop (i + 1) ts))
behind-drop ts i t h e = ap (λ us. behind (trees_of us)) (drop-next ts i t h ∙ ap (λ u. u ∷ drop (i + 1) ts) (sym e))

pub row-first : (ts others : List program.TextTree) (first : program.TextTree) → ts ≡ first ∷ others
    → row_text (trees_of ts) ≡ text (tree_of first) ++ behind (trees_of others)
row-first ts others first e = ap (λ us. row_text (trees_of us)) e

-- a part of the text is written whole, and the rest in part
pub cut_off_rest : (old mid new text done part : List ℕ) → mid ≡ old ++ done → text ≡ done ++ part → IsCutOff mid part new → IsCutOff old text new
cut_off_rest old mid new text done part e s p = cut_off_behind old mid new text done part [] e (s ∙ ap (λ u. done ++ u) (sym (append-nil part))) p
