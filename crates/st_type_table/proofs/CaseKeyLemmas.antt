-- Cases that are kept with their keys, and lists of cases one behind another.
use Rattle.std.proofs.Common.{◌≡◌, refl, sym, ap, ◌∙◌, subst, ℕ, zero, suc, ◌<◌, ◌≤◌, List, [], ◌∷◌, ◌++◌, length, take, drop, get_or, append_assoc, ◌+◌, Bool, true, false, arith}
use Rattle.std.proofs.lemmas.Option.{slice_get_within}
use Rattle.st_il.specs.Key.{PlainKey}
use Rattle.st_type_table.specs.declared.case_list.CaseList.{CaseList}
use Rattle.st_type_table.specs.declared.case_list.KeptKey.{KeptKey}
use Rattle.st_type_table.specs.declared.entry.CaseDef.{CaseDef}
use Rattle.st_type_table.specs.declared.flat.Flat.{Flat}
use Rattle.st_type_table.specs.declared.key_index.KeyIndex.{KeyIndex}
use Rattle.st_type_table.specs.Keys.{HasKey, KeysDiffer}
use Rattle.st_type_table.specs.inner.Flat.{Adds, AddsIncluded}
use Rattle.st_type_table.specs.inner.CaseKeys.{Clashes, plain_kept, AreKeys, IsKeyed, AddsCase, AddsFrom}
use Rattle.st_type_table.specs.inner.KeyIndexes.{HasNumber, Gains, IsKeyIndex}
use Rattle.st_type_table.proofs.FlatLemmas.{take-step, take-split, read-get}
use Rattle.st_type_table.proofs.KeyLemmas.{KeysDiffer-push, KeysDiffer-pull, KeysDiffer-front}
use Rattle.st_type_table.proofs.KeyIndexLemmas.{clash-none, IsKeyIndex-push, IsKeyIndex-none}

-- ---- the keys of cases

pub AreKeys-push : (cases : List CaseDef) (keys : List KeptKey) (c : CaseDef) (k : KeptKey) → AreKeys cases keys → HasKey c.tag (plain_kept k) → AreKeys (cases ++ c ∷ []) (keys ++ k ∷ [])
AreKeys-push [] [] c k h g = (g, tt)
AreKeys-push [] (x ∷ keys) c k h g = absurd h
AreKeys-push (x ∷ cases) [] c k h g = absurd h
AreKeys-push (x ∷ cases) (y ∷ keys) c k h g = (h.0, AreKeys-push cases keys c k h.1 g)

pub AreKeys-length : (cases : List CaseDef) (keys : List KeptKey) → AreKeys cases keys → length keys ≡ length cases
AreKeys-length [] [] h = refl
AreKeys-length [] (x ∷ keys) h = absurd h
AreKeys-length (x ∷ cases) [] h = absurd h
AreKeys-length (x ∷ cases) (y ∷ keys) h = ap suc (AreKeys-length cases keys h.1)

pub AreKeys-at : (cases : List CaseDef) (keys : List KeptKey) (i : ℕ) (c : CaseDef) (k : KeptKey) → AreKeys cases keys → i < length cases → c ≡ get_or cases i c → k ≡ get_or keys i k → HasKey c.tag (plain_kept k)
AreKeys-at [] keys i c k h within e q = absurd (omega arith)
AreKeys-at (x ∷ cases) [] i c k h within e q = absurd h
AreKeys-at (x ∷ cases) (y ∷ keys) zero c k h within e q = subst (λ (z : CaseDef). HasKey z.tag (plain_kept k)) (sym e) (subst (λ z. HasKey x.tag (plain_kept z)) (sym q) h.0)
AreKeys-at (x ∷ cases) (y ∷ keys) (suc i) c k h within e q = AreKeys-at cases keys i c k h.1 (omega arith) e q

pub IsKeyed-none : (l : CaseList) → l.items ≡ [] → l.keys ≡ [] → ((k : PlainKey) (n : ℕ) → HasNumber l.index k n → ⊥) → IsKeyed l
IsKeyed-none l p q none = record {
  differ = subst KeysDiffer (sym p) tt;
  keys = subst (λ cs. AreKeys cs l.keys) (sym p) (subst (AreKeys []) (sym q) tt);
  indexed = subst (λ cs. IsKeyIndex cs l.index) (sym p) (IsKeyIndex-none l.index none);
}

-- a case with a key that the others do not have is kept
pub IsKeyed-push : (l : CaseList) (c : CaseDef) (k : KeptKey) (key : PlainKey) (number : ℕ) (items : List CaseDef) (keys : List KeptKey) (index : KeyIndex) → IsKeyed l → HasKey c.tag key → plain_kept k ≡ key
    → ((n : ℕ) → HasNumber l.index key n → ⊥) → number ≡ length l.items → Gains l.index index key number → items ≡ l.items ++ c ∷ [] → keys ≡ l.keys ++ k ∷ []
    → IsKeyed (record { items = items; keys = keys; index = index })
IsKeyed-push l c k key number items keys index right has is none counted gains p q = record {
  differ = subst KeysDiffer (sym p) (KeysDiffer-push l.items c right.differ (clash-none l.items l.index c.tag key right.indexed has none));
  keys = subst (λ cs. AreKeys cs keys) (sym p) (subst (AreKeys (l.items ++ c ∷ [])) (sym q) (AreKeys-push l.items l.keys c k right.keys (subst (HasKey c.tag) (sym is) has)));
  indexed = subst (λ cs. IsKeyIndex cs index) (sym p) (IsKeyIndex-push l.items c l.index index key has right.indexed (subst (Gains l.index index key) counted gains));
}

-- ---- cases one behind another

pub own-adds : (before after : List CaseDef) (c : CaseDef) (added : Bool) → KeysDiffer before → AddsCase before after c added → Adds before after (c ∷ []) added
own-adds before after c true h (e, new) = (e, subst KeysDiffer (sym e) (KeysDiffer-push before c h new))
own-adds before after c false h clash = λ k. KeysDiffer-pull before c k clash

-- ---- the cases of another list are added, one by one

module _ (before others cases after : List CaseDef) (at : ℕ) (so_far : cases ≡ before ++ take at others) where
  pub from-clash : AddsFrom cases after others at false → KeysDiffer (before ++ others) → ⊥
  from-clash (c, (e, clash)) k =
      let rest = drop (at + 1) others in
      let whole : before ++ others ≡ ((before ++ take at others) ++ c ∷ []) ++ rest =
      ap (λ cs. before ++ cs) (sym (take-split others (at + 1)) ∙ ap (λ cs. cs ++ rest) (take-step others at c (slice_get_within others at c e) (read-get others at c e)))
      ∙ sym (append_assoc before (take at others ++ c ∷ []) rest) ∙ ap (λ cs. cs ++ rest) (sym (append_assoc before (take at others) (c ∷ []))) in
      KeysDiffer-pull (before ++ take at others) c (KeysDiffer-front ((before ++ take at others) ++ c ∷ []) rest (subst KeysDiffer whole k)) (subst (λ cs. Clashes cs c.tag) so_far clash)

  pub from-added : KeysDiffer cases → AddsFrom cases after others at true → (after ≡ before ++ take (at + 1) others) × KeysDiffer after
  from-added h (c, (e, (q, new))) = (
    q ∙ ap (λ cs. cs ++ c ∷ []) so_far ∙ append_assoc before (take at others) (c ∷ []) ∙ ap (λ cs. before ++ cs) (sym (take-step others at c (slice_get_within others at c e) (read-get others at c e))),
    subst KeysDiffer (sym q) (KeysDiffer-push cases c h new),
  )

pub from-whole : (before : List CaseDef) (f : Flat) (cases : List CaseDef) (at : ℕ) → f.whole ≡ true → length f.cases.items ≤ at → cases ≡ before ++ take at f.cases.items → KeysDiffer cases
    → AddsIncluded before cases f true
from-whole before f cases at w l so_far h = (w, (so_far ∙ ap (λ cs. before ++ cs) (take-over f.cases.items at l), h))
  where
    take-over : {A : Type 0} (xs : List A) (i : ℕ) → length xs ≤ i → take i xs ≡ xs
    take-over [] zero h = refl
    take-over [] (suc i) h = refl
    take-over (x ∷ xs) zero h = absurd (omega arith)
    take-over (x ∷ xs) (suc i) h = ap (λ ys. x ∷ ys) (take-over xs i (omega arith))
