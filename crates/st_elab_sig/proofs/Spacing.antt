-- Words with a space behind each are words with one space between them, and one more.
use Rattle.std.proofs.Common.{◌≡◌, refl, sym, ◌∙◌, ap, ℕ, List, [], ◌∷◌, ◌++◌, Option, append_assoc, append-nil}
use Rattle.std.specs.Prelude.{None, Some, MatchOption}
use Rattle.st_il.specs.declared.template.TagPart.{TagPart}
use Rattle.st_il.specs.Template.{written, spaced}
use Rattle.st_elab_sig.specs.inner.Words.{trailed}

trailed-spaced : (w : TagPart) (ws : List TagPart) → trailed (w ∷ ws) ≡ spaced (w ∷ ws) ++ 32 ∷ []
trailed-spaced w [] = append-nil (written w ++ 32 ∷ [])
trailed-spaced w (v ∷ ws) =
    ap (λ text. (written w ++ 32 ∷ []) ++ text) (trailed-spaced v ws)
    ∙ append_assoc (written w) (32 ∷ []) (spaced (v ∷ ws) ++ 32 ∷ [])
    ∙ sym (append_assoc (written w) (32 ∷ spaced (v ∷ ws)) (32 ∷ []))

front : (xs ys : List ℕ) (x y : ℕ) → xs ++ x ∷ [] ≡ ys ++ y ∷ [] → xs ≡ ys
front [] [] x y e = refl
front [] (b ∷ []) x y e = absurd (cc)
front [] (b ∷ c ∷ ys) x y e = absurd (cc)
front (a ∷ []) [] x y e = absurd (cc)
front (a ∷ b ∷ xs) [] x y e = absurd (cc)
front (a ∷ xs) (b ∷ ys) x y e =
    let first : a ≡ b = cc in
    let others : xs ++ x ∷ [] ≡ ys ++ y ∷ [] = cc in
    let same : xs ≡ ys = front xs ys x y others in
    cc

none-empty : (w : TagPart) (ws : List TagPart) → trailed (w ∷ ws) ≡ [] → ⊥
none-empty w ws e = never (spaced (w ∷ ws)) (sym (trailed-spaced w ws) ∙ e)
  where
    never : (text : List ℕ) → text ++ 32 ∷ [] ≡ [] → ⊥
    never [] f = cc
    never (byte ∷ text) f = cc

-- what is left when the last byte is taken off
pub last_off : (ws : List TagPart) (text left : List ℕ) (last : Option ℕ) → text ≡ trailed ws
    → MatchOption last ((text ≡ []) × (left ≡ [])) (λ byte. text ≡ left ++ byte ∷ []) → left ≡ spaced ws
last_off [] text left None e h = h.1
last_off [] text [] (Some byte) e h = refl
last_off [] text (b ∷ left) (Some byte) e h = absurd (cc)
last_off (w ∷ ws) text left None e h = absurd (none-empty w ws (sym e ∙ h.0))
last_off (w ∷ ws) text left (Some byte) e h =
    front left (spaced (w ∷ ws)) byte 32 (sym h ∙ e ∙ trailed-spaced w ws)
