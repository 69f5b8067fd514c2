-- Lines, each ended by a line feed.
use Rattle.std.proofs.Common.{◌≡◌, ◌≢◌, ℕ, suc, List, [], ◌∷◌, ◌++◌, refl, sym, subst, ap₂, arith}
use Rattle.std.specs.List.{Contains}
use Rattle.std.proofs.lemmas.List.Elements.{Contains-append_right}
use Rattle.st_text.proofs.Bytes.{heads, tails}

-- a line has no line feed
abbrev pub IsLine : List ℕ → Type 0
IsLine line = Contains line 10 → ⊥

pub IsLine-tail : (b : ℕ) (line : List ℕ) → IsLine (b ∷ line) → IsLine line
IsLine-tail b line is = λ there. is (suc there.0, omega (arith, there.1), there.2)

IsLine-head : (b : ℕ) (line : List ℕ) → IsLine (b ∷ line) → b ≢ 10
IsLine-head b line is = λ e. is (0, omega arith, e)

pub line_unique : (a b u v : List ℕ) → IsLine a → IsLine b → a ++ 10 ∷ u ≡ b ++ 10 ∷ v → (a ≡ b) × (u ≡ v)
line_unique [] [] u v p q e = (refl, tails e)
line_unique [] (y ∷ b) u v p q e = absurd (IsLine-head y b q (sym (heads e)))
line_unique (x ∷ a) [] u v p q e = absurd (IsLine-head x a p (heads e))
line_unique (x ∷ a) (y ∷ b) u v p q e =
    let rest = line_unique a b u v (IsLine-tail x a p) (IsLine-tail y b q) (tails e) in
    (ap₂ ◌∷◌ (heads e) rest.0, rest.1)

-- bytes without a line feed have no whole line
pub no_line : (bytes line others : List ℕ) → IsLine bytes → bytes ≡ line ++ 10 ∷ others → ⊥
no_line bytes line others is e = is (subst (λ bs. Contains bs 10) (sym e) (Contains-append_right line (10 ∷ others) 10 (0, omega arith, refl)))
