-- Lines with a line feed behind them.
use Rattle.std.proofs.Common.{◌≡◌, ℕ, ◌-◌, List, [], ◌∷◌, ◌++◌, length, take, drop, ap, ◌∙◌, sym, arith, length-append, true, false, nat_eq, subst}
use Rattle.std.specs.Cmp.Lexicographic.{pointwise, same_text}
use Rattle.std.proofs.lemmas.Cmp.{nat_list_eq_equiv}
use Rattle.std.proofs.lemmas.List.{take-append-drop}
use Rattle.std.proofs.Math.Seq.{drop-append_seam, take-append_seam}

-- all but the last of a line and one byte are the line
less_one : (line : List ℕ) (byte : ℕ) → length (line ++ byte ∷ []) - 1 ≡ length line
less_one line byte = let all = length-append line (byte ∷ []) in omega (arith, all)

pub front_of_line : (line : List ℕ) (byte : ℕ) → take (length (line ++ byte ∷ []) - 1) (line ++ byte ∷ []) ≡ line
front_of_line line byte = ap (λ n. take n (line ++ byte ∷ [])) (less_one line byte) ∙ take-append_seam line (byte ∷ [])

pub end_of_line : (line : List ℕ) (byte : ℕ) → drop (length (line ++ byte ∷ []) - 1) (line ++ byte ∷ []) ≡ byte ∷ []
end_of_line line byte = ap (λ n. drop n (line ++ byte ∷ [])) (less_one line byte) ∙ drop-append_seam line (byte ∷ [])

-- bytes that end so are their front and that byte
pub front_and_end : (bytes front : List ℕ) (byte : ℕ) → pointwise nat_eq (drop (length bytes - 1) bytes) (byte ∷ []) ≡ true → front ≡ take (length bytes - 1) bytes
    → bytes ≡ front ++ byte ∷ []
front_and_end bytes front byte ends is =
    let whole = take-append-drop (length bytes - 1) bytes in
    let end = same_text (drop (length bytes - 1) bytes) (byte ∷ []) (sym ends) in
    cc (whole, end, is)

-- bytes that do not end so are no line with that byte
pub no_line : (bytes line : List ℕ) (byte : ℕ) → pointwise nat_eq (drop (length bytes - 1) bytes) (byte ∷ []) ≡ false → bytes ≡ line ++ byte ∷ [] → ⊥
no_line bytes line byte ends is =
    let here : pointwise nat_eq (drop (length (line ++ byte ∷ []) - 1) (line ++ byte ∷ [])) (byte ∷ []) ≡ false = subst (λ b. pointwise nat_eq (drop (length b - 1) b) (byte ∷ []) ≡ false) is ends in
    let itself : pointwise nat_eq (byte ∷ []) (byte ∷ []) ≡ true = nat_list_eq_equiv.refl (byte ∷ []) in
    let there = sym (ap (λ e. pointwise nat_eq e (byte ∷ [])) (end_of_line line byte)) ∙ here in
    cc (itself, there)

-- the front of a line is the line
pub same_front : (bytes front line : List ℕ) (byte : ℕ) → front ≡ take (length bytes - 1) bytes → bytes ≡ line ++ byte ∷ [] → front ≡ line
same_front bytes front line byte is line_is = is ∙ ap (λ b. take (length b - 1) b) line_is ∙ front_of_line line byte
