-- There is at most one refused token, and none in source.
use Rattle.std.proofs.Common.{◌≡◌, ℕ, ◌+◌, ◌≤◌, ◌<◌, inl, inr, List, [], ◌++◌, length, take, drop, map, Bool, true, false, nat_lt, refl, sym, ap, subst, ◌∙◌, append-nil, arith}
use Rattle.std.proofs.lemmas.List.{take-append-drop, take-append-le, take-map, drop-map, take_all, length-map, length-take}
use Rattle.st_num.specs.declared.token.Token.{Token}
use Rattle.st_grammar.specs.Terminals.{terminal, declared_names}
use Rattle.st_grammar.specs.Definitions.{ViableDefs}
use Rattle.st_grammar.proofs.PositionEnds.{before_tokens}
use Rattle.st_parse_automaton.specs.Refusal.{terminals_of, AreDefinitions, IsViable, RefusedAt}

pub take_shorter : {X : Type 0} (m n : ℕ) (xs : List X) → m ≤ n → m ≤ length xs → take m (take n xs) ≡ take m xs
take_shorter m n xs h k =
    sym (take-append-le m (take n xs) (drop n xs) (omega (arith, length-take n xs))) ∙ ap (take m) (take-append-drop n xs)

-- a front of what is viable is viable
pub viable_front : (tokens : List Token) (m n : ℕ) → m ≤ n → m ≤ length tokens → IsViable tokens n → IsViable tokens m
viable_front tokens m n h k v =
    let f = terminal (declared_names tokens) in
    let us = map f tokens in
    let rest : drop m (take n us) ≡ map f (drop m (take n tokens)) = ap (drop m) (take-map f n tokens) ∙ drop-map f m (take n tokens) in
    let split : take n us ≡ take m us ++ map f (drop m (take n tokens)) =
    sym (take-append-drop m (take n us)) ∙ ap (λ front. front ++ drop m (take n us)) (take_shorter m n us h (omega (arith, length-map tokens f))) ∙ ap (λ back. take m us ++ back) rest in
    before_tokens (declared_names tokens) (take m us) (drop m (take n tokens)) (subst (ViableDefs (declared_names tokens)) split v)

pub source_viable : (tokens : List Token) (m : ℕ) → m ≤ length tokens → AreDefinitions tokens → IsViable tokens m
source_viable tokens m h s =
    let us = terminals_of tokens in
    let all : take (length tokens) us ≡ us = take_all (length tokens) us (omega (arith, length-map tokens (terminal (declared_names tokens)))) in
    viable_front tokens m (length tokens) h h
    ([], s.0, record { fits = s.1.fits; spelled = append-nil (take (length tokens) us) ∙ all ∙ s.1.spelled })

pub never_both : (tokens : List Token) (k : ℕ) → RefusedAt tokens k → AreDefinitions tokens → ⊥
never_both tokens k (inl r) s = r.2 (source_viable tokens (k + 1) (omega (arith, r.0)) s)
never_both tokens k (inr r) s = r.2 s

pub within : (tokens : List Token) (k : ℕ) → RefusedAt tokens k → k ≤ length tokens
within tokens k (inl r) = omega (arith, r.0)
within tokens k (inr r) = omega (arith, r.0)

pub is_viable : (tokens : List Token) (k : ℕ) → RefusedAt tokens k → IsViable tokens k
is_viable tokens k (inl r) = r.1
is_viable tokens k (inr r) = r.1

pub none_earlier : (tokens : List Token) (j k : ℕ) → RefusedAt tokens j → RefusedAt tokens k → j < k → ⊥
none_earlier tokens j k (inl r) s h = r.2 (viable_front tokens (j + 1) k (omega arith) (omega (arith, r.0)) (is_viable tokens k s))
none_earlier tokens j k (inr r) s h = absurd (omega (arith, r.0, within tokens k s))

pub one_token : (tokens : List Token) (j k : ℕ) → RefusedAt tokens j → RefusedAt tokens k → j ≡ k
one_token tokens j k r s = go (nat_lt j k) refl (nat_lt k j) refl
  where
    go : (b : Bool) → nat_lt j k ≡ b → (c : Bool) → nat_lt k j ≡ c → j ≡ k
    go true e c f = absurd (none_earlier tokens j k r s (grind arith))
    go false e true f = absurd (none_earlier tokens k j s r (grind arith))
    go false e false f = grind arith
