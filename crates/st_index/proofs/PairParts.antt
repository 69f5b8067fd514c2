-- Pairs of names in a set, after one is added.
use Rattle.std.proofs.Common.{◌≡◌, refl, sym, subst, ℕ, Bool, true, false, true≢false, eqb, bytes_eq, ◌||◌, ◌&&◌, List}
use Rattle.std.specs.Borrow.{Bor}
use Rattle.std.specs.Cmp.Lexicographic.{pointwise}
use Rattle.indexmap.specs.IndexSet.{insert_key}
use Rattle.st_index.proofs.InsertionLemmas.{same-equal, any-insert}
use Rattle.st_index.specs.Names.{has_pair}

and-left : (a b : Bool) → (a && b) ≡ true → a ≡ true
and-left true b h = refl
and-left false b h = h

and-right : (a b : Bool) → (a && b) ≡ true → b ≡ true
and-right true b h = h
and-right false b h = absurd (true≢false (sym h))

pair-keeps : (x y : Bor (List ℕ) × Bor (List ℕ)) (p q : List ℕ)
    → (pointwise eqb x.0.now y.0.now && pointwise eqb x.1.now y.1.now) ≡ true
    → (bytes_eq p x.0.now && bytes_eq q x.1.now) ≡ true → (bytes_eq p y.0.now && bytes_eq q y.1.now) ≡ true
pair-keeps x y p q same passes =
    subst (λ z. (bytes_eq p z && bytes_eq q y.1.now) ≡ true) (same-equal x.0.now y.0.now (and-left (pointwise eqb x.0.now y.0.now) (pointwise eqb x.1.now y.1.now) same))
    (subst (λ z. (bytes_eq p x.0.now && bytes_eq q z) ≡ true) (same-equal x.1.now y.1.now (and-right (pointwise eqb x.0.now y.0.now) (pointwise eqb x.1.now y.1.now) same)) passes)

pub has_pair-insert : (keys new : List (Bor (List ℕ) × Bor (List ℕ))) (pair : Bor (List ℕ) × Bor (List ℕ))
    → new ≡ insert_key (λ x y. pointwise eqb x.0.now y.0.now && pointwise eqb x.1.now y.1.now) keys pair
    → (p q : List ℕ) → has_pair new p q ≡ (has_pair keys p q || (bytes_eq p pair.0.now && bytes_eq q pair.1.now))
has_pair-insert keys new pair n p q =
    any-insert (λ x y. pointwise eqb x.0.now y.0.now && pointwise eqb x.1.now y.1.now)
    (λ (key : Bor (List ℕ) × Bor (List ℕ)). bytes_eq p key.0.now && bytes_eq q key.1.now) keys new pair
    (λ y same passes. pair-keeps pair y p q same passes) n
