-- Atoms, byte by byte.
use Rattle.std.proofs.Common.{◌≡◌, refl, sym, ◌∙◌, ap, subst, ℕ, ◌+◌, ◌<◌, ◌≤◌, List, [], ◌∷◌, ◌++◌, append-nil, length, drop, get_or, Bool, true, false, arith}
use Rattle.std.proofs.lemmas.List.{drop_more, drop_all}
use Rattle.std.specs.Prelude.{◌≢◌, ◌↔◌, ◌==◌, ◌&&◌, not, IsTrue, if◌then◌else◌}
use Rattle.std.specs.Char.{is_ascii_uppercase}
use Rattle.std.specs.List.{AllByRecursion}
use Rattle.std.proofs.lemmas.Bool.Decides.{nat_tests}
use Rattle.st_il.specs.Notation.{is_name_byte, IsUpName, IsAtom, single, dotted}

-- whether the bytes end an atom, where a name is due or has begun
abbrev pub is_rest : Bool → List ℕ → Bool
is_rest due [] = not due
is_rest true (byte ∷ bytes) = is_ascii_uppercase byte && is_rest false bytes
is_rest false (byte ∷ bytes) = if byte == 46 then is_rest true bytes else (is_name_byte byte && is_rest false bytes)

abbrev AreNameBytes : List ℕ → Type 0
AreNameBytes = AllByRecursion (λ b. IsTrue (is_name_byte b))

both-true : (a b : Bool) → (a && b) ≡ true → (a ≡ true) × (b ≡ true)
both-true true b e = (refl, e)
both-true false b e = absurd (cc)

-- ---- an atom is read

other_byte : (byte : ℕ) → IsTrue (is_name_byte byte) → (byte == 46) ≡ false
other_byte byte h = go (byte == 46) refl
  where
    same : (byte == 46) ≡ true → byte ≡ 46
    same e = grind (arith, nat_tests)

    go : (b : Bool) → (byte == 46) ≡ b → b ≡ false
    go false e = refl
    go true e = let at : IsTrue (is_name_byte 46) = subst (λ b. IsTrue (is_name_byte b)) (same e) h in absurd (cc)

bytes-read : (bytes more : List ℕ) → AreNameBytes bytes → is_rest false (bytes ++ more) ≡ is_rest false more
bytes-read [] more h = refl
bytes-read (byte ∷ bytes) more h =
    ap (λ b. if b then is_rest true (bytes ++ more) else (is_name_byte byte && is_rest false (bytes ++ more))) (other_byte byte h.0)
    ∙ ap (λ b. b && is_rest false (bytes ++ more)) h.0
    ∙ bytes-read bytes more h.1

name-read : (bytes more : List ℕ) → IsUpName bytes → is_rest true (bytes ++ more) ≡ is_rest false more
name-read [] more h = absurd h
name-read (byte ∷ bytes) more h = ap (λ b. b && is_rest false (bytes ++ more)) h.0 ∙ bytes-read bytes more h.1

pub atom-read : {bytes : List ℕ} → IsAtom bytes → is_rest true bytes ≡ true
atom-read {bytes} (single u) = ap (is_rest true) (sym (append-nil bytes)) ∙ name-read bytes [] u
atom-read (dotted first rest e u d) = ap (is_rest true) e ∙ name-read first (46 ∷ rest) u ∙ atom-read d

-- ---- what is read is an atom

-- a name may go on so: to its end, or to a dot with an atom behind it
data Goes : List ℕ → Type 0 where
  ends : {bytes : List ℕ} → AreNameBytes bytes → Goes bytes
  dot : {bytes : List ℕ} (first rest : List ℕ) → bytes ≡ first ++ 46 ∷ rest → AreNameBytes first → IsAtom rest → Goes bytes

goes_dot : (byte : ℕ) (bytes : List ℕ) → (byte == 46) ≡ true → IsAtom bytes → Goes (byte ∷ bytes)
goes_dot byte bytes e d = let same : byte ≡ 46 = grind (arith, nat_tests) in dot [] bytes (ap (λ b. b ∷ bytes) same) tt d

goes_byte : (byte : ℕ) (bytes : List ℕ) → IsTrue (is_name_byte byte) → Goes bytes → Goes (byte ∷ bytes)
goes_byte byte bytes h (ends a) = ends (h, a)
goes_byte byte bytes h (dot first rest e a d) = dot (byte ∷ first) rest (ap (λ bs. byte ∷ bs) e) (h, a) d

atom_of : (byte : ℕ) (bytes : List ℕ) → IsTrue (is_ascii_uppercase byte) → Goes bytes → IsAtom (byte ∷ bytes)
atom_of byte bytes h (ends a) = single (h, a)
atom_of byte bytes h (dot first rest e a d) = dotted (byte ∷ first) rest (ap (λ bs. byte ∷ bs) e) (h, a) d

by_byte : (byte : ℕ) (bytes : List ℕ) (b : Bool) → (byte == 46) ≡ b → (if b then is_rest true bytes else (is_name_byte byte && is_rest false bytes)) ≡ true
    → (is_rest true bytes ≡ true → IsAtom bytes) → (is_rest false bytes ≡ true → Goes bytes) → Goes (byte ∷ bytes)
by_byte byte bytes true f e atom goes = goes_dot byte bytes f (atom e)
by_byte byte bytes false f e atom goes = let b = both-true (is_name_byte byte) (is_rest false bytes) e in goes_byte byte bytes b.0 (goes b.1)

mutual
  pub atom_from : (bytes : List ℕ) → is_rest true bytes ≡ true → IsAtom bytes
  atom_from [] e = absurd (cc)
  atom_from (byte ∷ bytes) e = let b = both-true (is_ascii_uppercase byte) (is_rest false bytes) e in atom_of byte bytes b.0 (goes_from bytes b.1)

  goes_from : (bytes : List ℕ) → is_rest false bytes ≡ true → Goes bytes
  goes_from [] e = ends tt
  goes_from (byte ∷ bytes) e = by_byte byte bytes (byte == 46) refl e (λ f. atom_from bytes f) (λ f. goes_from bytes f)

pub is_atom-exact : (bytes : List ℕ) → IsTrue (is_rest true bytes) ↔ IsAtom bytes
is_atom-exact bytes = (atom_from bytes, atom-read)

-- ---- the loop

pub told : (bytes : List ℕ) (b : Bool) → b ≡ is_rest true bytes → IsTrue b ↔ IsAtom bytes
told bytes b e = subst (λ c. IsTrue c ↔ IsAtom bytes) (sym e) (is_atom-exact bytes)

here : (bytes : List ℕ) (i : ℕ) → i < length bytes → drop i bytes ≡ get_or bytes i 0 ∷ drop (i + 1) bytes
here bytes i h = drop_more bytes i 0 h

pub no_capital : (bytes : List ℕ) (i : ℕ) (waits : Bool) → i < length bytes → waits ≡ true → is_rest true bytes ≡ is_rest waits (drop i bytes) → is_ascii_uppercase (get_or bytes i 0) ≡ false → false ≡ is_rest true bytes
no_capital bytes i waits h w e f =
    sym (e ∙ ap (λ b. is_rest b (drop i bytes)) w ∙ ap (is_rest true) (here bytes i h) ∙ ap (λ b. b && is_rest false (drop (i + 1) bytes)) f)

pub no_name_byte : (bytes : List ℕ) (i : ℕ) (waits : Bool) → i < length bytes → waits ≡ false → is_rest true bytes ≡ is_rest waits (drop i bytes) → get_or bytes i 0 ≢ 46 → is_name_byte (get_or bytes i 0) ≡ false → false ≡ is_rest true bytes
no_name_byte bytes i waits h w e n f =
    let dot : (get_or bytes i 0 == 46) ≡ false = grind (arith, nat_tests) in
    sym (e ∙ ap (λ b. is_rest b (drop i bytes)) w ∙ ap (is_rest false) (here bytes i h)
    ∙ ap (λ b. if b then is_rest true (drop (i + 1) bytes) else (is_name_byte (get_or bytes i 0) && is_rest false (drop (i + 1) bytes))) dot
    ∙ ap (λ b. b && is_rest false (drop (i + 1) bytes)) f)

pub at_end : (bytes : List ℕ) (i : ℕ) (waits : Bool) → length bytes ≤ i → is_rest true bytes ≡ is_rest waits (drop i bytes) → not waits ≡ is_rest true bytes
at_end bytes i waits h e = sym (e ∙ ap (is_rest waits) (drop_all i bytes h))
