-- Pieces that are read one behind another: what else the text can be, once some of them are read.
use Rattle.std.proofs.Common.{◌≡◌, ℕ, List, [], ◌∷◌, ◌++◌, refl, sym, subst, ◌∙◌, ap, append_assoc, append-nil}
use Rattle.std.specs.List.{All, flat_map}
use Rattle.std.proofs.lemmas.List.Elements.{All-nil, All-head, All-tail, All-push}
use Rattle.std.proofs.lemmas.List.{flat_map_more}

module _ {X : Type 0} (text : X → List ℕ) (Fits : X → Type 0) (IsTail : List ℕ → Type 0) where
  -- whatever pieces and tail the bytes are, they begin with those read, and the rest is what is left of them
  abbrev pub Leaves : List ℕ → List X → List ℕ → Type 0
  Leaves bytes read rest =
      (pieces : List X) (tail : List ℕ) → All Fits pieces → IsTail tail → bytes ≡ flat_map text pieces ++ tail
      → (more : List X) × (pieces ≡ read ++ more) × All Fits more × (rest ≡ flat_map text more ++ tail)

  -- no piece stands at the front
  abbrev pub BeginsNone : List ℕ → Type 0
  BeginsNone rest =
      (x : X) (more : List X) (tail : List ℕ) → Fits x → IsTail tail → rest ≡ text x ++ (flat_map text more ++ tail) → ⊥

  -- this piece alone can stand at the front
  abbrev pub BeginsOnly : List ℕ → X → List ℕ → Type 0
  BeginsOnly rest y after =
      (x : X) (more : List X) (tail : List ℕ) → Fits x → IsTail tail → rest ≡ text x ++ (flat_map text more ++ tail)
      → (y ≡ x) × (after ≡ flat_map text more ++ tail)

  pub Leaves-start : (bytes : List ℕ) → Leaves bytes [] bytes
  Leaves-start bytes pieces tail all is_tail e = (pieces, refl, all, e)

  pub Leaves-more : (bytes : List ℕ) (read : List X) (rest : List ℕ) (y : X) (after : List ℕ)
      → Leaves bytes read rest → (IsTail rest → ⊥) → BeginsOnly rest y after → Leaves bytes (read ++ y ∷ []) after
  Leaves-more bytes read rest y after left no_tail only pieces tail all is_tail e =
      by found.0 found.1 found.2 found.3
    where
      found : (more : List X) × (pieces ≡ read ++ more) × All Fits more × (rest ≡ flat_map text more ++ tail)
      found = left pieces tail all is_tail e

      by : (more : List X) → pieces ≡ read ++ more → All Fits more → rest ≡ flat_map text more ++ tail
          → (next : List X) × (pieces ≡ read ++ y ∷ [] ++ next) × All Fits next × (after ≡ flat_map text next ++ tail)
      by [] p a r = absurd (no_tail (subst IsTail (sym r) is_tail))
      by (x ∷ next) p a r =
          let one = only x next tail (All-head Fits x next a) is_tail (r ∙ append_assoc (text x) (flat_map text next) tail) in
          (next, p ∙ ap (λ z. read ++ z ∷ next) (sym one.0) ∙ sym (append_assoc read (y ∷ []) next), All-tail Fits x next a, one.1)

  -- where no piece follows, the pieces are those read
  pub Leaves-end : (bytes : List ℕ) (read : List X) (rest : List ℕ) → Leaves bytes read rest → BeginsNone rest
      → (pieces : List X) (tail : List ℕ) → All Fits pieces → IsTail tail → bytes ≡ flat_map text pieces ++ tail
      → (read ≡ pieces) × (rest ≡ tail)
  Leaves-end bytes read rest left none pieces tail all is_tail e = by found.0 found.1 found.2 found.3
    where
      found : (more : List X) × (pieces ≡ read ++ more) × All Fits more × (rest ≡ flat_map text more ++ tail)
      found = left pieces tail all is_tail e

      by : (more : List X) → pieces ≡ read ++ more → All Fits more → rest ≡ flat_map text more ++ tail → (read ≡ pieces) × (rest ≡ tail)
      by [] p a r = (sym (p ∙ append-nil read), r)
      by (x ∷ next) p a r =
          absurd (none x next tail (All-head Fits x next a) is_tail (r ∙ append_assoc (text x) (flat_map text next) tail))

  -- where neither a piece nor a tail follows, there are no pieces
  pub Leaves-none : (bytes : List ℕ) (read : List X) (rest : List ℕ) → Leaves bytes read rest → BeginsNone rest → (IsTail rest → ⊥)
      → (pieces : List X) (tail : List ℕ) → All Fits pieces → IsTail tail → bytes ≡ flat_map text pieces ++ tail → ⊥
  Leaves-none bytes read rest left none no_tail pieces tail all is_tail e =
      no_tail (subst IsTail (sym (Leaves-end bytes read rest left none pieces tail all is_tail e).1) is_tail)

  -- these pieces are read, and the rest is left
  pub record IsRead (bytes : List ℕ) (read : List X) (rest : List ℕ) : Type 0 where
    pub fits : All Fits read
    pub front : bytes ≡ flat_map text read ++ rest
    pub leaves : Leaves bytes read rest

  pub IsRead-start : (bytes : List ℕ) (read : List X) → read ≡ [] → IsRead bytes read bytes
  IsRead-start bytes read none =
      subst (λ n. IsRead bytes n bytes) (sym none) (record { fits = All-nil Fits; front = refl; leaves = Leaves-start bytes })

  pub IsRead-more : (bytes : List ℕ) (read new : List X) (rest : List ℕ) (y : X) (after : List ℕ)
      → IsRead bytes read rest → (IsTail rest → ⊥) → Fits y → rest ≡ text y ++ after → BeginsOnly rest y after
      → new ≡ read ++ y ∷ [] → IsRead bytes new after
  IsRead-more bytes read new rest y after before no_tail fits e only more =
      subst (λ n. IsRead bytes n after) (sym more)
      (record {
        fits = All-push Fits read y before.fits fits;
        front =
            before.front ∙ ap (λ r. flat_map text read ++ r) e ∙ sym (append_assoc (flat_map text read) (text y) after)
            ∙ ap (λ z. z ++ after) (flat_map_more text [] read y);
        leaves = Leaves-more bytes read rest y after before.leaves no_tail only;
      })
