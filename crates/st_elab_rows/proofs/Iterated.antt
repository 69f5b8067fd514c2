-- The variables that an iteration names, one after another.
use Rattle.std.proofs.Common.{◌≡◌, sym, ap, ◌∙◌, ℕ, ◌+◌, ◌<◌, List, [], ◌∷◌, ◌++◌, length, map, take, get_or, append-nil, Bool, if◌then◌else◌, true, false}
use Rattle.std.specs.List.{filter}
use Rattle.std.proofs.lemmas.List.{take_more, map-append}
use Rattle.std.proofs.lemmas.List.Elements.{filter-append}
use Rattle.st_elab_table.specs.Iterations.{Variable, is_iterated, iterated_in}

module _ (depth : ℕ) (indices : List (List ℕ)) (occurs : List ℕ → Bool) where
  abbrev names_of : List Variable → List (List ℕ)
  names_of vs = iterated_in vs depth indices occurs

  names_append : (vs us : List Variable) → names_of (vs ++ us) ≡ names_of vs ++ names_of us
  names_append vs us =
      ap (map (λ (v : Variable). v.0)) (filter-append (is_iterated depth indices occurs) vs us)
      ∙ map-append (λ (v : Variable). v.0) (filter (is_iterated depth indices occurs) vs) (filter (is_iterated depth indices occurs) us)

  next_variable : (vs : List Variable) (i : ℕ) (v : Variable) → i < length vs → v ≡ get_or vs i v
      → names_of (take (i + 1) vs) ≡ names_of (take i vs) ++ names_of (v ∷ [])
  next_variable vs i v h is =
      ap names_of (take_more vs i v h ∙ ap (λ y. take i vs ++ y ∷ []) (sym is)) ∙ names_append (take i vs) (v ∷ [])

  pub named : (vs : List Variable) (i : ℕ) (v : Variable) → i < length vs → v ≡ get_or vs i v
      → is_iterated depth indices occurs v ≡ true → names_of (take i vs) ++ v.0 ∷ [] ≡ names_of (take (i + 1) vs)
  named vs i v h is e =
      sym (next_variable vs i v h is ∙ ap (λ b. names_of (take i vs) ++ map (λ (v : Variable). v.0) (if b then v ∷ [] else [])) e)

  pub not_named : (vs : List Variable) (i : ℕ) (v : Variable) → i < length vs → v ≡ get_or vs i v
      → is_iterated depth indices occurs v ≡ false → names_of (take i vs) ≡ names_of (take (i + 1) vs)
  not_named vs i v h is e =
      sym (next_variable vs i v h is ∙ ap (λ b. names_of (take i vs) ++ map (λ (v : Variable). v.0) (if b then v ∷ [] else [])) e ∙ append-nil (names_of (take i vs)))
