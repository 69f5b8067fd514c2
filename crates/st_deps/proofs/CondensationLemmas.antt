-- What groups cite, told one definition after another.
use Rattle.std.proofs.Common.{◌≡◌, ◌≢◌, ◌⊎◌, inl, inr, refl, sym, ap, ◌∙◌, subst, ℕ, zero, suc, ◌<◌, ◌==◌, List, [], ◌∷◌, ◌++◌, set, Bool, true, false, true≢false, Option, Some, None, slice_get, option_to_list, if◌then◌else◌}
use Rattle.std.proofs.lemmas.List.{length-set}
use Rattle.std.proofs.lemmas.Bool.Decides.{Decides-eqb}
use Rattle.st_graph.specs.Graph.{Edge, Stands}
use Rattle.st_graph.proofs.Positions.{below-next, get-none, get-same}
use Rattle.st_deps.specs.inner.Condensation.{other_than, other_rank, other_ranks, GroupEdge, CondensesTo}
use Rattle.st_deps.proofs.TableLemmas.{row-sound, row-old, row-new}

module _ (ranks : List ℕ) (group : ℕ) where
  other-is : (o : Option ℕ) (b : ℕ) → other_than group o ≡ Some b → (o ≡ Some b) × (b ≢ group)
  other-is None b e = let no : ⊥ = cc in absurd no
  other-is (Some rank) b e = by (rank == group) refl e
    where
      by : (t : Bool) → (rank == group) ≡ t → (if t then None else Some rank) ≡ Some b → (Some rank ≡ Some b) × (b ≢ group)
      by true h f = let no : ⊥ = cc in absurd no
      by false h f =
          let same : rank ≡ b = cc in (f, λ q. true≢false (sym ((Decides-eqb rank group).1 (same ∙ q)) ∙ h))

  other-there : (b : ℕ) → b ≢ group → other_than group (Some b) ≡ Some b
  other-there b d = by (b == group) refl
    where
      by : (t : Bool) → (b == group) ≡ t → (if t then None else Some b) ≡ Some b
      by true h = absurd (d ((Decides-eqb b group).0 h))
      by false h = refl

  abbrev Other : List ℕ → ℕ → Type 0
  Other nodes b = (j : ℕ) × (Stands nodes j × ((slice_get ranks j ≡ Some b) × (b ≢ group)))

  -- what is added is the rank of one of them, in another group
  others-sound : (nodes : List ℕ) (b : ℕ) → Stands (other_ranks ranks group nodes) b → Other nodes b
  others-sound [] b (k, e) = absurd (get-none k b e)
  others-sound (node ∷ nodes) b s = at (other_rank ranks group node) refl s (λ t. others-sound nodes b t)
    where
      later : Other nodes b → Other (node ∷ nodes) b
      later (j, ((k, f), h)) = (j, ((suc k, f), h))

      at : (o : Option ℕ) → other_rank ranks group node ≡ o → Stands (option_to_list o ++ other_ranks ranks group nodes) b → (Stands (other_ranks ranks group nodes) b → Other nodes b) → Other (node ∷ nodes) b
      at None e t more = later (more t)
      at (Some c) e (zero, f) more = let same : c ≡ b = cc in (node, ((0, refl), other-is (slice_get ranks node) b (e ∙ ap Some same)))
      at (Some c) e (suc k, f) more = later (more (k, f))

  others-complete : (nodes : List ℕ) (k j b : ℕ) → slice_get nodes k ≡ Some j → slice_get ranks j ≡ Some b → b ≢ group → Stands (other_ranks ranks group nodes) b
  others-complete [] k j b e f d = absurd (get-none k j e)
  others-complete (node ∷ nodes) zero j b e f d =
      let same : node ≡ j = cc in
      let at : other_rank ranks group node ≡ Some b = ap (other_rank ranks group) same ∙ ap (other_than group) f ∙ other-there b d in
      (0, ap (λ (o : Option ℕ). slice_get (option_to_list o ++ other_ranks ranks group nodes) 0) at)
  others-complete (node ∷ nodes) (suc k) j b e f d = deeper (other_rank ranks group node) (others-complete nodes k j b e f d)
    where
      deeper : (o : Option ℕ) → Stands (other_ranks ranks group nodes) b → Stands (option_to_list o ++ other_ranks ranks group nodes) b
      deeper None s = s
      deeper (Some c) (m, g) = (suc m, g)

module _ (graph : List (List ℕ)) (ranks : List ℕ) (count done : ℕ) (rows : List (List ℕ)) (c : CondensesTo graph ranks count done rows) where
  -- a further definition
  pub condensation-more : (group : ℕ) (row old : List ℕ) → slice_get ranks done ≡ Some group → slice_get graph done ≡ Some row → slice_get rows group ≡ Some old
      → CondensesTo graph ranks count (suc done) (set rows group (old ++ other_ranks ranks group row))
  condensation-more group row old e f there = record {
    size = length-set rows group (old ++ other_ranks ranks group row) ∙ c.size;
    sound = λ a b h. sounds a b (row-sound rows group old (other_ranks ranks group row) there a b h);
    complete = λ i j a b l h g k d. completes i j a b h g k d (below-next i done l);
  }
    where
      edge : (a b : ℕ) → a ≡ group → Other ranks group row b → GroupEdge graph ranks a b
      edge a b q (j, (s, (g, d))) = record {
        from = done;
        to = j;
        edge = (row, (f, s));
        of_first = e ∙ ap Some (sym q);
        of_second = g;
        apart = λ p. d (p ∙ q);
      }

      sounds : (a b : ℕ) → Edge rows a b ⊎ ((a ≡ group) × Stands (other_ranks ranks group row) b) → GroupEdge graph ranks a b
      sounds a b (inl h) = c.sound a b h
      sounds a b (inr (q, s)) = edge a b q (others-sound ranks group row b s)

      here : (i j a b : ℕ) → i ≡ done → Edge graph i j → slice_get ranks i ≡ Some a → slice_get ranks j ≡ Some b → b ≢ a → Edge (set rows group (old ++ other_ranks ranks group row)) a b
      here i j a b q (row', (h, (k, g))) m n d =
          let same : row' ≡ row = get-same graph i row' row h (ap (slice_get graph) q ∙ f) in
          let is : a ≡ group = get-same ranks i a group m (ap (slice_get ranks) q ∙ e) in
          subst (λ z. Edge (set rows group (old ++ other_ranks ranks group row)) z b) (sym is)
          (row-new rows group old (other_ranks ranks group row) there b (others-complete ranks group row k j b (ap (λ (r : List ℕ). slice_get r k) (sym same) ∙ g) n (λ p. d (p ∙ sym is))))

      completes : (i j a b : ℕ) → Edge graph i j → slice_get ranks i ≡ Some a → slice_get ranks j ≡ Some b → b ≢ a → (i < done) ⊎ (i ≡ done) → Edge (set rows group (old ++ other_ranks ranks group row)) a b
      completes i j a b h g k d (inl l) = row-old rows group old (other_ranks ranks group row) there a b (c.complete i j a b l h g k d)
      completes i j a b h g k d (inr q) = here i j a b q h g k d
