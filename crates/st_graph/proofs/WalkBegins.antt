-- A node is begun: the walk stays right.
use Rattle.std.proofs.Common.{◌≡◌, ◌≢◌, ◌⊎◌, inl, inr, sym, ap, ◌∙◌, subst, ℕ, suc, ◌+◌, ◌<◌, ◌≤◌, List, [], ◌∷◌, ◌++◌, length, set, map, Some, slice_get, arith}
use Rattle.std.proofs.lemmas.List.{length-set, length_push}
use Rattle.st_graph.specs.declared.walk.NodeState.{NodeState}
use Rattle.st_graph.specs.declared.walk.NodeState.TheVariants.{New, Open, Closed}
use Rattle.st_graph.specs.Reaches.{Reaches, itself}
use Rattle.st_graph.specs.Graph.{Edge, Stands}
use Rattle.st_graph.specs.inner.Walk.{IsPath, AreClosed, IsWalk, IsFollowed, LeadsOn, Leads, cost}
use Rattle.st_graph.proofs.Positions.{pair, same_position, get-same, get-front, get-behind, get-last, get-append, get-push, get-within, set-other, set-here, set-same, map-at, map-get}

module _ (graph : List (List ℕ)) (states : List NodeState) (path bounds : List ℕ) (waiting : List (ℕ × ℕ)) (count node : ℕ) (row : List ℕ)
    (w : IsWalk graph states path bounds waiting count) (new : slice_get states node ≡ Some New) (there : slice_get graph node ≡ Some row) (leads : Leads graph path node) where
  abbrev n : ℕ
  n = length path

  abbrev states' : List NodeState
  states' = set states node (Open n)

  abbrev waiting' : List (ℕ × ℕ)
  waiting' = waiting ++ map (λ (to : ℕ). (n, to)) row

  -- what was begun before is another, and stays where it stands
  other : (v : ℕ) (p : NodeState) → slice_get states v ≡ Some p → p ≢ New → v ≢ node
  other v p e d q = d (let same : Some p ≡ Some New = sym e ∙ ap (slice_get states) q ∙ new in cc)

  kept : (v : ℕ) (p : NodeState) → slice_get states v ≡ Some p → p ≢ New → slice_get states' v ≡ Some p
  kept v p e d = set-other states node v (Open n) (other v p e d) ∙ e

  was : (v : ℕ) (p : NodeState) → slice_get states' v ≡ Some p → (slice_get states v ≡ Some p) ⊎ ((v ≡ node) × (Open n ≡ p))
  was v p e = by (same_position v node)
    where
      by : (v ≡ node) ⊎ (v ≢ node) → (slice_get states v ≡ Some p) ⊎ ((v ≡ node) × (Open n ≡ p))
      by (inl q) = inr (q, set-same states node (Open n) p (ap (slice_get states') (sym q) ∙ e))
      by (inr d) = inl (sym (set-other states node v (Open n) d) ∙ e)

  on_path' : (i v : ℕ) → slice_get (path ++ node ∷ []) i ≡ Some v → slice_get states' v ≡ Some (Open i)
  on_path' i v e = by (get-push path node i v e)
    where
      by : (slice_get path i ≡ Some v) ⊎ ((i ≡ n) × (node ≡ v)) → slice_get states' v ≡ Some (Open i)
      by (inl h) = kept v (Open i) (w.path_is.on_path i v h) (λ q. cc)
      by (inr (h, q)) = ap (slice_get states') (sym q) ∙ set-here states node (Open n) New new ∙ ap (λ k. Some (Open k)) (sym h)

  is_open' : (i v : ℕ) → slice_get states' v ≡ Some (Open i) → slice_get (path ++ node ∷ []) i ≡ Some v
  is_open' i v e = by (was v (Open i) e)
    where
      by : (slice_get states v ≡ Some (Open i)) ⊎ ((v ≡ node) × (Open n ≡ Open i)) → slice_get (path ++ node ∷ []) i ≡ Some v
      by (inl h) = get-front path (node ∷ []) i v (w.path_is.is_open i v h)
      by (inr (q, o)) = let k : n ≡ i = cc in ap (slice_get (path ++ node ∷ [])) (sym k) ∙ get-last path node ∙ ap Some (sym q)

  forward' : (i j v u : ℕ) → i ≤ j → slice_get (path ++ node ∷ []) i ≡ Some v → slice_get (path ++ node ∷ []) j ≡ Some u → Reaches (Edge graph) v u
  forward' i j v u l e f = by (get-push path node i v e) (get-push path node j u f)
    where
      by : (slice_get path i ≡ Some v) ⊎ ((i ≡ n) × (node ≡ v)) → (slice_get path j ≡ Some u) ⊎ ((j ≡ n) × (node ≡ u)) → Reaches (Edge graph) v u
      by (inl h) (inl g) = w.path_is.forward i j v u l h g
      by (inl h) (inr (k, q)) = subst (Reaches (Edge graph) v) q (leads i v h)
      by (inr (k, q)) (inl g) = let s = get-within path j u g in absurd (omega (arith, k, s, l))
      by (inr (k, q)) (inr (m, r)) = subst (Reaches (Edge graph) v) (sym q ∙ r) itself

  back' : (i v u : ℕ) → slice_get (path ++ node ∷ []) i ≡ Some v → slice_get (path ++ node ∷ []) (suc i) ≡ Some u → Stands (bounds ++ n ∷ []) (suc i) ⊎ Reaches (Edge graph) u v
  back' i v u e f = by (get-push path node i v e) (get-push path node (suc i) u f)
    where
      old : Stands bounds (suc i) ⊎ Reaches (Edge graph) u v → Stands (bounds ++ n ∷ []) (suc i) ⊎ Reaches (Edge graph) u v
      old (inl (k, s)) = inl (k, get-front bounds (n ∷ []) k (suc i) s)
      old (inr r) = inr r

      by : (slice_get path i ≡ Some v) ⊎ ((i ≡ n) × (node ≡ v)) → (slice_get path (suc i) ≡ Some u) ⊎ ((suc i ≡ n) × (node ≡ u)) → Stands (bounds ++ n ∷ []) (suc i) ⊎ Reaches (Edge graph) u v
      by (inl h) (inl g) = old (w.path_is.back i v u h g)
      by (inl h) (inr (k, q)) = inl (length bounds, get-last bounds n ∙ ap Some (sym k))
      by (inr (k, q)) (inl g) = let s = get-within path (suc i) u g in absurd (omega (arith, k, s))
      by (inr (k, q)) (inr (m, r)) = absurd (omega (arith, k, m))

  bounds_rise' : (k l x y : ℕ) → k < l → slice_get (bounds ++ n ∷ []) k ≡ Some x → slice_get (bounds ++ n ∷ []) l ≡ Some y → x < y
  bounds_rise' k l x y h e f = by (get-push bounds n k x e) (get-push bounds n l y f)
    where
      by : (slice_get bounds k ≡ Some x) ⊎ ((k ≡ length bounds) × (n ≡ x)) → (slice_get bounds l ≡ Some y) ⊎ ((l ≡ length bounds) × (n ≡ y)) → x < y
      by (inl a) (inl b) = w.path_is.bounds_rise k l x y h a b
      by (inl a) (inr (m, q)) = let s = w.path_is.bounds_within x (k, a) in omega (arith, s, q)
      by (inr (m, q)) (inl b) = let s = get-within bounds l y b in absurd (omega (arith, m, s, h))
      by (inr (m, q)) (inr (o, r)) = absurd (omega (arith, m, o, h))

  bounds_within' : (b : ℕ) → Stands (bounds ++ n ∷ []) b → b < length (path ++ node ∷ [])
  bounds_within' b (k, e) = by (get-push bounds n k b e)
    where
      by : (slice_get bounds k ≡ Some b) ⊎ ((k ≡ length bounds) × (n ≡ b)) → b < length (path ++ node ∷ [])
      by (inl a) = let s = w.path_is.bounds_within b (k, a) in let o = length_push path node in omega (arith, s, o)
      by (inr (m, q)) = let o = length_push path node in omega (arith, q, o)

  path-begins : IsPath graph states' (path ++ node ∷ []) (bounds ++ n ∷ [])
  path-begins = record { on_path = on_path'; is_open = is_open'; forward = forward'; back = back'; bounds_rise = bounds_rise'; bounds_within = bounds_within' }

  -- an edge that waits waited before, or is one of the row
  abbrev Waits : ℕ → ℕ → ℕ → Type 0
  Waits k i y = (slice_get waiting k ≡ Some (pair i y)) ⊎ ((m : ℕ) × ((k ≡ length waiting + m) × ((i ≡ n) × (slice_get row m ≡ Some y))))

  waited : (k i y : ℕ) → slice_get waiting' k ≡ Some (pair i y) → Waits k i y
  waited k i y e = by (get-append waiting (map (λ (to : ℕ). (n, to)) row) k (i, y) e)
    where
      paired : (m : ℕ) → k ≡ length waiting + m → (z : ℕ) × ((slice_get row m ≡ Some z) × (pair n z ≡ pair i y)) → Waits k i y
      paired m h (z, (g, q)) = inr (m, (h, (ap (λ (t : ℕ × ℕ). t.0) (sym q), g ∙ ap (λ (t : ℕ × ℕ). Some t.1) q)))

      by : (slice_get waiting k ≡ Some (pair i y)) ⊎ ((m : ℕ) × ((k ≡ length waiting + m) × (slice_get (map (λ (to : ℕ). (n, to)) row) m ≡ Some (pair i y)))) → Waits k i y
      by (inl h) = inl h
      by (inr (m, (h, g))) = paired m h (map-get (λ (to : ℕ). (n, to)) row m (i, y) g)

  waits' : (i y : ℕ) → Stands waiting' (i, y) → (v : ℕ) × ((slice_get (path ++ node ∷ []) i ≡ Some v) × Edge graph v y)
  waits' i y (k, e) = by (waited k i y e)
    where
      old : (v : ℕ) × ((slice_get path i ≡ Some v) × Edge graph v y) → (v : ℕ) × ((slice_get (path ++ node ∷ []) i ≡ Some v) × Edge graph v y)
      old (v, (h, c)) = (v, (get-front path (node ∷ []) i v h, c))

      by : Waits k i y → (v : ℕ) × ((slice_get (path ++ node ∷ []) i ≡ Some v) × Edge graph v y)
      by (inl h) = old (w.waiting_is.waits i y (k, h))
      by (inr (m, (h, (q, g)))) = (node, (ap (slice_get (path ++ node ∷ [])) q ∙ get-last path node, (row, (there, (m, g)))))

  rise' : (k l i j y z : ℕ) → k ≤ l → slice_get waiting' k ≡ Some (pair i y) → slice_get waiting' l ≡ Some (pair j z) → i ≤ j
  rise' k l i j y z h e f = by (waited k i y e) (waited l j z f)
    where
      low : (v : ℕ) × ((slice_get path i ≡ Some v) × Edge graph v y) → i < n
      low (v, (g, c)) = get-within path i v g

      by : Waits k i y → Waits l j z → i ≤ j
      by (inl a) (inl b) = w.waiting_is.rise k l i j y z h a b
      by (inl a) (inr (m, (o, (q, g)))) = let s = low (w.waiting_is.waits i y (k, a)) in omega (arith, s, q)
      by (inr (m, (o, (q, g)))) (inl b) = let s = get-within waiting l (j, z) b in absurd (omega (arith, o, s, h))
      by (inr (m, (o, (q, g)))) (inr (m', (o', (q', g')))) = omega (arith, q, q')

  leads-on : (i : ℕ) → i < n → (p : NodeState) → LeadsOn bounds i p → LeadsOn (bounds ++ n ∷ []) i p
  leads-on i l New on = on
  leads-on i l (Open k) on = λ b (m, e) h. by b h (get-push bounds n m b e)
    where
      by : (b : ℕ) → b ≤ i → {m : ℕ} → (slice_get bounds m ≡ Some b) ⊎ ((m ≡ length bounds) × (n ≡ b)) → b ≤ k
      by b h {m = m} (inl a) = on b (m, a) h
      by b h (inr (o, q)) = absurd (omega (arith, h, q, l))
  leads-on i l (Closed c) on = on

  followed' : (i v y : ℕ) → slice_get (path ++ node ∷ []) i ≡ Some v → Edge graph v y → Stands waiting' (i, y) ⊎ IsFollowed states' (bounds ++ n ∷ []) i y
  followed' i v y e c = by (get-push path node i v e)
    where
      Goal : Type 0
      Goal = Stands waiting' (i, y) ⊎ IsFollowed states' (bounds ++ n ∷ []) i y

      begun : (p : NodeState) → LeadsOn bounds i p → p ≢ New
      begun New on q = on
      begun (Open k) on q = cc
      begun (Closed d) on q = cc

      old : i < n → Stands waiting (i, y) ⊎ IsFollowed states bounds i y → Goal
      old l (inl (k, s)) = inl (k, get-front waiting (map (λ (to : ℕ). (n, to)) row) k (i, y) s)
      old l (inr (p, (s, on))) = inr (p, (kept y p s (begun p on), leads-on i l p on))

      fresh : i ≡ n → (r : List ℕ) → slice_get graph node ≡ Some r → Stands r y → Goal
      fresh h r g (m, s) =
          let same : r ≡ row = get-same graph node r row g there in
          let here : slice_get row m ≡ Some y = ap (λ (z : List ℕ). slice_get z m) (sym same) ∙ s in
          inl (length waiting + m, get-behind waiting (map (λ (to : ℕ). (n, to)) row) m ∙ map-at (λ (to : ℕ). (n, to)) row m y here ∙ ap (λ k. Some (k, y)) (sym h))

      by : (slice_get path i ≡ Some v) ⊎ ((i ≡ n) × (node ≡ v)) → Goal
      by (inl h) = old (get-within path i v h) (w.waiting_is.followed i v y h c)
      by (inr (h, q)) = fresh h c.0 (ap (slice_get graph) q ∙ c.1.0) c.1.1

  was-closed : (v c : ℕ) → slice_get states' v ≡ Some (Closed c) → slice_get states v ≡ Some (Closed c)
  was-closed v c e = by (was v (Closed c) e)
    where
      by : (slice_get states v ≡ Some (Closed c)) ⊎ ((v ≡ node) × (Open n ≡ Closed c)) → slice_get states v ≡ Some (Closed c)
      by (inl h) = h
      by (inr (q, o)) = let no : ⊥ = cc in absurd no

  closed-begins : AreClosed graph states' count
  closed-begins = record {
    within = λ i c e. w.closed_is.within i c (was-closed i c e);
    together = λ i j c e f. w.closed_is.together i j c (was-closed i c e) (was-closed j c f);
    falls = λ i j c e h. still j c (w.closed_is.falls i j c (was-closed i c e) h);
  }
    where
      still : (j c : ℕ) → (d : ℕ) × ((slice_get states j ≡ Some (Closed d)) × (d ≤ c)) → (d : ℕ) × ((slice_get states' j ≡ Some (Closed d)) × (d ≤ c))
      still j c (d, (f, l)) = (d, (kept j (Closed d) f (λ q. cc), l))

  pub walk-begins : IsWalk graph states' (path ++ node ∷ []) (bounds ++ n ∷ []) waiting' count
  walk-begins = record {
    size = length-set states node (Open n) ∙ w.size;
    path_is = path-begins;
    waiting_is = record { waits = waits'; rise = rise'; followed = followed' };
    closed_is = closed-begins;
  }

-- what is begun stays so
pub begun-other : (states : List NodeState) (node k v : ℕ) → slice_get (set states node (Open k)) v ≡ Some New → slice_get states v ≡ Some New
begun-other states node k v e = by (same_position v node)
  where
    by : (v ≡ node) ⊎ (v ≢ node) → slice_get states v ≡ Some New
    by (inl q) =
        let o : Open k ≡ New = set-same states node (Open k) New (ap (slice_get (set states node (Open k))) (sym q) ∙ e) in
        let no : ⊥ = cc in absurd no
    by (inr d) = sym (set-other states node v (Open k) d) ∙ e

pub begun-here : (states : List NodeState) (node k : ℕ) → slice_get (set states node (Open k)) node ≡ Some New → ⊥
begun-here states node k e = let o : Open k ≡ New = set-same states node (Open k) New e in let no : ⊥ = cc in no

-- the same walk
pub walk_same : (graph : List (List ℕ)) (a a' : List NodeState) (b b' c c' : List ℕ) (d d' : List (ℕ × ℕ)) (e e' : ℕ) → a ≡ a' → b ≡ b' → c ≡ c' → d ≡ d' → e ≡ e'
    → IsWalk graph a b c d e → IsWalk graph a' b' c' d' e'
walk_same graph a a' b b' c c' d d' e e' p q r s t w =
    subst (λ (z : List NodeState). IsWalk graph z b' c' d' e') p
    (subst (λ (z : List ℕ). IsWalk graph a z c' d' e') q
    (subst (λ (z : List ℕ). IsWalk graph a b z d' e') r
    (subst (λ (z : List (ℕ × ℕ)). IsWalk graph a b c z e') s
    (subst (λ (z : ℕ). IsWalk graph a b c d z) t w))))

-- and what it costs
pub cost_less : (graph : List (List ℕ)) (a a' : List NodeState) (b b' c c' : List ℕ) (d d' : List (ℕ × ℕ)) (n : ℕ) → a ≡ a' → b ≡ b' → c ≡ c' → d ≡ d'
    → cost graph a b c d < n → cost graph a' b' c' d' < n
cost_less graph a a' b b' c c' d d' n p q r s h =
    subst (λ (z : List NodeState). cost graph z b' c' d' < n) p
    (subst (λ (z : List ℕ). cost graph a z c' d' < n) q
    (subst (λ (z : List ℕ). cost graph a b z d' < n) r
    (subst (λ (z : List (ℕ × ℕ)). cost graph a b c z < n) s h)))
