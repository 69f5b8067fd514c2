-- An edge is followed, components are joined, and the last component is closed: the walk stays right.
use Rattle.std.proofs.Common.{◌≡◌, ◌≢◌, ◌⊎◌, inl, inr, sym, ap, ◌∙◌, subst, ℕ, zero, suc, ◌+◌, ◌<◌, ◌≤◌, List, [], ◌∷◌, ◌++◌, length, take, Option, Some, slice_get, ◌-◌, arith}
use Rattle.std.proofs.lemmas.List.{append-nil, length-take-le}
use Rattle.std.specs.Prelude.{unwrap_or}
use Rattle.std.proofs.lemmas.Bool.{cases_lt}
use Rattle.st_graph.specs.declared.walk.NodeState.{NodeState}
use Rattle.st_graph.specs.declared.walk.NodeState.TheVariants.{New, Open, Closed}
use Rattle.st_graph.specs.Reaches.{Reaches, itself}
use Rattle.st_graph.specs.Graph.{Edge, Stands}
use Rattle.st_graph.specs.inner.Walk.{IsPath, IsWaiting, IsWalk, IsFollowed, LeadsOn, Leads, CutsTo, Closes, IsRising, start_of}
use Rattle.st_graph.proofs.Positions.{pair, get-none, get-same, get-front, get-last, get-append, get-push, get-taken, get-within, get-at, get-before, reaches-trans, edge-reaches}

pub taken-get : {A : Type 0} (xs : List A) (n k : ℕ) (x : A) → k < n → slice_get xs k ≡ Some x → slice_get (take n xs) k ≡ Some x
taken-get xs zero k x h e = absurd (omega arith)
taken-get [] (suc n) k x h e = absurd (get-none k x e)
taken-get (y ∷ xs) (suc n) zero x h e = e
taken-get (y ∷ xs) (suc n) (suc k) x h e = taken-get xs n k x (omega arith) e

-- ---- bounds

pub start-at : (bs : List ℕ) → 0 < length bs → slice_get bs (length bs - 1) ≡ Some (start_of bs)
start-at bs some = by (get-at bs (length bs - 1) (omega (arith, some)))
  where
    by : (x : ℕ) × (slice_get bs (length bs - 1) ≡ Some x) → slice_get bs (length bs - 1) ≡ Some (start_of bs)
    by (x, e) = let s : start_of bs ≡ x = ap (λ (o : Option ℕ). unwrap_or o 0) e in e ∙ ap Some (sym s)

-- no bound is behind the start of the last component
pub start-top : (bs : List ℕ) → IsRising bs → (c : ℕ) → Stands bs c → c ≤ start_of bs
start-top bs rise c (k, e) = by (cases_lt k (length bs - 1))
  where
    within : k < length bs
    within = get-within bs k c e

    at : slice_get bs (length bs - 1) ≡ Some (start_of bs)
    at = start-at bs (omega (arith, within))

    by : (k < length bs - 1) ⊎ (length bs - 1 ≤ k) → c ≤ start_of bs
    by (inl l) = let h = rise k (length bs - 1) c (start_of bs) l e at in omega (arith, h)
    by (inr l) =
        let q : k ≡ length bs - 1 = omega (arith, l, within) in
        let same : c ≡ start_of bs = get-same bs k c (start_of bs) e (ap (slice_get bs) q ∙ at) in omega (arith, same)

-- the start of the last component is on the path
pub start-within : (bs : List ℕ) (n : ℕ) → 0 < n → ((b : ℕ) → Stands bs b → b < n) → start_of bs < n
start-within [] n some h = some
start-within (b ∷ bs) n some h = h (start_of (b ∷ bs)) (length (b ∷ bs) - 1, start-at (b ∷ bs) (omega arith))

-- where the start is behind a position, there is a bound
pub start-some : (bs : List ℕ) (at : ℕ) → at < start_of bs → 0 < length bs
start-some [] at h = absurd (omega (arith, h))
start-some (b ∷ bs) at h = omega arith

-- ---- what leads back

module _ (graph : List (List ℕ)) (states : List NodeState) (path bounds : List ℕ) (p : IsPath graph states path bounds) (start : ℕ) (top : (c : ℕ) → Stands bounds c → c ≤ start) where
  back-step : (i j v u : ℕ) → start ≤ j → j ≤ suc i → slice_get path (suc i) ≡ Some v → slice_get path j ≡ Some u
      → ((y : ℕ) → slice_get path i ≡ Some y → j ≤ i → Reaches (Edge graph) y u) → Reaches (Edge graph) v u
  back-step i j v u h g e f more = by (cases_lt i j)
    where
      one : (y : ℕ) → slice_get path i ≡ Some y → j ≤ i → Stands bounds (suc i) ⊎ Reaches (Edge graph) v y → Reaches (Edge graph) v u
      one y d l (inl s) = let t = top (suc i) s in absurd (omega (arith, t, l, h))
      one y d l (inr r) = reaches-trans r (more y d l)

      step : j ≤ i → (y : ℕ) × (slice_get path i ≡ Some y) → Reaches (Edge graph) v u
      step l (y, d) = one y d l (p.back i y v d e)

      by : (i < j) ⊎ (j ≤ i) → Reaches (Edge graph) v u
      by (inl l) =
          let z : j ≡ suc i = omega (arith, l, g) in
          let same : v ≡ u = get-same path (suc i) v u e (ap (slice_get path) (sym z) ∙ f) in subst (Reaches (Edge graph) v) same itself
      by (inr l) = step l (get-before path i v e)

  -- what stands in the last component leads to what stands before it there
  pub back-to : (i j v u : ℕ) → start ≤ j → j ≤ i → slice_get path i ≡ Some v → slice_get path j ≡ Some u → Reaches (Edge graph) v u
  back-to zero j v u h g e f =
      let z : j ≡ zero = omega (arith, g) in
      let same : v ≡ u = get-same path zero v u e (ap (slice_get path) (sym z) ∙ f) in subst (Reaches (Edge graph) v) same itself
  back-to (suc i) j v u h g e f = back-step i j v u h g e f (λ y d l. back-to i j y u h l d f)

  -- all on the path lead to what is in the last component
  pub all-lead : (i v : ℕ) → start ≤ i → slice_get path i ≡ Some v → Leads graph path v
  all-lead i v h e k u d = by (cases_lt i k)
    where
      by : (i < k) ⊎ (k ≤ i) → Reaches (Edge graph) u v
      by (inl l) = back-to k i u v h (omega (arith, l)) d e
      by (inr l) = p.forward k i u v l d e

  -- and to what that one has an edge to
  pub all-lead-on : (i v y : ℕ) → start ≤ i → slice_get path i ≡ Some v → Edge graph v y → Leads graph path y
  all-lead-on i v y h e c k u d = reaches-trans (all-lead i v h e k u d) (edge-reaches graph v y c)

-- ---- an edge is followed

module _ (graph : List (List ℕ)) (states : List NodeState) (path bounds : List ℕ) (rest : List (ℕ × ℕ)) (i y count : ℕ)
    (w : IsWalk graph states path bounds (rest ++ (i, y) ∷ []) count) where
  -- what waits is left, but for the last; bounds are left that lie no further than where the edge leads
  passed : (bounds' behind : List ℕ) → bounds ≡ bounds' ++ behind → (p : NodeState) → slice_get states y ≡ Some p → ((j : ℕ) → LeadsOn bounds' j p) → IsWaiting graph states path bounds' rest
  passed bounds' behind are p there on = record {
    waits = λ j z (k, e). w.waiting_is.waits j z (k, get-front rest ((i, y) ∷ []) k (j, z) e);
    rise = λ k l a b z x h e f. w.waiting_is.rise k l a b z x h (get-front rest ((i, y) ∷ []) k (a, z) e) (get-front rest ((i, y) ∷ []) l (b, x) f);
    followed = λ j v z e c. by j z (w.waiting_is.followed j v z e c);
  }
    where
      less : (j : ℕ) (q : NodeState) → LeadsOn bounds j q → LeadsOn bounds' j q
      less j New h = h
      less j (Open k) h = λ b (m, e) l. h b (m, subst (λ bs. slice_get bs m ≡ Some b) (sym are) (get-front bounds' behind m b e)) l
      less j (Closed c) h = h

      last : (j z k : ℕ) → (slice_get rest k ≡ Some (j, z)) ⊎ ((k ≡ length rest) × (pair i y ≡ pair j z)) → Stands rest (j, z) ⊎ IsFollowed states bounds' j z
      last j z k (inl e) = inl (k, e)
      last j z k (inr (h, q)) = inr (p, (ap (slice_get states) (ap (λ (t : ℕ × ℕ). t.1) (sym q)) ∙ there, on j))

      by : (j z : ℕ) → Stands (rest ++ (i, y) ∷ []) (j, z) ⊎ IsFollowed states bounds j z → Stands rest (j, z) ⊎ IsFollowed states bounds' j z
      by j z (inl (k, e)) = last j z k (get-push rest (i, y) k (j, z) e)
      by j z (inr (q, (s, h))) = inr (q, (s, less j q h))

  -- it leads to a component that is closed
  pub walk-passes : (c : ℕ) → slice_get states y ≡ Some (Closed c) → IsWalk graph states path bounds rest count
  walk-passes c there = record {
    size = w.size;
    path_is = w.path_is;
    waiting_is = passed bounds [] (sym (append-nil bounds)) (Closed c) there (λ j. tt);
    closed_is = w.closed_is;
  }

  -- it leads back along the path: the components from there on are one
  pub walk-joins : (k : ℕ) (bounds' : List ℕ) → start_of bounds ≤ i → slice_get states y ≡ Some (Open k) → CutsTo k bounds bounds' → IsWalk graph states path bounds' rest count
  walk-joins k bounds' h there cut = record {
    size = w.size;
    path_is = record {
      on_path = w.path_is.on_path;
      is_open = w.path_is.is_open;
      forward = w.path_is.forward;
      back = λ j v u e f. joined j v u e f (w.path_is.back j v u e f);
      bounds_rise = λ a b x z l e f. w.path_is.bounds_rise a b x z l (front a x e) (front b z f);
      bounds_within = λ b (m, e). w.path_is.bounds_within b (m, front m b e);
    };
    waiting_is = passed bounds' cut.cut.behind cut.cut.are (Open k) there (λ j b s l. cut.near b s);
    closed_is = w.closed_is;
  }
    where
      front : (m b : ℕ) → slice_get bounds' m ≡ Some b → slice_get bounds m ≡ Some b
      front m b e = subst (λ bs. slice_get bs m ≡ Some b) (sym cut.cut.are) (get-front bounds' cut.cut.behind m b e)

      source : (v : ℕ) × ((slice_get path i ≡ Some v) × Edge graph v y)
      source = w.waiting_is.waits i y (length rest, get-last rest (i, y))

      lead : Leads graph path y
      lead = all-lead-on graph states path bounds w.path_is (start_of bounds) (start-top bounds w.path_is.bounds_rise) i source.0 y h source.1.0 source.1.1

      joined : (j v u : ℕ) → slice_get path j ≡ Some v → slice_get path (suc j) ≡ Some u → Stands bounds (suc j) ⊎ Reaches (Edge graph) u v → Stands bounds' (suc j) ⊎ Reaches (Edge graph) u v
      joined j v u e f (inr r) = inr r
      joined j v u e f (inl (m, s)) = by (get-append bounds' cut.cut.behind m (suc j) (subst (λ bs. slice_get bs m ≡ Some (suc j)) cut.cut.are s))
        where
          by : (slice_get bounds' m ≡ Some (suc j)) ⊎ ((o : ℕ) × ((m ≡ length bounds' + o) × (slice_get cut.cut.behind o ≡ Some (suc j)))) → Stands bounds' (suc j) ⊎ Reaches (Edge graph) u v
          by (inl g) = inl (m, g)
          by (inr (o, (q, g))) =
              let far = cut.cut.far (suc j) (o, g) in
              inr (reaches-trans (lead (suc j) u f) (w.path_is.forward k j y v (omega (arith, far)) (w.path_is.is_open k y there) e))

-- ---- the last component is closed

module _ (graph : List (List ℕ)) (states : List NodeState) (path bounds : List ℕ) (waiting : List (ℕ × ℕ)) (count : ℕ)
    (w : IsWalk graph states path bounds waiting count) (start : ℕ) (states' : List NodeState) (bounds' : List ℕ)
    (top : (c : ℕ) → Stands bounds c → c ≤ start) (within : start < length path)
    (cut : ((start ≡ 0) × ((bounds ≡ []) × (bounds' ≡ []))) ⊎ (bounds ≡ bounds' ++ start ∷ []))
    (followed : (i y : ℕ) → Stands waiting (i, y) → i < start) (closes : Closes path start count states states') where
  front : (m b : ℕ) → slice_get bounds' m ≡ Some b → slice_get bounds m ≡ Some b
  front m b e = by cut
    where
      by : ((start ≡ 0) × ((bounds ≡ []) × (bounds' ≡ []))) ⊎ (bounds ≡ bounds' ++ start ∷ []) → slice_get bounds m ≡ Some b
      by (inl (z, (f, g))) = absurd (get-none m b (subst (λ bs. slice_get bs m ≡ Some b) g e))
      by (inr q) = subst (λ bs. slice_get bs m ≡ Some b) (sym q) (get-front bounds' (start ∷ []) m b e)

  -- a bound that is not the start is left
  left : (b : ℕ) → Stands bounds b → b < start → Stands bounds' b
  left b (m, e) l = by cut
    where
      one : (slice_get bounds' m ≡ Some b) ⊎ ((m ≡ length bounds') × (start ≡ b)) → Stands bounds' b
      one (inl h) = (m, h)
      one (inr (h, q)) = absurd (omega (arith, q, l))

      by : ((start ≡ 0) × ((bounds ≡ []) × (bounds' ≡ []))) ⊎ (bounds ≡ bounds' ++ start ∷ []) → Stands bounds' b
      by (inl (z, (f, g))) = absurd (omega (arith, z, l))
      by (inr q) = one (get-push bounds' start m b (subst (λ bs. slice_get bs m ≡ Some b) q e))

  -- bounds that are left are before the start
  left-less : (b : ℕ) → Stands bounds' b → b < start
  left-less b (m, e) = by cut
    where
      by : ((start ≡ 0) × ((bounds ≡ []) × (bounds' ≡ []))) ⊎ (bounds ≡ bounds' ++ start ∷ []) → b < start
      by (inl (z, (f, g))) = absurd (get-none m b (subst (λ bs. slice_get bs m ≡ Some b) g e))
      by (inr q) = w.path_is.bounds_rise m (length bounds') b start (get-within bounds' m b e) (front m b e) (subst (λ bs. slice_get bs (length bounds') ≡ Some start) (sym q) (get-last bounds' start))

  on : (i v : ℕ) → slice_get path i ≡ Some v → slice_get states v ≡ Some (Open i)
  on = w.path_is.on_path

  here : (i v : ℕ) → start ≤ i → slice_get path i ≡ Some v → slice_get states' v ≡ Some (Closed count)
  here i v h e = closes.here i v h (get-within path i v e) e (get-within states v (Open i) (on i v e))

  -- what is not in the last component is as before
  kept : (v : ℕ) (p : NodeState) → slice_get states v ≡ Some p → ((i : ℕ) → start ≤ i → p ≢ Open i) → slice_get states' v ≡ Some p
  kept v p e d = by (get-at states' v (let h = get-within states v p e in let s = closes.size in omega (arith, h, s)))
    where
      one : (q : NodeState) → slice_get states' v ≡ Some q → (slice_get states v ≡ Some q) ⊎ ((i : ℕ) × ((start ≤ i) × ((slice_get path i ≡ Some v) × (q ≡ Closed count)))) → slice_get states' v ≡ Some p
      one q f (inl g) = f ∙ sym g ∙ e
      one q f (inr (i, (l, (g, s)))) = absurd (d i l (get-same states v p (Open i) e (on i v g)))

      by : (q : NodeState) × (slice_get states' v ≡ Some q) → slice_get states' v ≡ Some p
      by (q, f) = one q f (closes.there v q f)

  kept-closed : (v c : ℕ) → slice_get states v ≡ Some (Closed c) → slice_get states' v ≡ Some (Closed c)
  kept-closed v c e = kept v (Closed c) e (λ i l q. cc)

  kept-open : (v i : ℕ) → i < start → slice_get states v ≡ Some (Open i) → slice_get states' v ≡ Some (Open i)
  kept-open v i l e = kept v (Open i) e (λ j h q. let same : i ≡ j = cc in omega (arith, same, h, l))

  path-cut : IsPath graph states' (take start path) bounds'
  path-cut = record {
    on_path = λ i v e. let t = get-taken path start i v e in kept-open v i t.0 (on i v t.1);
    is_open = λ i v e. open-left i v e (closes.there v (Open i) e);
    forward = λ i j v u l e f. w.path_is.forward i j v u l (get-taken path start i v e).1 (get-taken path start j u f).1;
    back = λ i v u e f. let t = get-taken path start (suc i) u f in still (suc i) u v t.0 (w.path_is.back i v u (get-taken path start i v e).1 t.1);
    bounds_rise = λ k l x y h e f. w.path_is.bounds_rise k l x y h (front k x e) (front l y f);
    bounds_within = λ b s. let l = left-less b s in let n = length-take-le start path (omega (arith, within)) in omega (arith, l, n);
  }
    where
      still : (b u v : ℕ) → b < start → Stands bounds b ⊎ Reaches (Edge graph) u v → Stands bounds' b ⊎ Reaches (Edge graph) u v
      still b u v l (inl s) = inl (left b s l)
      still b u v l (inr r) = inr r

      open-left : (i v : ℕ) → slice_get states' v ≡ Some (Open i) → (slice_get states v ≡ Some (Open i)) ⊎ ((j : ℕ) × ((start ≤ j) × ((slice_get path j ≡ Some v) × (Open i ≡ Closed count)))) → slice_get (take start path) i ≡ Some v
      open-left i v f (inr (j, (l, (e, q)))) = let no : ⊥ = cc in absurd no
      open-left i v f (inl e) = by (cases_lt i start)
        where
          by : (i < start) ⊎ (start ≤ i) → slice_get (take start path) i ≡ Some v
          by (inl l) = taken-get path start i v l (w.path_is.is_open i v e)
          by (inr l) =
              let g : Some (Open i) ≡ Some (Closed count) = sym f ∙ here i v l (w.path_is.is_open i v e) in let no : ⊥ = cc in absurd no

  open-cases : (y : ℕ) (p : NodeState) → slice_get states y ≡ Some p → (i : ℕ) → i < start → LeadsOn bounds i p → IsFollowed states' bounds' i y
  open-cases y New e i l h = absurd h
  open-cases y (Closed c) e i l h = (Closed c, (kept-closed y c e, tt))
  open-cases y (Open k) e i l h = by (cases_lt k start)
    where
      by : (k < start) ⊎ (start ≤ k) → IsFollowed states' bounds' i y
      by (inl g) = (Open k, (kept-open y k g e, λ b (m, s) o. h b (m, front m b s) o))
      by (inr g) = (Closed count, (here k y g (w.path_is.is_open k y e), tt))

  waiting-cut : IsWaiting graph states' (take start path) bounds' waiting
  waiting-cut = record {
    waits = λ i y s. from i y (followed i y s) (w.waiting_is.waits i y s);
    rise = w.waiting_is.rise;
    followed = λ i v y e c. let t = get-taken path start i v e in by i y t.0 (w.waiting_is.followed i v y t.1 c);
  }
    where
      from : (i y : ℕ) → i < start → (v : ℕ) × ((slice_get path i ≡ Some v) × Edge graph v y) → (v : ℕ) × ((slice_get (take start path) i ≡ Some v) × Edge graph v y)
      from i y l (v, (e, c)) = (v, (taken-get path start i v l e, c))

      by : (i y : ℕ) → i < start → Stands waiting (i, y) ⊎ IsFollowed states bounds i y → Stands waiting (i, y) ⊎ IsFollowed states' bounds' i y
      by i y l (inl s) = inl s
      by i y l (inr (p, (e, h))) = inr (open-cases y p e i l h)

  -- what the last component has an edge to is closed now
  edge-closed : (j : ℕ) (p : NodeState) → slice_get states j ≡ Some p → (a : ℕ) → start ≤ a → LeadsOn bounds a p → (d : ℕ) × ((slice_get states' j ≡ Some (Closed d)) × (d ≤ count))
  edge-closed j New e a l h = absurd h
  edge-closed j (Closed d) e a l h = let s = w.closed_is.within j d e in (d, (kept-closed j d e, omega (arith, s)))
  edge-closed j (Open k) e a l h = (count, (here k j (by cut) (w.path_is.is_open k j e), omega arith))
    where
      by : ((start ≡ 0) × ((bounds ≡ []) × (bounds' ≡ []))) ⊎ (bounds ≡ bounds' ++ start ∷ []) → start ≤ k
      by (inl (z, (f, g))) = omega (arith, z)
      by (inr q) = h start (length bounds', subst (λ bs. slice_get bs (length bounds') ≡ Some start) (sym q) (get-last bounds' start)) l

  -- a node of a closed component was closed before, or is in the last component
  abbrev Was : ℕ → ℕ → Type 0
  Was v c = (slice_get states v ≡ Some (Closed c)) ⊎ ((i : ℕ) × ((start ≤ i) × ((slice_get path i ≡ Some v) × (c ≡ count))))

  was : (v c : ℕ) → slice_get states' v ≡ Some (Closed c) → Was v c
  was v c e = by (closes.there v (Closed c) e)
    where
      by : (slice_get states v ≡ Some (Closed c)) ⊎ ((i : ℕ) × ((start ≤ i) × ((slice_get path i ≡ Some v) × (Closed c ≡ Closed count)))) → Was v c
      by (inl h) = inl h
      by (inr (i, (l, (h, q)))) = let same : c ≡ count = cc in inr (i, (l, (h, same)))

  within' : (i c : ℕ) → Was i c → c < suc count
  within' i c (inl e) = let s = w.closed_is.within i c e in omega (arith, s)
  within' i c (inr (a, (l, (e, q)))) = omega (arith, q)

  together' : (i j c : ℕ) → Was i c → Was j c → Reaches (Edge graph) i j
  together' i j c (inl e) (inl f) = w.closed_is.together i j c e f
  together' i j c (inl e) (inr (a, (l, (f, q)))) = let s = w.closed_is.within i c e in absurd (omega (arith, s, q))
  together' i j c (inr (a, (l, (e, q)))) (inl f) = let s = w.closed_is.within j c f in absurd (omega (arith, s, q))
  together' i j c (inr (a, (l, (e, q)))) (inr (b, (m, (f, r)))) = all-lead graph states path bounds w.path_is start top b j m f a i e

  falls' : (i j c : ℕ) → Was i c → Edge graph i j → (d : ℕ) × ((slice_get states' j ≡ Some (Closed d)) × (d ≤ c))
  falls' i j c (inl e) h = still (w.closed_is.falls i j c e h)
    where
      still : (d : ℕ) × ((slice_get states j ≡ Some (Closed d)) × (d ≤ c)) → (d : ℕ) × ((slice_get states' j ≡ Some (Closed d)) × (d ≤ c))
      still (d, (f, l)) = (d, (kept-closed j d f, l))
  falls' i j c (inr (a, (l, (e, q)))) h = by (w.waiting_is.followed a i j e h)
    where
      low : (d : ℕ) × ((slice_get states' j ≡ Some (Closed d)) × (d ≤ count)) → (d : ℕ) × ((slice_get states' j ≡ Some (Closed d)) × (d ≤ c))
      low (d, (f, m)) = (d, (f, omega (arith, m, q)))

      by : Stands waiting (a, j) ⊎ IsFollowed states bounds a j → (d : ℕ) × ((slice_get states' j ≡ Some (Closed d)) × (d ≤ c))
      by (inl s) = let m = followed a j s in absurd (omega (arith, m, l))
      by (inr (p, (f, g))) = low (edge-closed j p f a l g)

  pub walk-closes : IsWalk graph states' (take start path) bounds' waiting (suc count)
  walk-closes = record {
    size = closes.size ∙ w.size;
    path_is = path-cut;
    waiting_is = waiting-cut;
    closed_is = record {
      within = λ i c e. within' i c (was i c e);
      together = λ i j c e f. together' i j c (was i c e) (was j c f);
      falls = λ i j c e h. falls' i j c (was i c e) h;
    };
  }

-- the last of a list, and what is before it
pub last-split : {A : Type 0} (xs : List A) (x : A) → slice_get xs (length xs - 1) ≡ Some x → xs ≡ take (length xs - 1) xs ++ x ∷ []
last-split [] x e = absurd (get-none 0 x e)
last-split (y ∷ []) x e = let same : y ≡ x = cc in ap (λ z. z ∷ []) same
last-split (y ∷ z ∷ xs) x e =
    let q : length (y ∷ z ∷ xs) - 1 ≡ suc (length (z ∷ xs) - 1) = omega arith in
    let h = last-split (z ∷ xs) x (ap (slice_get (y ∷ z ∷ xs)) (sym q) ∙ e) in
    ap (λ l. y ∷ l) h ∙ ap (λ k. take k (y ∷ z ∷ xs) ++ x ∷ []) (sym q)

-- ---- the last edge that waits

module _ (graph : List (List ℕ)) (states : List NodeState) (path bounds : List ℕ) (waiting : List (ℕ × ℕ)) (count from to : ℕ)
    (w : IsWalk graph states path bounds waiting count) (last : slice_get waiting (length waiting - 1) ≡ Some (pair from to)) where
  pub top-walk : IsWalk graph states path bounds (take (length waiting - 1) waiting ++ (from, to) ∷ []) count
  top-walk = subst (λ (z : List (ℕ × ℕ)). IsWalk graph states path bounds z count) (last-split waiting (pair from to) last) w

  pub top-source : (v : ℕ) × ((slice_get path from ≡ Some v) × Edge graph v to)
  top-source = w.waiting_is.waits from to (length waiting - 1, last)

  pub top-followed : (start : ℕ) → from < start → (k i y : ℕ) → slice_get waiting k ≡ Some (pair i y) → i < start
  top-followed start l k i y e =
      let h = get-within waiting k (pair i y) e in
      let r = w.waiting_is.rise k (length waiting - 1) i from y to (omega (arith, h)) e last in omega (arith, l, r)

  pub top-within : ((i j : ℕ) → Edge graph i j → j < length graph) → to < length states
  top-within edges = let l = edges top-source.0 to top-source.1.1 in let s = w.size in omega (arith, l, s)

  pub top-leads : start_of bounds ≤ from → Leads graph path to
  top-leads h = all-lead-on graph states path bounds w.path_is (start_of bounds) (start-top bounds w.path_is.bounds_rise) from top-source.0 to h top-source.1.0 top-source.1.1

  pub top-joins : (k : ℕ) (bounds' : List ℕ) → start_of bounds ≤ from → slice_get states to ≡ Some (Open k) → CutsTo k bounds bounds' → IsWalk graph states path bounds' (take (length waiting - 1) waiting) count
  top-joins k bounds' h there cut = walk-joins graph states path bounds (take (length waiting - 1) waiting) from to count top-walk k bounds' h there cut

  pub top-passes : (c : ℕ) → slice_get states to ≡ Some (Closed c) → IsWalk graph states path bounds (take (length waiting - 1) waiting) count
  top-passes c there = walk-passes graph states path bounds (take (length waiting - 1) waiting) from to count top-walk c there
