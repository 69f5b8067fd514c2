-- The walk that ranks definitions: what each step keeps, and that no more can be ranked at the end.
use Rattle.std.proofs.Common.{◌≡◌, ◌≢◌, refl, sym, ap, ◌∙◌, subst, ℕ, zero, suc, ◌+◌, ◌<◌, ◌≤◌, List, [], ◌∷◌, ◌++◌, length, set, take, replicate, length-append, ◌*◌, ◌-◌, Bool, true, false, Option, Some, None, arith, inl, inr, ◌⊎◌, get_or-set_other, get_or-set_same}
use Rattle.std.proofs.lemmas.List.{length-set, length-replicate}
use Rattle.std.proofs.lemmas.Option.{slice_get_within, slice_get-get_or}
use Rattle.std.specs.Prelude.{slice_get, slice_index, MatchOption}
use Rattle.st_type_table.specs.inner.Graph.{Graph, IsOne, AllRanked, IsClosed, mark, unmarked}
use Rattle.st_type_table.specs.inner.Ranking.{WaitsFor, OnPath, IsStuck, IsRanking, RankedTo, MarksMore, ComesTo, Advances}
use Rattle.st_type_table.proofs.GraphLemmas.{same_position, ranked-lt, SoFar-set, SoFar-start, zero-at}
use Rattle.st_type_table.proofs.BackLemmas.{unmarked-set}

pub get-front : {A : Type 0} (xs ys : List A) (k : ℕ) (x : A) → slice_get xs k ≡ Some x → slice_get (xs ++ ys) k ≡ Some x
get-front [] ys k x e = cc
get-front (z ∷ xs) ys zero x e = e
get-front (z ∷ xs) ys (suc k) x e = get-front xs ys k x e

pub get-last : {A : Type 0} (xs : List A) (y : A) → slice_get (xs ++ y ∷ []) (length xs) ≡ Some y
get-last [] y = refl
get-last (x ∷ xs) y = get-last xs y

-- an item of a list with one more is an item of the list, or that one
pub get-push : {A : Type 0} (xs : List A) (y : A) (k : ℕ) (x : A) → slice_get (xs ++ y ∷ []) k ≡ Some x → (slice_get xs k ≡ Some x) ⊎ ((k ≡ length xs) × (y ≡ x))
get-push [] y zero x e = inr (refl, cc)
get-push [] y (suc k) x e = cc
get-push (z ∷ xs) y zero x e = inl e
get-push (z ∷ xs) y (suc k) x e = by (get-push xs y k x e)
  where
    by : (slice_get xs k ≡ Some x) ⊎ ((k ≡ length xs) × (y ≡ x)) → (slice_get xs k ≡ Some x) ⊎ ((suc k ≡ suc (length xs)) × (y ≡ x))
    by (inl h) = inl h
    by (inr (h, g)) = inr (ap suc h, g)

pub get-pop : {A : Type 0} (xs : List A) (n k : ℕ) (x : A) → slice_get (take n xs) k ≡ Some x → (k < n) × (slice_get xs k ≡ Some x)
get-pop xs zero k x e = cc
get-pop [] (suc n) k x e = cc
get-pop (y ∷ xs) (suc n) zero x e = (omega arith, e)
get-pop (y ∷ xs) (suc n) (suc k) x e = let r = get-pop xs n k x e in let h = r.0 in (omega (arith, h), r.1)

pub pop-get : {A : Type 0} (xs : List A) (n k : ℕ) (x : A) → k < n → slice_get xs k ≡ Some x → slice_get (take n xs) k ≡ Some x
pop-get xs zero k x h e = absurd (omega arith)
pop-get [] (suc n) k x h e = cc
pop-get (y ∷ xs) (suc n) zero x h e = e
pop-get (y ∷ xs) (suc n) (suc k) x h e = pop-get xs n k x (omega arith) e

pub mark-here : (ms : List Bool) (i : ℕ) → i < length ms → mark (set ms i true) i ≡ true
mark-here ms i h = get_or-set_same ms i true false h

pub mark-there : (ms : List Bool) (i j : ℕ) → j ≢ i → mark (set ms i true) j ≡ mark ms j
mark-there ms i j d = get_or-set_other ms i j true false d

pub mark-more : (ms : List Bool) (i j : ℕ) → i < length ms → mark ms j ≡ true → mark (set ms i true) j ≡ true
mark-more ms i j h m = by (same_position j i)
  where
    by : (j ≡ i) ⊎ (j ≢ i) → mark (set ms i true) j ≡ true
    by (inl e) = ap (mark (set ms i true)) e ∙ mark-here ms i h
    by (inr d) = mark-there ms i j d ∙ m

module _ (graph : Graph) (ranks : List ℕ) (count : ℕ) (seen : List Bool) (passed path : List ℕ) (r : IsRanking graph ranks count seen passed path) where
  unseen-other : (i j : ℕ) → mark seen i ≡ true → mark seen j ≡ false → i ≢ j
  unseen-other i j m n e = let c : true ≡ false = sym m ∙ ap (mark seen) e ∙ n in cc

  -- one more that was not seen waits at the end of the path
  module _ (next : ℕ) (within : next < length graph) (new : mark seen next ≡ false) (waits : (k i : ℕ) → slice_get path k ≡ Some i → suc k ≡ length path → WaitsFor graph i next) where
    fits : next < length seen
    fits = let e = r.seen_size in omega (arith, within, e)

    no_rank : slice_index ranks next ≡ 0
    no_rank = by (slice_index ranks next) refl
      where
        by : (n : ℕ) → slice_index ranks next ≡ n → n ≡ 0
        by zero e = refl
        by (suc n) e = absurd (unseen-other next next (r.known next (omega (arith, e))) new refl)

    pushed : (k i : ℕ) → (slice_get path k ≡ Some i) ⊎ ((k ≡ length path) × (next ≡ i)) → (i < length graph) × (mark (set seen next true) i ≡ true) × (slice_index ranks i ≡ 0)
    pushed k i (inl e) = let o = r.on_path k i e in (o.0, mark-more seen next i fits o.1, o.2)
    pushed k i (inr (h, e)) = (subst (λ z. z < length graph) e within, ap (mark (set seen next true)) (sym e) ∙ mark-here seen next fits, ap (slice_index ranks) (sym e) ∙ no_rank)

    apart : (k l i : ℕ) → (slice_get path k ≡ Some i) ⊎ ((k ≡ length path) × (next ≡ i)) → (slice_get path l ≡ Some i) ⊎ ((l ≡ length path) × (next ≡ i)) → k ≡ l
    apart k l i (inl e) (inl f) = r.apart k l i e f
    apart k l i (inl e) (inr (h, f)) = absurd (unseen-other i next (r.on_path k i e).1 new (sym f))
    apart k l i (inr (h, e)) (inl f) = absurd (unseen-other i next (r.on_path l i f).1 new (sym e))
    apart k l i (inr (h, e)) (inr (g, f)) = h ∙ sym g

    chained : (k i j : ℕ) → (slice_get path k ≡ Some i) ⊎ ((k ≡ length path) × (next ≡ i)) → (slice_get path (suc k) ≡ Some j) ⊎ ((suc k ≡ length path) × (next ≡ j)) → WaitsFor graph i j
    chained k i j (inl e) (inl f) = r.chain k i j e f
    chained k i j (inl e) (inr (h, f)) = subst (WaitsFor graph i) f (waits k i e h)
    chained k i j (inr (h, e)) (inl f) = let l = slice_get_within path (suc k) j f in absurd (omega (arith, h, l))
    chained k i j (inr (h, e)) (inr (g, f)) = absurd (omega (arith, h, g))

    still_stuck : (i : ℕ) → IsStuck graph ranks seen path i → IsStuck graph ranks (set seen next true) (path ++ next ∷ []) i
    still_stuck i (inl e) = inl e
    still_stuck i (inr (j, (w, inl far))) = inr (j, (w, inl far))
    still_stuck i (inr (j, (w, inr (m, (z, off))))) = inr (j, (w, inr (mark-more seen next j fits m, (z, λ (k, e). by k (get-push path next k j e)))))
      where
        by : (k : ℕ) → (slice_get path k ≡ Some j) ⊎ ((k ≡ length path) × (next ≡ j)) → ⊥
        by k (inl e) = off (k, e)
        by k (inr (h, e)) = unseen-other j next m new (sym e)

    pushed_stuck : (i : ℕ) → (i ≡ next) ⊎ (i ≢ next) → mark (set seen next true) i ≡ true → slice_index ranks i ≡ 0 → OnPath (path ++ next ∷ []) i ⊎ IsStuck graph ranks (set seen next true) (path ++ next ∷ []) i
    pushed_stuck i (inl e) m z = inl (length path, get-last path next ∙ ap Some (sym e))
    pushed_stuck i (inr d) m z = by (r.stuck i (sym (mark-there seen next i d) ∙ m) z)
      where
        by : OnPath path i ⊎ IsStuck graph ranks seen path i → OnPath (path ++ next ∷ []) i ⊎ IsStuck graph ranks (set seen next true) (path ++ next ∷ []) i
        by (inl (k, e)) = inl (k, get-front path (next ∷ []) k i e)
        by (inr s) = inr (still_stuck i s)

    pub walk-push : IsRanking graph ranks count (set seen next true) passed (path ++ next ∷ [])
    walk-push = record {
      so_far = r.so_far;
      seen_size = length-set seen next true ∙ r.seen_size;
      passed_size = r.passed_size;
      known = λ i h. mark-more seen next i fits (r.known i h);
      over = r.over;
      on_path = λ k i e. pushed k i (get-push path next k i e);
      apart = λ k l i e f. apart k l i (get-push path next k i e) (get-push path next l i f);
      chain = λ k i j e f. chained k i j (get-push path next k i e) (get-push path next (suc k) j f);
      stuck = λ i m z. pushed_stuck i (same_position i next) m z;
    }

  -- the last of the path
  module _ (n top : ℕ) (size : length path ≡ suc n) (last : slice_get path n ≡ Some top) where
    -- more of what it waits for have ranks
    pub walk-pass : (at : ℕ) → ((next : List ℕ) → slice_get graph top ≡ Some (Some next) → RankedTo next ranks at) → IsRanking graph ranks count seen (set passed top at) path
    walk-pass at h = record {
      so_far = r.so_far;
      seen_size = r.seen_size;
      passed_size = length-set passed top at ∙ r.passed_size;
      known = r.known;
      over = λ i next g. over i next g (same_position i top);
      on_path = r.on_path;
      apart = r.apart;
      chain = r.chain;
      stuck = r.stuck;
    }
      where
        fits : top < length passed
        fits = let o = (r.on_path n top last).0 in let e = r.passed_size in omega (arith, o, e)

        over : (i : ℕ) (next : List ℕ) → slice_get graph i ≡ Some (Some next) → (i ≡ top) ⊎ (i ≢ top) → RankedTo next ranks (slice_index (set passed top at) i)
        over i next g (inl e) = subst (RankedTo next ranks) (sym (ap (slice_index (set passed top at)) e ∙ get_or-set_same passed top at 0 fits)) (h next (ap (slice_get graph) (sym e) ∙ g))
        over i next g (inr d) = subst (RankedTo next ranks) (sym (get_or-set_other passed top i at 0 d)) (r.over i next g)

    -- all that it waits for have ranks, and so it has one
    module _ (node : Option (List ℕ)) (there : slice_get graph top ≡ Some node) (all : AllRanked node ranks) where
      low : slice_index ranks top ≡ 0
      low = (r.on_path n top last).2

      room : top < length ranks
      room = let o = (r.on_path n top last).0 in let e = r.so_far.size in omega (arith, o, e)

      abbrev more : List ℕ
      more = set ranks top (suc count)

      here : slice_index more top ≡ suc count
      here = get_or-set_same ranks top (suc count) 0 room

      same : (j : ℕ) → j ≢ top → slice_index more j ≡ slice_index ranks j
      same j d = get_or-set_other ranks top j (suc count) 0 d

      not_top : (j : ℕ) → slice_index more j ≡ 0 → j ≢ top
      not_top j z e = let c : 0 ≡ suc count = sym z ∙ ap (slice_index more) e ∙ here in cc

      grows : (j : ℕ) → 0 < slice_index ranks j → 0 < slice_index more j
      grows j h = by (same_position j top)
        where
          by : (j ≡ top) ⊎ (j ≢ top) → 0 < slice_index more j
          by (inl e) = let a : slice_index more j ≡ suc count = ap (slice_index more) e ∙ here in omega (arith, a)
          by (inr d) = let a = same j d in omega (arith, a, h)

      known : (j : ℕ) → (j ≡ top) ⊎ (j ≢ top) → 0 < slice_index more j → mark seen j ≡ true
      known j (inl e) h = ap (mark seen) e ∙ (r.on_path n top last).1
      known j (inr d) h = r.known j (let a = same j d in omega (arith, a, h))

      before : (k i : ℕ) → slice_get (take n path) k ≡ Some i → i ≢ top
      before k i e q = let p = get-pop path n k i e in let l = p.0 in let a = r.apart k n i p.1 (last ∙ ap Some (sym q)) in omega (arith, l, a)

      off_path : (j : ℕ) → (OnPath path j → ⊥) → OnPath (take n path) j → ⊥
      off_path j off (k, e) = off (k, (get-pop path n k j e).1)

      ranked_stuck : (i : ℕ) → slice_index more i ≡ 0 → OnPath path i ⊎ IsStuck graph ranks seen path i → OnPath (take n path) i ⊎ IsStuck graph more seen (take n path) i
      ranked_stuck i z (inl (k, e)) = inl (k, pop-get path n k i by e)
        where
          by : k < n
          by = let l = slice_get_within path k i e in let d : k ≢ n = (λ q. not_top i z (other q)) in omega (arith, l, size, d)
            where
              other : k ≡ n → i ≡ top
              other q = let s : Some i ≡ Some top = sym e ∙ ap (slice_get path) q ∙ last in cc
      ranked_stuck i z (inr (inl e)) = inr (inl e)
      ranked_stuck i z (inr (inr (j, (w, inl far)))) = inr (inr (j, (w, inl far)))
      ranked_stuck i z (inr (inr (j, (w, inr (m, (y, off)))))) =
          inr (inr (j, (w, inr (m, (same j (λ q. off (n, last ∙ ap Some (sym q))) ∙ y, off_path j off)))))

      pub walk-rank : IsRanking graph (set ranks top (suc count)) (suc count) seen passed (take n path)
      walk-rank = record {
        so_far = SoFar-set graph ranks count top node r.so_far room there low all;
        seen_size = r.seen_size;
        passed_size = r.passed_size;
        known = λ j h. known j (same_position j top) h;
        over = λ i next g m j h e. grows j (r.over i next g m j h e);
        on_path = λ k i e. let o = r.on_path k i (get-pop path n k i e).1 in (o.0, o.1, same i (before k i e) ∙ o.2);
        apart = λ k l i e f. r.apart k l i (get-pop path n k i e).1 (get-pop path n l i f).1;
        chain = λ k i j e f. r.chain k i j (get-pop path n k i e).1 (get-pop path n (suc k) j f).1;
        stuck = λ i m z. ranked_stuck i z (r.stuck i m (sym (same i (not_top i z)) ∙ z));
      }

    -- it waits for what has no rank, and so the whole path is stuck
    module _ (halts : IsStuck graph ranks seen [] top) where
      halted_stuck : (i : ℕ) → OnPath path i ⊎ IsStuck graph ranks seen path i → IsStuck graph ranks seen [] i
      halted_stuck i (inl (k, e)) = by (same_position k n)
        where
          after : (m : ℕ) → m < length path → (j : ℕ) × (slice_get path m ≡ Some j)
          after m h = read path m h
            where
              read : (xs : List ℕ) (m : ℕ) → m < length xs → (j : ℕ) × (slice_get xs m ≡ Some j)
              read [] m h = absurd (omega arith)
              read (x ∷ xs) zero h = (x, refl)
              read (x ∷ xs) (suc m) h = read xs m (omega arith)

          by : (k ≡ n) ⊎ (k ≢ n) → IsStuck graph ranks seen [] i
          by (inl q) = let s : Some top ≡ Some i = sym last ∙ ap (slice_get path) (sym q) ∙ e in let t : top ≡ i = cc in subst (IsStuck graph ranks seen []) t halts
          by (inr d) =
              let l = slice_get_within path k i e in
              let j = after (suc k) (omega (arith, l, size, d)) in
              let o = r.on_path (suc k) j.0 j.1 in
              inr (j.0, (r.chain k i j.0 e j.1, inr (o.1, (o.2, λ (m, f). cc))))
      halted_stuck i (inr (inl e)) = inl e
      halted_stuck i (inr (inr (j, (w, inl far)))) = inr (j, (w, inl far))
      halted_stuck i (inr (inr (j, (w, inr (m, (z, off)))))) = inr (j, (w, inr (m, (z, λ (k, f). cc))))

      pub walk-halt : IsRanking graph ranks count seen passed []
      walk-halt = record {
        so_far = r.so_far;
        seen_size = r.seen_size;
        passed_size = r.passed_size;
        known = r.known;
        over = r.over;
        on_path = λ k i e. cc;
        apart = λ k l i e f. cc;
        chain = λ k i j e f. cc;
        stuck = λ i m z. inr (halted_stuck i (r.stuck i m z));
      }

-- where all were seen and none waits, no more can be ranked
pub walk-closed : (graph : Graph) (ranks : List ℕ) (count : ℕ) (seen : List Bool) (passed : List ℕ) → IsRanking graph ranks count seen passed [] → ((i : ℕ) → i < length graph → mark seen i ≡ true) → IsClosed graph ranks
walk-closed graph ranks count seen passed r all i node g z h = by (r.stuck i (all i (slice_get_within graph i node g)) z)
  where
    by : OnPath [] i ⊎ IsStuck graph ranks seen [] i → ⊥
    by (inl (k, e)) = cc
    by (inr (inl e)) = let s : Some None ≡ Some node = sym e ∙ g in let t : node ≡ None = cc in subst (λ o. AllRanked o ranks) t h
    by (inr (inr (j, (w, b)))) = let s : Some (Some w.0) ≡ Some node = sym w.1.0 ∙ g in let t : node ≡ Some w.0 = cc in low b (subst (λ o. AllRanked o ranks) t h j w.1.1)
      where
        low : (length graph ≤ j) ⊎ ((mark seen j ≡ true) × ((slice_index ranks j ≡ 0) × (OnPath [] j → ⊥))) → 0 < slice_index ranks j → ⊥
        low (inl far) p = let e = over ranks j (let s = r.so_far.size in omega (arith, s, far)) in omega (arith, e, p)
          where
            over : (rs : List ℕ) (k : ℕ) → length rs ≤ k → slice_index rs k ≡ 0
            over [] k h = refl
            over (x ∷ rs) zero h = absurd (omega arith)
            over (x ∷ rs) (suc k) h = over rs k (omega arith)
        low (inr (m, (e, off))) p = omega (arith, e, p)

-- ---- a definition that the walk comes to

module _ (graph : Graph) (ranks : List ℕ) (count : ℕ) (seen : List Bool) (passed path : List ℕ) (r : IsRanking graph ranks count seen passed path) where
  -- how far the walk is behind
  abbrev pub Comes : List Bool → List ℕ → Type 0
  Comes seen' path' = IsRanking graph ranks count seen' passed path' × ((2 * unmarked seen' + length path' < 2 * unmarked seen + length path) × MarksMore seen seen')

  module _ (n top next : ℕ) (size : length path ≡ suc n) (last : slice_get path n ≡ Some top) (waits : WaitsFor graph top next) (low : slice_index ranks next ≡ 0) where
    come_new : next < length seen → mark seen next ≡ false → Comes (set seen next true) (path ++ next ∷ [])
    come_new h new = (
      walk-push graph ranks count seen passed path r next (let e = r.seen_size in omega (arith, h, e)) new
          (λ k i e q. let d : k ≡ n = omega (arith, q, size) in let s : Some top ≡ Some i = sym last ∙ ap (slice_get path) (sym d) ∙ e in let t : top ≡ i = cc in subst (λ z. WaitsFor graph z next) t waits),
      (
        (let u = unmarked-set seen next h new in let l = length-append path (next ∷ []) in omega (arith, u, l)),
        λ i m. mark-more seen next i h m,
      ),
    )

    halts : (length seen ≤ next) ⊎ (mark seen next ≡ true) → IsStuck graph ranks seen [] top
    halts (inl far) = inr (next, (waits, inl (let e = r.seen_size in omega (arith, far, e))))
    halts (inr m) = inr (next, (waits, inr (m, (low, λ (k, e). cc))))

    pub come-next : (seen' : List Bool) (path' : List ℕ) → ComesTo seen path next seen' path' → Comes seen' path'
    come-next seen' path' (inl (h, (new, (q, p)))) = subst (λ s. Comes s path') (sym q) (subst (Comes (set seen next true)) (sym p) (come_new h new))
    come-next seen' path' (inr (why, (q, p))) = subst (λ s. Comes s path') (sym q) (subst (Comes seen) (sym p) (
      walk-halt graph ranks count seen passed path r n top size last (halts why),
      (omega (arith, size), λ i m. m),
    ))

-- at the start of a walk nothing waits
pub come-first : (graph : Graph) (ranks : List ℕ) (count : ℕ) (seen : List Bool) (passed : List ℕ) (start : ℕ) (seen' : List Bool) (path' : List ℕ) → IsRanking graph ranks count seen passed [] → start < length graph
    → ComesTo seen [] start seen' path' → IsRanking graph ranks count seen' passed path' × ((mark seen' start ≡ true) × MarksMore seen seen')
come-first graph ranks count seen passed start seen' path' r within (inl (h, (new, (q, p)))) =
    subst (λ s. IsRanking graph ranks count s passed path' × ((mark s start ≡ true) × MarksMore seen s)) (sym q)
    (subst (λ z. IsRanking graph ranks count (set seen start true) passed z × ((mark (set seen start true) start ≡ true) × MarksMore seen (set seen start true))) (sym p) (
      walk-push graph ranks count seen passed [] r start within new (λ k i e. cc),
      (mark-here seen start h, λ i m. mark-more seen start i h m),
    ))
come-first graph ranks count seen passed start seen' path' r within (inr (why, (q, p))) =
    subst (λ s. IsRanking graph ranks count s passed path' × ((mark s start ≡ true) × MarksMore seen s)) (sym q)
    (subst (λ z. IsRanking graph ranks count seen passed z × ((mark seen start ≡ true) × MarksMore seen seen)) (sym p) (r, (by why, λ i m. m)))
  where
    by : (length seen ≤ start) ⊎ (mark seen start ≡ true) → mark seen start ≡ true
    by (inl far) = absurd (let e = r.seen_size in omega (arith, far, e, within))
    by (inr m) = m

none_marked : (n i : ℕ) → mark (replicate n false) i ≡ false
none_marked zero i = refl
none_marked (suc n) zero = refl
none_marked (suc n) (suc i) = none_marked n i

pub walk-start : (graph : Graph) (ranks : List ℕ) (seen : List Bool) (passed : List ℕ) → ranks ≡ replicate (length graph) 0 → seen ≡ replicate (length graph) false → passed ≡ replicate (length graph) 0
    → IsRanking graph ranks 0 seen passed []
walk-start graph ranks seen passed p q s = record {
  so_far = SoFar-start graph ranks (ap length p ∙ length-replicate (length graph) 0) zeros;
  seen_size = ap length q ∙ length-replicate (length graph) false;
  passed_size = ap length s ∙ length-replicate (length graph) 0;
  known = λ i h. absurd (let z = zeros i in omega (arith, z, h));
  over = λ i next g m j h e. absurd (let z = ap (λ rs. slice_index rs i) s ∙ zero-at (length graph) i in omega (arith, z, h));
  on_path = λ k i e. cc;
  apart = λ k l i e f. cc;
  chain = λ k i j e f. cc;
  stuck = λ i m z. let c : false ≡ true = sym (none_marked (length graph) i) ∙ ap (λ ms. mark ms i) (sym q) ∙ m in cc;
}
  where
    zeros : (i : ℕ) → slice_index ranks i ≡ 0
    zeros i = ap (λ rs. slice_index rs i) p ∙ zero-at (length graph) i

-- all of a list have ranks, where the first so many have and no more are there
pub all-passed : (graph : Graph) (ranks next : List ℕ) (at : ℕ) → RankedTo next ranks at → slice_get next at ≡ None → AllRanked (Some next) ranks
all-passed graph ranks next at h e j m = by (one_get next j m)
  where
    one_get : (xs : List ℕ) (j : ℕ) → IsOne xs j → (k : ℕ) × (slice_get xs k ≡ Some j)
    one_get [] j m = absurd m
    one_get (x ∷ xs) j (inl q) = (0, ap Some (sym q))
    one_get (x ∷ xs) j (inr m) = let r = one_get xs j m in (suc r.0, r.1)

    none_from : (xs : List ℕ) (n : ℕ) → slice_get xs n ≡ None → length xs ≤ n
    none_from [] n e = omega arith
    none_from (x ∷ xs) zero e = cc
    none_from (x ∷ xs) (suc n) e = let l = none_from xs n e in omega (arith, l)

    by : (k : ℕ) × (slice_get next k ≡ Some j) → 0 < slice_index ranks j
    by (k, g) = h k j (let l = slice_get_within next k j g in let f = none_from next at e in omega (arith, l, f)) g

pub get-one : (xs : List ℕ) (k j : ℕ) → slice_get xs k ≡ Some j → IsOne xs j
get-one [] k j e = cc
get-one (x ∷ xs) zero j e = let q : x ≡ j = cc in inl (sym q)
get-one (x ∷ xs) (suc k) j e = inr (get-one xs k j e)

-- ---- the first that has no rank

get-value : (xs : List ℕ) (k j : ℕ) → slice_get xs k ≡ Some j → slice_index xs k ≡ j
get-value [] k j e = cc
get-value (x ∷ xs) zero j e = cc
get-value (x ∷ xs) (suc k) j e = get-value xs k j e

pub RankedTo-next : (next ranks : List ℕ) (at : ℕ) → RankedTo next ranks at → 0 < slice_index ranks (slice_index next at) → RankedTo next ranks (at + 1)
RankedTo-next next ranks at h here m j l e = by (same_position m at)
  where
    by : (m ≡ at) ⊎ (m ≢ at) → 0 < slice_index ranks j
    by (inl q) = subst (λ z. 0 < slice_index ranks z) (ap (slice_index next) (sym q) ∙ get-value next m j e) here
    by (inr d) = h m j (omega (arith, l, d)) e

pub RankedTo-all : (next ranks : List ℕ) (at : ℕ) → RankedTo next ranks at → length next ≤ at → RankedTo next ranks (length next)
RankedTo-all next ranks at h l m j k e = h m j (omega (arith, l, k)) e

pub get-stops : (next ranks : List ℕ) (at : ℕ) → (0 < slice_index ranks (slice_index next at) → ⊥) → (j : ℕ) → slice_get next at ≡ Some j → slice_index ranks j ≡ 0
get-stops next ranks at h j e = by (slice_index ranks j) refl
  where
    by : (n : ℕ) → slice_index ranks j ≡ n → n ≡ 0
    by zero q = refl
    by (suc n) q = absurd (h (subst (λ z. 0 < slice_index ranks z) (sym (get-value next at j e)) (omega (arith, q))))

pub beyond-get : (next : List ℕ) (j : ℕ) → slice_get next (length next) ≡ Some j → ⊥
beyond-get next j e = let l = slice_get_within next (length next) j e in omega (arith, l)

pub get-last-of : (path : List ℕ) (n : ℕ) → length path ≡ suc n → slice_get path n ≡ Some (slice_index path n)
get-last-of path n e = slice_get-get_or path n 0 (omega (arith, e))

-- what is known of the last on the path
pub last-room : (graph : Graph) (ranks : List ℕ) (count : ℕ) (seen : List Bool) (passed path : List ℕ) (n top : ℕ) → IsRanking graph ranks count seen passed path → slice_get path n ≡ Some top
    → (top < length graph) × ((top < length ranks) × ((top < length passed) × (count < length ranks)))
last-room graph ranks count seen passed path n top r e =
    let o = r.on_path n top e in
    let l = o.0 in
    let a = r.so_far.size in
    let b = r.passed_size in
    let c = r.so_far.counted in
    let d = ranked-lt ranks top (omega (arith, l, a)) o.2 in
    (l, (omega (arith, l, a), (omega (arith, l, b), omega (arith, c, d))))

pub get-none : {A : Type 0} (xs : List A) (n : ℕ) → length xs ≤ n → slice_get xs n ≡ None
get-none [] n h = refl
get-none (x ∷ xs) zero h = absurd (omega arith)
get-none (x ∷ xs) (suc n) h = get-none xs n (omega arith)

-- ---- a step of the walk

module _ (graph : Graph) (ranks : List ℕ) (count : ℕ) (seen : List Bool) (passed path next passed' : List ℕ) (top : ℕ) (found : Option ℕ) (r : IsRanking graph ranks count seen passed path)
    (some : 0 < length path) (last : slice_get path (length path - 1) ≡ Some top) (there : slice_get graph top ≡ Some (Some next)) (a : Advances next ranks top passed passed' found) where
  size : length path ≡ suc (length path - 1)
  size = omega (arith, some)

  ranked-to : (others : List ℕ) → slice_get graph top ≡ Some (Some others) → RankedTo others ranks a.0
  ranked-to others g = let s : Some (Some next) ≡ Some (Some others) = sym there ∙ g in let t : next ≡ others = cc in subst (λ ns. RankedTo ns ranks a.0) t a.1.1.0

  advanced : IsRanking graph ranks count seen passed' path
  advanced = subst (λ ps. IsRanking graph ranks count seen ps path) (sym a.1.0) (walk-pass graph ranks count seen passed path r (length path - 1) top size last a.0 ranked-to)

  pub step-next : (j : ℕ) (seen' : List Bool) (path' : List ℕ) → found ≡ Some j → ComesTo seen path j seen' path'
      → IsRanking graph ranks count seen' passed' path' × ((2 * unmarked seen' + length path' < 2 * unmarked seen + length path) × MarksMore seen seen')
  step-next j seen' path' e c =
      let m = subst (λ f. MatchOption f (slice_get next a.0 ≡ None) (λ j. (slice_get next a.0 ≡ Some j) × (slice_index ranks j ≡ 0))) e a.1.1.1 in
      come-next graph ranks count seen passed' path advanced (length path - 1) top j size last (next, (there, get-one next a.0 j m.0)) m.1 seen' path' c

  pub step-rank : found ≡ None → IsRanking graph (set ranks top (suc count)) (suc count) seen passed' (take (length path - 1) path)
  step-rank e =
      let m = subst (λ f. MatchOption f (slice_get next a.0 ≡ None) (λ j. (slice_get next a.0 ≡ Some j) × (slice_index ranks j ≡ 0))) e a.1.1.1 in
      walk-rank graph ranks count seen passed' path advanced (length path - 1) top size last (Some next) there (all-passed graph ranks next a.0 a.1.1.0 m)
