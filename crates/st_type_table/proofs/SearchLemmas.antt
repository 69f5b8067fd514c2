-- The search for what leads to a definition: what each step keeps.
use Rattle.std.proofs.Common.{◌≡◌, ◌≢◌, ◌↔◌, refl, sym, ap, ◌∙◌, subst, ℕ, zero, suc, ◌+◌, ◌<◌, ◌≤◌, List, [], ◌∷◌, ◌++◌, length, map, set, take, replicate, length-append, add-one, Bool, true, false, Some, None, arith, inl, inr, ◌⊎◌}
use Rattle.std.proofs.lemmas.List.{length-set, length-replicate}
use Rattle.std.proofs.lemmas.Option.{slice_get_within, slice_get-get_or}
use Rattle.std.specs.Prelude.{slice_get, slice_index}
use Rattle.st_type_table.specs.inner.Graph.{Graph, IsOne, LeadsAt, mark}
use Rattle.st_type_table.specs.inner.Ranking.{WaitsFor, OnPath}
use Rattle.st_type_table.specs.inner.Search.{Arrows, AddsArrow, AddsArrows, IsReversedTo, IsReversed, IsSearch, MarksAll, MarksOne, as_number}
use Rattle.st_type_table.proofs.GraphLemmas.{same_position}
use Rattle.st_type_table.proofs.IsOneLemmas.{one_more}
use Rattle.st_type_table.proofs.BackLemmas.{unmarked-set}
use Rattle.st_type_table.proofs.RankLemmas.{set-other, set-same}
use Rattle.st_type_table.proofs.FlatLemmas.{take-step, read-get}
use Rattle.st_type_table.proofs.RankingLemmas.{mark-here, mark-there, mark-more, get-push, get-front, get-last, get-pop, pop-get}

-- ---- rows

pub arrows-none : (from : ℕ) (back : Arrows) → AddsArrows [] from back back
arrows-none from back = record { size = refl; rows = λ j row e. (row, (e, λ i. ((λ h. inl h), back_to row i))) }
  where
    back_to : (row : List ℕ) (i : ℕ) → IsOne row i ⊎ ((i ≡ from) × IsOne [] i) → IsOne row i
    back_to row i (inl h) = h
    back_to row i (inr h) = absurd h.1

module _ (positions : List ℕ) (position from : ℕ) (before after : Arrows) (a : AddsArrows positions from before after) where
  -- the position is none of the graph's
  pub arrows-over : length after ≤ position → AddsArrows (positions ++ position ∷ []) from before after
  arrows-over far = record { size = a.size; rows = λ j row e. let o = a.rows j row e in (o.0, (o.1.0, λ i. ((λ h. to j i o.0 ((o.1.1 i).0 h)), λ h. (o.1.1 i).1 (back_to j row i o.0 e h)))) }
    where
      to : (j i : ℕ) (old : List ℕ) → IsOne old i ⊎ ((i ≡ from) × IsOne positions j) → IsOne old i ⊎ ((i ≡ from) × IsOne (positions ++ position ∷ []) j)
      to j i old (inl h) = inl h
      to j i old (inr (q, m)) = inr (q, (one_more positions position j).1 (inl m))

      back_to : (j : ℕ) (row : List ℕ) (i : ℕ) (old : List ℕ) → slice_get after j ≡ Some row → IsOne old i ⊎ ((i ≡ from) × IsOne (positions ++ position ∷ []) j) → IsOne old i ⊎ ((i ≡ from) × IsOne positions j)
      back_to j row i old e (inl h) = inl h
      back_to j row i old e (inr (q, m)) = by ((one_more positions position j).0 m)
        where
          by : IsOne positions j ⊎ (j ≡ position) → IsOne old i ⊎ ((i ≡ from) × IsOne positions j)
          by (inl n) = inr (q, n)
          by (inr s) = let l = slice_get_within after j row e in absurd (omega (arith, l, s, far))

  -- an arrow is kept at the position
  pub arrows-here : (row : List ℕ) → slice_get after position ≡ Some row → AddsArrows (positions ++ position ∷ []) from before (set after position (row ++ from ∷ []))
  arrows-here row there = record { size = length-set after position (row ++ from ∷ []) ∙ a.size; rows = λ j new e. by j new e (same_position j position) }
    where
      Row : ℕ → List ℕ → Type 0
      Row j new = (old : List ℕ) × ((slice_get before j ≡ Some old) × ((i : ℕ) → IsOne new i ↔ (IsOne old i ⊎ ((i ≡ from) × IsOne (positions ++ position ∷ []) j))))

      by : (j : ℕ) (new : List ℕ) → slice_get (set after position (row ++ from ∷ [])) j ≡ Some new → (j ≡ position) ⊎ (j ≢ position) → Row j new
      by j new e (inl q) =
          let s : row ++ from ∷ [] ≡ new = set-same after position (row ++ from ∷ []) new (ap (slice_get (set after position (row ++ from ∷ []))) (sym q) ∙ e) in
          let o = a.rows j row (ap (slice_get after) q ∙ there) in (
            o.0,
            (
              o.1.0,
              λ i. (
                (λ h. to i o.0 (o.1.1 i) ((one_more row from i).0 (subst (λ z. IsOne z i) (sym s) h))),
                λ h. subst (λ z. IsOne z i) s ((one_more row from i).1 (back_to i o.0 (o.1.1 i) h)),
              ),
            ),
          )
        where
          to : (i : ℕ) (old : List ℕ) → IsOne row i ↔ (IsOne old i ⊎ ((i ≡ from) × IsOne positions j)) → IsOne row i ⊎ (i ≡ from) → IsOne old i ⊎ ((i ≡ from) × IsOne (positions ++ position ∷ []) j)
          to i old f (inl h) = more (f.0 h)
            where
              more : IsOne old i ⊎ ((i ≡ from) × IsOne positions j) → IsOne old i ⊎ ((i ≡ from) × IsOne (positions ++ position ∷ []) j)
              more (inl g) = inl g
              more (inr (p, m)) = inr (p, (one_more positions position j).1 (inl m))
          to i old f (inr p) = inr (p, (one_more positions position j).1 (inr q))

          back_to : (i : ℕ) (old : List ℕ) → IsOne row i ↔ (IsOne old i ⊎ ((i ≡ from) × IsOne positions j)) → IsOne old i ⊎ ((i ≡ from) × IsOne (positions ++ position ∷ []) j) → IsOne row i ⊎ (i ≡ from)
          back_to i old f (inl h) = inl (f.1 (inl h))
          back_to i old f (inr (p, m)) = inr p
      by j new e (inr d) =
          let o = a.rows j new (sym (set-other after position j (row ++ from ∷ []) d) ∙ e) in
          (o.0, (o.1.0, λ i. ((λ h. to i o.0 ((o.1.1 i).0 h)), λ h. (o.1.1 i).1 (back_to i o.0 h))))
        where
          to : (i : ℕ) (old : List ℕ) → IsOne old i ⊎ ((i ≡ from) × IsOne positions j) → IsOne old i ⊎ ((i ≡ from) × IsOne (positions ++ position ∷ []) j)
          to i old (inl h) = inl h
          to i old (inr (p, m)) = inr (p, (one_more positions position j).1 (inl m))

          back_to : (i : ℕ) (old : List ℕ) → IsOne old i ⊎ ((i ≡ from) × IsOne (positions ++ position ∷ []) j) → IsOne old i ⊎ ((i ≡ from) × IsOne positions j)
          back_to i old (inl h) = inl h
          back_to i old (inr (p, m)) = over ((one_more positions position j).0 m)
            where
              over : IsOne positions j ⊎ (j ≡ position) → IsOne old i ⊎ ((i ≡ from) × IsOne positions j)
              over (inl n) = inr (p, n)
              over (inr q) = absurd (d q)

pub arrows-next : (positions : List ℕ) (position from : ℕ) (before after next : Arrows) → AddsArrows positions from before after → AddsArrow position from after next → AddsArrows (positions ++ position ∷ []) from before next
arrows-next positions position from before after next a (inl (far, e)) = subst (AddsArrows (positions ++ position ∷ []) from before) (sym e) (arrows-over positions position from before after a far)
arrows-next positions position from before after next a (inr (row, (there, e))) = subst (AddsArrows (positions ++ position ∷ []) from before) (sym e) (arrows-here positions position from before after a row there)

-- an item of a list of numbers, and the list up to it
pub take-number : (xs : List ℕ) (i : ℕ) → i < length xs → take (i + 1) xs ≡ take i xs ++ slice_index xs i ∷ []
take-number xs i h = take-step xs i (slice_index xs i) h (read-get xs i (slice_index xs i) (slice_get-get_or xs i 0 h))

pub take-whole : {A : Type 0} (xs : List A) (i : ℕ) → length xs ≤ i → take i xs ≡ xs
take-whole [] zero h = refl
take-whole [] (suc i) h = refl
take-whole (x ∷ xs) zero h = absurd (omega arith)
take-whole (x ∷ xs) (suc i) h = ap (λ ys. x ∷ ys) (take-whole xs i (omega arith))

pub replicate-more : (n : ℕ) (x : List ℕ) → replicate n x ++ x ∷ [] ≡ replicate (n + 1) x
replicate-more n x = by n ∙ ap (λ k. replicate k x) (sym (add-one n))
  where
    by : (n : ℕ) → replicate n x ++ x ∷ [] ≡ replicate (suc n) x
    by zero = refl
    by (suc n) = ap (λ ys. x ∷ ys) (by n)

-- ---- the arrows of the first definitions

module _ (graph : Graph) where
  pub reversed-start : (back : Arrows) → back ≡ replicate (length graph) [] → IsReversedTo graph 0 back
  reversed-start back e = record {
    size = ap length e ∙ length-replicate (length graph) [];
    rows = λ j row g i. let q = none (length graph) j row (ap (λ b. slice_get b j) (sym e) ∙ g) in ((λ h. absurd (subst (λ z. IsOne z i) q h)), λ h. absurd (let l = h.0 in omega (arith, l)));
  }
    where
      none : (n j : ℕ) (row : List ℕ) → slice_get (replicate n []) j ≡ Some row → row ≡ []
      none zero j row g = cc
      none (suc n) zero row g = cc
      none (suc n) (suc j) row g = none n j row g

  pub reversed-more : (n : ℕ) (positions : List ℕ) (before after : Arrows) → IsReversedTo graph n before → slice_get graph n ≡ Some (Some positions) → AddsArrows positions n before after → IsReversedTo graph (n + 1) after
  reversed-more n positions before after r there a = record { size = a.size ∙ r.size; rows = λ j row g i. let o = a.rows j row g in let f = r.rows j o.0 o.1.0 i in ((λ h. to j i o.0 f ((o.1.1 i).0 h)), λ h. (o.1.1 i).1 (back_to j i o.0 f (same_position i n) h)) }
    where
      to : (j i : ℕ) (old : List ℕ) → IsOne old i ↔ ((i < n) × WaitsFor graph i j) → IsOne old i ⊎ ((i ≡ n) × IsOne positions j) → (i < n + 1) × WaitsFor graph i j
      to j i old f (inl h) = let w = f.0 h in let l = w.0 in (omega (arith, l), w.1)
      to j i old f (inr (q, m)) = (omega (arith, q), (positions, (ap (slice_get graph) q ∙ there, m)))

      back_to : (j i : ℕ) (old : List ℕ) → IsOne old i ↔ ((i < n) × WaitsFor graph i j) → (i ≡ n) ⊎ (i ≢ n) → (i < n + 1) × WaitsFor graph i j → IsOne old i ⊎ ((i ≡ n) × IsOne positions j)
      back_to j i old f (inl q) (l, (next, (g, m))) =
          let s : Some (Some next) ≡ Some (Some positions) = sym g ∙ ap (slice_get graph) q ∙ there in
          let t : next ≡ positions = cc in
          inr (q, subst (λ z. IsOne z j) t m)
      back_to j i old f (inr d) (l, w) = inl (f.1 (omega (arith, l, d), w))

  pub reversed-skip : (n : ℕ) (back : Arrows) → IsReversedTo graph n back → slice_get graph n ≡ Some None → IsReversedTo graph (n + 1) back
  reversed-skip n back r there = record { size = r.size; rows = λ j row g i. let f = r.rows j row g i in ((λ h. let w = f.0 h in let l = w.0 in (omega (arith, l), w.1)), λ h. f.1 (by j i (same_position i n) h)) }
    where
      by : (j i : ℕ) → (i ≡ n) ⊎ (i ≢ n) → (i < n + 1) × WaitsFor graph i j → (i < n) × WaitsFor graph i j
      by j i (inl q) (l, (next, (g, m))) = let s : Some (Some next) ≡ Some None = sym g ∙ ap (slice_get graph) q ∙ there in cc
      by j i (inr d) (l, w) = (omega (arith, l, d), w)

  pub reversed-whole : (n : ℕ) (back : Arrows) → IsReversedTo graph n back → length graph ≤ n → IsReversed graph back
  reversed-whole n back r h = record { size = r.size; rows = λ j row g i. let f = r.rows j row g i in ((λ m. (f.0 m).1), λ w. f.1 (let l = slice_get_within graph i (Some w.0) w.1.0 in omega (arith, l, h), w)) }

-- ---- a row is marked

push_path : (todo : List ℕ) (position i : ℕ) → OnPath todo i → OnPath (todo ++ position ∷ []) i
push_path todo position i (k, e) = (k, get-front todo (position ∷ []) k i e)

pub marks-none : (marks : List Bool) (todo : List ℕ) → MarksAll [] marks todo marks todo
marks-none marks todo = record {
  size = refl;
  more = λ i m. m;
  all = λ j h l. absurd h;
  fresh = λ j m. inl m;
  kept = λ i o. o;
  within = λ i o. inl o;
  falls = omega arith;
}

module _ (row : List ℕ) (position : ℕ) (marks : List Bool) (todo : List ℕ) where
  module _ (marks' : List Bool) (todo' : List ℕ) (a : MarksAll row marks todo marks' todo') where
    wider : (j : ℕ) → IsOne row j → IsOne (row ++ position ∷ []) j
    wider j m = (one_more row position j).1 (inl m)

    pub marks-over : (position < length marks' → mark marks' position ≡ true) → MarksAll (row ++ position ∷ []) marks todo marks' todo'
    marks-over h = record {
      size = a.size;
      more = a.more;
      all = λ j m l. by j l ((one_more row position j).0 m);
      fresh = λ j m. widen j (a.fresh j m);
      kept = a.kept;
      within = a.within;
      falls = a.falls;
    }
      where
        by : (j : ℕ) → j < length marks → IsOne row j ⊎ (j ≡ position) → mark marks' j ≡ true
        by j l (inl m) = a.all j m l
        by j l (inr q) = ap (mark marks') q ∙ h (let s = a.size in omega (arith, l, q, s))

        widen : (j : ℕ) → (mark marks j ≡ true) ⊎ (IsOne row j × OnPath todo' j) → (mark marks j ≡ true) ⊎ (IsOne (row ++ position ∷ []) j × OnPath todo' j)
        widen j (inl m) = inl m
        widen j (inr (m, o)) = inr (wider j m, o)

    pub marks-here : position < length marks' → mark marks' position ≡ false → MarksAll (row ++ position ∷ []) marks todo (set marks' position true) (todo' ++ position ∷ [])
    marks-here l z = record {
      size = length-set marks' position true ∙ a.size;
      more = λ i m. mark-more marks' position i l (a.more i m);
      all = λ j m b. by j b ((one_more row position j).0 m);
      fresh = λ j m. fresh j (same_position j position) m;
      kept = λ i o. push_path todo' position i (a.kept i o);
      within = λ i (k, e). within i k (get-push todo' position k i e);
      falls = let u = unmarked-set marks' position l z in let s = length-append todo' (position ∷ []) in let f = a.falls in omega (arith, u, s, f);
    }
      where
        by : (j : ℕ) → j < length marks → IsOne row j ⊎ (j ≡ position) → mark (set marks' position true) j ≡ true
        by j b (inl m) = mark-more marks' position j l (a.all j m b)
        by j b (inr q) = ap (mark (set marks' position true)) q ∙ mark-here marks' position l

        fresh : (j : ℕ) → (j ≡ position) ⊎ (j ≢ position) → mark (set marks' position true) j ≡ true → (mark marks j ≡ true) ⊎ (IsOne (row ++ position ∷ []) j × OnPath (todo' ++ position ∷ []) j)
        fresh j (inl q) m = inr ((one_more row position j).1 (inr q), (length todo', get-last todo' position ∙ ap Some (sym q)))
        fresh j (inr d) m = widen (a.fresh j (sym (mark-there marks' position j d) ∙ m))
          where
            widen : (mark marks j ≡ true) ⊎ (IsOne row j × OnPath todo' j) → (mark marks j ≡ true) ⊎ (IsOne (row ++ position ∷ []) j × OnPath (todo' ++ position ∷ []) j)
            widen (inl h) = inl h
            widen (inr (h, o)) = inr (wider j h, push_path todo' position j o)

        within : (i k : ℕ) → (slice_get todo' k ≡ Some i) ⊎ ((k ≡ length todo') × (position ≡ i)) → OnPath todo i ⊎ ((i < length marks) × (mark (set marks' position true) i ≡ true))
        within i k (inl e) = more (a.within i (k, e))
          where
            more : OnPath todo i ⊎ ((i < length marks) × (mark marks' i ≡ true)) → OnPath todo i ⊎ ((i < length marks) × (mark (set marks' position true) i ≡ true))
            more (inl o) = inl o
            more (inr (b, m)) = inr (b, mark-more marks' position i l m)
        within i k (inr (h, e)) = inr (let s = a.size in omega (arith, l, s, e), ap (mark (set marks' position true)) (sym e) ∙ mark-here marks' position l)

pub marks-next : (row : List ℕ) (position : ℕ) (marks : List Bool) (todo : List ℕ) (marks' : List Bool) (todo' : List ℕ) (marks'' : List Bool) (todo'' : List ℕ) → MarksAll row marks todo marks' todo'
    → MarksOne position marks' todo' marks'' todo'' → MarksAll (row ++ position ∷ []) marks todo marks'' todo''
marks-next row position marks todo marks' todo' marks'' todo'' a (inl (l, (z, (p, q)))) =
    subst (λ ms. MarksAll (row ++ position ∷ []) marks todo ms todo'') (sym p) (subst (MarksAll (row ++ position ∷ []) marks todo (set marks' position true)) (sym q) (marks-here row position marks todo marks' todo' a l z))
marks-next row position marks todo marks' todo' marks'' todo'' a (inr (h, (p, q))) =
    subst (λ ms. MarksAll (row ++ position ∷ []) marks todo ms todo'') (sym p) (subst (MarksAll (row ++ position ∷ []) marks todo marks') (sym q) (marks-over row position marks todo marks' todo' a h))

-- ---- a step of the search

module _ (graph : Graph) (back : Arrows) (reversed : IsReversed graph back) (target : ℕ) where
  pub search-step : (marks marks' : List Bool) (todo todo' row : List ℕ) (n position : ℕ) → IsSearch graph target marks todo → length todo ≡ suc n → slice_get todo n ≡ Some position → slice_get back position ≡ Some row
      → MarksAll row marks (take n todo) marks' todo' → IsSearch graph target marks' todo'
  search-step marks marks' todo todo' row n position s size last there a = record {
    size = a.size ∙ s.size;
    started = a.more target s.started;
    sound = λ i m. sound i (a.fresh i m);
    waiting = λ i o. waiting i (a.within i o);
    closed = λ i j w m. closed i j w (a.fresh i m);
  }
    where
      here : mark marks position ≡ true
      here = (s.waiting position (n, last)).1

      sound : (i : ℕ) → (mark marks i ≡ true) ⊎ (IsOne row i × OnPath todo' i) → LeadsAt graph i target
      sound i (inl m) = s.sound i m
      sound i (inr (m, o)) = let w = (reversed.rows position row there i).0 m in LeadsAt.step w.0 position w.1.0 w.1.1 (s.sound position here)

      waiting : (i : ℕ) → OnPath (take n todo) i ⊎ ((i < length marks) × (mark marks' i ≡ true)) → (i < length graph) × (mark marks' i ≡ true)
      waiting i (inl (k, e)) = let w = s.waiting i (k, (get-pop todo n k i e).1) in (w.0, a.more i w.1)
      waiting i (inr (l, m)) = (let e = s.size in omega (arith, l, e), m)

      closed : (i j : ℕ) → WaitsFor graph j i → (mark marks i ≡ true) ⊎ (IsOne row i × OnPath todo' i) → (mark marks' j ≡ true) ⊎ OnPath todo' i
      closed i j w (inr (m, o)) = inr o
      closed i j w (inl m) = by (s.closed i j w m)
        where
          marked : i ≡ position → mark marks' j ≡ true
          marked q = a.all j ((reversed.rows position row there j).1 (w.0, (w.1.0, subst (IsOne w.0) q w.1.1))) (let l = slice_get_within graph j (Some w.0) w.1.0 in let e = s.size in omega (arith, l, e))

          by : (mark marks j ≡ true) ⊎ OnPath todo i → (mark marks' j ≡ true) ⊎ OnPath todo' i
          by (inl h) = inl (a.more j h)
          by (inr (k, e)) = at (same_position k n)
            where
              at : (k ≡ n) ⊎ (k ≢ n) → (mark marks' j ≡ true) ⊎ OnPath todo' i
              at (inl q) = let r : Some i ≡ Some position = sym e ∙ ap (slice_get todo) q ∙ last in let t : i ≡ position = cc in inl (marked t)
              at (inr d) = inr (a.kept i (k, pop-get todo n k i (let l = slice_get_within todo k i e in omega (arith, l, size, d)) e))

-- where nothing waits, all that lead to the target are marked
pub search-whole : (graph : Graph) (target : ℕ) (marks : List Bool) → IsSearch graph target marks [] → (i : ℕ) → (mark marks i ≡ true) ↔ LeadsAt graph i target
search-whole graph target marks s i = (s.sound i, complete i)
  where
    complete : (i : ℕ) → LeadsAt graph i target → mark marks i ≡ true
    complete i (LeadsAt.here e) = ap (mark marks) e ∙ s.started
    complete i (LeadsAt.step next j g m l) = by (s.closed j i (next, (g, m)) (complete j l))
      where
        by : (mark marks i ≡ true) ⊎ OnPath [] j → mark marks i ≡ true
        by (inl h) = h
        by (inr (k, e)) = cc

pub search-start : (graph : Graph) (target : ℕ) (marks : List Bool) (todo : List ℕ) → marks ≡ set (replicate (length graph) false) target true → todo ≡ target ∷ [] → target < length graph → IsSearch graph target marks todo
search-start graph target marks todo p q h = subst (IsSearch graph target marks) (sym q) (subst (λ ms. IsSearch graph target ms (target ∷ [])) (sym p) (record {
  size = length-set (replicate (length graph) false) target true ∙ length-replicate (length graph) false;
  started = first;
  sound = λ i m. LeadsAt.here (only i (same_position i target) m);
  waiting = λ i (k, e). waits i k e;
  closed = λ i j w m. inr (0, ap Some (sym (only i (same_position i target) m)));
}))
  where
    fits : target < length (replicate (length graph) false)
    fits = let e = length-replicate (length graph) false in omega (arith, e, h)

    first : mark (set (replicate (length graph) false) target true) target ≡ true
    first = mark-here (replicate (length graph) false) target fits

    none : (n i : ℕ) → mark (replicate n false) i ≡ false
    none zero i = refl
    none (suc n) zero = refl
    none (suc n) (suc i) = none n i

    only : (i : ℕ) → (i ≡ target) ⊎ (i ≢ target) → mark (set (replicate (length graph) false) target true) i ≡ true → i ≡ target
    only i (inl e) m = e
    only i (inr d) m = let z : false ≡ true = sym (none (length graph) i) ∙ sym (mark-there (replicate (length graph) false) target i d) ∙ m in cc

    waits : (i k : ℕ) → slice_get (target ∷ []) k ≡ Some i → (i < length graph) × (mark (set (replicate (length graph) false) target true) i ≡ true)
    waits i zero e = let s : target ≡ i = cc in (subst (λ z. z < length graph) s h, ap (mark (set (replicate (length graph) false) target true)) (sym s) ∙ first)
    waits i (suc k) e = cc

-- ---- marks as numbers

number-marked : (marks : List Bool) (i : ℕ) → slice_get (map as_number marks) i ≡ Some 1 → mark marks i ≡ true
number-marked [] i e = let no : ⊥ = cc in absurd no
number-marked (true ∷ marks) zero e = refl
number-marked (false ∷ marks) zero e = let q : ◌≡◌ {A = ℕ} 0 1 = cc in absurd (omega (arith, q))
number-marked (m ∷ marks) (suc i) e = number-marked marks i e

marked-number : (marks : List Bool) (i : ℕ) → mark marks i ≡ true → slice_get (map as_number marks) i ≡ Some 1
marked-number [] i e = let no : ⊥ = cc in absurd no
marked-number (true ∷ marks) zero e = refl
marked-number (false ∷ marks) zero e = let no : ⊥ = cc in absurd no
marked-number (m ∷ marks) (suc i) e = marked-number marks i e

pub numbers-lead : (graph : Graph) (target : ℕ) (marks : List Bool) (numbers : List ℕ) → numbers ≡ map as_number marks → ((i : ℕ) → (mark marks i ≡ true) ↔ LeadsAt graph i target)
    → (i : ℕ) → (slice_get numbers i ≡ Some 1) ↔ LeadsAt graph i target
numbers-lead graph target marks numbers e h i = (
  λ g. (h i).0 (number-marked marks i (ap (λ ns. slice_get ns i) (sym e) ∙ g)),
  λ l. ap (λ ns. slice_get ns i) e ∙ marked-number marks i ((h i).1 l),
)
