-- Groups are settled and listed, one after another, and all are listed in the end.
use Rattle.std.proofs.Common.{◌≡◌, ◌≢◌, ◌⊎◌, ◌↔◌, inl, inr, refl, sym, ap, ◌∙◌, subst, ℕ, zero, suc, ◌+◌, ◌<◌, ◌≤◌, Bool, true, false, List, [], ◌∷◌, ◌++◌, length, set, replicate, leb, Some, slice_get, slice_index_or, arith}
use Rattle.std.proofs.lemmas.List.{length-set, length-replicate}
use Rattle.std.proofs.lemmas.Option.{slice_get-get_or, get_or_from_slice_get}
use Rattle.std.proofs.lemmas.Bool.Decides.{leb_tells}
use Rattle.st_graph.specs.Graph.{Edge, Stands}
use Rattle.st_graph.proofs.Positions.{same_position, below-next, get-none, get-same, get-front, get-push, get-last, get-within, get-at, set-other, set-here, set-same, replicate-get}
use Rattle.st_deps.specs.inner.Listing.{IsFalling, IsNextRank, IsOrder, Waits, IsListing, opens}
use Rattle.st_deps.proofs.TableLemmas.{row-sound, row-old, row-new}

-- none is both listed and not
not-both : (listed : List Bool) (a : ℕ) → slice_get listed a ≡ Some true → slice_get listed a ≡ Some false → ⊥
not-both listed a e f = let q : true ≡ false = get-same listed a true false e f in let no : ⊥ = cc in no

-- ---- what is read

-- whether what is cited at a place is listed
pub cited-listed : (cited : List ℕ) (listed : List Bool) (k b : ℕ) (d t : Bool) → slice_get cited k ≡ Some b → b < length listed → slice_index_or listed (slice_index_or cited k 0) d ≡ t → slice_get listed b ≡ Some t
cited-listed cited listed k b d t e less h =
    slice_get-get_or listed b d less ∙ ap Some (ap (λ (i : ℕ). slice_index_or listed i d) (sym (get_or_from_slice_get cited k b 0 e)) ∙ h)

-- the numbers below the next are those below this one, and this one
pub below-more : (all more : List ℕ) (n : ℕ) → more ≡ all ++ n ∷ [] → ((a : ℕ) → Stands all a ↔ (a < n)) → (a : ℕ) → Stands more a ↔ (a < n + 1)
below-more all more n is are a = (λ s. to (of-last s), λ less. subst (λ z. Stands z a) (sym is) (from (below-next a n (omega (arith, less)))))
  where
    of-last : Stands more a → Stands all a ⊎ (n ≡ a)
    of-last (k, e) = by (get-push all n k a (ap (λ z. slice_get z k) (sym is) ∙ e))
      where
        by : (slice_get all k ≡ Some a) ⊎ ((k ≡ length all) × (n ≡ a)) → Stands all a ⊎ (n ≡ a)
        by (inl f) = inl (k, f)
        by (inr (f, q)) = inr q

    to : Stands all a ⊎ (n ≡ a) → a < n + 1
    to (inl s) = let h = (are a).0 s in omega (arith, h)
    to (inr q) = omega (arith, q)

    front : Stands all a → Stands (all ++ n ∷ []) a
    front (k, e) = (k, get-front all (n ∷ []) k a e)

    from : (a < n) ⊎ (a ≡ n) → Stands (all ++ n ∷ []) a
    from (inl less) = front ((are a).1 less)
    from (inr q) = (length all, get-last all n ∙ ap Some (sym q))

-- ---- a group is settled

module _ (rows : List (List ℕ)) (order : List ℕ) (listed : List Bool) (met : List ℕ) (waiting : List (List ℕ)) (ready : List ℕ) (group : ℕ) (rest : List ℕ)
    (l : IsListing rows order listed met waiting ready (group ∷ rest)) (row : List ℕ) (here : slice_get rows group ≡ Some row)
    (from at : ℕ) (was : slice_get met group ≡ Some from) (meets : (k b : ℕ) → from ≤ k → k < at → slice_get row k ≡ Some b → slice_get listed b ≡ Some true) where
  -- all before the place that it comes to is listed
  before-place : (k b : ℕ) → k < at → slice_get row k ≡ Some b → slice_get listed b ≡ Some true
  before-place k b less e = by (leb_tells from k)
    where
      by : ((leb from k ≡ true) × (from ≤ k)) ⊎ ((leb from k ≡ false) × (k < from)) → slice_get listed b ≡ Some true
      by (inl (t, h)) = meets k b h less e
      by (inr (t, h)) = l.is_met group from k b row was here h e

  still-met : (a m k b : ℕ) (row' : List ℕ) → slice_get (set met group at) a ≡ Some m → slice_get rows a ≡ Some row' → k < m → slice_get row' k ≡ Some b → slice_get listed b ≡ Some true
  still-met a m k b row' e f less g = by (same_position a group)
    where
      by : (a ≡ group) ⊎ (a ≢ group) → slice_get listed b ≡ Some true
      by (inl q) =
          let is : at ≡ m = set-same met group at m (ap (slice_get (set met group at)) (sym q) ∙ e) in
          let same : row' ≡ row = get-same rows group row' row (ap (slice_get rows) (sym q) ∙ f) here in
          before-place k b (omega (arith, less, is)) (ap (λ (r : List ℕ). slice_get r k) (sym same) ∙ g)
      by (inr d) = l.is_met a m k b row' (sym (set-other met group a at d) ∙ e) f less g

  -- it waits for the one at that place, which is not listed
  pub settle-waits : (b : ℕ) (old : List ℕ) → slice_get row at ≡ Some b → slice_get listed b ≡ Some false → slice_get waiting b ≡ Some old
      → IsListing rows order listed (set met group at) (set waiting b (old ++ group ∷ [])) ready rest
  settle-waits b old there is_open had = record {
    listed_size = l.listed_size;
    met_size = length-set met group at ∙ l.met_size;
    waiting_size = length-set waiting b (old ++ group ∷ []) ∙ l.waiting_size;
    in_order = l.in_order;
    of_order = l.of_order;
    each = l.each;
    closed = l.closed;
    is_met = still-met;
    waits = λ a d e f. waits-by a d f (row-sound waiting b old (group ∷ []) had d a e);
    is_open = l.is_open;
    is_ready = l.is_ready;
    pends = λ a s. l.pends a (later a s);
    others = λ a e. others-by a (l.others a e);
  }
    where
      cited : Edge rows group b
      cited = (row, (here, (at, there)))

      later : (a : ℕ) → Stands rest a → Stands (group ∷ rest) a
      later a (k, e) = (suc k, e)

      only : (a k : ℕ) → slice_get (group ∷ []) k ≡ Some a → group ≡ a
      only a zero e = cc
      only a (suc k) e = absurd (get-none k a e)

      waits-by : (a d : ℕ) → slice_get listed d ≡ Some false → Edge waiting d a ⊎ ((d ≡ b) × Stands (group ∷ []) a) → Edge rows a d
      waits-by a d f (inl e) = l.waits a d e f
      waits-by a d f (inr (q, (k, e))) = subst (λ z. Edge rows z d) (only a k e) (subst (λ z. Edge rows group z) (sym q) cited)

      waits-here : (a : ℕ) → group ≡ a → Waits rows listed (set waiting b (old ++ group ∷ [])) a
      waits-here a q = record {
        for_which = b;
        cites = subst (λ z. Edge rows z b) q cited;
        stands = subst (λ z. Edge (set waiting b (old ++ group ∷ [])) b z) q (row-new waiting b old (group ∷ []) had group (0, refl));
        is_open = is_open;
      }

      pending-by : (a : ℕ) → Stands (group ∷ rest) a → Stands rest a ⊎ (Stands ready a ⊎ Waits rows listed (set waiting b (old ++ group ∷ [])) a)
      pending-by a (zero, e) = inr (inr (waits-here a cc))
      pending-by a (suc k, e) = inl (k, e)

      others-by : (a : ℕ) → Stands (group ∷ rest) a ⊎ (Stands ready a ⊎ Waits rows listed waiting a)
          → Stands rest a ⊎ (Stands ready a ⊎ Waits rows listed (set waiting b (old ++ group ∷ [])) a)
      others-by a (inl s) = pending-by a s
      others-by a (inr (inl s)) = inr (inl s)
      others-by a (inr (inr w)) = inr (inr record {
        for_which = w.for_which;
        cites = w.cites;
        stands = row-old waiting b old (group ∷ []) had w.for_which a w.stands;
        is_open = w.is_open;
      })

  -- it is ready where no place is left
  pub settle-ready : (ready' : List ℕ) → length row ≤ at → ((a : ℕ) → Stands ready' a ↔ (Stands ready a ⊎ (a ≡ group)))
      → IsListing rows order listed (set met group at) waiting ready' rest
  settle-ready ready' past are = record {
    listed_size = l.listed_size;
    met_size = length-set met group at ∙ l.met_size;
    waiting_size = l.waiting_size;
    in_order = l.in_order;
    of_order = l.of_order;
    each = l.each;
    closed = l.closed;
    is_met = still-met;
    waits = l.waits;
    is_open = λ a s. open-by a ((are a).0 s);
    is_ready = λ a b s e. ready-by a b e ((are a).0 s);
    pends = λ a s. l.pends a (later a s);
    others = λ a e. others-by a (l.others a e);
  }
    where
      later : (a : ℕ) → Stands rest a → Stands (group ∷ rest) a
      later a (k, e) = (suc k, e)

      -- a place that there is stands before
      is-before : (k b : ℕ) → slice_get row k ≡ Some b → k < at
      is-before k b e = let n = get-within row k b e in omega (arith, n, past)

      cites : (b : ℕ) → Edge rows group b → slice_get listed b ≡ Some true
      cites b (row', (e, (k, f))) =
          let same : row' ≡ row = get-same rows group row' row e here in
          let g : slice_get row k ≡ Some b = ap (λ (r : List ℕ). slice_get r k) (sym same) ∙ f in before-place k b (is-before k b g) g

      open-by : (a : ℕ) → Stands ready a ⊎ (a ≡ group) → slice_get listed a ≡ Some false
      open-by a (inl s) = l.is_open a s
      open-by a (inr q) = ap (slice_get listed) q ∙ l.pends group (0, refl)

      ready-by : (a b : ℕ) → Edge rows a b → Stands ready a ⊎ (a ≡ group) → slice_get listed b ≡ Some true
      ready-by a b e (inl s) = l.is_ready a b s e
      ready-by a b e (inr q) = cites b (subst (λ z. Edge rows z b) q e)

      pending-by : (a : ℕ) → Stands (group ∷ rest) a → Stands rest a ⊎ (Stands ready' a ⊎ Waits rows listed waiting a)
      pending-by a (zero, e) = let q : a ≡ group = cc in inr (inl ((are a).1 (inr q)))
      pending-by a (suc k, e) = inl (k, e)

      others-by : (a : ℕ) → Stands (group ∷ rest) a ⊎ (Stands ready a ⊎ Waits rows listed waiting a) → Stands rest a ⊎ (Stands ready' a ⊎ Waits rows listed waiting a)
      others-by a (inl s) = pending-by a s
      others-by a (inr (inl s)) = inr (inl ((are a).1 (inl s)))
      others-by a (inr (inr w)) = inr (inr w)

-- ---- a group is listed

-- the last of a list with one more, or one before it
data PushSplit (xs : List ℕ) (x : ℕ) (before : List ℕ) (a : ℕ) : Type 0 where
  last : before ≡ xs → a ≡ x → PushSplit xs x before a
  early : (after : List ℕ) → xs ≡ before ++ a ∷ after → PushSplit xs x before a

push-split : (xs before after : List ℕ) (x a : ℕ) → xs ++ x ∷ [] ≡ before ++ a ∷ after → PushSplit xs x before a
push-split [] [] after x a e = last refl cc
push-split [] (b ∷ []) after x a e = let no : ⊥ = cc in absurd no
push-split [] (b ∷ c ∷ before) after x a e = let no : ⊥ = cc in absurd no
push-split (y ∷ xs) [] after x a e = let same : y ≡ a = cc in early xs (ap (λ z. z ∷ xs) same)
push-split (y ∷ xs) (b ∷ before) after x a e =
    let same : y ≡ b = cc in let rest : xs ++ x ∷ [] ≡ before ++ a ∷ after = cc in by same (push-split xs before after x a rest)
  where
    by : y ≡ b → PushSplit xs x before a → PushSplit (y ∷ xs) x (b ∷ before) a
    by q (last f g) = last (ap (λ z. z ∷ before) (sym q) ∙ ap (λ zs. y ∷ zs) f) g
    by q (early more f) = early more (ap (λ z. z ∷ xs) q ∙ ap (λ zs. b ∷ zs) f)

module _ (rows : List (List ℕ)) (order : List ℕ) (listed : List Bool) (met : List ℕ) (waiting : List (List ℕ)) (ready : List ℕ) (group : ℕ)
    (l : IsListing rows order listed met waiting (group ∷ ready) []) (least : (a : ℕ) → Stands ready a → group < a) where
  open-here : slice_get listed group ≡ Some false
  open-here = l.is_open group (0, refl)

  not-listed : (a : ℕ) → slice_get listed a ≡ Some false → Stands order a → ⊥
  not-listed a e s = not-both listed a (l.of_order a s) e

  -- the group is the next
  pub next-listed : IsNextRank rows order group
  next-listed = record {
    within = let n = get-within listed group false open-here in let s = l.listed_size in omega (arith, n, s);
    is_new = not-listed group open-here;
    is_ready = λ b e. l.in_order b (l.is_ready group b (0, refl) e);
    no_earlier = λ b less new. earlier b less new (get-at listed b (let n = get-within listed group false open-here in omega (arith, n, less)));
  }
    where
      waiting-one : (b : ℕ) → Waits rows listed waiting b → (d : ℕ) × (Edge rows b d × (Stands order d → ⊥))
      waiting-one b w = (w.for_which, (w.cites, not-listed w.for_which w.is_open))

      not-ready : (b : ℕ) → b < group → Stands (group ∷ ready) b → ⊥
      not-ready b less (zero, e) = let q : group ≡ b = cc in omega (arith, q, less)
      not-ready b less (suc k, e) = let h = least b (k, e) in omega (arith, h, less)

      by : (b : ℕ) → b < group → Stands [] b ⊎ (Stands (group ∷ ready) b ⊎ Waits rows listed waiting b) → (d : ℕ) × (Edge rows b d × (Stands order d → ⊥))
      by b less (inl (k, e)) = absurd (get-none k b e)
      by b less (inr (inl s)) = absurd (not-ready b less s)
      by b less (inr (inr w)) = waiting-one b w

      earlier : (b : ℕ) → b < group → (Stands order b → ⊥) → (t : Bool) × (slice_get listed b ≡ Some t) → (d : ℕ) × (Edge rows b d × (Stands order d → ⊥))
      earlier b less new (true, e) = absurd (new (l.in_order b e))
      earlier b less new (false, e) = by b less (l.others b e)

  stays-listed : (b : ℕ) → slice_get listed b ≡ Some true → slice_get (set listed group true) b ≡ Some true
  stays-listed b e = by (same_position b group)
    where
      by : (b ≡ group) ⊎ (b ≢ group) → slice_get (set listed group true) b ≡ Some true
      by (inl q) = ap (slice_get (set listed group true)) q ∙ set-here listed group true false open-here
      by (inr d) = set-other listed group b true d ∙ e

  stays-open : (a : ℕ) → a ≢ group → slice_get listed a ≡ Some false → slice_get (set listed group true) a ≡ Some false
  stays-open a d e = set-other listed group a true d ∙ e

  was-other : (a : ℕ) → slice_get (set listed group true) a ≡ Some false → a ≢ group
  was-other a e q = not-both (set listed group true) a (ap (slice_get (set listed group true)) q ∙ set-here listed group true false open-here) e

  was-open : (a : ℕ) → slice_get (set listed group true) a ≡ Some false → slice_get listed a ≡ Some false
  was-open a e = sym (set-other listed group a true (was-other a e)) ∙ e

  was-listed : (a : ℕ) → slice_get (set listed group true) a ≡ Some true → (slice_get listed a ≡ Some true) ⊎ (a ≡ group)
  was-listed a e = by (same_position a group)
    where
      by : (a ≡ group) ⊎ (a ≢ group) → (slice_get listed a ≡ Some true) ⊎ (a ≡ group)
      by (inl q) = inr q
      by (inr d) = inl (sym (set-other listed group a true d) ∙ e)

  pub list-keeps : (row : List ℕ) → slice_get waiting group ≡ Some row → IsListing rows (order ++ group ∷ []) (set listed group true) met waiting ready row
  list-keeps row there = record {
    listed_size = length-set listed group true ∙ l.listed_size;
    met_size = l.met_size;
    waiting_size = l.waiting_size;
    in_order = λ a e. in-by a (was-listed a e);
    of_order = λ a s. of-by a s;
    each = λ before after a e. each-by before a (push-split order before after group a e);
    closed = λ a b e f. stays-listed b (closed-by a b f (was-listed a e));
    is_met = λ a m k b r e f less g. stays-listed b (l.is_met a m k b r e f less g);
    waits = λ a b e f. l.waits a b e (was-open b f);
    is_open = λ a s. stays-open a (other-ready a s) (l.is_open a (later a s));
    is_ready = λ a b s e. stays-listed b (l.is_ready a b (later a s) e);
    pends = λ a s. pends-by a (l.waits a group (row, (there, s)) open-here);
    others = λ a e. others-by a (was-other a e) (l.others a (was-open a e));
  }
    where
      later : (a : ℕ) → Stands ready a → Stands (group ∷ ready) a
      later a (k, e) = (suc k, e)

      other-ready : (a : ℕ) → Stands ready a → a ≢ group
      other-ready a s q = let h = least a s in omega (arith, h, q)

      in-by : (a : ℕ) → (slice_get listed a ≡ Some true) ⊎ (a ≡ group) → Stands (order ++ group ∷ []) a
      in-by a (inl e) = front (l.in_order a e)
        where
          front : Stands order a → Stands (order ++ group ∷ []) a
          front (k, f) = (k, get-front order (group ∷ []) k a f)
      in-by a (inr q) = (length order, get-last order group ∙ ap Some (sym q))

      of-by : (a : ℕ) → Stands (order ++ group ∷ []) a → slice_get (set listed group true) a ≡ Some true
      of-by a (k, e) = two (get-push order group k a e)
        where
          two : (slice_get order k ≡ Some a) ⊎ ((k ≡ length order) × (group ≡ a)) → slice_get (set listed group true) a ≡ Some true
          two (inl f) = stays-listed a (l.of_order a (k, f))
          two (inr (f, q)) = ap (slice_get (set listed group true)) (sym q) ∙ set-here listed group true false open-here

      each-by : (before : List ℕ) (a : ℕ) → PushSplit order group before a → IsNextRank rows before a
      each-by before a (last e q) = subst (λ b. IsNextRank rows b a) (sym e) (subst (λ z. IsNextRank rows order z) (sym q) next-listed)
      each-by before a (early after e) = l.each before after a e

      closed-by : (a b : ℕ) → Edge rows a b → (slice_get listed a ≡ Some true) ⊎ (a ≡ group) → slice_get listed b ≡ Some true
      closed-by a b f (inl e) = l.closed a b e f
      closed-by a b f (inr q) = l.is_ready group b (0, refl) (subst (λ z. Edge rows z b) q f)

      pends-by : (a : ℕ) → Edge rows a group → slice_get (set listed group true) a ≡ Some false
      pends-by a e = by (same_position a group)
        where
          at : (t : Bool) × (slice_get listed a ≡ Some t) → a ≢ group → slice_get (set listed group true) a ≡ Some false
          at (true, f) d = absurd (not-both listed group (l.closed a group f e) open-here)
          at (false, f) d = stays-open a d f

          within : Edge rows a group → a < length listed
          within (r, (f, s)) = let n = get-within rows a r f in let size = l.listed_size in omega (arith, n, size)

          by : (a ≡ group) ⊎ (a ≢ group) → slice_get (set listed group true) a ≡ Some false
          by (inl q) = absurd (not-both listed group (l.is_ready group group (0, refl) (subst (λ z. Edge rows z group) q e)) open-here)
          by (inr d) = at (get-at listed a (within e)) d

      ready-by : (a : ℕ) → a ≢ group → Stands (group ∷ ready) a → Stands ready a
      ready-by a d (zero, e) = let q : a ≡ group = cc in absurd (d q)
      ready-by a d (suc k, e) = (k, e)

      row-has : (a : ℕ) → Edge waiting group a → Stands row a
      row-has a (r, (e, (k, f))) = let same : r ≡ row = get-same waiting group r row e there in (k, ap (λ (z : List ℕ). slice_get z k) (sym same) ∙ f)

      waits-by : (a : ℕ) (w : Waits rows listed waiting a) → (w.for_which ≡ group) ⊎ (w.for_which ≢ group)
          → Stands row a ⊎ (Stands ready a ⊎ Waits rows (set listed group true) waiting a)
      waits-by a w (inl q) = inl (row-has a (subst (λ z. Edge waiting z a) q w.stands))
      waits-by a w (inr d) = inr (inr record { for_which = w.for_which; cites = w.cites; stands = w.stands; is_open = stays-open w.for_which d w.is_open })

      others-by : (a : ℕ) → a ≢ group → Stands [] a ⊎ (Stands (group ∷ ready) a ⊎ Waits rows listed waiting a)
          → Stands row a ⊎ (Stands ready a ⊎ Waits rows (set listed group true) waiting a)
      others-by a d (inl (k, e)) = absurd (get-none k a e)
      others-by a d (inr (inl s)) = inr (inl (ready-by a d s))
      others-by a d (inr (inr w)) = waits-by a w (same_position w.for_which group)

-- fewer are not listed then
pub opens-set : (listed : List Bool) (a : ℕ) → slice_get listed a ≡ Some false → opens (set listed a true) < opens listed
opens-set [] a e = absurd (get-none a false e)
opens-set (true ∷ listed) zero e = let no : ⊥ = cc in absurd no
opens-set (false ∷ listed) zero e = omega arith
opens-set (true ∷ listed) (suc a) e = opens-set listed a e
opens-set (false ∷ listed) (suc a) e = let h = opens-set listed a e in omega (arith, h)

-- ---- the beginning and the end

pub listing-starts : (rows : List (List ℕ)) (all : List ℕ) → ((a : ℕ) → Stands all a ↔ (a < length rows))
    → IsListing rows [] (replicate (length rows) false) (replicate (length rows) 0) (replicate (length rows) []) [] all
listing-starts rows all are = record {
  listed_size = length-replicate (length rows) false;
  met_size = length-replicate (length rows) 0;
  waiting_size = length-replicate (length rows) [];
  in_order = λ a e. absurd (none a e);
  of_order = λ a (k, e). absurd (get-none k a e);
  each = λ before after a e. absurd (empty before after a e);
  closed = λ a b e f. absurd (none a e);
  is_met = λ a m k b row e f less g. let q : 0 ≡ m = replicate-get (length rows) 0 a m e in absurd (omega (arith, q, less));
  waits = λ a b (row, (e, (k, f))) g. let q : [] ≡ row = replicate-get (length rows) [] b row e in absurd (get-none k a (ap (λ (z : List ℕ). slice_get z k) q ∙ f));
  is_open = λ a (k, e). absurd (get-none k a e);
  is_ready = λ a b (k, e) f. absurd (get-none k a e);
  pends = λ a s. open-at a ((are a).0 s);
  others = λ a e. inl ((are a).1 (let n = get-within (replicate (length rows) false) a false e in let s = length-replicate (length rows) false in omega (arith, n, s)));
}
  where
    none : (a : ℕ) → slice_get (replicate (length rows) false) a ≡ Some true → ⊥
    none a e = let q : false ≡ true = replicate-get (length rows) false a true e in let no : ⊥ = cc in no

    empty : (before after : List ℕ) (a : ℕ) → [] ≡ before ++ a ∷ after → ⊥
    empty [] after a e = let no : ⊥ = cc in no
    empty (b ∷ before) after a e = let no : ⊥ = cc in no

    open-at : (a : ℕ) → a < length rows → slice_get (replicate (length rows) false) a ≡ Some false
    open-at a less = by (get-at (replicate (length rows) false) a (let s = length-replicate (length rows) false in omega (arith, s, less)))
      where
        by : (t : Bool) × (slice_get (replicate (length rows) false) a ≡ Some t) → slice_get (replicate (length rows) false) a ≡ Some false
        by (t, e) = e ∙ ap Some (sym (replicate-get (length rows) false a t e))

-- the same, as the code has it
pub listing-begins : (rows : List (List ℕ)) (order : List ℕ) (listed : List Bool) (met : List ℕ) (waiting : List (List ℕ)) (ready all : List ℕ) → order ≡ [] → listed ≡ replicate (length rows) false
    → met ≡ replicate (length rows) 0 → waiting ≡ replicate (length rows) [] → ready ≡ [] → ((a : ℕ) → Stands all a ↔ (a < length rows)) → IsListing rows order listed met waiting ready all
listing-begins rows order listed met waiting ready all a b c d e are =
    subst (λ (z : List ℕ). IsListing rows z listed met waiting ready all) (sym a)
    (subst (λ (z : List Bool). IsListing rows [] z met waiting ready all) (sym b)
    (subst (λ (z : List ℕ). IsListing rows [] (replicate (length rows) false) z waiting ready all) (sym c)
    (subst (λ (z : List (List ℕ)). IsListing rows [] (replicate (length rows) false) (replicate (length rows) 0) z ready all) (sym d)
    (subst (λ (z : List ℕ). IsListing rows [] (replicate (length rows) false) (replicate (length rows) 0) (replicate (length rows) []) z all) (sym e) (listing-starts rows all are)))))

module _ (rows : List (List ℕ)) (order : List ℕ) (listed : List Bool) (met : List ℕ) (waiting : List (List ℕ))
    (l : IsListing rows order listed met waiting [] []) (falls : IsFalling rows) where
  -- where something is not listed, something is ready
  all-below : (h a : ℕ) → falls.0 a < h → a < length rows → slice_get listed a ≡ Some true
  all-below zero a high within = absurd (omega (arith, high))
  all-below (suc h) a high within = by (λ b low there. all-below h b low there) (get-at listed a (let s = l.listed_size in omega (arith, within, s)))
    where
      size : length listed ≡ length rows
      size = l.listed_size

      waits : ((b : ℕ) → falls.0 b < h → b < length rows → slice_get listed b ≡ Some true) → Waits rows listed waiting a → slice_get listed a ≡ Some true
      waits more w =
          let lower = falls.1 a w.for_which w.cites in
          let n = get-within listed w.for_which false w.is_open in
          let z = size in
          absurd (not-both listed w.for_which (more w.for_which (omega (arith, lower, high)) (omega (arith, n, z))) w.is_open)

      other : ((b : ℕ) → falls.0 b < h → b < length rows → slice_get listed b ≡ Some true) → Stands [] a ⊎ (Stands [] a ⊎ Waits rows listed waiting a) → slice_get listed a ≡ Some true
      other more (inl (k, e)) = absurd (get-none k a e)
      other more (inr (inl (k, e))) = absurd (get-none k a e)
      other more (inr (inr w)) = waits more w

      by : ((b : ℕ) → falls.0 b < h → b < length rows → slice_get listed b ≡ Some true) → (t : Bool) × (slice_get listed a ≡ Some t) → slice_get listed a ≡ Some true
      by more (true, e) = e
      by more (false, e) = other more (l.others a e)

  pub all-listed : IsOrder rows order
  all-listed = record {
    each = l.each;
    whole = λ a within. l.in_order a (all-below (suc (falls.0 a)) a (omega arith) within);
  }
