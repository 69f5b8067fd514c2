-- The groups in the order of their ranks are those of the names.
use Rattle.std.proofs.Common.{◌≡◌, ◌≢◌, ◌⊎◌, inl, inr, refl, sym, ap, ◌∙◌, subst, ℕ, zero, suc, ◌<◌, ◌≤◌, ◌==◌, List, [], ◌∷◌, ◌++◌, length, take, drop, map, filter, Bool, true, false, leb, Option, Some, None, slice_get, slice_index_or, Contains, arith}
use Rattle.std.proofs.lemmas.List.Elements.{Contains-append_left, Contains-append_right, Contains-append_cases}
use Rattle.std.proofs.lemmas.Bool.Decides.{Decides-eqb, leb_tells}
use Rattle.std.proofs.lemmas.Option.{get_or_from_slice_get}
use Rattle.st_graph.specs.Reaches.{Reaches, itself, through}
use Rattle.st_graph.specs.Graph.{Edge, Stands}
use Rattle.st_graph.proofs.Positions.{same_position, get-none, get-same, get-within, get-at, get-taken}
use Rattle.st_il.specs.declared.definition.Il.{Il}
use Rattle.st_deps.specs.Cited.{Name}
use Rattle.st_deps.specs.Definitions.{declared, Cites}
use Rattle.st_deps.specs.Groups.{IsGroup, IsNext, AreGroups, in_groups}
use Rattle.st_deps.specs.GroupNumbers.{AreGroupNumbers}
use Rattle.st_deps.specs.Table.{IsTable}
use Rattle.st_deps.specs.inner.Table.{number_in}
use Rattle.st_deps.specs.inner.Ranks.{AreRanks}
use Rattle.st_deps.specs.inner.Condensation.{GroupEdge, IsCondensation}
use Rattle.st_deps.specs.inner.Members.{of_rank, AreMembers}
use Rattle.st_deps.specs.inner.Listing.{IsFalling, IsNextRank, IsOrder}
use Rattle.st_deps.proofs.TableLemmas.{contains-stands, stands-contains, declared-distinct, number-sound, number-complete}
use Rattle.st_deps.proofs.MembersLemmas.{of_rank-sound, of_rank-complete, of_rank-filter, filter-passes, filter-keeps}

-- the first place of what stands in a list
abbrev First : List ℕ → ℕ → Type 0
First xs c = (f : ℕ) × ((slice_get xs f ≡ Some c) × ((j : ℕ) → j < f → slice_get xs j ≡ Some c → ⊥))

first-place : (xs : List ℕ) (c k : ℕ) → slice_get xs k ≡ Some c → First xs c
first-place [] c k e = absurd (get-none k c e)
first-place (x ∷ xs) c zero e = (0, (e, λ j less f. omega (arith, less)))
first-place (x ∷ xs) c (suc k) e = by (same_position x c) (first-place xs c k e)
  where
    later : x ≢ c → First xs c → First (x ∷ xs) c
    later d (f, (g, least)) = (suc f, (g, before))
      where
        before : (j : ℕ) → j < suc f → slice_get (x ∷ xs) j ≡ Some c → ⊥
        before zero less h = let q : x ≡ c = cc in d q
        before (suc j) less h = least j (omega (arith, less)) h

    by : (x ≡ c) ⊎ (x ≢ c) → First xs c → First (x ∷ xs) c
    by (inl q) more = (0, (ap Some q, λ j less f. omega (arith, less)))
    by (inr d) more = later d more

splits-at : {A : Type 0} (xs : List A) (k : ℕ) (x : A) → slice_get xs k ≡ Some x → xs ≡ take k xs ++ x ∷ drop (suc k) xs
splits-at [] k x e = absurd (get-none k x e)
splits-at (y ∷ xs) zero x e = let same : y ≡ x = cc in ap (λ z. z ∷ xs) same
splits-at (y ∷ xs) (suc k) x e = ap (λ zs. y ∷ zs) (splits-at xs k x e)

-- a list of images is split as the list is
abbrev MapSplit : {A B : Type 0} → (A → B) → List A → List B → B → Type 0
MapSplit {A} {B} f xs before y =
    (front : List A) × ((back : List A) × ((x : A) × ((xs ≡ front ++ x ∷ back) × ((before ≡ map f front) × (y ≡ f x)))))

map-split : {A B : Type 0} (f : A → B) (xs : List A) (before after : List B) (y : B) → map f xs ≡ before ++ y ∷ after → MapSplit f xs before y
map-split f [] [] after y e = let no : ⊥ = cc in absurd no
map-split f [] (b ∷ before) after y e = let no : ⊥ = cc in absurd no
map-split f (x ∷ xs) [] after y e = let same : y ≡ f x = cc in ([], (xs, (x, (refl, (refl, same)))))
map-split f (x ∷ xs) (b ∷ before) after y e =
    let same : b ≡ f x = cc in let rest : map f xs ≡ before ++ y ∷ after = cc in by same (map-split f xs before after y rest)
  where
    by : b ≡ f x → MapSplit f xs before y → MapSplit f (x ∷ xs) (b ∷ before) y
    by q (front, (back, (z, (g, (h, k))))) = (x ∷ front, (back, (z, (ap (λ zs. x ∷ zs) g, (ap (λ w. w ∷ before) q ∙ ap (λ zs. f x ∷ zs) h, k)))))

map-agrees : {A B : Type 0} (f g : A → B) (xs : List A) → ((x : A) → Stands xs x → f x ≡ g x) → map f xs ≡ map g xs
map-agrees f g [] h = refl
map-agrees f g (x ∷ xs) h =
    let one = h x (0, refl) in let more = map-agrees f g xs (λ y (k, e). h y (suc k, e)) in ap (λ z. z ∷ map f xs) one ∙ ap (λ zs. g x ∷ zs) more

-- the test of a rank
abbrev rank_is : ℕ → Option ℕ → Bool
rank_is c None = false
rank_is c (Some d) = d == c

abbrev rank_at : ℕ → List ℕ → Option ℕ → Bool
rank_at c ranks None = false
rank_at c ranks (Some i) = rank_is c (slice_get ranks i)

module _ (il : Il) (numbers ranks : List ℕ) (count : ℕ) (g : AreGroupNumbers il numbers) (r : AreRanks numbers ranks count) where
  sizes : length ranks ≡ length (declared il)
  sizes = r.size ∙ g.size

  rank-of : (i : ℕ) (x : Name) → slice_get (declared il) i ≡ Some x → (c : ℕ) × (slice_get ranks i ≡ Some c)
  rank-of i x e = let n = get-within (declared il) i x e in let s = sizes in get-at ranks i (omega (arith, n, s))

  -- what is reached has no higher number
  falls-along : (x y : Name) → Reaches (Cites il) x y → (i j c d : ℕ) → slice_get (declared il) i ≡ Some x → slice_get (declared il) j ≡ Some y → slice_get numbers i ≡ Some c
      → slice_get numbers j ≡ Some d → d ≤ c
  falls-along x y itself i j c d e f h k =
      let same : i ≡ j = declared-distinct il i j x e f in
      let is : c ≡ d = get-same numbers i c d h (ap (slice_get numbers) same ∙ k) in omega (arith, is)
  falls-along x y (through z cites more) i j c d e f h k = by (λ m n p q. falls-along z y more m j n d p f q k) (contains-stands (declared il) z cites.to)
    where
      at : ((m n : ℕ) → slice_get (declared il) m ≡ Some z → slice_get numbers m ≡ Some n → d ≤ n) → (m : ℕ) → slice_get (declared il) m ≡ Some z → (n : ℕ) × (slice_get numbers m ≡ Some n) → d ≤ c
      at later m p (n, q) =
          let one = g.falls i m c n x z e p cites h q in
          let two = later m n p q in omega (arith, one, two)

      by : ((m n : ℕ) → slice_get (declared il) m ≡ Some z → slice_get numbers m ≡ Some n → d ≤ n) → Stands (declared il) z → d ≤ c
      by later (m, p) = at later m p (let n = get-within (declared il) m z p in let s = g.size in get-at numbers m (omega (arith, n, s)))

  -- names that reach each other have one rank
  one-rank : (i j c d : ℕ) (x y : Name) → slice_get (declared il) i ≡ Some x → slice_get (declared il) j ≡ Some y → Reaches (Cites il) x y → Reaches (Cites il) y x
      → slice_get ranks i ≡ Some c → slice_get ranks j ≡ Some d → c ≡ d
  one-rank i j c d x y e f to back h k =
      let a = falls-along x y to i j (r.number_of c) (r.number_of d) e f (r.has_number i c h) (r.has_number j d k) in
      let b = falls-along y x back j i (r.number_of d) (r.number_of c) f e (r.has_number j d k) (r.has_number i c h) in
      r.only c d (r.within i c h) (r.within j d k) (omega (arith, a, b))

  -- names of one rank reach each other
  rank-reaches : (i j c : ℕ) (x y : Name) → slice_get (declared il) i ≡ Some x → slice_get (declared il) j ≡ Some y → slice_get ranks i ≡ Some c → slice_get ranks j ≡ Some c → Reaches (Cites il) x y
  rank-reaches i j c x y e f h k = g.together i j (r.number_of c) x y e f (r.has_number i c h) (r.has_number j c k)

  -- what a declared name reaches is declared
  reached-stands : (x y : Name) → Stands (declared il) x → Reaches (Cites il) x y → Stands (declared il) y
  reached-stands x y s itself = s
  reached-stands x y s (through z cites more) = reached-stands z y (contains-stands (declared il) z cites.to) more

  abbrev among : ℕ → Name → Bool
  among c y = rank_at c ranks (number_in (declared il) y)

  among-at : (c i d : ℕ) (y : Name) → slice_get (declared il) i ≡ Some y → slice_get ranks i ≡ Some d → among c y ≡ (d == c)
  among-at c i d y e f = ap (rank_at c ranks) (number-complete (declared il) y i (declared-distinct il) e) ∙ ap (rank_is c) f

  among-sound : (c : ℕ) (y : Name) → among c y ≡ true → (i : ℕ) × ((slice_get (declared il) i ≡ Some y) × (slice_get ranks i ≡ Some c))
  among-sound c y h = by (number_in (declared il) y) refl h
    where
      at : (i : ℕ) → slice_get (declared il) i ≡ Some y → (o : Option ℕ) → slice_get ranks i ≡ o → rank_is c o ≡ true
          → (i : ℕ) × ((slice_get (declared il) i ≡ Some y) × (slice_get ranks i ≡ Some c))
      at i e None f t = let no : ⊥ = cc in absurd no
      at i e (Some d) f t = (i, (e, f ∙ ap Some ((Decides-eqb d c).0 t)))

      by : (o : Option ℕ) → number_in (declared il) y ≡ o → rank_at c ranks o ≡ true → (i : ℕ) × ((slice_get (declared il) i ≡ Some y) × (slice_get ranks i ≡ Some c))
      by None e t = let no : ⊥ = cc in absurd no
      by (Some i) e t = at i (number-sound (declared il) y i e) (slice_get ranks i) refl t

  -- the names of a rank are a group
  rank-group : (f c : ℕ) (x : Name) → slice_get (declared il) f ≡ Some x → slice_get ranks f ≡ Some c → IsGroup (Cites il) (declared il) x (of_rank c ranks (declared il))
  rank-group f c x e h = record {
    among = among c;
    mutual_ones = λ y. (λ t. reach-both y (among-sound c y t), λ (to, back). is-among y to back (reached-stands x y (f, e) to));
    in_order = of_rank-filter c (among c) ranks (declared il) sizes (λ i d y p q. among-at c i d y p q);
  }
    where
      reach-both : (y : Name) → (i : ℕ) × ((slice_get (declared il) i ≡ Some y) × (slice_get ranks i ≡ Some c)) → Reaches (Cites il) x y × Reaches (Cites il) y x
      reach-both y (i, (p, q)) = (rank-reaches f i c x y e p h q, rank-reaches i f c y x p e q h)

      at : (y : Name) → Reaches (Cites il) x y → Reaches (Cites il) y x → (j : ℕ) → slice_get (declared il) j ≡ Some y → (d : ℕ) × (slice_get ranks j ≡ Some d) → among c y ≡ true
      at y to back j p (d, q) =
          let same : d ≡ c = sym (one-rank f j c d x y e p to back h q) in among-at c j d y p q ∙ (Decides-eqb d c).1 same

      is-among : (y : Name) → Reaches (Cites il) x y → Reaches (Cites il) y x → Stands (declared il) y → among c y ≡ true
      is-among y to back (j, p) = at y to back j p (rank-of j y p)

  -- the names of several ranks, rank by rank
  abbrev names_of : List ℕ → List (List Name)
  names_of order = map (λ (c : ℕ). of_rank c ranks (declared il)) order

  -- all names of several ranks
  abbrev listed : List ℕ → List Name
  listed order = in_groups (Cites il) (declared il) (names_of order)

  -- what stands in groups of these ranks
  abbrev IsIn : List ℕ → Name → Type 0
  IsIn order y = (c : ℕ) × (Stands order c × ((i : ℕ) × ((slice_get (declared il) i ≡ Some y) × (slice_get ranks i ≡ Some c))))

  in-sound : (order : List ℕ) (y : Name) → Contains (listed order) y → IsIn order y
  in-sound [] y (k, less, e) = absurd (omega (arith, less))
  in-sound (c ∷ order) y s = by (λ t. in-sound order y t) (Contains-append_cases (of_rank c ranks (declared il)) (listed order) y s)
    where
      here : Stands (of_rank c ranks (declared il)) y → IsIn (c ∷ order) y
      here (k, e) = (c, ((0, refl), of_rank-sound c ranks (declared il) k y e))

      later : IsIn order y → IsIn (c ∷ order) y
      later (d, ((k, e), h)) = (d, ((suc k, e), h))

      by : (Contains (listed order) y → IsIn order y)
          → Contains (of_rank c ranks (declared il)) y ⊎ Contains (listed order) y → IsIn (c ∷ order) y
      by more (inl t) = here (contains-stands (of_rank c ranks (declared il)) y t)
      by more (inr t) = later (more t)

  in-complete : (order : List ℕ) (k c i : ℕ) (y : Name) → slice_get order k ≡ Some c → slice_get (declared il) i ≡ Some y → slice_get ranks i ≡ Some c
      → Contains (listed order) y
  in-complete [] k c i y e f h = absurd (get-none k c e)
  in-complete (d ∷ order) zero c i y e f h =
      let same : d ≡ c = cc in
      Contains-append_left (of_rank d ranks (declared il)) (listed order) y
      (stands-contains (of_rank d ranks (declared il)) y (of_rank-complete d ranks (declared il) i y f (h ∙ ap Some (sym same))))
  in-complete (d ∷ order) (suc k) c i y e f h =
      Contains-append_right (of_rank d ranks (declared il)) (listed order) y (in-complete order k c i y e f h)

  in-stands : (order : List ℕ) (c i : ℕ) (y : Name) → Stands order c → slice_get (declared il) i ≡ Some y → slice_get ranks i ≡ Some c
      → Contains (listed order) y
  in-stands order c i y (k, e) f h = in-complete order k c i y e f h

  -- a name of a rank that is listed is in a group that is, and no other
  in-rank : (order : List ℕ) (c i : ℕ) (y : Name) → Contains (listed order) y → slice_get (declared il) i ≡ Some y → slice_get ranks i ≡ Some c → Stands order c
  in-rank order c i y s e h = by (in-sound order y s)
    where
      by : IsIn order y → Stands order c
      by (d, (t, (j, (f, k)))) =
          let same : j ≡ i = declared-distinct il j i y f e in subst (Stands order) (get-same ranks i d c (ap (slice_get ranks) (sym same) ∙ k) h) t

  module _ (graph rows : List (List ℕ)) (t : IsTable il graph) (w : IsCondensation graph ranks count rows) where
    -- a citation in another group is one of the ranks
    cited-rank : (i j c d : ℕ) (x y : Name) → slice_get (declared il) i ≡ Some x → slice_get (declared il) j ≡ Some y → Cites il x y → slice_get ranks i ≡ Some c → slice_get ranks j ≡ Some d
        → d ≢ c → Edge rows c d
    cited-rank i j c d x y e f cites h k apart = by (t.complete i j x y e f cites)
      where
        by : (row : List ℕ) × ((slice_get graph i ≡ Some row) × Contains row j) → Edge rows c d
        by (row, (p, q)) = w.complete i j c d (get-within graph i row p) (row, (p, contains-stands row j q)) h k apart

    -- each citation of ranks falls in numbers
    pub ranks-fall : IsFalling rows
    ranks-fall = (r.number_of, falls)
      where
        lower : (a b : ℕ) (e : GroupEdge graph ranks a b) → (x : Name) × ((y : Name) × ((slice_get (declared il) e.from ≡ Some x) × ((slice_get (declared il) e.to ≡ Some y) × Cites il x y)))
            → r.number_of b < r.number_of a
        lower a b e (x, (y, (p, (q, cites)))) =
            let h = g.falls e.from e.to (r.number_of a) (r.number_of b) x y p q cites (r.has_number e.from a e.of_first) (r.has_number e.to b e.of_second) in
            apart h (same_position (r.number_of b) (r.number_of a))
          where
            apart : r.number_of b ≤ r.number_of a → (r.number_of b ≡ r.number_of a) ⊎ (r.number_of b ≢ r.number_of a) → r.number_of b < r.number_of a
            apart h (inl same) = absurd (e.apart (r.only b a (r.within e.to b e.of_second) (r.within e.from a e.of_first) same))
            apart h (inr d) = omega (arith, h, d)

        edge : (i j : ℕ) → Edge graph i j → (x : Name) × ((y : Name) × ((slice_get (declared il) i ≡ Some x) × ((slice_get (declared il) j ≡ Some y) × Cites il x y)))
        edge i j (row, (e, s)) = t.sound i j row e (stands-contains row j s)

        falls : (a b : ℕ) → Edge rows a b → r.number_of b < r.number_of a
        falls a b e = let c = w.sound a b e in lower a b c (edge c.from c.to c.edge)

    pub ranks-within : (a b : ℕ) → Edge rows a b → b < length rows
    ranks-within a b e = let c = w.sound a b e in let n = r.within c.to b c.of_second in let s = w.size in omega (arith, n, s)

    -- the next rank is the next group
    next-group : (before : List ℕ) (c : ℕ) → IsNextRank rows before c → IsNext (Cites il) (declared il) (listed before) (of_rank c ranks (declared il))
    next-group before c n = by (r.used c (let h = n.within in let s = w.size in omega (arith, h, s)))
      where
        ready-at : (x y : Name) (i j d : ℕ) → slice_get (declared il) i ≡ Some x → slice_get ranks i ≡ Some c → Cites il x y → slice_get (declared il) j ≡ Some y → slice_get ranks j ≡ Some d → (d ≡ c) ⊎ (d ≢ c)
            → Contains ((listed before) ++ of_rank c ranks (declared il)) y
        ready-at x y i j d e h cites f k (inl q) =
            Contains-append_right (listed before) (of_rank c ranks (declared il)) y (stands-contains (of_rank c ranks (declared il)) y (of_rank-complete c ranks (declared il) j y f (k ∙ ap Some q)))
        ready-at x y i j d e h cites f k (inr apart) =
            Contains-append_left (listed before) (of_rank c ranks (declared il)) y (in-stands before d j y (n.is_ready d (cited-rank i j c d x y e f cites h k apart)) f k)

        ready-by : (x y : Name) → (i : ℕ) × ((slice_get (declared il) i ≡ Some x) × (slice_get ranks i ≡ Some c)) → Cites il x y → Stands (declared il) y → Contains ((listed before) ++ of_rank c ranks (declared il)) y
        ready-by x y (i, (e, h)) cites (j, f) = let k = rank-of j y f in ready-at x y i j k.0 e h cites f k.1 (same_position k.0 c)

        ready : (x y : Name) → Stands (of_rank c ranks (declared il)) x → Cites il x y → Contains ((listed before) ++ of_rank c ranks (declared il)) y
        ready x y (m, e) cites = ready-by x y (of_rank-sound c ranks (declared il) m x e) cites (contains-stands (declared il) y cites.to)

        -- a group that begins before it and is not listed cites another that is not
        blocked : (x : Name) (other : List Name) (i b : ℕ) → slice_get (declared il) i ≡ Some x → slice_get ranks i ≡ Some b → IsGroup (Cites il) (declared il) x other
            → ((x y : Name) → Contains other x → Cites il x y → Contains ((listed before) ++ other) y) → (d : ℕ) × (Edge rows b d × (Stands before d → ⊥)) → ⊥
        blocked x other i b e h group is_ready (d, (edge, is_new)) = at (w.sound b d edge)
          where
            there : (y : Name) → group.among y ≡ true → Stands (declared il) y → Contains other y
            there y t (k, f) = subst (λ z. Contains z y) (sym group.in_order) (stands-contains (filter group.among (declared il)) y (filter-keeps group.among (declared il) k y f t))

            passes : (y : Name) → Stands other y → group.among y ≡ true
            passes y (k, f) = filter-passes group.among (declared il) k y (ap (λ z. slice_get z k) (sym group.in_order) ∙ f)

            cases : (y : Name) (j : ℕ) → slice_get (declared il) j ≡ Some y → slice_get ranks j ≡ Some d → d ≢ b → Contains (listed before) y ⊎ Contains other y → ⊥
            cases y j f k apart (inl s) = is_new (in-rank before d j y s f k)
            cases y j f k apart (inr s) =
                let both = (group.mutual_ones y).0 (passes y (contains-stands other y s)) in apart (sym (one-rank i j b d x y e f both.0 both.1 h k))

            from : (c : GroupEdge graph ranks b d) → (y : Name) × ((z : Name) × ((slice_get (declared il) c.from ≡ Some y) × ((slice_get (declared il) c.to ≡ Some z) × Cites il y z))) → ⊥
            from c (y, (z, (p, (q, cites)))) =
                let mine = (group.mutual_ones y).1 (rank-reaches i c.from b x y e p h c.of_first, rank-reaches c.from i b y x p e c.of_first h) in
                cases z c.to q c.of_second c.apart (Contains-append_cases (listed before) other z (is_ready y z (there y mine (c.from, p)) cites))

            edge-of : (a b : ℕ) → Edge graph a b → (y : Name) × ((z : Name) × ((slice_get (declared il) a ≡ Some y) × ((slice_get (declared il) b ≡ Some z) × Cites il y z)))
            edge-of a b (row, (p, s)) = t.sound a b row p (stands-contains row b s)

            at : GroupEdge graph ranks b d → ⊥
            at c = from c (edge-of c.from c.to c.edge)

        lower : (f i b : ℕ) → ((j : ℕ) → j < f → slice_get ranks j ≡ Some c → ⊥) → i < f → slice_get ranks i ≡ Some b → b < c
        lower f i b least less h = at (leb_tells c b)
          where
            before-it : (j : ℕ) × ((j < i) × (slice_get ranks j ≡ Some c)) → ⊥
            before-it (j, (p, q)) = least j (omega (arith, p, less)) q

            same : (c ≡ b) ⊎ (c ≢ b) → c ≤ b → b < c
            same (inl q) s = absurd (least i less (h ∙ ap Some (sym q)))
            same (inr d) s = absurd (before-it (r.rising i c b h (omega (arith, s, d))))

            at : ((leb c b ≡ true) × (c ≤ b)) ⊎ ((leb c b ≡ false) × (b < c)) → b < c
            at (inl (q, s)) = same (same_position c b) s
            at (inr (q, s)) = s

        earlier : (f : ℕ) → ((j : ℕ) → j < f → slice_get ranks j ≡ Some c → ⊥) → (x : Name) (other : List Name) → Stands (take f (declared il)) x → (Contains (listed before) x → ⊥)
            → IsGroup (Cites il) (declared il) x other → ((x y : Name) → Contains other x → Cites il x y → Contains ((listed before) ++ other) y) → ⊥
        earlier f least x other (i, e) new group is_ready = at (get-taken (declared il) f i x e)
          where
            ranked : i < f → slice_get (declared il) i ≡ Some x → (b : ℕ) × (slice_get ranks i ≡ Some b) → ⊥
            ranked less p (b, h) = blocked x other i b p h group is_ready (n.no_earlier b (lower f i b least less h) (λ s. new (in-stands before b i x s p h)))

            at : (i < f) × (slice_get (declared il) i ≡ Some x) → ⊥
            at (less, p) = ranked less p (rank-of i x p)

        first : (f : ℕ) (x : Name) → slice_get (declared il) f ≡ Some x → slice_get ranks f ≡ Some c → ((j : ℕ) → j < f → slice_get ranks j ≡ Some c → ⊥)
            → IsNext (Cites il) (declared il) (listed before) (of_rank c ranks (declared il))
        first f x e h least = record {
          early = take f (declared il);
          first = x;
          others = drop (suc f) (declared il);
          splits = splits-at (declared il) f x e;
          is_group = rank-group f c x e h;
          is_new = λ s. n.is_new (in-rank before c f x s e h);
          is_ready = λ y z s cites. ready y z (contains-stands (of_rank c ranks (declared il)) y s) cites;
          no_earlier = λ y other s new group is_ready. earlier f least y other (contains-stands (take f (declared il)) y s) new group is_ready;
        }

        at : (f : ℕ) → slice_get ranks f ≡ Some c → ((j : ℕ) → j < f → slice_get ranks j ≡ Some c → ⊥) → (x : Name) × (slice_get (declared il) f ≡ Some x)
            → IsNext (Cites il) (declared il) (listed before) (of_rank c ranks (declared il))
        at f h least (x, e) = first f x e h least

        begins : First ranks c → IsNext (Cites il) (declared il) (listed before) (of_rank c ranks (declared il))
        begins (f, (h, least)) = at f h least (let l = get-within ranks f c h in let s = sizes in get-at (declared il) f (omega (arith, l, s)))

        by : Stands ranks c → IsNext (Cites il) (declared il) (listed before) (of_rank c ranks (declared il))
        by (k, e) = begins (first-place ranks c k e)

    module _ (order : List ℕ) (o : IsOrder rows order) where
      groups-named : AreGroups (Cites il) (declared il) (names_of order)
      groups-named = record {
        each = λ before after group e. each-by before group (map-split (λ (c : ℕ). of_rank c ranks (declared il)) order before after group e);
        whole = λ x s. whole-by x (contains-stands (declared il) x s);
      }
        where
          each-by : (before : List (List Name)) (group : List Name) → MapSplit (λ (c : ℕ). of_rank c ranks (declared il)) order before group → IsNext (Cites il) (declared il) (in_groups (Cites il) (declared il) before) group
          each-by before group (front, (back, (c, (e, (f, h))))) =
              subst (λ z. IsNext (Cites il) (declared il) (in_groups (Cites il) (declared il) z) group) (sym f)
              (subst (λ z. IsNext (Cites il) (declared il) (in_groups (Cites il) (declared il) (names_of front)) z) (sym h) (next-group front c (o.each front back c e)))

          at : (x : Name) (i : ℕ) → slice_get (declared il) i ≡ Some x → (c : ℕ) × (slice_get ranks i ≡ Some c) → Contains (listed order) x
          at x i e (c, h) = in-stands order c i x (o.whole c (let l = r.within i c h in let s = w.size in omega (arith, l, s))) e h

          whole-by : (x : Name) → Stands (declared il) x → Contains (listed order) x
          whole-by x (i, e) = at x i e (rank-of i x e)

      -- what stands in the order is the rank of a group
      pub order-within : (c : ℕ) → Stands order c → c < count
      order-within c (k, e) = let l = (o.each (take k order) (drop (suc k) order) c (splits-at order k c e)).within in let s = w.size in omega (arith, l, s)

      pub groups_are : (rows : List (List Name)) → AreMembers (declared il) ranks count rows → AreGroups (Cites il) (declared il) (map (λ (c : ℕ). slice_index_or rows c []) order)
      groups_are members m =
          subst (AreGroups (Cites il) (declared il)) (sym (map-agrees (λ (c : ℕ). slice_index_or members c []) (λ (c : ℕ). of_rank c ranks (declared il)) order same)) groups-named
        where
          same : (c : ℕ) → Stands order c → slice_index_or members c [] ≡ of_rank c ranks (declared il)
          same c s = get_or_from_slice_get members c (of_rank c ranks (declared il)) [] (m.row c (order-within c s))
