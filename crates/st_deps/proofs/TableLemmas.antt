-- The table of citations has what the names cite.
use Rattle.std.proofs.Common.{◌≡◌, ◌≢◌, ◌⊎◌, inl, inr, refl, sym, ap, ◌∙◌, subst, ℕ, zero, suc, ◌+◌, ◌<◌, List, [], ◌∷◌, ◌++◌, length, set, replicate, get_or, Bool, true, false, cond, not, nat_lt, Option, Some, None, slice_get, option_to_list, Contains, if◌then◌else◌, ◌||◌, arith}
use Rattle.std.specs.List.{position_or_len}
use Rattle.std.proofs.lemmas.List.{length-set, length-replicate}
use Rattle.std.proofs.lemmas.Bool.Decides.{nat_tests}
use Rattle.std.proofs.lemmas.List.Quantifiers.{position-Some}
use Rattle.std.proofs.lemmas.Option.{slice_get-get_or, get_or_from_slice_get}
use Rattle.std.proofs.lemmas.Slice.Eq.{bytes_eq-Decides}
use Rattle.st_num.specs.Names.{same_name, is_among}
use Rattle.st_graph.specs.Graph.{Edge, Stands}
use Rattle.st_graph.proofs.Positions.{same_position, get-none, get-same, get-front, get-push, get-append, get-behind, get-within, get-at, set-other, set-here, set-same}
use Rattle.st_il.specs.declared.definition.Il.{Il}
use Rattle.st_il.specs.declared.definition.IlDef.{IlDef}
use Rattle.st_deps.specs.Cited.{Name}
use Rattle.st_deps.specs.Definitions.{names_in, owner, declared, declared_by, names_declared, with_name, Cites}
use Rattle.st_deps.specs.Table.{IsTable}
use Rattle.st_deps.specs.inner.Table.{number_in, numbers_of, number_of_owner, with_row, with_citations, all_citations, IsGraph}

-- ---- what stands in a list

pub contains-stands : {A : Type 0} (xs : List A) (x : A) → Contains xs x → Stands xs x
contains-stands xs x (k, l, e) = (k, slice_get-get_or xs k x l ∙ ap Some e)

pub stands-contains : {A : Type 0} (xs : List A) (x : A) → Stands xs x → Contains xs x
stands-contains xs x (k, e) = (k, get-within xs k x e, get_or_from_slice_get xs k x x e)

-- ---- names

same-itself : (x : Name) → same_name x x ≡ true
same-itself x = (bytes_eq-Decides x x).1 refl

same-equal : (x y : Name) → same_name x y ≡ true → x ≡ y
same-equal x y h = (bytes_eq-Decides x y).0 h

pub or-true : (a b : Bool) → b ≡ true → (a || b) ≡ true
or-true true b h = refl
or-true false b h = h

among-stands : (known : List Name) (x : Name) (k : ℕ) → slice_get known k ≡ Some x → is_among x known ≡ true
among-stands [] x k e = absurd (get-none k x e)
among-stands (y ∷ known) x zero e =
    let same : y ≡ x = cc in ap (λ (b : Bool). b || is_among x known) (ap (same_name x) same ∙ same-itself x)
among-stands (y ∷ known) x (suc k) e = or-true (same_name x y) (is_among x known) (among-stands known x k e)

-- each name stands once
abbrev IsDistinct : List Name → Type 0
IsDistinct known = (i j : ℕ) (x : Name) → slice_get known i ≡ Some x → slice_get known j ≡ Some x → i ≡ j

with-distinct : (known : List Name) (o : Option Name) → IsDistinct known → IsDistinct (with_name known o)
with-distinct known None d = d
with-distinct known (Some name) d = by (is_among name known) refl
  where
    new : is_among name known ≡ false → IsDistinct (known ++ name ∷ [])
    new h i j x e f = two (get-push known name i x e) (get-push known name j x f)
      where
        no : (k : ℕ) → slice_get known k ≡ Some x → name ≡ x → ⊥
        no k g q = let c : true ≡ false = sym (among-stands known name k (g ∙ ap Some (sym q))) ∙ h in let n : ⊥ = cc in n

        two : (slice_get known i ≡ Some x) ⊎ ((i ≡ length known) × (name ≡ x)) → (slice_get known j ≡ Some x) ⊎ ((j ≡ length known) × (name ≡ x)) → i ≡ j
        two (inl a) (inl b) = d i j x a b
        two (inl a) (inr (m, q)) = absurd (no i a q)
        two (inr (m, q)) (inl b) = absurd (no j b q)
        two (inr (m, q)) (inr (n, r)) = m ∙ sym n

    by : (b : Bool) → is_among name known ≡ b → IsDistinct (if b then known else known ++ name ∷ [])
    by true h = d
    by false h = new h

names-distinct : (defs : List IlDef) (known : List Name) → IsDistinct known → IsDistinct (names_declared known defs)
names-distinct [] known d = d
names-distinct (x ∷ defs) known d = names-distinct defs (with_name known (declared_by x)) (with-distinct known (declared_by x) d)

pub declared-distinct : (il : Il) → IsDistinct (declared il)
declared-distinct il = names-distinct il.defs [] (λ i j x e f. absurd (get-none i x e))

-- ---- numbers of names

pub number-sound : (known : List Name) (x : Name) (i : ℕ) → number_in known x ≡ Some i → slice_get known i ≡ Some x
number-sound known x i e =
    let p = position-Some (same_name x) known i [] e in
    slice_get-get_or known i [] p.0 ∙ ap Some (sym (same-equal x (get_or known i []) p.1))

found-cons : (test : Name → Bool) (y : Name) (rest : List Name) (k : ℕ) (x : Name) → slice_get (y ∷ rest) k ≡ Some x → test x ≡ true
    → ((m : ℕ) → slice_get rest m ≡ Some x → position_or_len test rest < length rest) → position_or_len test (y ∷ rest) < length (y ∷ rest)
found-cons test y rest k x e h more = by (test y) refl
  where
    deep : (m : ℕ) → slice_get (y ∷ rest) m ≡ Some x → test y ≡ false → position_or_len test rest < length rest
    deep zero g f = let same : y ≡ x = cc in let c : true ≡ false = sym h ∙ ap test (sym same) ∙ f in let n : ⊥ = cc in absurd n
    deep (suc m) g f = more m g

    by : (b : Bool) → test y ≡ b → cond (not b) (1 + position_or_len test rest) 0 < suc (length rest)
    by true f = omega arith
    by false f = let d = deep k e f in omega (arith, d)

found-within : (test : Name → Bool) (known : List Name) (k : ℕ) (x : Name) → slice_get known k ≡ Some x → test x ≡ true → position_or_len test known < length known
found-within test [] k x e h = absurd (get-none k x e)
found-within test (y ∷ rest) k x e h = found-cons test y rest k x e h (λ m g. found-within test rest m x g h)

pub number-complete : (known : List Name) (x : Name) (k : ℕ) → IsDistinct known → slice_get known k ≡ Some x → number_in known x ≡ Some k
number-complete known x k d e =
    let l = found-within (same_name x) known k x e (same-itself x) in
    let t : nat_lt (position_or_len (same_name x) known) (length known) ≡ true = grind (arith, nat_tests) in
    let at : number_in known x ≡ Some (position_or_len (same_name x) known) = ap (λ b. cond b (Some (position_or_len (same_name x) known)) None) t in
    at ∙ ap Some (d (position_or_len (same_name x) known) k x (number-sound known x (position_or_len (same_name x) known) at) e)

numbers-sound : (known names : List Name) (j : ℕ) → Stands (numbers_of known names) j → (y : Name) × (Stands names y × (number_in known y ≡ Some j))
numbers-sound known [] j (k, e) = absurd (get-none k j e)
numbers-sound known (x ∷ names) j s = numbers-sound-at known x names j (number_in known x) refl s (λ t. numbers-sound known names j t)
  where
    numbers-sound-at : (known : List Name) (x : Name) (names : List Name) (j : ℕ) (o : Option ℕ) → number_in known x ≡ o → Stands (option_to_list o ++ (numbers_of known names)) j
        → (Stands (numbers_of known names) j → (y : Name) × (Stands names y × (number_in known y ≡ Some j))) → (y : Name) × (Stands (x ∷ names) y × (number_in known y ≡ Some j))
    numbers-sound-at known x names j None e s more = later (more s)
      where
        later : (y : Name) × (Stands names y × (number_in known y ≡ Some j)) → (y : Name) × (Stands (x ∷ names) y × (number_in known y ≡ Some j))
        later (y, ((k, g), h)) = (y, ((suc k, g), h))
    numbers-sound-at known x names j (Some i) e (zero, f) more = let same : i ≡ j = cc in (x, ((0, refl), e ∙ ap Some same))
    numbers-sound-at known x names j (Some i) e (suc k, f) more = later (more (k, f))
      where
        later : (y : Name) × (Stands names y × (number_in known y ≡ Some j)) → (y : Name) × (Stands (x ∷ names) y × (number_in known y ≡ Some j))
        later (y, ((k, g), h)) = (y, ((suc k, g), h))

numbers-complete : (known names : List Name) (j : ℕ) (y : Name) (k : ℕ) → slice_get names k ≡ Some y → number_in known y ≡ Some j → Stands (numbers_of known names) j
numbers-complete known [] j y k e h = absurd (get-none k y e)
numbers-complete known (x ∷ names) j y zero e h =
    let same : x ≡ y = cc in
    let at : number_in known x ≡ Some j = ap (number_in known) same ∙ h in (0, ap (λ o. slice_get (option_to_list o ++ (numbers_of known names)) 0) at)
numbers-complete known (x ∷ names) j y (suc k) e h = deeper (number_in known x) (numbers-complete known names j y k e h)
  where
    deeper : (o : Option ℕ) → Stands (numbers_of known names) j → Stands (option_to_list o ++ (numbers_of known names)) j
    deeper None s = s
    deeper (Some i) (m, g) = (suc m, g)

-- ---- rows

module _ (graph : List (List ℕ)) (i : ℕ) (old more : List ℕ) (there : slice_get graph i ≡ Some old) where
  pub row-sound : (a b : ℕ) → Edge (set graph i (old ++ more)) a b → Edge graph a b ⊎ ((a ≡ i) × Stands more b)
  row-sound a b (row, (e, (k, s))) = by (same_position a i)
    where
      split : a ≡ i → (slice_get old k ≡ Some b) ⊎ ((m : ℕ) × ((k ≡ length old + m) × (slice_get more m ≡ Some b))) → Edge graph a b ⊎ ((a ≡ i) × Stands more b)
      split q (inl g) = inl (old, (ap (slice_get graph) q ∙ there, (k, g)))
      split q (inr (m, (h, g))) = inr (q, (m, g))

      by : (a ≡ i) ⊎ (a ≢ i) → Edge graph a b ⊎ ((a ≡ i) × Stands more b)
      by (inl q) =
          let same : old ++ more ≡ row = set-same graph i (old ++ more) row (ap (slice_get (set graph i (old ++ more))) (sym q) ∙ e) in
          split q (get-append old more k b (ap (λ (z : List ℕ). slice_get z k) same ∙ s))
      by (inr d) = inl (row, (sym (set-other graph i a (old ++ more) d) ∙ e, (k, s)))

  pub row-old : (a b : ℕ) → Edge graph a b → Edge (set graph i (old ++ more)) a b
  row-old a b (row, (e, (k, s))) = by (same_position a i)
    where
      by : (a ≡ i) ⊎ (a ≢ i) → Edge (set graph i (old ++ more)) a b
      by (inl q) =
          let same : row ≡ old = get-same graph i row old (ap (slice_get graph) (sym q) ∙ e) there in
          (old ++ more, (ap (slice_get (set graph i (old ++ more))) q ∙ set-here graph i (old ++ more) old there, (k, get-front old more k b (ap (λ (z : List ℕ). slice_get z k) (sym same) ∙ s))))
      by (inr d) = (row, (set-other graph i a (old ++ more) d ∙ e, (k, s)))

  pub row-new : (b : ℕ) → Stands more b → Edge (set graph i (old ++ more)) i b
  row-new b (m, s) = (old ++ more, (set-here graph i (old ++ more) old there, (length old + m, get-behind old more m ∙ s)))

-- ---- definitions

-- the definition is of the name of the first number, and the name of the second stands in it
abbrev Adds : List Name → IlDef → ℕ → ℕ → Type 0
Adds known d a b = (x : Name) × ((owner d ≡ Some x) × ((number_in known x ≡ Some a) × Stands (numbers_of known (names_in d)) b))

module _ (known : List Name) (graph : List (List ℕ)) (d : IlDef) (size : length graph ≡ length known) where
  -- either nothing is added, or a row
  abbrev Steps : Type 0
  Steps =
      ((with_citations known graph d ≡ graph) × ((a b : ℕ) → Adds known d a b → ⊥))
      ⊎ ((i : ℕ) × ((old : List ℕ) × ((slice_get graph i ≡ Some old)
      × ((with_citations known graph d ≡ set graph i (old ++ numbers_of known (names_in d)))
      × ((x : Name) × ((owner d ≡ Some x) × (number_in known x ≡ Some i)))))))

  steps : Steps
  steps = by (owner d) refl
    where
      to : Option ℕ → List (List ℕ)
      to o = with_row graph o (numbers_of known (names_in d))

      row : (x : Name) → owner d ≡ Some x → (i : ℕ) → number_in known x ≡ Some i → (old : List ℕ) × (slice_get graph i ≡ Some old) → Steps
      row x e i f (old, g) =
          inr (
            i,
            (
              old,
              (
                g,
                (
                  ap (λ o. with_row graph (number_of_owner known o) (numbers_of known (names_in d))) e ∙ ap (λ o. with_row graph o (numbers_of known (names_in d))) f
                      ∙ ap (λ (r : List ℕ). set graph i (r ++ numbers_of known (names_in d))) (get_or_from_slice_get graph i old [] g),
                  (x, (e, f)),
                ),
              ),
            ),
          )

      named : (x : Name) → owner d ≡ Some x → (o : Option ℕ) → number_in known x ≡ o → Steps
      named x e None f =
          inl (
            ap (λ o. with_row graph (number_of_owner known o) (numbers_of known (names_in d))) e ∙ ap (λ o. with_row graph o (numbers_of known (names_in d))) f,
            λ a b (y, (g, (h, s))). let same : x ≡ y = cc in let c : None ≡ Some a = sym f ∙ ap (number_in known) same ∙ h in let n : ⊥ = cc in n,
          )
      named x e (Some i) f =
          let l = get-within known i x (number-sound known x i f) in row x e i f (get-at graph i (omega (arith, l, size)))

      by : (o : Option Name) → owner d ≡ o → Steps
      by None e =
          inl (
            ap (λ o. with_row graph (number_of_owner known o) (numbers_of known (names_in d))) e,
            λ a b (y, (g, more)). let c : None ≡ Some y = sym e ∙ g in let n : ⊥ = cc in n,
          )
      by (Some x) e = named x e (number_in known x) refl

  step-size : length (with_citations known graph d) ≡ length graph
  step-size = by steps
    where
      by : Steps → length (with_citations known graph d) ≡ length graph
      by (inl (e, n)) = ap length e
      by (inr (i, (old, (g, (e, more))))) = ap length e ∙ length-set graph i (old ++ numbers_of known (names_in d))

  step-sound : (a b : ℕ) → Edge (with_citations known graph d) a b → Edge graph a b ⊎ Adds known d a b
  step-sound a b c = by steps
    where
      new : (i : ℕ) → (x : Name) × ((owner d ≡ Some x) × (number_in known x ≡ Some i)) → Edge graph a b ⊎ ((a ≡ i) × Stands (numbers_of known (names_in d)) b) → Edge graph a b ⊎ Adds known d a b
      new i h (inl g) = inl g
      new i (x, (e, f)) (inr (q, s)) = inr (x, (e, (f ∙ ap Some (sym q), s)))

      by : Steps → Edge graph a b ⊎ Adds known d a b
      by (inl (e, n)) = inl (subst (λ z. Edge z a b) e c)
      by (inr (i, (old, (g, (e, h))))) = new i h (row-sound graph i old (numbers_of known (names_in d)) g a b (subst (λ z. Edge z a b) e c))

  step-old : (a b : ℕ) → Edge graph a b → Edge (with_citations known graph d) a b
  step-old a b c = by steps
    where
      by : Steps → Edge (with_citations known graph d) a b
      by (inl (e, n)) = subst (λ z. Edge z a b) (sym e) c
      by (inr (i, (old, (g, (e, h))))) = subst (λ z. Edge z a b) (sym e) (row-old graph i old (numbers_of known (names_in d)) g a b c)

  step-new : (a b : ℕ) → Adds known d a b → Edge (with_citations known graph d) a b
  step-new a b m = by steps
    where
      here : (i : ℕ) → (x : Name) × ((owner d ≡ Some x) × (number_in known x ≡ Some i)) → Adds known d a b → i ≡ a
      here i (x, (e, f)) (y, (g, (h, s))) = let same : x ≡ y = cc in let c : Some i ≡ Some a = sym f ∙ ap (number_in known) same ∙ h in cc

      by : Steps → Edge (with_citations known graph d) a b
      by (inl (e, n)) = absurd (n a b m)
      by (inr (i, (old, (g, (e, h))))) =
          subst (λ z. Edge z a b) (sym e) (subst (λ k. Edge (set graph i (old ++ numbers_of known (names_in d))) k b) (here i h m) (row-new graph i old (numbers_of known (names_in d)) g b m.1.1.1))

all-size : (known : List Name) (ds : List IlDef) (graph : List (List ℕ)) → length graph ≡ length known → length (all_citations known graph ds) ≡ length known
all-size known [] graph size = size
all-size known (d ∷ ds) graph size = all-size known ds (with_citations known graph d) (step-size known graph d size ∙ size)

all-old : (known : List Name) (ds : List IlDef) (graph : List (List ℕ)) → length graph ≡ length known → (a b : ℕ) → Edge graph a b → Edge (all_citations known graph ds) a b
all-old known [] graph size a b c = c
all-old known (d ∷ ds) graph size a b c = all-old known ds (with_citations known graph d) (step-size known graph d size ∙ size) a b (step-old known graph d size a b c)

all-new : (known : List Name) (ds : List IlDef) (graph : List (List ℕ)) → length graph ≡ length known → (k : ℕ) (d : IlDef) → slice_get ds k ≡ Some d → (a b : ℕ) → Adds known d a b → Edge (all_citations known graph ds) a b
all-new known [] graph size k d e a b m = absurd (get-none k d e)
all-new known (x ∷ ds) graph size zero d e a b m =
    let same : d ≡ x = cc in
    all-old known ds (with_citations known graph x) (step-size known graph x size ∙ size) a b (step-new known graph x size a b (subst (λ z. Adds known z a b) same m))
all-new known (x ∷ ds) graph size (suc k) d e a b m = all-new known ds (with_citations known graph x) (step-size known graph x size ∙ size) k d e a b m

all-sound : (known : List Name) (ds : List IlDef) (graph : List (List ℕ)) → length graph ≡ length known → (a b : ℕ) → Edge (all_citations known graph ds) a b
    → Edge graph a b ⊎ ((d : IlDef) × (Stands ds d × Adds known d a b))
all-sound known [] graph size a b c = inl c
all-sound known (x ∷ ds) graph size a b c = by (all-sound known ds (with_citations known graph x) (step-size known graph x size ∙ size) a b c)
  where
    one : Edge graph a b ⊎ Adds known x a b → Edge graph a b ⊎ ((d : IlDef) × (Stands (x ∷ ds) d × Adds known d a b))
    one (inl g) = inl g
    one (inr m) = inr (x, ((0, refl), m))

    by : Edge (with_citations known graph x) a b ⊎ ((d : IlDef) × (Stands ds d × Adds known d a b)) → Edge graph a b ⊎ ((d : IlDef) × (Stands (x ∷ ds) d × Adds known d a b))
    by (inl g) = one (step-sound known graph x size a b g)
    by (inr (d, ((k, e), m))) = inr (d, ((suc k, e), m))

no-edge : (n a b : ℕ) → Edge (replicate n []) a b → ⊥
no-edge zero a b (row, (e, s)) = get-none a row e
no-edge (suc n) zero b (row, (e, (k, s))) = let same : [] ≡ row = cc in get-none k b (ap (λ (z : List ℕ). slice_get z k) same ∙ s)
no-edge (suc n) (suc a) b c = no-edge n a b c

pub table-right : (il : Il) → IsGraph il (all_citations (declared il) (replicate (length (declared il)) []) il.defs)
table-right il = record {
  size = all-size (declared il) il.defs (replicate (length (declared il)) []) (length-replicate (length (declared il)) []);
  sound = λ i j c. by i j (all-sound (declared il) il.defs (replicate (length (declared il)) []) (length-replicate (length (declared il)) []) i j c);
  complete = λ i j x y e f c. new i j x y e f c (contains-stands il.defs c.where_cited c.stands) (contains-stands (names_in c.where_cited) y c.has_second);
}
  where
    Cited : ℕ → ℕ → Type 0
    Cited i j = (x : Name) × ((y : Name) × ((slice_get (declared il) i ≡ Some x) × ((slice_get (declared il) j ≡ Some y) × Cites il x y)))

    cited : (i j : ℕ) (d : IlDef) → Stands il.defs d → (x : Name) → owner d ≡ Some x → number_in (declared il) x ≡ Some i → (y : Name) × (Stands (names_in d) y × (number_in (declared il) y ≡ Some j)) → Cited i j
    cited i j d s x e f (y, (t, g)) =
        let a = number-sound (declared il) x i f in
        let b = number-sound (declared il) y j g in (
          x,
          (
            y,
            (
              a,
              (
                b,
                record {
                  from = stands-contains (declared il) x (i, a);
                  to = stands-contains (declared il) y (j, b);
                  where_cited = d;
                  stands = stands-contains il.defs d s;
                  of_first = e;
                  has_second = stands-contains (names_in d) y t;
                },
              ),
            ),
          ),
        )

    by : (i j : ℕ) → Edge (replicate (length (declared il)) []) i j ⊎ ((d : IlDef) × (Stands il.defs d × Adds (declared il) d i j)) → Cited i j
    by i j (inl c) = absurd (no-edge (length (declared il)) i j c)
    by i j (inr (d, (s, (x, (e, (f, t)))))) = cited i j d s x e f (numbers-sound (declared il) (names_in d) j t)

    new : (i j : ℕ) (x y : Name) → slice_get (declared il) i ≡ Some x → slice_get (declared il) j ≡ Some y → (c : Cites il x y) → Stands il.defs c.where_cited → Stands (names_in c.where_cited) y
        → Edge (all_citations (declared il) (replicate (length (declared il)) []) il.defs) i j
    new i j x y e f c (k, s) (m, t) =
        all-new (declared il) il.defs (replicate (length (declared il)) []) (length-replicate (length (declared il)) []) k c.where_cited s i j
        (x, (c.of_first, (number-complete (declared il) x i (declared-distinct il) e, numbers-complete (declared il) (names_in c.where_cited) j y m t (number-complete (declared il) y j (declared-distinct il) f))))

-- in the words of the contract
pub table_is : (il : Il) (rows : List (List ℕ)) → rows ≡ all_citations (declared il) (replicate (length (declared il)) []) il.defs → IsTable il rows
table_is il rows e = subst (IsTable il) (sym e) record {
  size = right.size;
  sound = λ i j row f c. right.sound i j (row, (f, contains-stands row j c));
  complete = λ i j x y f g c. told i j (right.complete i j x y f g c);
}
  where
    right : IsGraph il (all_citations (declared il) (replicate (length (declared il)) []) il.defs)
    right = table-right il

    told : (i j : ℕ) → Edge (all_citations (declared il) (replicate (length (declared il)) []) il.defs) i j
        → (row : List ℕ) × ((slice_get (all_citations (declared il) (replicate (length (declared il)) []) il.defs) i ≡ Some row) × Contains row j)
    told i j (row, (f, s)) = (row, (f, stands-contains row j s))
