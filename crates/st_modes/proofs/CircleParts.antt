-- The graph of citations has what relations and functions cite, and a relation cites itself exactly
-- where an edge leads from it to its own component.
use Rattle.std.proofs.Common.{◌≡◌, ◌≢◌, ◌⊎◌, inl, inr, refl, sym, ap, ap₂, ◌∙◌, subst, ℕ, zero, suc, ◌+◌, ◌<◌, ◌≤◌, List, [], ◌∷◌, ◌++◌, length, set, replicate, map, get_or, Bool, true, false, cond, not, ◌||◌, Option, Some, None, slice_get, option_to_list, Contains, if◌then◌else◌, bytes_eq, append_assoc, arith}
use Rattle.std.specs.Prelude.{◌↔◌, nat_lt, position, unwrap_or, option_map}
use Rattle.std.specs.Borrow.{Bor}
use Rattle.std.specs.List.{list_any, position_or_len}
use Rattle.std.proofs.lemmas.List.{length-set, length-replicate}
use Rattle.std.proofs.lemmas.Bool.{false≢true}
use Rattle.std.proofs.lemmas.Bool.Decides.{nat_tests, Decides-eqb}
use Rattle.std.proofs.lemmas.List.Quantifiers.{position-Some}
use Rattle.std.proofs.lemmas.Option.{slice_get-get_or, get_or_from_slice_get}
use Rattle.std.proofs.lemmas.Slice.Eq.{bytes_eq-Decides}
use Rattle.st_graph.specs.Reaches.{Reaches, itself, through}
use Rattle.st_graph.specs.Graph.{Edge, Stands, IsWithin, IsNumbering}
use Rattle.st_graph.proofs.Positions.{same_position, get-none, get-same, get-front, get-append, get-behind, get-within, get-at, set-other, set-here, set-same}
use Rattle.st_il.specs.declared.definition.Il.{Il}
use Rattle.st_il.specs.declared.definition.IlDef.{IlDef}
use Rattle.st_il.specs.declared.definition.IlDef.TheVariants as def
use Rattle.st_il.specs.Names.{Name, has_name, flattened}
use Rattle.st_il.specs.Definitions.{rules_in, rules_from, clauses_in, clauses_from}
use Rattle.st_semantics.specs.ModeRules.{Citer, Relation, Function, cited_by_rule, cited_by_clause, cited_by, Leads, direct, through as by_way}
use Rattle.st_modes.specs.declared.citers.Citers.{Citers}
use Rattle.st_order.specs.inner.Index.{names_in, number_in}
use Rattle.st_modes.specs.inner.Circles.{citer_of, cited_in, knows, KnowsAll, count_of, number_of, numbers_of, number_of_owner, with_row, with_citations, all_citations, are_same, leads_back, is_circular_at}
use Rattle.st_order.proofs.NamesIn.{has_name_in}

-- ---- what stands in a list

pub contains-stands : {A : Type 0} (xs : List A) (x : A) → Contains xs x → Stands xs x
contains-stands xs x (k, l, e) = (k, slice_get-get_or xs k x l ∙ ap Some e)

pub stands-contains : {A : Type 0} (xs : List A) (x : A) → Stands xs x → Contains xs x
stands-contains xs x (k, e) = (k, get-within xs k x e, get_or_from_slice_get xs k x x e)

stands-left : {A : Type 0} (xs ys : List A) (x : A) → Stands xs x → Stands (xs ++ ys) x
stands-left xs ys x (k, e) = (k, get-front xs ys k x e)

stands-right : {A : Type 0} (xs ys : List A) (x : A) → Stands ys x → Stands (xs ++ ys) x
stands-right xs ys x (k, e) = (length xs + k, get-behind xs ys k ∙ e)

stands-cases : {A : Type 0} (xs ys : List A) (x : A) → Stands (xs ++ ys) x → Stands xs x ⊎ Stands ys x
stands-cases xs ys x (k, e) = by (get-append xs ys k x e)
  where
    by : (slice_get xs k ≡ Some x) ⊎ ((m : ℕ) × ((k ≡ length xs + m) × (slice_get ys m ≡ Some x))) → Stands xs x ⊎ Stands ys x
    by (inl h) = inl (k, h)
    by (inr (m, (h, g))) = inr (m, g)

stands-any : {A : Type 0} (f : A → Bool) (xs : List A) (k : ℕ) (x : A) → slice_get xs k ≡ Some x → f x ≡ true → list_any f xs ≡ true
stands-any f [] k x e h = absurd (get-none k x e)
stands-any f (y ∷ xs) zero x e h = let same : y ≡ x = cc in ap (λ b. b || list_any f xs) (ap f same ∙ h)
stands-any f (y ∷ xs) (suc k) x e h = or-true (f y) (list_any f xs) (stands-any f xs k x e h)
  where
    or-true : (a b : Bool) → b ≡ true → (a || b) ≡ true
    or-true true b h = refl
    or-true false b h = h

any-stands : {A : Type 0} (f : A → Bool) (xs : List A) → list_any f xs ≡ true → (x : A) × (Stands xs x × (f x ≡ true))
any-stands f [] h = absurd (false≢true h)
any-stands {A} f (y ∷ xs) h = by (f y) refl h (any-stands f xs)
  where
    by : (b : Bool) → f y ≡ b → (b || list_any f xs) ≡ true → (list_any f xs ≡ true → (x : A) × (Stands xs x × (f x ≡ true))) → (x : A) × (Stands (y ∷ xs) x × (f x ≡ true))
    by true e g more = (y, ((0, refl), e))
    by false e g more = later (more g)
      where
        later : (x : A) × (Stands xs x × (f x ≡ true)) → (x : A) × (Stands (y ∷ xs) x × (f x ≡ true))
        later (x, ((k, p), q)) = (x, ((suc k, p), q))

-- ---- numbers of names

same-equal : (x y : Name) → bytes_eq x y ≡ true → x ≡ y
same-equal x y h = (bytes_eq-Decides x y).0 h

number-sound : (keys : List (Bor (List ℕ))) (q : Name) (i : ℕ) → number_in keys q ≡ Some i → (key : Bor (List ℕ)) × ((slice_get keys i ≡ Some key) × (q ≡ key.now))
number-sound [] q i e = let n : ⊥ = cc in absurd n
number-sound (k ∷ ks) q i e =
    let p = position-Some (λ (key : Bor (List ℕ)). bytes_eq q key.now) (k ∷ ks) i k e in
    (get_or (k ∷ ks) i k, (slice_get-get_or (k ∷ ks) i k p.0, same-equal q (get_or (k ∷ ks) i k).now p.1))

number-one : (keys : List (Bor (List ℕ))) (q r : Name) (i : ℕ) → number_in keys q ≡ Some i → number_in keys r ≡ Some i → q ≡ r
number-one keys q r i e f =
    let one = number-sound keys q i e in
    let other = number-sound keys r i f in
    one.1.1 ∙ ap (λ (z : Bor (List ℕ)). z.now) (get-same keys i one.0 other.0 one.1.0 other.1.0) ∙ sym other.1.1

found-any : {A : Type 0} (test : A → Bool) (xs : List A) → list_any test xs ≡ true → position_or_len test xs < length xs
found-any test [] h = absurd (false≢true h)
found-any test (y ∷ ys) h = by (test y) h (found-any test ys)
  where
    by : (b : Bool) → (b || list_any test ys) ≡ true → (list_any test ys ≡ true → position_or_len test ys < length ys) → cond (not b) (1 + position_or_len test ys) 0 < suc (length ys)
    by true g more = omega arith
    by false g more = let d = more g in omega (arith, d)

position-any : {A : Type 0} (test : A → Bool) (xs : List A) → list_any test xs ≡ true → (i : ℕ) × (position test xs ≡ Some i)
position-any test xs h =
    let l = found-any test xs h in
    let t : nat_lt (position_or_len test xs) (length xs) ≡ true = grind (arith, nat_tests) in
    (position_or_len test xs, ap (λ b. cond b (Some (position_or_len test xs)) None) t)

number-known : (keys : List (Bor (List ℕ))) (q : Name) → has_name (names_in keys) q ≡ true → (i : ℕ) × (number_in keys q ≡ Some i)
number-known keys q h = position-any (λ (key : Bor (List ℕ)). bytes_eq q key.now) keys (sym (has_name_in keys q) ∙ h)

number-below : (keys : List (Bor (List ℕ))) (q : Name) (i : ℕ) → number_in keys q ≡ Some i → i < length keys
number-below keys q i e = let s = number-sound keys q i e in get-within keys i s.0 s.1.0

-- ---- numbers of relations and functions

behind-inv : (n : ℕ) (o : Option ℕ) (i : ℕ) → option_map (λ (k : ℕ). n + k) o ≡ Some i → (j : ℕ) × ((o ≡ Some j) × (n + j ≡ i))
behind-inv n None i e = let m : ⊥ = cc in absurd m
behind-inv n (Some j) i e = (j, (refl, cc))

module _ (c : Citers) where
  abbrev rels : List (Bor (List ℕ))
  rels = c.relations.keys

  abbrev funs : List (Bor (List ℕ))
  funs = c.functions.keys

  apart : (x y : Name) (i : ℕ) → number_of c (Relation x) ≡ Some i → number_of c (Function y) ≡ Some i → ⊥
  apart x y i e f =
      let l = number-below rels x i e in
      let b = behind-inv (length rels) (number_in funs y) i f in
      let s = b.1.1 in omega (arith, l, s)

  -- what has one number is one
  pub one_citer : (a b : Citer) (i : ℕ) → number_of c a ≡ Some i → number_of c b ≡ Some i → a ≡ b
  one_citer (Relation x) (Relation y) i e f = ap Relation (number-one rels x y i e f)
  one_citer (Relation x) (Function y) i e f = absurd (apart x y i e f)
  one_citer (Function x) (Relation y) i e f = absurd (apart y x i f e)
  one_citer (Function x) (Function y) i e f =
      let p = behind-inv (length rels) (number_in funs x) i e in
      let q = behind-inv (length rels) (number_in funs y) i f in
      let s = p.1.1 in
      let t = q.1.1 in
      let same : q.0 ≡ p.0 = omega (arith, s, t) in ap Function (number-one funs x y p.0 p.1.0 (q.1.0 ∙ ap Some same))

  pub citer_below : (a : Citer) (i : ℕ) → number_of c a ≡ Some i → i < count_of c
  citer_below (Relation x) i e = let l = number-below rels x i e in omega (arith, l)
  citer_below (Function x) i e =
      let p = behind-inv (length rels) (number_in funs x) i e in
      let l = number-below funs x p.0 p.1.0 in
      let s = p.1.1 in omega (arith, l, s)

  -- what a known definition is a rule or a clause of has a number
  known-citer : (d : IlDef) (a : Citer) → knows c d ≡ true → citer_of d ≡ Some a → (i : ℕ) × (number_of c a ≡ Some i)
  known-citer (def.Rule r) a h e =
      let same : Relation r.relation ≡ a = cc in subst (λ z. (i : ℕ) × (number_of c z ≡ Some i)) same (number-known rels r.relation h)
  known-citer (def.Clause k) a h e =
      let same : Function k.fun ≡ a = cc in subst (λ z. (i : ℕ) × (number_of c z ≡ Some i)) same (at (number-known funs k.fun h))
    where
      at : (i : ℕ) × (number_in funs k.fun ≡ Some i) → (i : ℕ) × (number_of c (Function k.fun) ≡ Some i)
      at (i, f) = (length rels + i, ap (option_map (λ (k : ℕ). length rels + k)) f)
  known-citer (def.Syntax s) a h e = let m : ⊥ = cc in absurd m
  known-citer (def.Var x t) a h e = let m : ⊥ = cc in absurd m
  known-citer (def.Relation r) a h e = let m : ⊥ = cc in absurd m
  known-citer (def.Fun f) a h e = let m : ⊥ = cc in absurd m

  -- ---- numbers of several

  abbrev Numbered : List Citer → ℕ → Type 0
  Numbered cited j = (y : Citer) × (Stands cited y × (number_of c y ≡ Some j))

  numbered-later : (x : Citer) (cited : List Citer) (j : ℕ) → Numbered cited j → Numbered (x ∷ cited) j
  numbered-later x cited j (y, ((k, g), h)) = (y, ((suc k, g), h))

  numbers-sound : (cited : List Citer) (j : ℕ) → Stands (numbers_of c cited) j → Numbered cited j
  numbers-sound [] j (k, e) = absurd (get-none k j e)
  numbers-sound (x ∷ cited) j s = at (number_of c x) refl s (numbers-sound cited j)
    where
      at : (o : Option ℕ) → number_of c x ≡ o → Stands (option_to_list o ++ numbers_of c cited) j → (Stands (numbers_of c cited) j → Numbered cited j) → Numbered (x ∷ cited) j
      at None e t more = numbered-later x cited j (more t)
      at (Some i) e (zero, f) more = let same : i ≡ j = cc in (x, ((0, refl), e ∙ ap Some same))
      at (Some i) e (suc k, f) more = numbered-later x cited j (more (k, f))

  numbers-complete : (cited : List Citer) (j : ℕ) (y : Citer) (k : ℕ) → slice_get cited k ≡ Some y → number_of c y ≡ Some j → Stands (numbers_of c cited) j
  numbers-complete [] j y k e h = absurd (get-none k y e)
  numbers-complete (x ∷ cited) j y zero e h =
      let same : x ≡ y = cc in
      let at : number_of c x ≡ Some j = ap (number_of c) same ∙ h in (0, ap (λ (o : Option ℕ). slice_get (option_to_list o ++ numbers_of c cited) 0) at)
  numbers-complete (x ∷ cited) j y (suc k) e h = stands-right (option_to_list (number_of c x)) (numbers_of c cited) j (numbers-complete cited j y k e h)

  -- ---- several lists of them

  pub numbers_append : (xs ys : List Citer) → numbers_of c (xs ++ ys) ≡ numbers_of c xs ++ numbers_of c ys
  numbers_append [] ys = refl
  numbers_append (x ∷ xs) ys = ap (λ z. option_to_list (number_of c x) ++ z) (numbers_append xs ys) ∙ sym (append_assoc (option_to_list (number_of c x)) (numbers_of c xs) (numbers_of c ys))

-- ---- rows

module _ (graph : List (List ℕ)) (i : ℕ) (old more : List ℕ) (there : slice_get graph i ≡ Some old) where
  row-sound : (a b : ℕ) → Edge (set graph i (old ++ more)) a b → Edge graph a b ⊎ ((a ≡ i) × Stands more b)
  row-sound a b (row, (e, (k, s))) = by (same_position a i)
    where
      split : a ≡ i → (slice_get old k ≡ Some b) ⊎ ((m : ℕ) × ((k ≡ length old + m) × (slice_get more m ≡ Some b))) → Edge graph a b ⊎ ((a ≡ i) × Stands more b)
      split q (inl g) = inl (old, (ap (slice_get graph) q ∙ there, (k, g)))
      split q (inr (m, (h, g))) = inr (q, (m, g))

      by : (a ≡ i) ⊎ (a ≢ i) → Edge graph a b ⊎ ((a ≡ i) × Stands more b)
      by (inl q) =
          let same : old ++ more ≡ row = set-same graph i (old ++ more) row (ap (slice_get (set graph i (old ++ more))) (sym q) ∙ e) in
          split q (get-append old more k b (ap (λ (z : List ℕ). slice_get z k) same ∙ s))
      by (inr d) = inl (row, (sym (set-other graph i a (old ++ more) d) ∙ e, (k, s)))

  row-old : (a b : ℕ) → Edge graph a b → Edge (set graph i (old ++ more)) a b
  row-old a b (row, (e, (k, s))) = by (same_position a i)
    where
      by : (a ≡ i) ⊎ (a ≢ i) → Edge (set graph i (old ++ more)) a b
      by (inl q) =
          let same : row ≡ old = get-same graph i row old (ap (slice_get graph) (sym q) ∙ e) there in
          (old ++ more, (ap (slice_get (set graph i (old ++ more))) q ∙ set-here graph i (old ++ more) old there, (k, get-front old more k b (ap (λ (z : List ℕ). slice_get z k) (sym same) ∙ s))))
      by (inr d) = (row, (set-other graph i a (old ++ more) d ∙ e, (k, s)))

  row-new : (b : ℕ) → Stands more b → Edge (set graph i (old ++ more)) i b
  row-new b (m, s) = (old ++ more, (set-here graph i (old ++ more) old there, (length old + m, get-behind old more m ∙ s)))

-- ---- definitions

module _ (c : Citers) where
  -- the definition is of the citer of the first number, and cites that of the second
  abbrev Adds : IlDef → ℕ → ℕ → Type 0
  Adds d a b = (x : Citer) × ((citer_of d ≡ Some x) × ((number_of c x ≡ Some a) × Stands (numbers_of c (cited_in d)) b))

  module _ (graph : List (List ℕ)) (d : IlDef) (size : length graph ≡ count_of c) where
    abbrev added : List ℕ
    added = numbers_of c (cited_in d)

    -- either nothing is added, or a row
    abbrev Steps : Type 0
    Steps =
        ((with_citations c graph d ≡ graph) × ((a b : ℕ) → Adds d a b → ⊥))
        ⊎ ((i : ℕ) × ((old : List ℕ) × ((slice_get graph i ≡ Some old)
        × ((with_citations c graph d ≡ set graph i (old ++ added))
        × ((x : Citer) × ((citer_of d ≡ Some x) × (number_of c x ≡ Some i)))))))

    steps : Steps
    steps = by (citer_of d) refl
      where
        row : (x : Citer) → citer_of d ≡ Some x → (i : ℕ) → number_of c x ≡ Some i → (old : List ℕ) × (slice_get graph i ≡ Some old) → Steps
        row x e i f (old, g) =
            inr (
              i,
              (
                old,
                (
                  g,
                  (
                    ap (λ o. with_row graph (number_of_owner c o) added) e ∙ ap (λ o. with_row graph o added) f
                        ∙ ap (λ (r : List ℕ). set graph i (r ++ added)) (get_or_from_slice_get graph i old [] g),
                    (x, (e, f)),
                  ),
                ),
              ),
            )

        named : (x : Citer) → citer_of d ≡ Some x → (o : Option ℕ) → number_of c x ≡ o → Steps
        named x e None f =
            inl (
              ap (λ o. with_row graph (number_of_owner c o) added) e ∙ ap (λ o. with_row graph o added) f,
              λ a b (y, (g, (h, s))). let same : x ≡ y = cc in let q : None ≡ Some a = sym f ∙ ap (number_of c) same ∙ h in let n : ⊥ = cc in n,
            )
        named x e (Some i) f =
            let l = citer_below c x i f in row x e i f (get-at graph i (omega (arith, l, size)))

        by : (o : Option Citer) → citer_of d ≡ o → Steps
        by None e =
            inl (
              ap (λ o. with_row graph (number_of_owner c o) added) e,
              λ a b (y, (g, h)). let q : None ≡ Some y = sym e ∙ g in let n : ⊥ = cc in n,
            )
        by (Some x) e = named x e (number_of c x) refl

    step-size : length (with_citations c graph d) ≡ length graph
    step-size = by steps
      where
        by : Steps → length (with_citations c graph d) ≡ length graph
        by (inl (e, n)) = ap length e
        by (inr (i, (old, (g, (e, h))))) = ap length e ∙ length-set graph i (old ++ added)

    step-sound : (a b : ℕ) → Edge (with_citations c graph d) a b → Edge graph a b ⊎ Adds d a b
    step-sound a b edge = by steps
      where
        new : (i : ℕ) → (x : Citer) × ((citer_of d ≡ Some x) × (number_of c x ≡ Some i)) → Edge graph a b ⊎ ((a ≡ i) × Stands added b) → Edge graph a b ⊎ Adds d a b
        new i h (inl g) = inl g
        new i (x, (e, f)) (inr (q, s)) = inr (x, (e, (f ∙ ap Some (sym q), s)))

        by : Steps → Edge graph a b ⊎ Adds d a b
        by (inl (e, n)) = inl (subst (λ z. Edge z a b) e edge)
        by (inr (i, (old, (g, (e, h))))) = new i h (row-sound graph i old added g a b (subst (λ z. Edge z a b) e edge))

    step-old : (a b : ℕ) → Edge graph a b → Edge (with_citations c graph d) a b
    step-old a b edge = by steps
      where
        by : Steps → Edge (with_citations c graph d) a b
        by (inl (e, n)) = subst (λ z. Edge z a b) (sym e) edge
        by (inr (i, (old, (g, (e, h))))) = subst (λ z. Edge z a b) (sym e) (row-old graph i old added g a b edge)

    step-new : (a b : ℕ) → Adds d a b → Edge (with_citations c graph d) a b
    step-new a b m = by steps
      where
        here : (i : ℕ) → (x : Citer) × ((citer_of d ≡ Some x) × (number_of c x ≡ Some i)) → Adds d a b → i ≡ a
        here i (x, (e, f)) (y, (g, (h, s))) = let same : x ≡ y = cc in let q : Some i ≡ Some a = sym f ∙ ap (number_of c) same ∙ h in cc

        by : Steps → Edge (with_citations c graph d) a b
        by (inl (e, n)) = absurd (n a b m)
        by (inr (i, (old, (g, (e, h))))) =
            subst (λ z. Edge z a b) (sym e) (subst (λ k. Edge (set graph i (old ++ added)) k b) (here i h m) (row-new graph i old added g b m.1.1.1))

  all-size : (ds : List IlDef) (graph : List (List ℕ)) → length graph ≡ count_of c → length (all_citations c graph ds) ≡ count_of c
  all-size [] graph size = size
  all-size (d ∷ ds) graph size = all-size ds (with_citations c graph d) (step-size graph d size ∙ size)

  all-old : (ds : List IlDef) (graph : List (List ℕ)) → length graph ≡ count_of c → (a b : ℕ) → Edge graph a b → Edge (all_citations c graph ds) a b
  all-old [] graph size a b edge = edge
  all-old (d ∷ ds) graph size a b edge = all-old ds (with_citations c graph d) (step-size graph d size ∙ size) a b (step-old graph d size a b edge)

  all-new : (ds : List IlDef) (graph : List (List ℕ)) → length graph ≡ count_of c → (k : ℕ) (d : IlDef) → slice_get ds k ≡ Some d → (a b : ℕ) → Adds d a b → Edge (all_citations c graph ds) a b
  all-new [] graph size k d e a b m = absurd (get-none k d e)
  all-new (x ∷ ds) graph size zero d e a b m =
      let same : d ≡ x = cc in
      all-old ds (with_citations c graph x) (step-size graph x size ∙ size) a b (step-new graph x size a b (subst (λ z. Adds z a b) same m))
  all-new (x ∷ ds) graph size (suc k) d e a b m = all-new ds (with_citations c graph x) (step-size graph x size ∙ size) k d e a b m

  all-sound : (ds : List IlDef) (graph : List (List ℕ)) → length graph ≡ count_of c → (a b : ℕ) → Edge (all_citations c graph ds) a b
      → Edge graph a b ⊎ ((d : IlDef) × (Stands ds d × Adds d a b))
  all-sound [] graph size a b edge = inl edge
  all-sound (x ∷ ds) graph size a b edge = by (all-sound ds (with_citations c graph x) (step-size graph x size ∙ size) a b edge)
    where
      one : Edge graph a b ⊎ Adds x a b → Edge graph a b ⊎ ((d : IlDef) × (Stands (x ∷ ds) d × Adds d a b))
      one (inl g) = inl g
      one (inr m) = inr (x, ((0, refl), m))

      by : Edge (with_citations c graph x) a b ⊎ ((d : IlDef) × (Stands ds d × Adds d a b)) → Edge graph a b ⊎ ((d : IlDef) × (Stands (x ∷ ds) d × Adds d a b))
      by (inl g) = one (step-sound graph x size a b g)
      by (inr (d, ((k, e), m))) = inr (d, ((suc k, e), m))

no-edge : (n a b : ℕ) → Edge (replicate n []) a b → ⊥
no-edge zero a b (row, (e, s)) = get-none a row e
no-edge (suc n) zero b (row, (e, (k, s))) = let same : [] ≡ row = cc in get-none k b (ap (λ (z : List ℕ). slice_get z k) same ∙ s)
no-edge (suc n) (suc a) b edge = no-edge n a b edge

-- ---- what is cited, definition by definition

abbrev is_citer : Citer → IlDef → Bool
is_citer (Relation name) (def.Rule r) = bytes_eq name r.relation
is_citer (Function name) (def.Clause c) = bytes_eq name c.fun
is_citer a d = false

abbrev cited_among : List IlDef → Citer → List Citer
cited_among [] a = []
cited_among (d ∷ ds) a = (if is_citer a d then cited_in d else []) ++ cited_among ds a

rules-among : (name : Name) (ds : List IlDef) → flattened (map cited_by_rule (rules_from name (rules_in ds))) ≡ cited_among ds (Relation name)
rules-among name [] = refl
rules-among name (def.Rule r ∷ ds) = at (bytes_eq name r.relation) (rules-among name ds)
  where
    at : (b : Bool) → flattened (map cited_by_rule (rules_from name (rules_in ds))) ≡ cited_among ds (Relation name)
        → flattened (map cited_by_rule (if b then r ∷ rules_from name (rules_in ds) else rules_from name (rules_in ds))) ≡ (if b then cited_by_rule r else []) ++ cited_among ds (Relation name)
    at true h = ap (λ z. cited_by_rule r ++ z) h
    at false h = h
rules-among name (def.Syntax s ∷ ds) = rules-among name ds
rules-among name (def.Var x t ∷ ds) = rules-among name ds
rules-among name (def.Relation r ∷ ds) = rules-among name ds
rules-among name (def.Fun f ∷ ds) = rules-among name ds
rules-among name (def.Clause c ∷ ds) = rules-among name ds

clauses-among : (name : Name) (ds : List IlDef) → flattened (map cited_by_clause (clauses_from name (clauses_in ds))) ≡ cited_among ds (Function name)
clauses-among name [] = refl
clauses-among name (def.Clause c ∷ ds) = at (bytes_eq name c.fun) (clauses-among name ds)
  where
    at : (b : Bool) → flattened (map cited_by_clause (clauses_from name (clauses_in ds))) ≡ cited_among ds (Function name)
        → flattened (map cited_by_clause (if b then c ∷ clauses_from name (clauses_in ds) else clauses_from name (clauses_in ds))) ≡ (if b then cited_by_clause c else []) ++ cited_among ds (Function name)
    at true h = ap (λ z. cited_by_clause c ++ z) h
    at false h = h
clauses-among name (def.Syntax s ∷ ds) = clauses-among name ds
clauses-among name (def.Var x t ∷ ds) = clauses-among name ds
clauses-among name (def.Relation r ∷ ds) = clauses-among name ds
clauses-among name (def.Rule r ∷ ds) = clauses-among name ds
clauses-among name (def.Fun f ∷ ds) = clauses-among name ds

cited-is : (il : Il) (a : Citer) → cited_by il a ≡ cited_among il.defs a
cited-is il (Relation name) = rules-among name il.defs
cited-is il (Function name) = clauses-among name il.defs

is-sound : (a : Citer) (d : IlDef) → is_citer a d ≡ true → citer_of d ≡ Some a
is-sound (Relation name) (def.Rule r) h = ap (λ z. Some (Relation z)) (sym (same-equal name r.relation h))
is-sound (Function name) (def.Clause c) h = ap (λ z. Some (Function z)) (sym (same-equal name c.fun h))
is-sound a d h = absurd (false≢true h)

is-complete : (a : Citer) (d : IlDef) → citer_of d ≡ Some a → is_citer a d ≡ true
is-complete a (def.Rule r) e = let same : Relation r.relation ≡ a = cc in subst (λ z. is_citer z (def.Rule r) ≡ true) same ((bytes_eq-Decides r.relation r.relation).1 refl)
is-complete a (def.Clause c) e = let same : Function c.fun ≡ a = cc in subst (λ z. is_citer z (def.Clause c) ≡ true) same ((bytes_eq-Decides c.fun c.fun).1 refl)
is-complete a (def.Syntax s) e = let m : ⊥ = cc in absurd m
is-complete a (def.Var x t) e = let m : ⊥ = cc in absurd m
is-complete a (def.Relation r) e = let m : ⊥ = cc in absurd m
is-complete a (def.Fun f) e = let m : ⊥ = cc in absurd m

-- a definition of the citer cites it
abbrev CitedIn : List IlDef → Citer → Citer → Type 0
CitedIn ds a b = (d : IlDef) × (Stands ds d × ((citer_of d ≡ Some a) × Stands (cited_in d) b))

among-sound : (ds : List IlDef) (a b : Citer) → Stands (cited_among ds a) b → CitedIn ds a b
among-sound [] a b (k, e) = absurd (get-none k b e)
among-sound (d ∷ ds) a b s = by (among-sound ds a b) (stands-cases (if is_citer a d then cited_in d else []) (cited_among ds a) b s)
  where
    here : (t : Bool) → is_citer a d ≡ t → Stands (if t then cited_in d else []) b → CitedIn (d ∷ ds) a b
    here true e g = (d, ((0, refl), (is-sound a d e, g)))
    here false e (k, g) = absurd (get-none k b g)

    later : CitedIn ds a b → CitedIn (d ∷ ds) a b
    later (x, ((k, e), g)) = (x, ((suc k, e), g))

    by : (Stands (cited_among ds a) b → CitedIn ds a b) → Stands (if is_citer a d then cited_in d else []) b ⊎ Stands (cited_among ds a) b → CitedIn (d ∷ ds) a b
    by more (inl g) = here (is_citer a d) refl g
    by more (inr g) = later (more g)

among-complete : (ds : List IlDef) (a b : Citer) (k : ℕ) (d : IlDef) → slice_get ds k ≡ Some d → citer_of d ≡ Some a → Stands (cited_in d) b → Stands (cited_among ds a) b
among-complete [] a b k d e f s = absurd (get-none k d e)
among-complete (x ∷ ds) a b zero d e f s =
    let same : d ≡ x = cc in
    let is : is_citer a x ≡ true = is-complete a x (ap citer_of (sym same) ∙ f) in
    stands-left (if is_citer a x then cited_in x else []) (cited_among ds a) b
    (subst (λ t. Stands (if t then cited_in x else []) b) (sym is) (subst (λ z. Stands (cited_in z) b) same s))
among-complete (x ∷ ds) a b (suc k) d e f s = stands-right (if is_citer a x then cited_in x else []) (cited_among ds a) b (among-complete ds a b k d e f s)

-- ---- the graph of all definitions

abbrev no_numbers : List ℕ
no_numbers = []

module _ (il : Il) (c : Citers) (knows_all : KnowsAll c il.defs) (rows : List (List ℕ)) (rows_is : rows ≡ all_citations c (replicate (count_of c) []) il.defs) where
  start : length (replicate (count_of c) no_numbers) ≡ count_of c
  start = length-replicate (count_of c) no_numbers

  size : length rows ≡ count_of c
  size = ap length rows_is ∙ all-size c il.defs (replicate (count_of c) []) start

  -- the one of the first number cites that of the second
  abbrev Cites : ℕ → ℕ → Type 0
  Cites i j = (a : Citer) × ((b : Citer) × ((number_of c a ≡ Some i) × ((number_of c b ≡ Some j) × Stands (cited_by il a) b)))

  edge-sound : (i j : ℕ) → Edge rows i j → Cites i j
  edge-sound i j edge = by (all-sound c il.defs (replicate (count_of c) []) start i j (subst (λ z. Edge z i j) rows_is edge))
    where
      cited : (d : IlDef) → Stands il.defs d → (a : Citer) → citer_of d ≡ Some a → number_of c a ≡ Some i → (b : Citer) × (Stands (cited_in d) b × (number_of c b ≡ Some j)) → Cites i j
      cited d (k, s) a e f (b, (t, g)) = (a, (b, (f, (g, subst (λ z. Stands z b) (sym (cited-is il a)) (among-complete il.defs a b k d s e t)))))

      by : Edge (replicate (count_of c) []) i j ⊎ ((d : IlDef) × (Stands il.defs d × Adds c d i j)) → Cites i j
      by (inl g) = absurd (no-edge (count_of c) i j g)
      by (inr (d, (s, (a, (e, (f, t)))))) = cited d s a e f (numbers-sound c (cited_in d) j t)

  edge-complete : (a b : Citer) (i j : ℕ) → number_of c a ≡ Some i → number_of c b ≡ Some j → Stands (cited_by il a) b → Edge rows i j
  edge-complete a b i j e f s = by (among-sound il.defs a b (subst (λ z. Stands z b) (cited-is il a) s))
    where
      at : (d : IlDef) → Stands il.defs d → citer_of d ≡ Some a → Stands (cited_in d) b → Edge rows i j
      at d (k, g) of_a (m, h) =
          subst (λ z. Edge z i j) (sym rows_is)
          (all-new c il.defs (replicate (count_of c) []) start k d g i j (a, (of_a, (e, numbers-complete c (cited_in d) j b m h f))))

      by : CitedIn il.defs a b → Edge rows i j
      by (d, (s, (of_a, t))) = at d s of_a t

  -- what cites something has a number
  citer-number : (a b : Citer) → Stands (cited_by il a) b → (i : ℕ) × (number_of c a ≡ Some i)
  citer-number a b s = by (among-sound il.defs a b (subst (λ z. Stands z b) (cited-is il a) s))
    where
      by : CitedIn il.defs a b → (i : ℕ) × (number_of c a ≡ Some i)
      by (d, (t, (of_a, u))) = known-citer c d a (knows_all d (stands-contains il.defs d t)) of_a

  pub edges_within : IsWithin rows
  edges_within i j edge =
      let s = edge-sound i j edge in
      let l = citer_below c s.1.0 j s.1.1.1.0 in
      let e = size in omega (arith, l, e)

  lead-first : {a b : Citer} → Leads il a b → (x : Citer) × Stands (cited_by il a) x
  lead-first {a} {b} (direct h) = (b, contains-stands (cited_by il a) b h)
  lead-first {a} {b} (by_way m h more) = (m, contains-stands (cited_by il a) m h)

  -- from one node an edge, and then a way to another
  abbrev Way : ℕ → ℕ → Type 0
  Way i j = (k : ℕ) × (Edge rows i k × Reaches (Edge rows) k j)

  lead-way : {a b : Citer} → Leads il a b → (i j : ℕ) → number_of c a ≡ Some i → number_of c b ≡ Some j → Way i j
  lead-way {a} {b} (direct h) i j e f = (j, (edge-complete a b i j e f (contains-stands (cited_by il a) b h), itself))
  lead-way {a} {b} (by_way m h more) i j e f = by (lead-way more) (number-first (lead-first more))
    where
      number-first : (x : Citer) × Stands (cited_by il m) x → (k : ℕ) × (number_of c m ≡ Some k)
      number-first (x, s) = citer-number m x s

      on : (k : ℕ) → number_of c m ≡ Some k → Way k j → Way i j
      on k g (n, (edge, reaches)) = (k, (edge-complete a m i k e g (contains-stands (cited_by il a) m h), through n edge reaches))

      by : ((i j : ℕ) → number_of c m ≡ Some i → number_of c b ≡ Some j → Way i j) → (k : ℕ) × (number_of c m ≡ Some k) → Way i j
      by later (k, g) = on k g (later k j g f)

  way-lead : (k j : ℕ) → Reaches (Edge rows) k j → (x b : Citer) → number_of c x ≡ Some k → number_of c b ≡ Some j → (x ≡ b) ⊎ Leads il x b
  way-lead k j itself x b e f = inl (one_citer c x b k e f)
  way-lead k j (through y edge more) x b e f = by (way-lead y j more) (edge-sound k y edge)
    where
      on : (m : Citer) → Stands (cited_by il x) m → (m ≡ b) ⊎ Leads il m b → (x ≡ b) ⊎ Leads il x b
      on m s (inl same) = inr (direct (subst (λ z. Contains (cited_by il x) z) same (stands-contains (cited_by il x) m s)))
      on m s (inr lead) = inr (by_way m (stands-contains (cited_by il x) m s) lead)

      by : ((x b : Citer) → number_of c x ≡ Some y → number_of c b ≡ Some j → (x ≡ b) ⊎ Leads il x b) → Cites k y → (x ≡ b) ⊎ Leads il x b
      by later (a, (m, (g, (h, s)))) = on m (subst (λ z. Stands (cited_by il z) m) (one_citer c a x k g e) s) (later m b h f)

  module _ (numbers : List ℕ) (count : ℕ) (n : IsNumbering rows numbers count) where
    number-at : (i : ℕ) → i < length rows → (d : ℕ) × (slice_get numbers i ≡ Some d)
    number-at i l = let e = n.size in get-at numbers i (omega (arith, l, e))

    falls-along : (k j : ℕ) → Reaches (Edge rows) k j → (p q : ℕ) → slice_get numbers k ≡ Some p → slice_get numbers j ≡ Some q → q ≤ p
    falls-along k j itself p q e f = let same : p ≡ q = get-same numbers k p q e f in omega (arith, same)
    falls-along k j (through y edge more) p q e f = by (falls-along y j more) (number-at y (edges_within k y edge))
      where
        by : ((p q : ℕ) → slice_get numbers y ≡ Some p → slice_get numbers j ≡ Some q → q ≤ p) → (d : ℕ) × (slice_get numbers y ≡ Some d) → q ≤ p
        by later (d, g) =
            let one = n.falls k y p d edge e g in
            let two = later d q g f in omega (arith, one, two)

    same-sound : (one other : Option ℕ) → are_same one other ≡ true → (d : ℕ) × ((one ≡ Some d) × (other ≡ Some d))
    same-sound None other h = absurd (false≢true h)
    same-sound (Some a) None h = absurd (false≢true h)
    same-sound (Some a) (Some b) h = (a, (refl, ap Some (sym ((Decides-eqb a b).0 h))))

    same-complete : (one other : Option ℕ) (d : ℕ) → one ≡ Some d → other ≡ Some d → are_same one other ≡ true
    same-complete one other d e f = ap₂ are_same e f ∙ (Decides-eqb d d).1 refl

    row-there : (i : ℕ) (row : List ℕ) → slice_get rows i ≡ Some row → unwrap_or (slice_get rows i) [] ≡ row
    row-there i row e = ap (λ (o : Option (List ℕ)). unwrap_or o []) e

    module _ (name : Name) where
      sound-at : (i : ℕ) → number_of c (Relation name) ≡ Some i → (row : List ℕ) → slice_get rows i ≡ Some row → leads_back numbers i row ≡ true → Leads il (Relation name) (Relation name)
      sound-at i e row r h = by (any-stands (λ (to : ℕ). are_same (slice_get numbers to) (slice_get numbers i)) row h)
        where
          on : (b : Citer) → Stands (cited_by il (Relation name)) b → (b ≡ Relation name) ⊎ Leads il b (Relation name) → Leads il (Relation name) (Relation name)
          on b s (inl same) = direct (subst (λ z. Contains (cited_by il (Relation name)) z) same (stands-contains (cited_by il (Relation name)) b s))
          on b s (inr lead) = by_way b (stands-contains (cited_by il (Relation name)) b s) lead

          cited : (k : ℕ) → Reaches (Edge rows) k i → Cites i k → Leads il (Relation name) (Relation name)
          cited k back (a, (b, (g, (f, s)))) =
              on b (subst (λ z. Stands (cited_by il z) b) (one_citer c a (Relation name) i g e) s) (way-lead k i back b (Relation name) f e)

          at : (k : ℕ) → Stands row k → (d : ℕ) × ((slice_get numbers k ≡ Some d) × (slice_get numbers i ≡ Some d)) → Leads il (Relation name) (Relation name)
          at k s (d, (f, g)) = cited k (n.together k i d f g) (edge-sound i k (row, (r, s)))

          by : (k : ℕ) × (Stands row k × (are_same (slice_get numbers k) (slice_get numbers i) ≡ true)) → Leads il (Relation name) (Relation name)
          by (k, (s, same)) = at k s (same-sound (slice_get numbers k) (slice_get numbers i) same)

      circular-sound : (o : Option ℕ) → number_of c (Relation name) ≡ o → is_circular_at rows numbers o ≡ true → Leads il (Relation name) (Relation name)
      circular-sound None e h = absurd (false≢true h)
      circular-sound (Some i) e h = by (get-at rows i (let l = citer_below c (Relation name) i e in let s = size in omega (arith, l, s)))
        where
          by : (row : List ℕ) × (slice_get rows i ≡ Some row) → Leads il (Relation name) (Relation name)
          by (row, r) = sound-at i e row r (ap (leads_back numbers i) (sym (row-there i row r)) ∙ h)

      complete-at : (i : ℕ) → number_of c (Relation name) ≡ Some i → Way i i → is_circular_at rows numbers (Some i) ≡ true
      complete-at i e (k, ((row, (r, (m, s))), back)) =
          at (number-at i (get-within rows i row r)) (number-at k (edges_within i k (row, (r, (m, s)))))
        where
          at : (p : ℕ) × (slice_get numbers i ≡ Some p) → (q : ℕ) × (slice_get numbers k ≡ Some q) → is_circular_at rows numbers (Some i) ≡ true
          at (p, f) (q, g) =
              let down = n.falls i k p q (row, (r, (m, s))) f g in
              let up = falls-along k i back q p g f in
              let same : q ≡ p = omega (arith, down, up) in
              ap (leads_back numbers i) (row-there i row r)
              ∙ stands-any (λ (to : ℕ). are_same (slice_get numbers to) (slice_get numbers i)) row m k s
              (same-complete (slice_get numbers k) (slice_get numbers i) p (g ∙ ap Some same) f)

      circular-complete : Leads il (Relation name) (Relation name) → is_circular_at rows numbers (number_of c (Relation name)) ≡ true
      circular-complete lead = by (first (lead-first lead))
        where
          first : (x : Citer) × Stands (cited_by il (Relation name)) x → (i : ℕ) × (number_of c (Relation name) ≡ Some i)
          first (x, s) = citer-number (Relation name) x s

          by : (i : ℕ) × (number_of c (Relation name) ≡ Some i) → is_circular_at rows numbers (number_of c (Relation name)) ≡ true
          by (i, e) = ap (is_circular_at rows numbers) e ∙ complete-at i e (lead-way lead i i e e)

      pub circular_is : (is_circular_at rows numbers (number_of c (Relation name)) ≡ true) ↔ Leads il (Relation name) (Relation name)
      circular_is = (circular-sound (number_of c (Relation name)) refl, circular-complete)
