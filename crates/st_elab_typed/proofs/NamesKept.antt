-- The iterations of an elaborated expression name exactly what they go over.
use Rattle.std.proofs.Common.{◌≡◌, inl, inr, refl, sym, ap, ◌∙◌, subst, ℕ, zero, suc, ◌<◌, ◌≤◌, List, [], ◌∷◌, ◌++◌, map, filter, length, drop, Bool, true, false, not, ◌&&◌, ◌||◌, cond, nat_lt, Some, arith}
use Rattle.std.specs.Prelude.{if◌then◌else◌, IsTrue, bytes_eq}
use Rattle.std.specs.List.{list_all}
use Rattle.std.specs.List.Sorted.{IsStrictlySortedBy}
use Rattle.std.proofs.lemmas.Bool.{true≢false}
use Rattle.std.proofs.lemmas.List.{drop_all}
use Rattle.st_num.specs.Names.{is_among}
use Rattle.st_num.specs.declared.dim.Kind.{Kind}
use Rattle.st_il.specs.declared.definition.Listed.{Listed}
use Rattle.st_il.specs.declared.ty.Ty.TheVariants as ty
use Rattle.st_il.specs.declared.expression.IlExp.{IlExp, out-IlExp}
use Rattle.st_il.specs.declared.expression.IlExp.TheOpen.{IlExp-F, Iteration-F}
use Rattle.st_il.specs.declared.expression.Iteration.{Iteration, out-Iteration}
use Rattle.st_il.specs.declared.expression.ListItem.{ListItem}
use Rattle.st_il.specs.declared.expression.PathSeg.{PathSeg}
use Rattle.st_il.specs.Occurrences.{occurs}
use Rattle.st_dims.specs.declared.within.Within.{Within}
use Rattle.st_dims.specs.Around.{entered}
use Rattle.st_dims.specs.Dimensions.{dimension_in}
use Rattle.st_il.specs.Names.{has_name}
use Rattle.st_semantics.specs.Environments.{listed_as}
use Rattle.st_semantics.specs.Iterations.{count_of, index_of, kind_of, count_at}
use Rattle.st_semantics.specs.Operands.{operands_at, item_exp, segment_exps}
use Rattle.st_semantics.specs.Scopes.{inner, stepped, stepped_all, indices, listed_inside}
use Rattle.st_ilcheck.specs.Naming.{is_left, has_dimension, goes_over, is_once, is_repeated, is_named, names_exactly, names_kept}
use Rattle.st_ilcheck.specs.Parts.{Part, standing, parts_at}
use Rattle.st_elab_table.specs.declared.decls.Scope.{Scope}
use Rattle.st_elab_table.specs.Iterations.{Variable, is_iterated, iterated_in}
use Rattle.st_elab_table.specs.Scopes.{table_of}
use Rattle.st_elab_typed.specs.KeepsNames.{KeepsNames, keeps, AllKeepNames, none, more}
use Rattle.st_elab_law.specs.Notes.{Note, indexes, iterates, Notes, all_of, names_of, occurs as occurring}
use Rattle.st_elab_law.specs.Noted.{iteration_note, iterated, must_at, noted}
use Rattle.st_elab_typed.specs.inner.Named.{IsNoIteration, Names, by_parts, by_body, AllName, none as no_names, more as more_names}
use Rattle.st_elab_typed.proofs.Members.{Has, Has-left, Has-right, Has-map, Has-from_map, Has-filter, Has-from_filter, not_true, path_same, any_from_Has, none_from_Has}
use Rattle.st_elab_typed.proofs.AreListed.{Rises, other_name, dimension_of}
use Rattle.st_elab_typed.proofs.OccurrencesSeen.{outside_both}
use Rattle.st_elab_typed.proofs.NotedParts.{noted-level, noted-parts, noted-Iter}
use Rattle.st_elab_typed.proofs.Occurring.{operand-occurs, occurs-body, occurs-count, in_member}
use Rattle.st_elab_typed.proofs.OccursNoted.{occurs-noted}
use Rattle.st_elab_typed.proofs.Placing.{stepped_listed, other_listed, listed_name, and-left, and-right}

-- ---- tests

pub and_both : (a b : Bool) → a ≡ true → b ≡ true → (a && b) ≡ true
and_both true b h k = k
and_both false b h k = absurd (true≢false (sym h))

either : (a b : Bool) → (a ≡ true → b ≡ true) → (not a || b) ≡ true
either true b h = h refl
either false b h = refl

every : {A : Type 0} (p : A → Bool) (xs : List A) → ((x : A) → Has xs x → p x ≡ true) → list_all p xs ≡ true
every p [] h = refl
every p (x ∷ xs) h = and_both (p x) (list_all p xs) (h x (inl refl)) (every p xs (λ y k. h y (inr k)))

-- ---- dimensions that are left

inner-drop : (n : ℕ) (ks : List Kind) → inner (drop n ks) ≡ drop (suc n) ks
inner-drop zero [] = refl
inner-drop zero (k ∷ ks) = refl
inner-drop (suc n) [] = refl
inner-drop (suc n) (k ∷ ks) = inner-drop n ks

left-drop : (n : ℕ) (ks : List Kind) → n < length ks → is_left (drop n ks) ≡ true
left-drop n [] h = absurd (omega arith)
left-drop zero (k ∷ ks) h = refl
left-drop (suc n) (k ∷ ks) h = left-drop n ks (omega arith)

drop-left : (n : ℕ) (ks : List Kind) → is_left (drop n ks) ≡ true → n < length ks
drop-left zero [] h = absurd (true≢false (sym h))
drop-left (suc n) [] h = absurd (true≢false (sym h))
drop-left zero (k ∷ ks) h = omega arith
drop-left (suc n) (k ∷ ks) h = let r = drop-left n ks h in omega arith

one_longer : (ks : List Kind) (k : Kind) → length (ks ++ k ∷ []) ≡ suc (length ks)
one_longer [] k = refl
one_longer (j ∷ ks) k = ap suc (one_longer ks k)

below : (a b : ℕ) → nat_lt a b ≡ true → a < b
below a b h = grind (arith, h)

less : (a b : ℕ) → a < b → nat_lt a b ≡ true
less a b h = grind (arith, h)

not_below : (a b : ℕ) → nat_lt a b ≡ false → b ≤ a
not_below a b h = grind (arith, h)

-- ---- variables as they are listed

-- a dimension that is left behind an index is left without it
index_dims : (is : List (List ℕ)) (n : List ℕ) (ls : List Listed) → has_dimension (listed_as n (indices is ++ ls)) ≡ true → has_dimension (listed_as n ls) ≡ true
index_dims [] n ls h = h
index_dims (i ∷ is) n ls h = by (bytes_eq n i) h (index_dims is n ls)
  where
    by : (b : Bool) → has_dimension (if b then Some (record { name = i; ty = ty.Nat; dim = [] }) else listed_as n (indices is ++ ls)) ≡ true
        → (has_dimension (listed_as n (indices is ++ ls)) ≡ true → has_dimension (listed_as n ls) ≡ true) → has_dimension (listed_as n ls) ≡ true
    by true k rest = absurd (true≢false (sym k))
    by false k rest = rest k

inner_left : (b : Bool) (ks : List Kind) → is_left (if b then inner ks else ks) ≡ true → is_left ks ≡ true
inner_left true [] h = h
inner_left true (k ∷ ks) h = refl
inner_left false ks h = h

-- what is left inside an iteration was left outside
stepped_dims : (xs : List (List ℕ)) (n : List ℕ) (ls : List Listed) → has_dimension (listed_as n (stepped_all xs ls)) ≡ true → has_dimension (listed_as n ls) ≡ true
stepped_dims xs n [] h = h
stepped_dims xs n (m ∷ ls) h = by (bytes_eq n m.name) refl h (stepped_dims xs n ls)
  where
    by : (b : Bool) → bytes_eq n m.name ≡ b → has_dimension (if b then Some (stepped xs m) else listed_as n (stepped_all xs ls)) ≡ true
        → (has_dimension (listed_as n (stepped_all xs ls)) ≡ true → has_dimension (listed_as n ls) ≡ true) → has_dimension (listed_as n (m ∷ ls)) ≡ true
    by true s k rest = ap (λ b. has_dimension (if b then Some m else listed_as n ls)) s ∙ inner_left (has_name xs m.name) m.dim k
    by false s k rest = ap (λ b. has_dimension (if b then Some m else listed_as n ls)) s ∙ rest k

-- ---- what is repeated

repeated_some : (xs : List (List ℕ)) (n : List ℕ) (es : List IlExp) → Has xs n → is_repeated xs es ≡ true
repeated_some [] n es h = absurd h
repeated_some (x ∷ xs) n es h = refl

repeated_count : (xs : List (List ℕ)) (e : IlExp) (es : List IlExp) → is_repeated xs (e ∷ es) ≡ true
repeated_count [] e es = refl
repeated_count (x ∷ xs) e es = refl

-- an iteration that has a count names something or has the count
pub repeated : (how : Iteration) (xs : List (List ℕ)) → (must_at (out-Iteration how) ≡ true → (n : List ℕ) × (Has xs n)) → is_repeated xs (count_of how) ≡ true
repeated how xs h = by (out-Iteration how) h
  where
    by : (y : Iteration-F IlExp Iteration ListItem PathSeg) → (must_at y ≡ true → (n : List ℕ) × (Has xs n)) → is_repeated xs (count_at y) ≡ true
    by Iteration-F.Star k = let r = k refl in repeated_some xs r.0 [] r.1
    by Iteration-F.Plus k = let r = k refl in repeated_some xs r.0 [] r.1
    by Iteration-F.Quest k = let r = k refl in repeated_some xs r.0 [] r.1
    by (Iteration-F.Times e) k = repeated_count xs e []
    by (Iteration-F.Below index e) k = repeated_count xs e []

-- a name that is noted is noted as that of a variable
pub noted_name : (ns : List Note) (n : List ℕ) → Has (names_of ns) n → (c : List Kind) × (Has ns (occurring n c))
noted_name [] n h = absurd h
noted_name (occurring m c ∷ ns) n (inl e) = (c, inl (λ i. occurring (e i) c))
noted_name (occurring m c ∷ ns) n (inr h) = let r = noted_name ns n h in (r.0, inr r.1)
noted_name (indexes m ∷ ns) n h = let r = noted_name ns n h in (r.0, inr r.1)
noted_name (iterates d ms ∷ ns) n h = let r = noted_name ns n h in (r.0, inr r.1)

-- ---- what an iteration names

module _ (S : Scope) (rises : Rises S.variables) where
  -- a note says what it has to: an index is no variable, and an iteration goes over a variable in its body
  abbrev pub IsFine : Note → Type 0
  IsFine (occurring n c) = Unit {0}
  IsFine (indexes n) = (v : Variable) → Has S.variables v → v.0 ≡ n → ⊥
  IsFine (iterates depth names) = (v : Variable) × (Has S.variables v) × (Has names v.0) × (depth < length v.2)

  abbrev pub AreFine : List Note → Type 0
  AreFine ns = (n : Note) → Has ns n → IsFine n

  -- of a variable this is left
  abbrev pub IsLeft : List Listed → Variable → ℕ → Type 0
  IsLeft ls v depth = (l : Listed) × (listed_as v.0 ls ≡ Some l) × (l.dim ≡ drop depth v.2)

  -- variables are listed as they are inside of this, where these names occur
  pub record Fits (w : Within) (ls : List Listed) (occ : List ℕ → Bool) : Type 0 where
    pub left : (v : Variable) → Has S.variables v → occ v.0 ≡ true → IsLeft ls v (length w.kinds)
    pub known : (n : List ℕ) → has_dimension (listed_as n ls) ≡ true → (v : Variable) × (Has S.variables v) × (v.0 ≡ n)
    pub free : (v : Variable) → Has S.variables v → is_among v.0 w.indices ≡ false

  pub fits_part : (w : Within) (ls : List Listed) (occ part : List ℕ → Bool) → ((n : List ℕ) → part n ≡ true → occ n ≡ true) → Fits w ls occ → Fits w ls part
  fits_part w ls occ part h f = record { left = λ v k o. f.left v k (h v.0 o); known = f.known; free = f.free }

  -- a variable is told by its name
  same_dimension : (u v : Variable) → Has S.variables u → Has S.variables v → u.0 ≡ v.0 → u.2 ≡ v.2
  same_dimension u v h k e =
      let s : Some u.2 ≡ Some v.2 = sym (dimension_of S.variables rises u h) ∙ ap (dimension_in (table_of S.variables)) e ∙ dimension_of S.variables rises v k in
      cc

  pub once_filter : (p : Variable → Bool) (vs : List Variable) → Rises vs → is_once (map (λ (v : Variable). v.0) (filter p vs)) ≡ true
  unfolding IsStrictlySortedBy
  once_filter p [] h = refl
  once_filter p (v ∷ vs) h = by (p v) (once_filter p vs h.1)
    where
      none_again : has_name (map (λ (u : Variable). u.0) (filter p vs)) v.0 ≡ false
      none_again = none_from_Has v.0 (map (λ (u : Variable). u.0) (filter p vs)) (λ k.
          let u = Has-from_map (λ (z : Variable). z.0) (filter p vs) v.0 k in
          true≢false (sym (path_same u.0.0 v.0 u.2) ∙ other_name v.0 vs h.0 u.0 (Has-from_filter p vs u.0 u.1).0))

      by : (b : Bool) → is_once (map (λ (u : Variable). u.0) (filter p vs)) ≡ true → is_once (map (λ (u : Variable). u.0) (cond b (v ∷ filter p vs) (filter p vs))) ≡ true
      by true rest = and_both (not (has_name (map (λ (u : Variable). u.0) (filter p vs)) v.0)) (is_once (map (λ (u : Variable). u.0) (filter p vs))) (ap not none_again) rest
      by false rest = rest

  -- the names of an iteration of this, inside of this, in whose body these names occur
  module _ (how : Iteration) (w : Within) (ls : List Listed) (occ body : List ℕ → Bool) (xs : List (List ℕ))
      (are : xs ≡ iterated_in S.variables (length w.kinds) (w.indices ++ index_of how) body) (fits : Fits w ls occ)
      (no_index : (v : Variable) → Has S.variables v → has_name (index_of how) v.0 ≡ false)
      (in_body : (n : List ℕ) → has_name (index_of how) n ≡ false → body n ≡ true → occ n ≡ true) where
    abbrev test : Variable → Bool
    test = is_iterated (length w.kinds) (w.indices ++ index_of how) body

    -- what is named is a variable with more iterations that occurs in the body
    record IsGone (n : List ℕ) : Type 0 where
      variable : Variable
      member : Has S.variables variable
      named : variable.0 ≡ n
      longer : length w.kinds < length variable.2
      occurs : body variable.0 ≡ true

    gone : (n : List ℕ) → Has xs n → IsGone n
    gone n h =
        let v = Has-from_map (λ (z : Variable). z.0) (filter test S.variables) n (subst (λ z. Has z n) are h) in
        let k = Has-from_filter test S.variables v.0 v.1 in
        let a = and-left (nat_lt (length w.kinds) (length v.0.2) && not (is_among v.0.0 (w.indices ++ index_of how))) (body v.0.0) k.1 in
        record {
          variable = v.0;
          member = k.0;
          named = v.2;
          longer = below (length w.kinds) (length v.0.2) (and-left (nat_lt (length w.kinds) (length v.0.2)) (not (is_among v.0.0 (w.indices ++ index_of how))) a);
          occurs = and-right (nat_lt (length w.kinds) (length v.0.2) && not (is_among v.0.0 (w.indices ++ index_of how))) (body v.0.0) k.1;
        }

    is_gone : (v : Variable) → Has S.variables v → length w.kinds < length v.2 → body v.0 ≡ true → Has xs v.0
    is_gone v h longer o =
        let outside = outside_both v.0 w.indices (index_of how) (fits.free v h) (no_index v h) in
        let passes : test v ≡ true = and_both (nat_lt (length w.kinds) (length v.2) && not (is_among v.0 (w.indices ++ index_of how))) (body v.0)
        (and_both (nat_lt (length w.kinds) (length v.2)) (not (is_among v.0 (w.indices ++ index_of how))) (less (length w.kinds) (length v.2) longer) (ap not outside)) o in
        subst (λ z. Has z v.0) (sym are) (Has-map (λ (z : Variable). z.0) (filter test S.variables) v (Has-filter test S.variables v h passes))

    left_of : (v : Variable) → Has S.variables v → body v.0 ≡ true → IsLeft ls v (length w.kinds)
    left_of v h o = fits.left v h (in_body v.0 (no_index v h) o)

    goes : (n : List ℕ) → Has xs n → goes_over how ls body n ≡ true
    goes n h =
        let g = gone n h in
        let l = left_of g.variable g.member g.occurs in
        let dims : has_dimension (listed_as g.variable.0 ls) ≡ true = ap has_dimension l.1 ∙ ap is_left l.2 ∙ left-drop (length w.kinds) g.variable.2 g.longer in
        subst (λ z. goes_over how ls body z ≡ true) g.named
        (and_both (has_dimension (listed_as g.variable.0 ls)) (not (has_name (index_of how) g.variable.0) && body g.variable.0) dims
        (and_both (not (has_name (index_of how) g.variable.0)) (body g.variable.0) (ap not (no_index g.variable g.member)) g.occurs))

    all_named : (l : Listed) → is_named how xs ls body l ≡ true
    all_named l = either (goes_over how ls body l.name) (has_name xs l.name) (λ k.
        let dims = and-left (has_dimension (listed_as l.name ls)) (not (has_name (index_of how) l.name) && body l.name) k in
        let o = and-right (not (has_name (index_of how) l.name)) (body l.name) (and-right (has_dimension (listed_as l.name ls)) (not (has_name (index_of how) l.name) && body l.name) k) in
        let v = fits.known l.name dims in
        let occurs_so : body v.0.0 ≡ true = ap body v.2 ∙ o in
        let m = left_of v.0 v.1 occurs_so in
        let some : is_left (drop (length w.kinds) v.0.2) ≡ true = sym (ap has_dimension m.1 ∙ ap is_left m.2) ∙ ap (λ z. has_dimension (listed_as z ls)) v.2 ∙ dims in
        any_from_Has l.name xs (subst (Has xs) v.2 (is_gone v.0 v.1 (drop-left (length w.kinds) v.0.2 some) occurs_so)))

    pub exactly : (must_at (out-Iteration how) ≡ true → (v : Variable) × (Has S.variables v) × (length w.kinds < length v.2) × (body v.0 ≡ true)) → names_exactly how xs ls body ≡ true
    exactly some =
        and_both (is_once xs) _ (subst (λ z. is_once z ≡ true) (sym are) (once_filter test S.variables rises))
        (and_both (list_all (goes_over how ls body) xs) _ (every (goes_over how ls body) xs goes)
        (and_both (list_all (is_named how xs ls body) ls) _ (every (is_named how xs ls body) ls (λ l _. all_named l))
        (repeated how xs (λ must. let v = some must in (v.0.0, is_gone v.0 v.1 v.2 v.3)))))

    -- ---- inside of the iteration

    left_inside : (v : Variable) → Has S.variables v → body v.0 ≡ true → IsLeft (listed_inside how xs ls) v (suc (length w.kinds))
    left_inside v h o =
        let l = left_of v h o in (
          stepped xs l.0,
          other_listed (index_of how) (stepped_all xs ls) v.0 (stepped xs l.0) (no_index v h) (stepped_listed xs ls v.0 l.0 l.1),
          ap (λ z. if has_name xs z then inner l.0.dim else l.0.dim) (sym (listed_name ls v.0 l.0 l.1)) ∙ by l.0 l.2 (has_name xs v.0) refl,
        )
      where
        by : (l : Listed) → l.dim ≡ drop (length w.kinds) v.2 → (b : Bool) → has_name xs v.0 ≡ b → (if b then inner l.dim else l.dim) ≡ drop (suc (length w.kinds)) v.2
        by l e true s = ap inner e ∙ inner-drop (length w.kinds) v.2
        by l e false s =
            let short : length v.2 ≤ length w.kinds = not_below (length w.kinds) (length v.2) (not_true (nat_lt (length w.kinds) (length v.2)) (λ t.
            true≢false (sym (any_from_Has v.0 xs (is_gone v h (below (length w.kinds) (length v.2) t) o)) ∙ s))) in
            e ∙ drop_all (length w.kinds) v.2 short ∙ sym (drop_all (suc (length w.kinds)) v.2 (omega arith))

    pub fits_inside : Fits (entered (kind_of how) (index_of how) w) (listed_inside how xs ls) body
    fits_inside = record {
      left = λ v h o. subst (IsLeft (listed_inside how xs ls) v) (sym (one_longer w.kinds (kind_of how))) (left_inside v h o);
      known = λ n h. fits.known n (stepped_dims xs n ls (index_dims (index_of how) n (stepped_all xs ls) h));
      free = λ v h. outside_both v.0 w.indices (index_of how) (fits.free v h) (no_index v h);
    }

  -- ---- expressions

  kept_plain : (ls : List Listed) (y : IlExp-F IlExp Iteration ListItem PathSeg) → IsNoIteration y → IsTrue (names_kept ls y)
  kept_plain ls (IlExp-F.Iter how names body) i = absurd i
  kept_plain ls y i = refl

  parts_plain : (ls : List Listed) (y : IlExp-F IlExp Iteration ListItem PathSeg) → IsNoIteration y → parts_at ls y ≡ standing ls (operands_at item_exp segment_exps y)
  parts_plain ls (IlExp-F.Iter how names body) i = absurd i
  parts_plain ls y i = refl

  fine_left : (xs ys : List Note) → AreFine (xs ++ ys) → AreFine xs
  fine_left xs ys h n k = h n (Has-left xs ys n k)

  fine_right : (xs ys : List Note) → AreFine (xs ++ ys) → AreFine ys
  fine_right xs ys h n k = h n (Has-right xs ys n k)

  pub kept_append : (ps qs : List Part) → AllKeepNames ps → AllKeepNames qs → AllKeepNames (ps ++ qs)
  kept_append [] qs none k = k
  kept_append (p ∷ ps) qs (more h hs) k = more h (kept_append ps qs hs k)

  -- the notes of an iteration: of itself, of its indices, of its body and of its count
  pub record IterationFine (how : Iteration) (body : Notes) (w : Within) : Type 0 where
    pub itself : must_at (out-Iteration how) ≡ true → (v : Variable) × (Has S.variables v) × (Has (names_of (body (entered (kind_of how) (index_of how) w))) v.0) × (length w.kinds < length v.2)
    pub no_index : (v : Variable) → Has S.variables v → has_name (index_of how) v.0 ≡ false
    pub inside : AreFine (body (entered (kind_of how) (index_of how) w))
    pub counted : AreFine (all_of (map noted (count_of how)) w)

  pub iteration_fine : (how : Iteration) (body : Notes) (w : Within)
      → AreFine (iterated (record { kind = kind_of how; index = index_of how; must = must_at (out-Iteration how); count = all_of (map noted (count_of how)) }) body w) → IterationFine how body w
  iteration_fine how body w h =
      let e : Within = entered (kind_of how) (index_of how) w in
      let first : List Note = iteration_note (must_at (out-Iteration how)) (length w.kinds) (body e) in
      let last : List Note = all_of (map noted (count_of how)) w in
      let a : AreFine (first ++ map indexes (index_of how) ++ body e) = fine_left (first ++ map indexes (index_of how) ++ body e) last h in
      let b : AreFine (first ++ map indexes (index_of how)) = fine_left (first ++ map indexes (index_of how)) (body e) a in
      let c : AreFine (map indexes (index_of how)) = fine_right first (map indexes (index_of how)) b in
      record {
        itself = λ must. fine_left first (map indexes (index_of how)) b (iterates (length w.kinds) (names_of (body e)))
            (subst (λ m. Has (iteration_note m (length w.kinds) (body e)) (iterates (length w.kinds) (names_of (body e)))) (sym must) (inl refl));
        no_index = λ v k. none_from_Has v.0 (index_of how) (λ m. c (indexes v.0) (Has-map indexes (index_of how) v.0 m) v k refl);
        inside = fine_right (first ++ map indexes (index_of how)) (body e) a;
        counted = fine_right (first ++ map indexes (index_of how) ++ body e) last h;
      }

  mutual
    -- the iterations in an expression name exactly what they go over
    pub names-kept : (w : Within) (x : IlExp) (ls : List Listed) → Names S w x → Fits w ls (λ n. occurs n x) → AreFine (noted x w) → KeepsNames ls x
    names-kept w x ls (by_parts i h) f fine =
        keeps (kept_plain ls (out-IlExp x) i)
        (subst AllKeepNames (sym (parts_plain ls (out-IlExp x) i))
        (all-kept w (operands_at item_exp segment_exps (out-IlExp x)) ls h
        (λ p k. fits_part w ls (λ n. occurs n x) (λ n. occurs n p) (λ n o. operand-occurs n x i p k o) f)
        (operands_fine (out-IlExp x) refl i)))
      where
        operands_fine : (y : IlExp-F IlExp Iteration ListItem PathSeg) → out-IlExp x ≡ y → IsNoIteration y → AreFine (all_of (map noted (operands_at item_exp segment_exps y)) w)
        operands_fine (IlExp-F.Iter how names body) is i n k = absurd i
        operands_fine (IlExp-F.Var name) is i n k = absurd k
        operands_fine y is i n k = fine n (subst (λ (z : Notes). Has (z w) n) (sym (noted-level x y is ∙ noted-parts y tt)) k)
    names-kept w x ls (by_body how names body is are h counts) f fine =
        let notes = iteration_fine how (noted body) w (subst (λ (z : Notes). AreFine (z w)) (noted-Iter x how names body is) fine) in
        let in_body = λ (n : List ℕ) (free : has_name (index_of how) n ≡ false) (o : occurs n body ≡ true). occurs-body n x how names body is free o in
        let named : names_exactly how names ls (λ n. occurs n body) ≡ true =
        exactly how w ls (λ n. occurs n x) (λ n. occurs n body) names are f notes.no_index in_body (λ must.
        let v = notes.itself must in
        let c = noted_name (noted body (entered (kind_of how) (index_of how) w)) v.0.0 v.2 in
        (v.0, v.1, v.3, (occurs-noted v.0.0 body (entered (kind_of how) (index_of how) w) c.0 c.1).0)) in
        let inner_kept : KeepsNames (listed_inside how names ls) body =
        names-kept (entered (kind_of how) (index_of how) w) body (listed_inside how names ls) h
        (fits_inside how w ls (λ n. occurs n x) (λ n. occurs n body) names are f notes.no_index in_body) notes.inside in
        let counts_kept : AllKeepNames (standing ls (count_of how)) =
        all-kept w (count_of how) ls counts (λ p k. fits_part w ls (λ n. occurs n x) (λ n. occurs n p) (λ n o. occurs-count n x how names body is (in_member n (count_of how) p k o)) f) notes.counted in
        keeps (subst (λ y. IsTrue (names_kept ls y)) (sym is) named)
        (subst (λ y. AllKeepNames (parts_at ls y)) (sym is)
        (kept_append (standing ls (count_of how)) ((listed_inside how names ls, body) ∷ []) counts_kept (more inner_kept none)))

    -- so do those in several expressions
    pub all-kept : (w : Within) (xs : List IlExp) (ls : List Listed) → AllName S w xs → ((x : IlExp) → Has xs x → Fits w ls (λ n. occurs n x)) → AreFine (all_of (map noted xs) w) → AllKeepNames (standing ls xs)
    all-kept w [] ls no_names f fine = none
    all-kept w (x ∷ xs) ls (more_names h hs) f fine =
        more (names-kept w x ls h (f x (inl refl)) (fine_left (noted x w) (all_of (map noted xs) w) fine))
        (all-kept w xs ls hs (λ z k. f z (inr k)) (fine_right (noted x w) (all_of (map noted xs) w) fine))
