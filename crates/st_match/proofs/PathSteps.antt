-- The steps of a path, one after another, and what is put back on the way out.
use Rattle.std.proofs.Common.{◌≡◌, ℕ, suc, ◌+◌, ◌<◌, ◌≤◌, refl, sym, ◌∙◌, ap, List, [], ◌∷◌, ◌++◌, map, take, drop, length, get_or, true, false, Option, Some, None, option_map, bytes_eq, append_assoc, append-nil, add-one, drop-cons}
use Rattle.std.specs.Prelude.{if◌then◌else◌}
use Rattle.std.proofs.lemmas.List.{drop_all}
use Rattle.std.proofs.Math.Seq.{take-suc}
use Rattle.st_il.specs.declared.expression.PathSeg.{PathSeg, out-PathSeg}
use Rattle.st_il.specs.declared.value.Value.{Value}
use Rattle.st_il.specs.Names.{Name}
use Rattle.st_semantics.specs.Environments.{Entry}
use Rattle.st_semantics.specs.Paths.{Step, Path, longer, step_at, path_of, Replaces, in_field}
use Rattle.st_match.specs.declared.path.Stride.{Stride}
use Rattle.st_match.specs.inner.Changes.{step_of, with_value}

-- a path with these steps before its own
abbrev pub front : List Stride → Path → Path
front ss p = (map step_of ss ++ p.0, p.1)

pub path_of-start : (path : List PathSeg) (vs : List Value) → path_of path vs ≡ option_map (front []) (path_of path vs)
path_of-start path vs = at (path_of path vs)
  where
    at : (p : Option Path) → p ≡ option_map (front []) p
    at None = refl
    at (Some p) = refl

map-append : {A B : Type 0} (f : A → B) (xs ys : List A) → map f (xs ++ ys) ≡ map f xs ++ map f ys
map-append f [] ys = refl
map-append f (x ∷ xs) ys = ap (λ z. f x ∷ z) (map-append f xs ys)

front-longer : (ss : List Stride) (st : Stride) (p : Option Path) → option_map (front ss) (option_map (longer (step_of st)) p) ≡ option_map (front (ss ++ st ∷ [])) p
front-longer ss st None = refl
front-longer ss st (Some p) =
    ap (λ (z : List Step). Some (z, p.1)) (sym (ap (λ z. z ++ p.0) (map-append step_of ss (st ∷ [])) ∙ append_assoc (map step_of ss) (step_of st ∷ []) p.0))

-- the segment at a position, and those behind it
left : (path : List PathSeg) (i : ℕ) (s : PathSeg) → i < length path → s ≡ get_or path i s → drop i path ≡ s ∷ drop (i + 1) path
left path i s h is = drop-cons path i s h ∙ (ap (λ z. z ∷ drop (suc i) path) (sym is) ∙ ap (λ n. s ∷ drop n path) (sym (add-one i)))

pub path_of-next : (path : List PathSeg) (i : ℕ) (s : PathSeg) (vs rest : List Value) (ss : List Stride) (st : Stride) → i < length path → s ≡ get_or path i s
    → Some (step_of st, rest) ≡ step_at (out-PathSeg s) vs → option_map (front ss) (path_of (drop i path) vs) ≡ option_map (front (ss ++ st ∷ [])) (path_of (drop (i + 1) path) rest)
path_of-next path i s vs rest ss st h is e =
    ap (λ z. option_map (front ss) (path_of z vs)) (left path i s h is)
    ∙ (ap (option_map (front ss)) (step s (drop (i + 1) path) vs (step_of st, rest) e) ∙ front-longer ss st (path_of (drop (i + 1) path) rest))
  where
    step : (s : PathSeg) (more : List PathSeg) (vs : List Value) (p : Step × List Value) → Some p ≡ step_at (out-PathSeg s) vs → path_of (s ∷ more) vs ≡ option_map (longer p.0) (path_of more p.1)
    step s more vs p e = rw (← e) refl

pub path_of-none : (path : List PathSeg) (i : ℕ) (s : PathSeg) (vs : List Value) (ss : List Stride) → i < length path → s ≡ get_or path i s
    → None ≡ step_at (out-PathSeg s) vs → option_map (front ss) (path_of (drop i path) vs) ≡ None
path_of-none path i s vs ss h is e =
    ap (λ z. option_map (front ss) (path_of z vs)) (left path i s h is) ∙ ap (option_map (front ss)) (step s (drop (i + 1) path) vs e)
  where
    step : (s : PathSeg) (more : List PathSeg) (vs : List Value) → None ≡ step_at (out-PathSeg s) vs → path_of (s ∷ more) vs ≡ None
    step s more vs e = rw (← e) refl

pub path_of-end : (path : List PathSeg) (i : ℕ) (vs : List Value) (ss : List Stride) → length path ≤ i → option_map (front ss) (path_of (drop i path) vs) ≡ Some (map step_of ss, vs)
path_of-end path i vs ss h = ap (λ z. option_map (front ss) (path_of z vs)) (drop_all i path h) ∙ ap (λ (z : List Step). Some (z, vs)) (append-nil (map step_of ss))

-- ---- fields

-- fields behind the first ones
abbrev pub behind_fields : List Entry → Option (List Entry) → Option (List Entry)
behind_fields before more = option_map (λ (rest : List Entry). before ++ rest) more

module _ (name : Name) (f : Replaces) where
  field_left : (es : List Entry) (i : ℕ) (e : Entry) → i < length es → e ≡ get_or es i e → drop i es ≡ e ∷ drop (i + 1) es
  field_left es i e h is = drop-cons es i e h ∙ (ap (λ z. z ∷ drop (suc i) es) (sym is) ∙ ap (λ n. e ∷ drop n es) (sym (add-one i)))

  longer_front : (es : List Entry) (i : ℕ) (e : Entry) → i < length es → e ≡ get_or es i e → take (i + 1) es ≡ take i es ++ e ∷ []
  longer_front es i e h is = ap (λ n. take n es) (add-one i) ∙ (take-suc es i e h ∙ ap (λ z. take i es ++ z ∷ []) (sym is))

  pub in_field-start : (es : List Entry) → in_field name f es ≡ behind_fields (take 0 es) (in_field name f (drop 0 es))
  in_field-start es = at (in_field name f es)
    where
      at : (r : Option (List Entry)) → r ≡ option_map (λ (rest : List Entry). [] ++ rest) r
      at None = refl
      at (Some r) = refl

  other_field : (es : List Entry) (e : Entry) → bytes_eq name e.0 ≡ false → in_field name f (e ∷ es) ≡ option_map (λ (rest : List Entry). e ∷ rest) (in_field name f es)
  other_field es e p = ap (λ z. if z then option_map (λ (v : Value). (e.0, v) ∷ es) (f e.1) else option_map (λ (rest : List Entry). e ∷ rest) (in_field name f es)) p

  this_field : (es : List Entry) (e : Entry) → bytes_eq name e.0 ≡ true → in_field name f (e ∷ es) ≡ option_map (λ (v : Value). (e.0, v) ∷ es) (f e.1)
  this_field es e p = ap (λ z. if z then option_map (λ (v : Value). (e.0, v) ∷ es) (f e.1) else option_map (λ (rest : List Entry). e ∷ rest) (in_field name f es)) p

  one_behind : (before : List Entry) (e : Entry) (r : Option (List Entry)) → behind_fields before (option_map (λ (rest : List Entry). e ∷ rest) r) ≡ behind_fields (before ++ e ∷ []) r
  one_behind before e None = refl
  one_behind before e (Some r) = ap Some (sym (append_assoc before (e ∷ []) r))

  pub in_field-next : (es : List Entry) (i : ℕ) (e : Entry) → i < length es → e ≡ get_or es i e → bytes_eq name e.0 ≡ false
      → behind_fields (take i es) (in_field name f (drop i es)) ≡ behind_fields (take (i + 1) es) (in_field name f (drop (i + 1) es))
  in_field-next es i e h is p =
      ap (λ z. behind_fields (take i es) (in_field name f z)) (field_left es i e h is)
      ∙ (ap (behind_fields (take i es)) (other_field (drop (i + 1) es) e p)
      ∙ (one_behind (take i es) e (in_field name f (drop (i + 1) es)) ∙ ap (λ z. behind_fields z (in_field name f (drop (i + 1) es))) (sym (longer_front es i e h is))))

  pub in_field-found : (es : List Entry) (i : ℕ) (e : Entry) → i < length es → e ≡ get_or es i e → bytes_eq name e.0 ≡ true
      → behind_fields (take i es) (in_field name f (drop i es)) ≡ with_value i es e.0 (f e.1)
  in_field-found es i e h is p =
      ap (λ z. behind_fields (take i es) (in_field name f z)) (field_left es i e h is)
      ∙ (ap (behind_fields (take i es)) (this_field (drop (i + 1) es) e p) ∙ at (f e.1))
    where
      at : (v : Option Value) → behind_fields (take i es) (option_map (λ (v : Value). (e.0, v) ∷ drop (i + 1) es) v) ≡ with_value i es e.0 v
      at None = refl
      at (Some v) = refl

  pub in_field-end : (es : List Entry) (i : ℕ) → length es ≤ i → behind_fields (take i es) (in_field name f (drop i es)) ≡ None
  in_field-end es i h = ap (λ z. behind_fields (take i es) (in_field name f z)) (drop_all i es h)
