-- A number that falls wherever types are compared: aliases reach less, and parts are lower.
use Rattle.std.proofs.Common.{◌≡◌, refl, sym, ap, ◌∙◌, subst, ℕ, zero, suc, ◌+◌, ◌*◌, ◌<◌, ◌≤◌, List, [], ◌∷◌, ◌++◌, map, length, get_or, Bool, true, false, Option, Some, None, nat_eq, if◌then◌else◌, arith, inl, inr}
use Rattle.std.proofs.Math.Nat.{mul-le-mul_right}
use Rattle.std.specs.Cmp.Lexicographic.{pointwise}
use Rattle.st_il.specs.Height.{highest}
use Rattle.st_il.proofs.Induction.{Every}
use Rattle.st_il.specs.declared.ty.Ty.{Ty, out-Ty, roll-Ty, roll-out-Ty, fold-Ty, fold-roll-Ty, map-Ty}
use Rattle.st_il.specs.declared.ty.Ty.TheOpen.{Ty-F}
use Rattle.st_il.specs.declared.definition.SyntaxDef.{SyntaxDef}
use Rattle.st_il.specs.declared.definition.SyntaxBody.{SyntaxBody}
use Rattle.st_il.specs.declared.definition.SyntaxBody.TheVariants as body
use Rattle.st_type_table.specs.Meaning.{body_of, Means, itself, alias, alias_of}
use Rattle.st_type_table.specs.Leads.{names_in, names_at, joined, Among, leads_from, next_of, leads_to}
use Rattle.st_type_table.specs.Breach.{IsSound}
use Rattle.st_type_table.specs.inner.Graph.{position_of, positions_of, IsOne}
use Rattle.st_type_table.proofs.TyInduction.{Parts, ty-ind}
use Rattle.st_type_table.proofs.PositionLemmas.{placed, unplaced, position-among, is_alias}
use Rattle.st_type_table.proofs.BuildLemmas.{reached, reached-falls}

abbrev pub position_rank : List SyntaxDef → Option ℕ → ℕ
position_rank defs None = 0
position_rank defs (Some p) = suc (reached defs p)

-- more than the ranks of all that the name leads to
abbrev pub rank_of : List SyntaxDef → List ℕ → ℕ
rank_of defs name = position_rank defs (position_of defs name)

abbrev pub rank_at : List SyntaxDef → Ty-F ℕ → ℕ
rank_at defs (Ty-F.Name name) = 1 + rank_of defs name
rank_at defs (Ty-F.List n) = n
rank_at defs (Ty-F.Opt n) = n
rank_at defs (Ty-F.Tuple ns) = highest ns
rank_at defs _ = 0

-- more than the ranks of the names in a type
abbrev pub ty_rank : List SyntaxDef → Ty → ℕ
ty_rank defs = fold-Ty ℕ (rank_at defs)

abbrev pub height_at : Ty-F ℕ → ℕ
height_at (Ty-F.List n) = 1 + n
height_at (Ty-F.Opt n) = 1 + n
height_at (Ty-F.Tuple ns) = 2 + highest ns
height_at _ = 1

abbrev pub ty_height : Ty → ℕ
ty_height = fold-Ty ℕ height_at

abbrev pub body_height : SyntaxBody → ℕ
body_height (body.Alias t) = ty_height t
body_height (body.Variant alternatives) = 0
body_height (body.Fields fields) = 0

-- at least the height of each alias
abbrev pub heights : List SyntaxDef → ℕ
heights [] = 0
heights (d ∷ ds) = body_height d.body + heights ds

abbrev pub measure : List SyntaxDef → Ty → ℕ
measure defs t = ty_rank defs t * suc (heights defs) + ty_height t

abbrev pub measure_all : List SyntaxDef → List Ty → ℕ
measure_all defs ts = highest (map (ty_rank defs) ts) * suc (heights defs) + suc (highest (map ty_height ts))

pub among-left : (xs ys : List (List ℕ)) (x : List ℕ) → Among xs x → Among (xs ++ ys) x
among-left [] ys x h = absurd h
among-left (z ∷ xs) ys x (inl e) = inl e
among-left (z ∷ xs) ys x (inr h) = inr (among-left xs ys x h)

pub among-right : (xs ys : List (List ℕ)) (x : List ℕ) → Among ys x → Among (xs ++ ys) x
among-right [] ys x h = h
among-right (z ∷ xs) ys x h = inr (among-right xs ys x h)

module _ (defs : List SyntaxDef) where
  IsBelow : Ty → Type 0
  IsBelow t = (n : ℕ) → ((y : List ℕ) → Among (names_in t) y → rank_of defs y < n) → ty_rank defs t ≤ n

  all_below : (xs : List Ty) → Every IsBelow xs → (n : ℕ) → ((y : List ℕ) → Among (joined (map names_in xs)) y → rank_of defs y < n) → highest (map (ty_rank defs) xs) ≤ n
  unfolding IsBelow
  all_below [] h n below = omega arith
  all_below (x ∷ xs) h n below =
      let a = h.0 n (λ y m. below y (among-left (names_in x) (joined (map names_in xs)) y m)) in
      let b = all_below xs h.1 n (λ y m. below y (among-right (names_in x) (joined (map names_in xs)) y m)) in
      omega (arith, a, b)

  level_below : (l : Ty-F Ty) → Parts IsBelow l → (n : ℕ) → ((y : List ℕ) → Among (names_at (map-Ty Ty (List (List ℕ)) names_in l)) y → rank_of defs y < n)
      → rank_at defs (map-Ty Ty ℕ (ty_rank defs) l) ≤ n
  unfolding IsBelow
  level_below Ty-F.Bool h n below = omega arith
  level_below Ty-F.Nat h n below = omega arith
  level_below Ty-F.Int h n below = omega arith
  level_below Ty-F.Text h n below = omega arith
  level_below (Ty-F.Name name) h n below = let a = below name (inl refl) in omega (arith, a)
  level_below (Ty-F.List x) h n below = h n below
  level_below (Ty-F.Opt x) h n below = h n below
  level_below (Ty-F.Tuple xs) h n below = all_below xs h n below

  is_below : (t : Ty) → IsBelow t
  unfolding IsBelow
  is_below = ty-ind IsBelow (λ l h n below.
      subst (λ r. r ≤ n) (sym (fold-roll-Ty ℕ (rank_at defs) l))
      (level_below l h n (λ y m. below y (subst (λ names. Among names y) (sym (fold-roll-Ty (List (List ℕ)) names_at l)) m))))

  -- a type whose names have smaller ranks than this
  pub ty_rank-le : (t : Ty) (n : ℕ) → ((y : List ℕ) → Among (names_in t) y → rank_of defs y < n) → ty_rank defs t ≤ n
  unfolding IsBelow
  ty_rank-le t n below = is_below t n below

  ty_rank-level : (l : Ty-F Ty) → ty_rank defs (roll-Ty l) ≡ rank_at defs (map-Ty Ty ℕ (ty_rank defs) l)
  ty_rank-level l = fold-roll-Ty ℕ (rank_at defs) l

  height-within : (ds : List SyntaxDef) (name : List ℕ) (b : SyntaxBody) → body_of ds name ≡ Some b → body_height b ≤ heights ds
  height-within [] name b h = cc
  height-within (d ∷ ds) name b h = by (pointwise nat_eq name d.name) h (height-within ds name b)
    where
      by : (c : Bool) → (if c then Some d.body else body_of ds name) ≡ Some b → (body_of ds name ≡ Some b → body_height b ≤ heights ds) → body_height b ≤ body_height d.body + heights ds
      by true h next = let s : d.body ≡ b = cc in let q : body_height d.body ≡ body_height b = ap body_height s in omega (arith, q)
      by false h next = let q = next h in omega (arith, q)

products : (r s k h g : ℕ) → r < s → h ≤ k → r * suc k + h < s * suc k + g
products r s k h g p q = let m : suc r * suc k ≤ s * suc k = mul-le-mul_right (suc k) (omega arith) in grind arith

module _ (defs : List SyntaxDef) (sound : IsSound defs) where
  -- a name that stands in an alias has the smaller rank
  lower : (x y : List ℕ) (p : ℕ) → position_of defs x ≡ Some p → Among (next_of defs x) y → rank_of defs y < suc (reached defs p)
  lower x y p e m = by (position_of defs y) refl
    where
      by : (o : Option ℕ) → position_of defs y ≡ o → position_rank defs o < suc (reached defs p)
      by None f = omega arith
      by (Some q) f =
          let r = placed defs x p e in
          let one : IsOne (positions_of defs (leads_to r.definition.body)) q = subst (λ o. IsOne (positions_of defs (leads_from o)) q) r.body_is (position-among defs (next_of defs x) y q m f) in
          let h = reached-falls defs sound p q r.definition r.there one in
          omega (arith, h)

  rank-falls : (x : List ℕ) (s : Ty) → body_of defs x ≡ Some (body.Alias s) → (y : List ℕ) → Among (names_in s) y → rank_of defs y < rank_of defs x
  rank-falls x s b y m = by (position_of defs x) refl
    where
      by : (o : Option ℕ) → position_of defs x ≡ o → rank_of defs y < position_rank defs o
      by None f = let z : Some (body.Alias s) ≡ None = sym b ∙ unplaced defs x f in cc
      by (Some p) f = lower x y p f (subst (λ ns. Among ns y) (sym (ap leads_from b)) m)

  -- what an alias stands for has a smaller rank, and is no higher than all
  pub alias-falls : (t s : Ty) → alias_of defs t ≡ Some s → (ty_rank defs s < ty_rank defs t) × (ty_height s ≤ heights defs)
  alias-falls t s h =
      let found = is_alias defs (out-Ty t) s h in
      let r : ty_rank defs s ≤ rank_of defs found.name = ty_rank-le defs s (rank_of defs found.name) (rank-falls found.name s found.body_is) in
      let is : t ≡ roll-Ty (Ty-F.Name found.name) = sym (roll-out-Ty t) ∙ ap roll-Ty found.level in
      let k : ty_rank defs t ≡ 1 + rank_of defs found.name = ap (ty_rank defs) is ∙ ty_rank-level defs (Ty-F.Name found.name) in
      (omega (arith, r, k), height-within defs defs found.name (body.Alias s) found.body_is)

  -- the meaning of a type is no larger
  pub Means-measure : (t u : Ty) → Means defs t u → measure defs u ≤ measure defs t
  Means-measure t u (itself p q) = let e : measure defs t ≡ measure defs u = ap (measure defs) q in omega (arith, e)
  Means-measure t u (alias s p q) =
      let f = alias-falls t s p in
      let g : measure defs s < measure defs t = products (ty_rank defs s) (ty_rank defs t) (heights defs) (ty_height s) (ty_height t) f.0 f.1 in
      let h = Means-measure s u q in
      omega (arith, g, h)

  -- each type has a meaning
  next_meaning : (t : Ty) (o : Option Ty) → alias_of defs t ≡ o
      → ((s : Ty) → alias_of defs t ≡ Some s → (u : Ty) × Means defs s u) → (u : Ty) × Means defs t u
  next_meaning t None p next = (t, Means.itself p refl)
  next_meaning t (Some s) p next = let m = next s p in (m.0, Means.alias s p m.1)

  meaning_to : (n : ℕ) (t : Ty) → ty_rank defs t < n → (u : Ty) × Means defs t u
  meaning_to zero t h = absurd (omega arith)
  meaning_to (suc n) t h = next_meaning t (alias_of defs t) refl (λ s p.
      let f = alias-falls t s p in
      meaning_to n s (omega (arith, f.0)))

  pub Means-total : (t : Ty) → (u : Ty) × Means defs t u
  Means-total t = meaning_to (suc (ty_rank defs t)) t (omega arith)

module _ (defs : List SyntaxDef) where
  highest-at : (f : Ty → ℕ) (xs : List Ty) (i : ℕ) (x : Ty) → i < length xs → get_or xs i x ≡ x → f x ≤ highest (map f xs)
  highest-at f [] i x h e = absurd (omega arith)
  highest-at f (y ∷ ys) zero x h e = let q : f y ≡ f x = ap f e in omega (arith, q)
  highest-at f (y ∷ ys) (suc i) x h e = let q = highest-at f ys i x (omega arith) e in omega (arith, q)

  -- no type of a list is larger than all
  pub item-within : (xs : List Ty) (i : ℕ) (x : Ty) → i < length xs → get_or xs i x ≡ x → measure defs x < measure_all defs xs
  item-within xs i x h e =
      let r : ty_rank defs x * suc (heights defs) ≤ highest (map (ty_rank defs) xs) * suc (heights defs) = mul-le-mul_right (suc (heights defs)) (highest-at (ty_rank defs) xs i x h e) in
      let q = highest-at ty_height xs i x h e in
      omega (arith, r, q)
