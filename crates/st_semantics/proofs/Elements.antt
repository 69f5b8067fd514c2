-- The elements of an iteration have their types.
use Rattle.std.proofs.Common.{◌≡◌, ℕ, ℤ, zero, suc, ◌+◌, ◌≤◌, pos, refl, sym, ◌∙◌, ap, subst, List, [], ◌∷◌, ◌++◌, map, length, ◌⊎◌, inl, inr, Bool, true, false, ◌&&◌, ◌||◌, if◌then◌else◌, Option, Some, None, bytes_eq, nat_eq, arith, All}
use Rattle.std.proofs.lemmas.Bool.{eqb-true}
use Rattle.std.proofs.lemmas.List.Elements.{All-nil, All-cons, All-head, All-tail}
use Rattle.st_num.specs.Number.{IsNumber}
use Rattle.st_num.specs.Texts.{IsText}
use Rattle.st_num.specs.declared.limit.TheConstants.{HIGHEST_VALUE}
use Rattle.st_num.specs.declared.dim.Kind.{Kind}
use Rattle.st_num.specs.declared.dim.Kind.TheVariants as kind
use Rattle.st_il.specs.declared.definition.Il.{Il}
use Rattle.st_il.specs.declared.definition.Listed.{Listed}
use Rattle.st_il.specs.declared.definition.SyntaxDef.{SyntaxDef}
use Rattle.st_il.specs.declared.expression.Iteration.{Iteration}
use Rattle.st_il.specs.declared.ty.Ty.{Ty}
use Rattle.st_il.specs.declared.ty.Ty.TheOpen.{Ty-F}
use Rattle.st_il.specs.declared.ty.Ty.TheVariants as ty
use Rattle.st_il.specs.declared.value.Env.{Env}
use Rattle.st_il.specs.declared.value.Value.{Value, out-Value, fold_out-Value, map-Value}
use Rattle.st_il.specs.declared.value.Value.TheOpen.{Value-F}
use Rattle.st_il.specs.declared.value.Value.TheVariants as value
use Rattle.st_il.specs.Height.{height, height_at, highest}
use Rattle.st_il.specs.Value.{texts_of, texts_at}
use Rattle.st_il.specs.Value as texts
use Rattle.st_type_table.specs.Meaning.{alias_of, itself}
use Rattle.st_type_table.specs.HasType.{AllHaveType, no_more, one_more}
use Rattle.st_type_table.specs.inner.TypedLevels.{TypedAt}
use Rattle.st_type_table.proofs.HasTypeLemmas.{typed-opened}
use Rattle.st_il.specs.Names.{Name, flattened, has_name}
use Rattle.st_il.specs.Definitions.{syntaxes}
use Rattle.st_semantics.specs.Environments.{Entry, lookup, IsTypedValue, IsSomeTyped, numbers_of, numbers_at, wrapped, type_of, listed_as, TypedIn}
use Rattle.st_semantics.specs.Parts.{elements_at, option_at}
use Rattle.st_semantics.specs.Iterations.{index_of, kind_of, may_be, Column, column_of, before, columns, all_long, size_of, heads, tails, bound_to, counted_to, rows, Over, spread_rows, spread_long, spread}
use Rattle.st_semantics.specs.Scopes.{inner, stepped, stepped_all, indices, listed_inside}
use Rattle.st_semantics.specs.Depth.{AllTypedIn}
use Rattle.st_semantics.specs.Kinds.{BeginsWith, AreOfItsKind}
use Rattle.st_semantics.proofs.Names.{bytes-same, bytes-path, or-left, or-right, and-both}

-- ---- the parts of a typed value

pub All-front : {A : Type 0} (P : A → Type 0) (xs ys : List A) → All P (xs ++ ys) → All P xs
All-front P [] ys h = All-nil P
All-front P (x ∷ xs) ys h = All-cons P x xs (All-head P x (xs ++ ys) h) (All-front P xs ys (All-tail P x (xs ++ ys) h))

pub All-back : {A : Type 0} (P : A → Type 0) (xs ys : List A) → All P (xs ++ ys) → All P ys
All-back P [] ys h = h
All-back P (x ∷ xs) ys h = All-back P xs ys (All-tail P x (xs ++ ys) h)

module _ (defs : List SyntaxDef) where
  abbrev pub EachTyped : Ty → List Value → Type 0
  EachTyped t [] = Unit {0}
  EachTyped t (v ∷ vs) = IsTypedValue defs t v × EachTyped t vs

  each_typed : (t : Ty) (vs : List Value) → AllHaveType defs vs t → highest (map height vs) ≤ HIGHEST_VALUE → All IsText (texts.joined (map texts_of vs))
      → All IsNumber (flattened (map numbers_of vs)) → EachTyped t vs
  each_typed t [] no_more hi te nu = tt
  each_typed t (v ∷ vs) (one_more h hs) hi te nu =
      let first : height v ≤ HIGHEST_VALUE = omega (arith, hi) in
      let rest : highest (map height vs) ≤ HIGHEST_VALUE = omega (arith, hi) in (
        record {
          form = h;
          value = record { height = first; texts = All-front IsText (texts_of v) (texts.joined (map texts_of vs)) te };
          numbers = All-front IsNumber (numbers_of v) (flattened (map numbers_of vs)) nu;
        },
        each_typed t vs hs rest (All-back IsText (texts_of v) (texts.joined (map texts_of vs)) te) (All-back IsNumber (numbers_of v) (flattened (map numbers_of vs)) nu),
      )

  abbrev HeightIs : Value → Value-F Value → Type 0
  HeightIs v y = height v ≡ height_at (map-Value Value ℕ height y)

  list_parts : (v : Value) (y : Value-F Value) (t : Ty) (c : Column) → HeightIs v y → texts_of v ≡ texts_at (map-Value Value (List (List ℕ)) texts_of y)
      → numbers_of v ≡ numbers_at (map-Value Value (List ℤ) numbers_of y) → IsTypedValue defs (ty.List t) v
      → TypedAt defs y (Ty-F.List t) (ty.List t) → elements_at y ≡ Some c → EachTyped t c
  list_parts v (Value-F.List parts) t c hi te nu typed at e =
      let same : parts ≡ c = cc in
      let low = typed.value.height in
      let high : highest (map height parts) ≤ HIGHEST_VALUE = omega (arith, hi, low) in
      subst (EachTyped t) same (each_typed t parts at high (subst (All IsText) te typed.value.texts) (subst (All IsNumber) nu typed.numbers))
  list_parts v (Value-F.Bool b) t c hi te nu typed at e = cc
  list_parts v (Value-F.Num z) t c hi te nu typed at e = cc
  list_parts v (Value-F.Text b) t c hi te nu typed at e = cc
  list_parts v (Value-F.Case tag parts) t c hi te nu typed at e = cc
  list_parts v (Value-F.Fields fields) t c hi te nu typed at e = cc
  list_parts v (Value-F.Tuple parts) t c hi te nu typed at e = cc
  list_parts v (Value-F.Opt part) t c hi te nu typed at e = cc

  option_parts : (v : Value) (y : Value-F Value) (t : Ty) (c : Column) → HeightIs v y → texts_of v ≡ texts_at (map-Value Value (List (List ℕ)) texts_of y)
      → numbers_of v ≡ numbers_at (map-Value Value (List ℤ) numbers_of y) → IsTypedValue defs (ty.Opt t) v
      → TypedAt defs y (Ty-F.Opt t) (ty.Opt t) → option_at y ≡ Some c → EachTyped t c
  option_parts v (Value-F.Opt None) t c hi te nu typed at e = let same : [] ≡ c = cc in subst (EachTyped t) same tt
  option_parts v (Value-F.Opt (Some part)) t c hi te nu typed at e =
      let same : part ∷ [] ≡ c = cc in
      let low = typed.value.height in
      let high : height part ≤ HIGHEST_VALUE = omega (arith, hi, low) in
      subst (EachTyped t) same (
        record {
          form = at;
          value = record { height = high; texts = subst (All IsText) te typed.value.texts };
          numbers = subst (All IsNumber) nu typed.numbers;
        },
        tt,
      )
  option_parts v (Value-F.Bool b) t c hi te nu typed at e = cc
  option_parts v (Value-F.Num z) t c hi te nu typed at e = cc
  option_parts v (Value-F.Text b) t c hi te nu typed at e = cc
  option_parts v (Value-F.Case tag parts) t c hi te nu typed at e = cc
  option_parts v (Value-F.Fields fields) t c hi te nu typed at e = cc
  option_parts v (Value-F.Tuple parts) t c hi te nu typed at e = cc
  option_parts v (Value-F.List parts) t c hi te nu typed at e = cc

  pub no_alias_list : (t : Ty) → alias_of defs (ty.List t) ≡ None
  no_alias_list t = simp (ty.outs-List t) refl

  pub no_alias_option : (t : Ty) → alias_of defs (ty.Opt t) ≡ None
  no_alias_option t = simp (ty.outs-Opt t) refl

  pub list_column : (t : Ty) (v : Value) (c : Column) → IsTypedValue defs (ty.List t) v → column_of kind.List (Some v) ≡ Some c → EachTyped t c
  list_column t v c typed e =
      list_parts v (out-Value v) t c (fold_out-Value ℕ height_at v) (fold_out-Value (List (List ℕ)) texts_at v) (fold_out-Value (List ℤ) numbers_at v) typed
      (subst (λ z. TypedAt defs (out-Value v) z (ty.List t)) (ty.outs-List t) (typed-opened defs v (ty.List t) (ty.List t) (itself (no_alias_list t) refl) typed.form)) e

  option_column : (t : Ty) (v : Value) (c : Column) → IsTypedValue defs (ty.Opt t) v → column_of kind.Opt (Some v) ≡ Some c → EachTyped t c
  option_column t v c typed e =
      option_parts v (out-Value v) t c (fold_out-Value ℕ height_at v) (fold_out-Value (List (List ℕ)) texts_at v) (fold_out-Value (List ℤ) numbers_at v) typed
      (subst (λ z. TypedAt defs (out-Value v) z (ty.Opt t)) (ty.outs-Opt t) (typed-opened defs v (ty.Opt t) (ty.Opt t) (itself (no_alias_option t) refl) typed.form)) e

  column_typed : (k : Kind) (t : Ty) (dim : List Kind) (o : Option Value) (c : Column) → BeginsWith k dim → IsSomeTyped defs (wrapped dim t) o → column_of k o ≡ Some c → EachTyped (wrapped (inner dim) t) c
  column_typed k t [] o c b s e = absurd b
  column_typed k t (d ∷ ds) None c b s e = absurd s
  column_typed kind.List t (d ∷ ds) (Some v) c b s e = list_column (wrapped ds t) v c (subst (λ z. IsTypedValue defs (wrapped (z ∷ ds) t) v) b s) e
  column_typed kind.Opt t (d ∷ ds) (Some v) c b s e = option_column (wrapped ds t) v c (subst (λ z. IsTypedValue defs (wrapped (z ∷ ds) t) v) b s) e

-- ---- the columns

-- both parts of a list of columns
pub before_parts : (p : Option Column) (q : Option (List Column)) (cs : List Column) → before p q ≡ Some cs
    → (c : Column) × (rest : List Column) × (p ≡ Some c) × (q ≡ Some rest) × (c ∷ rest ≡ cs)
before_parts None None cs e = cc
before_parts None (Some rest) cs e = cc
before_parts (Some c) None cs e = cc
before_parts (Some c) (Some rest) cs e = let same : c ∷ rest ≡ cs = cc in (c, rest, refl, refl, same)

pub long_parts : (may : ℕ → Bool) (index xs : List Name) (env : List Entry) (n : Option ℕ) (cs : Option (List Column)) (envs : List Env)
    → spread_long may index xs env n cs ≡ Over envs
    → (m : ℕ) × (ds : List Column) × (n ≡ Some m) × (cs ≡ Some ds) × (all_long m ds ≡ true) × (rows index xs env m 0 ds ≡ envs)
long_parts may index xs env None cs envs e = cc
long_parts may index xs env (Some m) None envs e = cc
long_parts may index xs env (Some m) (Some ds) envs e = fit (all_long m ds) (may m) refl e
  where
    fit : (a b : Bool) → all_long m ds ≡ a → spread_rows (a && b) (rows index xs env m 0 ds) ≡ Over envs
        → (k : ℕ) × (es : List Column) × (Some m ≡ Some k) × (Some ds ≡ Some es) × (all_long k es ≡ true) × (rows index xs env k 0 es ≡ envs)
    fit true true h e = let same : rows index xs env m 0 ds ≡ envs = cc in (m, ds, refl, refl, h, same)
    fit true false h e = cc
    fit false b h e = cc

pub or-false : (a b : Bool) → (a || b) ≡ false → (a ≡ false) × (b ≡ false)
or-false true b e = cc
or-false false b e = (refl, e)

-- a name that is not bound anew
pub skip : (x : Name) (xs : List Name) (hs : List Value) (env : List Entry) → has_name xs x ≡ false → lookup x env ≡ lookup x (bound_to xs hs env)
skip x [] hs env h = refl
skip x (n ∷ ns) [] env h = refl
skip x (n ∷ ns) (y ∷ ys) env h =
    let b : (bytes_eq x n ≡ false) × (has_name ns x ≡ false) = or-false (bytes_eq x n) (has_name ns x) h in
    skip x ns ys env b.1 ∙ ap (λ z. if z then Some y else lookup x (bound_to ns ys env)) (sym b.0)

module _ (defs : List SyntaxDef) (ls : List Listed) (names : List Name) where
  abbrev IsColumn : Name → Column → Type 0
  IsColumn x c = has_name names x ≡ true → (l : Listed) → listed_as x ls ≡ Some l → EachTyped defs (wrapped (inner l.dim) l.ty) c

  abbrev Fit : ℕ → List Name → List Column → Type 0
  Fit n [] [] = Unit {0}
  Fit n (x ∷ xs) (c ∷ cs) = (length c ≡ n) × IsColumn x c × Fit n xs cs
  Fit n [] (c ∷ cs) = ⊥
  Fit n (x ∷ xs) [] = ⊥

  fit_tails : (n : ℕ) (xs : List Name) (cs : List Column) → Fit (suc n) xs cs → Fit n xs (tails cs)
  fit_tails n [] [] f = tt
  fit_tails n [] (c ∷ cs) f = absurd f
  fit_tails n (x ∷ xs) [] f = absurd f
  fit_tails n (x ∷ xs) ([] ∷ cs) f = absurd (omega (arith, f.0))
  fit_tails n (x ∷ xs) ((y ∷ ys) ∷ cs) f = (omega (arith, f.0), λ i l e. (f.1 i l e).1, fit_tails n xs cs f.2)

  choose : (t : Ty) (c : Bool) (y : Value) (o : Option Value) → (c ≡ true → IsSomeTyped defs t (Some y)) → (c ≡ false → IsSomeTyped defs t o) → IsSomeTyped defs t (if c then Some y else o)
  choose t true y o p q = p refl
  choose t false y o p q = q refl

  head_typed : (n : ℕ) (xs : List Name) (cs : List Column) (env : List Entry) (x : Name) → has_name names x ≡ true → Fit (suc n) xs cs → has_name xs x ≡ true → (l : Listed) → listed_as x ls ≡ Some l
      → IsSomeTyped defs (wrapped (inner l.dim) l.ty) (lookup x (bound_to xs (heads cs) env))
  head_typed n [] cs env x i f h l e = cc
  head_typed n (m ∷ ms) [] env x i f h l e = absurd f
  head_typed n (m ∷ ms) ([] ∷ cs) env x i f h l e = absurd (omega (arith, f.0))
  head_typed n (m ∷ ms) ((y ∷ ys) ∷ cs) env x i f h l e =
      choose (wrapped (inner l.dim) l.ty) (bytes_eq x m) y (lookup x (bound_to ms (heads cs) env))
      (λ is. (f.1 (subst (λ z. has_name names z ≡ true) (bytes-path x m is) i) l (ap (λ z. listed_as z ls) (sym (bytes-path x m is)) ∙ e)).0)
      (λ isnt. head_typed n ms cs env x i f.2 (other (bytes_eq x m) isnt h) l e)
    where
      other : (a : Bool) → a ≡ false → (a || has_name ms x) ≡ true → has_name ms x ≡ true
      other true p q = cc
      other false p q = q

  columns_fit : (k : Kind) (n : ℕ) (xs : List Name) (env : List Entry) (cs : List Column)
      → ((x : Name) → has_name xs x ≡ true → (c : Column) → column_of k (lookup x env) ≡ Some c → IsColumn x c)
      → columns k xs env ≡ Some cs → all_long n cs ≡ true → Fit n xs cs
  columns_fit k n [] env [] t e a = tt
  columns_fit k n [] env (c ∷ cs) t e a = cc
  columns_fit k n (x ∷ xs) env cs t e a =
      let w = before_parts (column_of k (lookup x env)) (columns k xs env) cs e in
      let long : (nat_eq (length w.0) n ≡ true) × (all_long n w.1 ≡ true) = and-both (nat_eq (length w.0) n) (all_long n w.1) (ap (all_long n) w.4 ∙ a) in
      subst (Fit n (x ∷ xs)) w.4 (
        eqb-true (length w.0) n long.0,
        t x (or-left (bytes_eq x x) (has_name xs x) (bytes-same x)) w.0 w.2,
        columns_fit k n xs env w.1 (λ y h. t y (or-right (bytes_eq y x) (has_name xs y) h)) w.3 long.1,
      )

-- ---- listed variables, seen from inside

found_at : (x : Name) (xs : List Name) (l m : Listed) (c : Bool) (other : Option Listed) → bytes_eq x l.name ≡ c → (if c then Some (stepped xs l) else other) ≡ Some m
    → ((stepped xs l ≡ m) × (x ≡ l.name) × (c ≡ true)) ⊎ ((other ≡ Some m) × (c ≡ false))
found_at x xs l m true other h e = let same : stepped xs l ≡ m = cc in inl (same, bytes-path x l.name h, refl)
found_at x xs l m false other h e = inr (e, refl)

abbrev Seen : Name → List Name → List Listed → Listed → Type 0
Seen x xs ls m = (l : Listed) × (listed_as x ls ≡ Some l) × (stepped xs l ≡ m) × (x ≡ l.name)

seen : (x : Name) (xs : List Name) (ls : List Listed) (m : Listed) → listed_as x (stepped_all xs ls) ≡ Some m → Seen x xs ls m
seen x xs [] m e = cc
seen x xs (l ∷ ls) m e = elim (found_at x xs l m (bytes_eq x l.name) (listed_as x (stepped_all xs ls)) refl e) [
  | inl a ↦ (l, ap (λ z. if z then Some l else listed_as x ls) a.2, a.0, a.1)
  | inr b ↦ let deeper : Seen x xs ls m = seen x xs ls m b.0 in (deeper.0, ap (λ z. if z then Some l else listed_as x ls) b.1 ∙ deeper.1, deeper.2, deeper.3)
]

pub no_index : (index : List Name) (x : Name) (rest : List Listed) → has_name index x ≡ false → listed_as x (indices index ++ rest) ≡ listed_as x rest
no_index [] x rest h = refl
no_index (i ∷ is) x rest h =
    let b : (bytes_eq x i ≡ false) × (has_name is x ≡ false) = or-false (bytes_eq x i) (has_name is x) h in
    ap (λ z. if z then Some (record { name = i; ty = ty.Nat; dim = [] }) else listed_as x (indices is ++ rest)) b.0 ∙ no_index is x rest b.1

abbrev stepped_by : Bool → Listed → Listed
stepped_by b l = record { name = l.name; ty = l.ty; dim = if b then inner l.dim else l.dim }

module _ (il : Il) (ls : List Listed) (xs names : List Name) (env : Env) (index : List Name) (apart : (x : Name) → has_name names x ≡ true → has_name index x ≡ false) where
  row_typed : (n k : ℕ) (cs : List Column) → Fit (syntaxes il) ls names (suc n) xs cs → TypedIn (syntaxes il) ls names env
      → TypedIn (syntaxes il) (indices index ++ stepped_all xs ls) names (record { entries = counted_to index k (bound_to xs (heads cs) env.entries) })
  row_typed n k cs f t x h m e =
      let away = apart x h in
      let s : Seen x xs ls m = seen x xs ls m (sym (no_index index x (stepped_all xs ls) away) ∙ e) in
      subst (λ z. IsSomeTyped (syntaxes il) (type_of z) (lookup x (counted_to index k (bound_to xs (heads cs) env.entries)))) s.2
      (subst (IsSomeTyped (syntaxes il) (type_of (stepped xs s.0))) (skip x index (value.Num (pos k) ∷ []) (bound_to xs (heads cs) env.entries) away)
      (go s.0 s.1 (has_name xs s.0.name) (ap (has_name xs) s.3)))
    where
      go : (l : Listed) → listed_as x ls ≡ Some l → (b : Bool) → has_name xs x ≡ b → IsSomeTyped (syntaxes il) (type_of (stepped_by b l)) (lookup x (bound_to xs (heads cs) env.entries))
      go l e true i = head_typed (syntaxes il) ls names n xs cs env.entries x h f i l e
      go l e false i = subst (IsSomeTyped (syntaxes il) (type_of l)) (skip x xs (heads cs) env.entries i) (t x h l e)

  rows_typed : TypedIn (syntaxes il) ls names env → (n k : ℕ) (cs : List Column) → Fit (syntaxes il) ls names n xs cs
      → AllTypedIn il (indices index ++ stepped_all xs ls) names (rows index xs env.entries n k cs)
  rows_typed t zero k cs f = tt
  rows_typed t (suc n) k cs f = (row_typed n k cs f t, rows_typed t n (k + 1) (tails cs) (fit_tails (syntaxes il) ls names n xs cs f))

-- In an environment that is typed at these names all elements are so.
pub elements_typed : (il : Il) (how : Iteration) (xs names : List Name) (ls : List Listed) (env : Env) (count : List Value) (envs : List Env) → AreOfItsKind how xs ls
    → ((x : Name) → has_name names x ≡ true → has_name (index_of how) x ≡ false)
    → TypedIn (syntaxes il) ls names env → spread how xs env count ≡ Over envs → AllTypedIn il (listed_inside how xs ls) names envs
elements_typed il how xs names ls env count envs kinded apart t e =
    let w = long_parts (may_be how) (index_of how) xs env.entries (size_of count (columns (kind_of how) xs env.entries)) (columns (kind_of how) xs env.entries) envs e in
    subst (AllTypedIn il (listed_inside how xs ls) names) w.5
    (rows_typed il ls xs names env (index_of how) apart t w.0 0 w.1
    (columns_fit (syntaxes il) ls names (kind_of how) w.0 xs env.entries w.1
    (λ x h c r i l at. column_typed (syntaxes il) (kind_of how) l.ty l.dim (lookup x env.entries) c (kinded x h l at) (t x i l at) r) w.3 w.4))
