-- The elements of an iteration of which some variables are bound: those that every environment with
-- more variables has, and an environment that has given elements.
use Rattle.std.proofs.Common.{◌≡◌, ℕ, zero, suc, ◌+◌, ◌≤◌, pos, refl, sym, ◌∙◌, ap, ap₂, subst, List, [], ◌∷◌, ◌++◌, length, ◌⊎◌, inl, inr, Bool, true, false, ◌&&◌, ◌||◌, if◌then◌else◌, Option, Some, None, option_map, bytes_eq, nat_eq, arith}
use Rattle.std.proofs.lemmas.Bool.{eqb-true, eq-eqb}
use Rattle.st_num.specs.declared.dim.Kind.{Kind}
use Rattle.st_num.specs.declared.dim.Kind.TheVariants as kind
use Rattle.st_il.specs.declared.expression.Iteration.{Iteration}
use Rattle.st_il.specs.declared.value.Env.{Env}
use Rattle.st_il.specs.declared.value.Value.{Value, out-Value}
use Rattle.st_il.specs.declared.value.Value.TheOpen.{Value-F}
use Rattle.st_il.specs.declared.value.Value.TheVariants as value
use Rattle.st_il.specs.Names.{Name, has_name, among}
use Rattle.st_semantics.specs.Environments.{Entry, lookup, value_in, AgreeOn}
use Rattle.st_semantics.specs.Parts.{option_at}
use Rattle.st_semantics.specs.Iterations.{index_of, kind_of, may_be, Column, column_of, before, columns, all_long, size_of, first_length, heads, tails, bound_to, rows, Over, spread, spread_rows, spread_long}
use Rattle.st_semantics.proofs.Names.{Within, bytes-same, bytes-path, and-both, or-left, or-right, true_false}
use Rattle.st_semantics.proofs.Agree.{EnvsAgree, index_short}
use Rattle.st_semantics.proofs.Elements.{before_parts, skip}
use Rattle.st_semantics.proofs.Columns.{column, behind, column-tails, in_row, row-lookup, long-tails, column_long, rows-length, rows_alike, column-value, column_there, elements-list}

-- ---- the parts of a spread

abbrev pub Parts : (ℕ → Bool) → List Name → List Name → List Entry → Option ℕ → Option (List Column) → List Env → Type 0
Parts may index xs env size cs envs =
    (n : ℕ) × (ds : List Column) × (size ≡ Some n) × (cs ≡ Some ds) × ((all_long n ds && may n) ≡ true) × (rows index xs env n 0 ds ≡ envs)

parts_of : (may : ℕ → Bool) (index xs : List Name) (env : List Entry) (size : Option ℕ) (cs : Option (List Column)) (envs : List Env) → spread_long may index xs env size cs ≡ Over envs → Parts may index xs env size cs envs
parts_of may index xs env None cs envs e = cc
parts_of may index xs env (Some n) None envs e = cc
parts_of may index xs env (Some n) (Some cs) envs e = at (all_long n cs && may n) refl e
  where
    at : (b : Bool) → (all_long n cs && may n) ≡ b → spread_rows b (rows index xs env n 0 cs) ≡ Over envs → Parts may index xs env (Some n) (Some cs) envs
    at true k e = let same : rows index xs env n 0 cs ≡ envs = cc in (n, cs, refl, refl, k, same)
    at false k e = cc

abbrev pub WholeParts : Iteration → List Name → Env → List Value → List Env → Type 0
WholeParts how xs env count envs = Parts (may_be how) (index_of how) xs env.entries (size_of count (columns (kind_of how) xs env.entries)) (columns (kind_of how) xs env.entries) envs

pub whole_parts : (how : Iteration) (xs : List Name) (env : Env) (count : List Value) (envs : List Env) → spread how xs env count ≡ Over envs → WholeParts how xs env count envs
whole_parts how xs env count envs e = parts_of (may_be how) (index_of how) xs env.entries (size_of count (columns (kind_of how) xs env.entries)) (columns (kind_of how) xs env.entries) envs e

-- where the number and the columns are known and fit
pub over_rows : (how : Iteration) (xs : List Name) (env : Env) (count : List Value) (n : ℕ) (cs : List Column) → columns (kind_of how) xs env.entries ≡ Some cs → size_of count (Some cs) ≡ Some n → (all_long n cs && may_be how n) ≡ true
    → spread how xs env count ≡ Over (rows (index_of how) xs env.entries n 0 cs)
over_rows how xs env count n cs are size fit =
    ap₂ (λ y z. spread_long (may_be how) (index_of how) xs env.entries y z) (ap (size_of count) are ∙ size) are
    ∙ ap (λ z. spread_rows z (rows (index_of how) xs env.entries n 0 cs)) fit

pub over_same : (as' bs : List Env) → Over as' ≡ Over bs → as' ≡ bs
over_same as' bs e = cc

-- ---- columns of one length

-- the length of the first column is that of all
first_long : (k : Kind) (n : ℕ) (xs : List Name) (x : Name) (env : List Entry) (cs : List Column) → columns k xs env ≡ Some cs → has_name xs x ≡ true → all_long n cs ≡ true → first_length (Some cs) ≡ Some n
first_long k n [] x env cs e i h = cc
first_long k n (m ∷ ms) x env [] e i h = let w = before_parts (column_of k (lookup m env)) (columns k ms env) [] e in let bad : w.0 ∷ w.1 ≡ [] = w.4 in cc
first_long k n (m ∷ ms) x env (c ∷ cs) e i h = ap Some (eqb-true (length c) n (and-both (nat_eq (length c) n) (all_long n cs) h).0)

-- ---- the names that are bound

pub among_has : (bound xs : List Name) (x : Name) → has_name bound x ≡ true → has_name (among bound xs) x ≡ has_name xs x
among_has bound [] x i = refl
among_has bound (m ∷ ms) x i = at (has_name bound m) refl (bytes_eq x m) refl (among_has bound ms x i)
  where
    at : (b : Bool) → has_name bound m ≡ b → (c : Bool) → bytes_eq x m ≡ c → has_name (among bound ms) x ≡ has_name ms x → has_name (if b then m ∷ among bound ms else among bound ms) x ≡ (bytes_eq x m || has_name ms x)
    at true j c k ih = ap (λ z. bytes_eq x m || z) ih
    at false j true k ih = absurd (true_false (sym i ∙ (ap (has_name bound) (bytes-path x m k) ∙ j)))
    at false j false k ih = ih ∙ ap (λ z. z || has_name ms x) (sym k)

-- the columns of the names that are bound
abbrev pub kept : List Name → List Name → List Column → List Column
kept bound [] cs = []
kept bound (x ∷ xs) [] = []
kept bound (x ∷ xs) (c ∷ cs) = if has_name bound x then c ∷ kept bound xs cs else kept bound xs cs

known_columns : (k : Kind) (bound xs : List Name) (a b : List Entry) (cs : List Column) → ((x : Name) → has_name bound x ≡ true → lookup x a ≡ lookup x b) → columns k xs b ≡ Some cs
    → columns k (among bound xs) a ≡ Some (kept bound xs cs)
known_columns k bound [] a b cs g e = refl
known_columns k bound (x ∷ xs) a b cs g e =
    let w = before_parts (column_of k (lookup x b)) (columns k xs b) cs e in
    subst (λ z. columns k (among bound (x ∷ xs)) a ≡ Some (kept bound (x ∷ xs) z)) w.4 (at w.0 w.1 w.2 (has_name bound x) refl (known_columns k bound xs a b w.1 g w.3))
  where
    at : (c : Column) (rest : List Column) → column_of k (lookup x b) ≡ Some c → (t : Bool) → has_name bound x ≡ t → columns k (among bound xs) a ≡ Some (kept bound xs rest)
        → columns k (if t then x ∷ among bound xs else among bound xs) a ≡ Some (if t then c ∷ kept bound xs rest else kept bound xs rest)
    at c rest p true i ih = ap₂ before (ap (column_of k) (g x i) ∙ p) ih
    at c rest p false i ih = ih

kept_long : (n : ℕ) (bound xs : List Name) (cs : List Column) → all_long n cs ≡ true → all_long n (kept bound xs cs) ≡ true
kept_long n bound [] cs h = refl
kept_long n bound (x ∷ xs) [] h = refl
kept_long n bound (x ∷ xs) (c ∷ cs) h = at (has_name bound x) (and-both (nat_eq (length c) n) (all_long n cs) h) (kept_long n bound xs cs (and-both (nat_eq (length c) n) (all_long n cs) h).1)
  where
    at : (b : Bool) → (nat_eq (length c) n ≡ true) × (all_long n cs ≡ true) → all_long n (kept bound xs cs) ≡ true → all_long n (if b then c ∷ kept bound xs cs else kept bound xs cs) ≡ true
    at true w ih = ap (λ z. z && all_long n (kept bound xs cs)) w.0 ∙ ih
    at false w ih = ih

-- the number of elements is that of the count, or a bound name tells it
abbrev pub AreCounted : List Name → List Name → List Value → List Value → Type 0
AreCounted bound xs few many =
    ((c : Value) × (few ≡ c ∷ []) × (many ≡ c ∷ [])) ⊎ ((few ≡ []) × (x : Name) × (has_name xs x ≡ true) × (has_name bound x ≡ true))

long_and : (a b : Bool) → a ≡ true → b ≡ true → (a && b) ≡ true
long_and true b p q = q
long_and false b p q = cc

-- The names that are bound alone have as many elements, which agree on what is bound.
pub known_spread : (how : Iteration) (bound xs : List Name) (env more : Env) (few many : List Value) (envs : List Env) → AgreeOn bound env more → AreCounted bound xs few many → spread how xs more many ≡ Over envs
    → (rs : List Env) × (spread how (among bound xs) env few ≡ Over rs) × EnvsAgree (index_of how ++ bound) rs envs
known_spread how bound xs env more few many envs g counted e =
    let w = whole_parts how xs more many envs e in
    let fits = and-both (all_long w.0 w.1) (may_be how w.0) w.4 in
    let ks = kept bound xs w.1 in
    let are : columns (kind_of how) (among bound xs) env.entries ≡ Some ks = known_columns (kind_of how) bound xs env.entries more.entries w.1 g w.3 in
    let long : all_long w.0 ks ≡ true = kept_long w.0 bound xs w.1 fits.0 in
    let size : size_of few (Some ks) ≡ Some w.0 = number w.0 ks w.1 are long (ap (size_of many) (sym w.3) ∙ w.2) counted in (
      rows (index_of how) (among bound xs) env.entries w.0 0 ks,
      over_rows how (among bound xs) env few w.0 ks are size (long_and (all_long w.0 ks) (may_be how w.0) long fits.1),
      subst (EnvsAgree (index_of how ++ bound) (rows (index_of how) (among bound xs) env.entries w.0 0 ks)) w.5
          (rows_alike (index_of how) bound (among bound xs) xs (index_short how) env.entries more.entries g w.0 0 ks w.1 long fits.0
          (λ x i. column-value (kind_of how) x (among bound xs) env.entries ks are
          ∙ (ap₂ (λ y z. if y then column_of (kind_of how) z else None) (among_has bound xs x i) (g x i) ∙ sym (column-value (kind_of how) x xs more.entries w.1 w.3)))),
    )
  where
    number : (n : ℕ) (ks cs : List Column) → columns (kind_of how) (among bound xs) env.entries ≡ Some ks → all_long n ks ≡ true → size_of many (Some cs) ≡ Some n → AreCounted bound xs few many → size_of few (Some ks) ≡ Some n
    number n ks cs are long size (inl w) = ap (λ z. size_of z (Some ks)) w.1 ∙ (ap (λ z. size_of z (Some cs)) (sym w.2) ∙ size)
    number n ks cs are long size (inr w) = ap (λ z. size_of z (Some ks)) w.0 ∙ first_long (kind_of how) n (among bound xs) w.1 env.entries ks are (among_has bound xs w.1 w.3 ∙ w.2) long

-- ---- an environment that has given elements

-- a value that may not be there
abbrev pub or_some : Option Value → Value
or_some None = value.Bool true
or_some (Some v) = v

-- the values of a variable at elements
abbrev pub values_of : Name → List Env → Column
values_of x [] = []
values_of x (t ∷ ts) = or_some (value_in t x) ∷ values_of x ts

values_length : (x : Name) (ts : List Env) → length (values_of x ts) ≡ length ts
values_length x [] = refl
values_length x (t ∷ ts) = ap suc (values_length x ts)

-- the list or the option of some elements
abbrev pub collected : Kind → Column → Value
collected kind.List vs = value.List vs
collected kind.Opt [] = value.Opt None
collected kind.Opt (v ∷ vs) = value.Opt (Some v)

-- an option has one element at most
abbrev pub FitsKind : Kind → ℕ → Type 0
FitsKind kind.List n = Unit {0}
FitsKind kind.Opt n = n ≤ 1

collected_column : (k : Kind) (vs : Column) → FitsKind k (length vs) → column_of k (Some (collected k vs)) ≡ Some vs
collected_column kind.List vs h = elements-list vs
collected_column kind.Opt [] h = ap option_at (value.outs-Opt None)
collected_column kind.Opt (v ∷ []) h = ap option_at (value.outs-Opt (Some v))
collected_column kind.Opt (v ∷ w ∷ vs) h = absurd (omega (arith, h))

-- a column of an option is short
option_short : (k : Kind) (o : Option Value) (c : Column) → column_of k o ≡ Some c → FitsKind k (length c)
option_short k None c e = cc
option_short kind.List (Some v) c e = tt
option_short kind.Opt (Some v) c e = at (out-Value v) e
  where
    at : (y : Value-F Value) → option_at y ≡ Some c → length c ≤ 1
    at (Value-F.Opt None) e = let same : [] ≡ c = cc in subst (λ z. length z ≤ 1) same (omega arith)
    at (Value-F.Opt (Some x)) e = let same : x ∷ [] ≡ c = cc in subst (λ z. length z ≤ 1) same (omega arith)
    at _ e = cc

-- entries with lists of the elements for names that are not bound
abbrev pub with_new : Kind → List Name → List Env → List Name → List Entry → List Entry
with_new k bound ts [] es = es
with_new k bound ts (x ∷ xs) es = if has_name bound x then with_new k bound ts xs es else (x, collected k (values_of x ts)) ∷ with_new k bound ts xs es

later_not : (b c : Bool) → (b || c) ≡ false → c ≡ false
later_not true c i = cc
later_not false c i = i

later_is : (b c : Bool) → b ≡ false → (b || c) ≡ true → c ≡ true
later_is true c l i = cc
later_is false c l i = i

old_lookup : (k : Kind) (bound : List Name) (ts : List Env) (xs : List Name) (es : List Entry) (x : Name) → (has_name bound x ≡ true) ⊎ (has_name xs x ≡ false) → lookup x (with_new k bound ts xs es) ≡ lookup x es
old_lookup k bound ts [] es x v = refl
old_lookup k bound ts (m ∷ ms) es x v = at (has_name bound m) refl (bytes_eq x m) refl v (old_lookup k bound ts ms es x (rest v))
  where
    rest : (has_name bound x ≡ true) ⊎ ((bytes_eq x m || has_name ms x) ≡ false) → (has_name bound x ≡ true) ⊎ (has_name ms x ≡ false)
    rest (inl i) = inl i
    rest (inr i) = inr (later_not (bytes_eq x m) (has_name ms x) i)

    at : (b : Bool) → has_name bound m ≡ b → (c : Bool) → bytes_eq x m ≡ c → (has_name bound x ≡ true) ⊎ ((bytes_eq x m || has_name ms x) ≡ false) → lookup x (with_new k bound ts ms es) ≡ lookup x es
        → lookup x (if b then with_new k bound ts ms es else (m, collected k (values_of m ts)) ∷ with_new k bound ts ms es) ≡ lookup x es
    at true j c l v ih = ih
    at false j true l (inl i) ih = absurd (true_false (sym i ∙ (ap (has_name bound) (bytes-path x m l) ∙ j)))
    at false j true l (inr i) ih = absurd (true_false (sym (or-left (bytes_eq x m) (has_name ms x) l) ∙ i))
    at false j false l v ih = ap (λ z. if z then Some (collected k (values_of m ts)) else lookup x (with_new k bound ts ms es)) l ∙ ih

new_lookup : (k : Kind) (bound : List Name) (ts : List Env) (xs : List Name) (es : List Entry) (x : Name) → has_name bound x ≡ false → has_name xs x ≡ true → lookup x (with_new k bound ts xs es) ≡ Some (collected k (values_of x ts))
new_lookup k bound ts [] es x f i = cc
new_lookup k bound ts (m ∷ ms) es x f i = at (has_name bound m) refl (bytes_eq x m) refl i (new_lookup k bound ts ms es x f)
  where
    at : (b : Bool) → has_name bound m ≡ b → (c : Bool) → bytes_eq x m ≡ c → (bytes_eq x m || has_name ms x) ≡ true → (has_name ms x ≡ true → lookup x (with_new k bound ts ms es) ≡ Some (collected k (values_of x ts)))
        → lookup x (if b then with_new k bound ts ms es else (m, collected k (values_of m ts)) ∷ with_new k bound ts ms es) ≡ Some (collected k (values_of x ts))
    at true j true l i ih = absurd (true_false (sym (ap (has_name bound) (bytes-path x m l) ∙ j) ∙ f))
    at true j false l i ih = ih (later_is (bytes_eq x m) (has_name ms x) l i)
    at false j true l i ih =
        ap (λ z. if z then Some (collected k (values_of m ts)) else lookup x (with_new k bound ts ms es)) l
        ∙ ap (λ z. Some (collected k (values_of z ts))) (sym (bytes-path x m l))
    at false j false l i ih =
        ap (λ z. if z then Some (collected k (values_of m ts)) else lookup x (with_new k bound ts ms es)) l
        ∙ ih (later_is (bytes_eq x m) (has_name ms x) l i)

-- names of which one is the variable of an unbound count, and its number
abbrev pub counted_entries : List Name → ℕ → List Entry → List Entry
counted_entries [] n es = es
counted_entries (c ∷ more) n es = (c, value.Num (pos n)) ∷ es

-- The environment with the elements' values gathered for the names that are not bound, and with the
-- number for an unbound count.
abbrev pub gathered_env : Iteration → List Name → List Name → List Name → ℕ → List Env → Env → Env
gathered_env how bound xs free n ts env = record { entries = with_new (kind_of how) bound ts xs (counted_entries free n env.entries) }

-- at each element a variable has the value that it is to have
abbrev pub HasValues : Name → List Env → List Env → Type 0
HasValues x [] [] = Unit {0}
HasValues x (e ∷ es) (t ∷ ts) = (value_in e x ≡ Some (or_some (value_in t x))) × HasValues x es ts
HasValues x [] (t ∷ ts) = ⊥
HasValues x (e ∷ es) [] = ⊥

rows_values : (index xs : List Name) (x : Name) → has_name index x ≡ false → (env : List Entry) (n k : ℕ) (cs : List Column) (ts : List Env) → length ts ≡ n → all_long n cs ≡ true → column x xs cs ≡ Some (values_of x ts)
    → HasValues x (rows index xs env n k cs) ts
rows_values index xs x apart env zero k cs [] l h e = tt
rows_values index xs x apart env zero k cs (t ∷ ts) l h e = absurd (omega (arith, l))
rows_values index xs x apart env (suc n) k cs [] l h e = absurd (omega (arith, l))
rows_values index xs x apart env (suc n) k cs (t ∷ ts) l h e = (
  sym (skip x index (value.Num (pos k) ∷ []) (bound_to xs (heads cs) env) apart) ∙ (row-lookup n x xs cs env h ∙ ap (λ z. in_row z (lookup x env)) e),
  (let shorter : length ts ≡ n = omega (arith, l) in
      rows_values index xs x apart env n (k + 1) (tails cs) ts shorter (long-tails n cs h) (column-tails x xs cs ∙ ap (option_map behind) e)),
)

-- the count is bound or there is none, or it is a variable by itself, neither bound nor iterated
abbrev pub IsFreeCount : List Name → List Name → List Name → Type 0
IsFreeCount bound xs free =
    (free ≡ []) ⊎ ((c : Name) × (free ≡ c ∷ []) × (has_name bound c ≡ false) × (has_name xs c ≡ false))

module _ (how : Iteration) (bound xs free : List Name) (env : Env) (few : List Value) (rs ts : List Env) (over : spread how (among bound xs) env few ≡ Over rs) (long : length ts ≡ length rs) (is_free : IsFreeCount bound xs free) where
  pub w : WholeParts how (among bound xs) env few rs
  w = whole_parts how (among bound xs) env few rs over

  fits : (all_long w.0 w.1 ≡ true) × (may_be how w.0 ≡ true)
  fits = and-both (all_long w.0 w.1) (may_be how w.0) w.4

  pub number_is : length rs ≡ w.0
  number_is = ap length (sym w.5) ∙ rows-length (index_of how) (among bound xs) env.entries w.0 0 w.1

  as_many : length ts ≡ w.0
  as_many = long ∙ number_is

  abbrev more : Env
  more = gathered_env how bound xs free (length rs) ts env

  counted_lookup : (x : Name) → has_name bound x ≡ true → (free' : List Name) → IsFreeCount bound xs free' → lookup x (counted_entries free' (length rs) env.entries) ≡ lookup x env.entries
  counted_lookup x i [] f = refl
  counted_lookup x i (c ∷ cs) (inl bad) = cc
  counted_lookup x i (c ∷ cs) (inr v) = at (bytes_eq x c) refl
    where
      at : (b : Bool) → bytes_eq x c ≡ b → (if b then Some (value.Num (pos (length rs))) else lookup x env.entries) ≡ lookup x env.entries
      at true k =
          let is : c ∷ cs ≡ v.0 ∷ [] = v.1 in
          let first : c ≡ v.0 = cc in
          absurd (true_false (sym i ∙ (ap (has_name bound) (bytes-path x c k ∙ first) ∙ v.2)))
      at false k = refl

  -- what is bound stays
  pub more_agrees : AgreeOn bound env more
  more_agrees x i = sym (old_lookup (kind_of how) bound ts xs (counted_entries free (length rs) env.entries) x (inl i) ∙ counted_lookup x i free is_free)

  pub more_new : (x : Name) → has_name bound x ≡ false → has_name xs x ≡ true → value_in more x ≡ Some (collected (kind_of how) (values_of x ts))
  more_new x f i = new_lookup (kind_of how) bound ts xs (counted_entries free (length rs) env.entries) x f i

  -- a count that was not bound
  pub more_count : (c : Name) → free ≡ c ∷ [] → value_in more c ≡ Some (value.Num (pos (length rs)))
  more_count c e = at is_free
    where
      at : IsFreeCount bound xs free → value_in more c ≡ Some (value.Num (pos (length rs)))
      at (inl none) = let bad : c ∷ [] ≡ [] = sym e ∙ none in cc
      at (inr v) =
          let both : c ∷ [] ≡ v.0 ∷ [] = sym e ∙ v.1 in
          let same : c ≡ v.0 = cc in
          old_lookup (kind_of how) bound ts xs (counted_entries free (length rs) env.entries) c (inr (ap (has_name xs) same ∙ v.3))
          ∙ (ap (λ z. lookup c (counted_entries z (length rs) env.entries)) e ∙ ap (λ z. if z then Some (value.Num (pos (length rs))) else lookup c env.entries) (bytes-same c))

  module _ (anchor : (kind_of how ≡ kind.List) ⊎ ((x : Name) × (has_name xs x ≡ true) × (has_name bound x ≡ true))) where
    -- under `?` there is one element at most
    short : FitsKind (kind_of how) (length ts)
    short = at anchor
      where
        at : (kind_of how ≡ kind.List) ⊎ ((x : Name) × (has_name xs x ≡ true) × (has_name bound x ≡ true)) → FitsKind (kind_of how) (length ts)
        at (inl list) = subst (λ z. FitsKind z (length ts)) (sym list) tt
        at (inr a) =
            let c = column_there (kind_of how) a.0 (among bound xs) env.entries w.1 w.3 (among_has bound xs a.0 a.2 ∙ a.1) in
            subst (FitsKind (kind_of how)) (column_long w.0 a.0 (among bound xs) w.1 c.0 fits.0 c.2 ∙ sym as_many) (option_short (kind_of how) (lookup a.0 env.entries) c.0 c.1)

    one_column : (y : Name) → has_name xs y ≡ true → (c : Column) × (column_of (kind_of how) (lookup y more.entries) ≡ Some c) × (length c ≡ w.0)
    one_column y i = at (has_name bound y) refl
      where
        at : (b : Bool) → has_name bound y ≡ b → (c : Column) × (column_of (kind_of how) (lookup y more.entries) ≡ Some c) × (length c ≡ w.0)
        at true k =
            let c = column_there (kind_of how) y (among bound xs) env.entries w.1 w.3 (among_has bound xs y k ∙ i) in
            (c.0, ap (column_of (kind_of how)) (sym (more_agrees y k)) ∙ c.1, column_long w.0 y (among bound xs) w.1 c.0 fits.0 c.2)
        at false k = (
          values_of y ts,
          ap (column_of (kind_of how)) (more_new y k i) ∙ collected_column (kind_of how) (values_of y ts) (subst (FitsKind (kind_of how)) (sym (values_length y ts)) short),
          values_length y ts ∙ as_many,
        )

    all_columns : (ys : List Name) → Within ys xs → (cs : List Column) × (columns (kind_of how) ys more.entries ≡ Some cs) × (all_long w.0 cs ≡ true)
    all_columns [] inside = ([], refl, refl)
    all_columns (y ∷ ys) inside =
        let c = one_column y (inside y (or-left (bytes_eq y y) (has_name ys y) (bytes-same y))) in
        let rest = all_columns ys (λ z k. inside z (or-right (bytes_eq z y) (has_name ys z) k)) in (
          c.0 ∷ rest.0,
          ap₂ before c.1 rest.1,
          long_and (nat_eq (length c.0) w.0) (all_long w.0 rest.0) (eq-eqb (length c.0) w.0 c.2) rest.2,
        )

    pub cols : (cs : List Column) × (columns (kind_of how) xs more.entries ≡ Some cs) × (all_long w.0 cs ≡ true)
    cols = all_columns xs (λ x i. i)

    -- It has the elements of before as far as they are bound, and the given values of the other names.
    pub gathers : (many : List Value) → size_of many (Some cols.0) ≡ Some w.0
        → (envs : List Env) × (spread how xs more many ≡ Over envs) × EnvsAgree (index_of how ++ bound) rs envs
        × ((x : Name) → has_name (index_of how) x ≡ false → has_name bound x ≡ false → has_name xs x ≡ true → HasValues x envs ts)
    gathers many size = (
      rows (index_of how) xs more.entries w.0 0 cols.0,
      over_rows how xs more many w.0 cols.0 cols.1 size (long_and (all_long w.0 cols.0) (may_be how w.0) cols.2 fits.1),
      subst (λ z. EnvsAgree (index_of how ++ bound) z (rows (index_of how) xs more.entries w.0 0 cols.0)) w.5
          (rows_alike (index_of how) bound (among bound xs) xs (index_short how) env.entries more.entries more_agrees w.0 0 w.1 cols.0 fits.0 cols.2
          (λ x i. column-value (kind_of how) x (among bound xs) env.entries w.1 w.3
          ∙ (ap₂ (λ y z. if y then column_of (kind_of how) z else None) (among_has bound xs x i) (more_agrees x i) ∙ sym (column-value (kind_of how) x xs more.entries cols.0 cols.1)))),
      λ x apart f i.
          rows_values (index_of how) xs x apart more.entries w.0 0 cols.0 ts as_many cols.2
          (column-value (kind_of how) x xs more.entries cols.0 cols.1
          ∙ (ap₂ (λ y z. if y then column_of (kind_of how) z else None) i (more_new x f i) ∙ collected_column (kind_of how) (values_of x ts) (subst (FitsKind (kind_of how)) (sym (values_length x ts)) short))),
    )

    -- the number of elements, where a bound name tells it
    pub anchored_size : (x : Name) → has_name xs x ≡ true → size_of [] (Some cols.0) ≡ Some w.0
    anchored_size x i = first_long (kind_of how) w.0 xs x more.entries cols.0 cols.1 i cols.2
