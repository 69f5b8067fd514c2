-- The elements of an iteration, by the columns of its variables: where the columns are the same the
-- elements are, and the other way round.
use Rattle.std.proofs.Common.{◌≡◌, ℕ, zero, suc, ◌+◌, pos, negsuc, refl, sym, ◌∙◌, ap, ap₂, subst, List, [], ◌∷◌, ◌++◌, length, ◌⊎◌, inl, inr, Bool, true, false, ◌&&◌, ◌||◌, if◌then◌else◌, Option, Some, None, option_map, bytes_eq, nat_eq, arith}
use Rattle.std.specs.Option.{option_and_then}
use Rattle.std.proofs.lemmas.Bool.{eqb-true, eq-eqb}
use Rattle.st_num.specs.declared.dim.Kind.{Kind}
use Rattle.st_num.specs.declared.dim.Kind.TheVariants as kind
use Rattle.st_il.specs.declared.expression.Iteration.{Iteration}
use Rattle.st_il.specs.declared.value.Env.{Env}
use Rattle.st_il.specs.declared.value.Value.{Value, out-Value, roll-Value, roll-out-Value}
use Rattle.st_il.specs.declared.value.Value.TheOpen.{Value-F}
use Rattle.st_il.specs.declared.value.Value.TheVariants as value
use Rattle.st_il.specs.Names.{Name, has_name}
use Rattle.st_semantics.specs.Environments.{Entry, lookup, value_in, AgreeOn}
use Rattle.st_semantics.specs.Parts.{elements_at, elements, option_at, number_at, natural_of, natural}
use Rattle.st_semantics.specs.Iterations.{index_of, kind_of, may_be, Column, column_at, column_of, columns, all_long, size_of, heads, tails, bound_to, counted_to, rows, Over, spread}
use Rattle.st_semantics.specs.Depth.{ValuesAt}
use Rattle.st_semantics.proofs.Names.{bytes-path, and-both}
use Rattle.st_semantics.proofs.Agree.{EnvsAgree, IsShort, index_short}
use Rattle.st_semantics.proofs.Elements.{before_parts, long_parts, skip}

-- ---- columns

-- the first column of a name
abbrev pub column : Name → List Name → List Column → Option Column
column x [] cs = None
column x (m ∷ ms) [] = None
column x (m ∷ ms) (c ∷ cs) = if bytes_eq x m then Some c else column x ms cs

abbrev pub behind : Column → Column
behind [] = []
behind (v ∷ vs) = vs

pub column-tails : (x : Name) (xs : List Name) (cs : List Column) → column x xs (tails cs) ≡ option_map behind (column x xs cs)
column-tails x [] cs = refl
column-tails x (m ∷ ms) [] = refl
column-tails x (m ∷ ms) ([] ∷ cs) = at (bytes_eq x m) (column-tails x ms cs)
  where
    at : (b : Bool) → column x ms (tails cs) ≡ option_map behind (column x ms cs) → (if b then Some [] else column x ms (tails cs)) ≡ option_map behind (if b then Some [] else column x ms cs)
    at true ih = refl
    at false ih = ih
column-tails x (m ∷ ms) ((v ∷ vs) ∷ cs) = at (bytes_eq x m) (column-tails x ms cs)
  where
    at : (b : Bool) → column x ms (tails cs) ≡ option_map behind (column x ms cs) → (if b then Some vs else column x ms (tails cs)) ≡ option_map behind (if b then Some (v ∷ vs) else column x ms cs)
    at true ih = refl
    at false ih = ih

-- what stands in the first row
abbrev pub in_row : Option Column → Option Value → Option Value
in_row None o = o
in_row (Some []) o = o
in_row (Some (v ∷ vs)) o = Some v

no_length : (n : ℕ) → nat_eq (length {A = Value} []) (suc n) ≡ true → ⊥
no_length n h = let e : length {A = Value} [] ≡ suc n = eqb-true (length {A = Value} []) (suc n) h in absurd (omega (arith, e))

pub row-lookup : (n : ℕ) (x : Name) (xs : List Name) (cs : List Column) (env : List Entry) → all_long (suc n) cs ≡ true → lookup x (bound_to xs (heads cs) env) ≡ in_row (column x xs cs) (lookup x env)
row-lookup n x [] cs env h = refl
row-lookup n x (m ∷ ms) [] env h = refl
row-lookup n x (m ∷ ms) ([] ∷ cs) env h = absurd (no_length n (and-both (nat_eq (length {A = Value} []) (suc n)) (all_long (suc n) cs) h).0)
row-lookup n x (m ∷ ms) ((v ∷ vs) ∷ cs) env h = at (bytes_eq x m) (row-lookup n x ms cs env (and-both (nat_eq (length (v ∷ vs)) (suc n)) (all_long (suc n) cs) h).1)
  where
    at : (b : Bool) → lookup x (bound_to ms (heads cs) env) ≡ in_row (column x ms cs) (lookup x env)
        → (if b then Some v else lookup x (bound_to ms (heads cs) env)) ≡ in_row (if b then Some (v ∷ vs) else column x ms cs) (lookup x env)
    at true ih = refl
    at false ih = ih

pub long-tails : (n : ℕ) (cs : List Column) → all_long (suc n) cs ≡ true → all_long n (tails cs) ≡ true
long-tails n [] h = refl
long-tails n ([] ∷ cs) h = absurd (no_length n (and-both (nat_eq (length {A = Value} []) (suc n)) (all_long (suc n) cs) h).0)
long-tails n ((v ∷ vs) ∷ cs) h =
    let w = and-both (nat_eq (length (v ∷ vs)) (suc n)) (all_long (suc n) cs) h in
    let long : length (v ∷ vs) ≡ suc n = eqb-true (length (v ∷ vs)) (suc n) w.0 in
    let short : length vs ≡ n = omega (arith, long) in
    ap (λ z. z && all_long n (tails cs)) (eq-eqb (length vs) n short) ∙ long-tails n cs w.1

pub column_long : (n : ℕ) (x : Name) (xs : List Name) (cs : List Column) (c : Column) → all_long n cs ≡ true → column x xs cs ≡ Some c → length c ≡ n
column_long n x [] cs c h e = cc
column_long n x (m ∷ ms) [] c h e = cc
column_long n x (m ∷ ms) (d ∷ ds) c h e = at (bytes_eq x m) e (column_long n x ms ds c (and-both (nat_eq (length d) n) (all_long n ds) h).1)
  where
    at : (b : Bool) → (if b then Some d else column x ms ds) ≡ Some c → (column x ms ds ≡ Some c → length c ≡ n) → length c ≡ n
    at true e ih = let same : d ≡ c = cc in subst (λ z. length z ≡ n) same (eqb-true (length d) n (and-both (nat_eq (length d) n) (all_long n ds) h).0)
    at false e ih = ih e

-- the column of a name is that of its value
pub column-value : (k : Kind) (x : Name) (xs : List Name) (env : List Entry) (cs : List Column) → columns k xs env ≡ Some cs → column x xs cs ≡ (if has_name xs x then column_of k (lookup x env) else None)
column-value k x [] env cs e = refl
column-value k x (m ∷ ms) env cs e =
    let w = before_parts (column_of k (lookup m env)) (columns k ms env) cs e in
    subst (λ z. column x (m ∷ ms) z ≡ (if bytes_eq x m || has_name ms x then column_of k (lookup x env) else None)) w.4 (at w.0 w.1 w.2 (bytes_eq x m) refl (column-value k x ms env w.1 w.3))
  where
    at : (c : Column) (rest : List Column) → column_of k (lookup m env) ≡ Some c → (b : Bool) → bytes_eq x m ≡ b → column x ms rest ≡ (if has_name ms x then column_of k (lookup x env) else None)
        → (if b then Some c else column x ms rest) ≡ (if b || has_name ms x then column_of k (lookup x env) else None)
    at c rest p true j ih = sym p ∙ ap (λ z. column_of k (lookup z env)) (sym (bytes-path x m j))
    at c rest p false j ih = ih

-- a named list is there, with its column
pub column_there : (k : Kind) (x : Name) (xs : List Name) (env : List Entry) (cs : List Column) → columns k xs env ≡ Some cs → has_name xs x ≡ true
    → (c : Column) × (column_of k (lookup x env) ≡ Some c) × (column x xs cs ≡ Some c)
column_there k x [] env cs e h = cc
column_there k x (m ∷ ms) env cs e h =
    let w = before_parts (column_of k (lookup m env)) (columns k ms env) cs e in
    subst (λ z. (c : Column) × (column_of k (lookup x env) ≡ Some c) × (column x (m ∷ ms) z ≡ Some c)) w.4 (at w.0 w.1 w.2 (bytes_eq x m) refl h (column_there k x ms env w.1 w.3))
  where
    at : (c : Column) (rest : List Column) → column_of k (lookup m env) ≡ Some c → (b : Bool) → bytes_eq x m ≡ b → (b || has_name ms x) ≡ true
        → (has_name ms x ≡ true → (d : Column) × (column_of k (lookup x env) ≡ Some d) × (column x ms rest ≡ Some d))
        → (d : Column) × (column_of k (lookup x env) ≡ Some d) × ((if b then Some c else column x ms rest) ≡ Some d)
    at c rest p true j h ih = (c, ap (λ z. column_of k (lookup z env)) (bytes-path x m j) ∙ p, refl)
    at c rest p false j h ih = ih h

-- ---- a value by its column

pub same_out : (x y : Value) → out-Value x ≡ out-Value y → x ≡ y
same_out x y e = sym (roll-out-Value x) ∙ (ap roll-Value e ∙ roll-out-Value y)

elements_made : (p : Value-F Value) (c : Column) → elements_at p ≡ Some c → p ≡ Value-F.List c
elements_made (Value-F.List xs) c e = cc
elements_made _ c e = cc

pub list_of_elements : (v : Value) (c : Column) → elements v ≡ Some c → v ≡ value.List c
list_of_elements v c e = same_out v (value.List c) (elements_made (out-Value v) c e ∙ sym (value.outs-List c))

pub elements-list : (c : Column) → elements (value.List c) ≡ Some c
elements-list c = ap elements_at (value.outs-List c)

option_one : (p q : Value-F Value) (c : Column) → option_at p ≡ Some c → option_at q ≡ Some c → p ≡ q
option_one (Value-F.Opt None) (Value-F.Opt None) c e f = refl
option_one (Value-F.Opt None) (Value-F.Opt (Some y)) c e f = cc
option_one (Value-F.Opt (Some x)) (Value-F.Opt None) c e f = cc
option_one (Value-F.Opt (Some x)) (Value-F.Opt (Some y)) c e f = cc
option_one (Value-F.Opt None) _ c e f = cc
option_one (Value-F.Opt (Some x)) _ c e f = cc
option_one _ q c e f = cc

column_one : (k : Kind) (v w : Value) (c : Column) → column_at k (out-Value v) ≡ Some c → column_at k (out-Value w) ≡ Some c → v ≡ w
column_one kind.List v w c e f = list_of_elements v c e ∙ sym (list_of_elements w c f)
column_one kind.Opt v w c e f = same_out v w (option_one (out-Value v) (out-Value w) c e f)

pub value_by_column : (k : Kind) (o p : Option Value) (c : Column) → column_of k o ≡ Some c → column_of k p ≡ Some c → o ≡ p
value_by_column k None p c e f = cc
value_by_column k (Some v) None c e f = cc
value_by_column k (Some v) (Some w) c e f = ap Some (column_one k v w c e f)

-- a count by its number
natural_out : (p : Value-F Value) (n : ℕ) → option_and_then natural_of (number_at p) ≡ Some n → p ≡ Value-F.Num (pos n)
natural_out (Value-F.Num (pos m)) n e = cc
natural_out (Value-F.Num (negsuc m)) n e = cc
natural_out _ n e = cc

pub natural_is : (v : Value) (n : ℕ) → natural v ≡ Some n → v ≡ value.Num (pos n)
natural_is v n e = same_out v (value.Num (pos n)) (natural_out (out-Value v) n e ∙ sym (value.outs-Num (pos n)))

pub natural_value : (v w : Value) (n : ℕ) → natural v ≡ Some n → natural w ≡ Some n → v ≡ w
natural_value v w n e f = same_out v w (natural_out (out-Value v) n e ∙ sym (natural_out (out-Value w) n f))

-- ---- the parts of a spread

abbrev pub SpreadParts : Iteration → List Name → Env → List Value → List Env → Type 0
SpreadParts how xs env count envs =
    (n : ℕ) × (cs : List Column) × (size_of count (columns (kind_of how) xs env.entries) ≡ Some n) × (columns (kind_of how) xs env.entries ≡ Some cs) × (all_long n cs ≡ true)
    × (rows (index_of how) xs env.entries n 0 cs ≡ envs)

pub spread_parts : (how : Iteration) (xs : List Name) (env : Env) (count : List Value) (envs : List Env) → spread how xs env count ≡ Over envs → SpreadParts how xs env count envs
spread_parts how xs env count envs e = long_parts (may_be how) (index_of how) xs env.entries (size_of count (columns (kind_of how) xs env.entries)) (columns (kind_of how) xs env.entries) envs e

pub rows-length : (index xs : List Name) (env : List Entry) (n k : ℕ) (cs : List Column) → length (rows index xs env n k cs) ≡ n
rows-length index xs env zero k cs = refl
rows-length index xs env (suc n) k cs = ap suc (rows-length index xs env n (k + 1) (tails cs))

-- there are as many elements as the number says
pub parts_number : (how : Iteration) (xs : List Name) (env : Env) (count : List Value) (envs : List Env) (p : SpreadParts how xs env count envs) → length envs ≡ p.0
parts_number how xs env count envs p = ap length (sym p.5) ∙ rows-length (index_of how) xs env.entries p.0 0 p.1

-- ---- the same columns give the same elements

-- the same values of these names
abbrev pub Alike : List Name → List Entry → List Entry → Type 0
Alike names a b = (x : Name) → has_name names x ≡ true → lookup x a ≡ lookup x b

-- the same columns of them
abbrev pub AlikeColumns : List Name → List Name → List Name → List Column → List Column → Type 0
AlikeColumns names xs ys cs ds = (x : Name) → has_name names x ≡ true → column x xs cs ≡ column x ys ds

counted_alike : (index names : List Name) → IsShort index → (k : ℕ) (a b : List Entry) → Alike names a b → Alike (index ++ names) (counted_to index k a) (counted_to index k b)
counted_alike [] names s k a b g x h = g x h
counted_alike (i ∷ []) names s k a b g x h = at (bytes_eq x i) h
  where
    at : (c : Bool) → (c || has_name names x) ≡ true → (if c then Some (value.Num (pos k)) else lookup x a) ≡ (if c then Some (value.Num (pos k)) else lookup x b)
    at true h = refl
    at false h = g x h
counted_alike (i ∷ j ∷ more) names s k a b g x h = absurd s

-- also where the columns stand under two lists of names
pub rows_alike : (index names xs ys : List Name) → IsShort index → (a b : List Entry) → Alike names a b → (n k : ℕ) (cs ds : List Column) → all_long n cs ≡ true → all_long n ds ≡ true → AlikeColumns names xs ys cs ds
    → EnvsAgree (index ++ names) (rows index xs a n k cs) (rows index ys b n k ds)
rows_alike index names xs ys s a b g zero k cs ds p q same = tt
rows_alike index names xs ys s a b g (suc n) k cs ds p q same = (
  counted_alike index names s k (bound_to xs (heads cs) a) (bound_to ys (heads ds) b)
      (λ x h. row-lookup n x xs cs a p ∙ (ap₂ in_row (same x h) (g x h) ∙ sym (row-lookup n x ys ds b q))),
  rows_alike index names xs ys s a b g n (k + 1) (tails cs) (tails ds) (long-tails n cs p) (long-tails n ds q)
      (λ x h. column-tails x xs cs ∙ (ap (option_map behind) (same x h) ∙ sym (column-tails x ys ds))),
)

-- the number of elements is told by one of the lists, or by the count
abbrev pub SameSize : List Name → List Name → List Value → List Value → Type 0
SameSize bound xs cs ds = ((x : Name) × (has_name xs x ≡ true) × (has_name bound x ≡ true)) ⊎ ((c : Value) × (cs ≡ c ∷ []) × (ds ≡ c ∷ []))

some_same : {A : Type 0} (o p : Option A) (x y : A) → o ≡ Some x → p ≡ Some y → o ≡ p → x ≡ y
some_same o p x y e f g = let same : Some x ≡ Some y = sym e ∙ (g ∙ f) in cc

module _ (how : Iteration) (bound xs : List Name) (a b : Env) (cs ds : List Value) (as' bs : List Env) (g : AgreeOn bound a b) (ea : spread how xs a cs ≡ Over as') (eb : spread how xs b ds ≡ Over bs) where
  same_number : SameSize bound xs cs ds → (spread_parts how xs a cs as' ea).0 ≡ (spread_parts how xs b ds bs eb).0
  same_number (inl (x, i, known)) =
      let p = spread_parts how xs a cs as' ea in
      let q = spread_parts how xs b ds bs eb in
      let c = column_there (kind_of how) x xs a.entries p.1 p.3 i in
      let d = column_there (kind_of how) x xs b.entries q.1 q.3 i in
      let same : c.0 ≡ d.0 = some_same (column_of (kind_of how) (lookup x a.entries)) (column_of (kind_of how) (lookup x b.entries)) c.0 d.0 c.1 d.1 (ap (column_of (kind_of how)) (g x known)) in
      sym (column_long p.0 x xs p.1 c.0 p.4 c.2) ∙ (ap length same ∙ column_long q.0 x xs q.1 d.0 q.4 d.2)
  same_number (inr (c, ec, ed)) =
      let p = spread_parts how xs a cs as' ea in
      let q = spread_parts how xs b ds bs eb in
      some_same (natural c) (natural c) p.0 q.0
      (ap (λ z. size_of z (columns (kind_of how) xs a.entries)) (sym ec) ∙ p.2) (ap (λ z. size_of z (columns (kind_of how) xs b.entries)) (sym ed) ∙ q.2) refl

  -- two iterations go over as many elements, which agree on what is bound
  pub elements_agree : SameSize bound xs cs ds → EnvsAgree (index_of how ++ bound) as' bs
  elements_agree size =
      let p = spread_parts how xs a cs as' ea in
      let q = spread_parts how xs b ds bs eb in
      let n = same_number size in
      subst (EnvsAgree (index_of how ++ bound) as') q.5
      (subst (λ z. EnvsAgree (index_of how ++ bound) as' (rows (index_of how) xs b.entries z 0 q.1)) n
      (subst (λ z. EnvsAgree (index_of how ++ bound) z (rows (index_of how) xs b.entries p.0 0 q.1)) p.5
      (rows_alike (index_of how) bound xs xs (index_short how) a.entries b.entries g p.0 0 p.1 q.1 p.4 (subst (λ z. all_long z q.1 ≡ true) (sym n) q.4)
      (λ x h. column-value (kind_of how) x xs a.entries p.1 p.3
      ∙ (ap (λ z. if has_name xs x then column_of (kind_of how) z else None) (g x h) ∙ sym (column-value (kind_of how) x xs b.entries q.1 q.3))))))

-- ---- the same elements give the same columns

envs_length : (names : List Name) (as' bs : List Env) → EnvsAgree names as' bs → length as' ≡ length bs
envs_length names [] [] g = refl
envs_length names [] (b ∷ bs) g = absurd g
envs_length names (a ∷ as') [] g = absurd g
envs_length names (a ∷ as') (b ∷ bs) g = ap suc (envs_length names as' bs g.1)

-- what stands in the first row is the first of the column
row_value : (n k : ℕ) (index xs : List Name) (x : Name) (env : List Entry) (cs : List Column) (v : Value) (vs : Column) → has_name index x ≡ false → all_long (suc n) cs ≡ true → column x xs cs ≡ Some (v ∷ vs)
    → lookup x (counted_to index k (bound_to xs (heads cs) env)) ≡ Some v
row_value n k index xs x env cs v vs apart h e =
    sym (skip x index (value.Num (pos k) ∷ []) (bound_to xs (heads cs) env) apart) ∙ (row-lookup n x xs cs env h ∙ ap (λ z. in_row z (lookup x env)) e)

module _ (index names xs : List Name) (x : Name) (is : has_name names x ≡ true) (apart : has_name index x ≡ false) (a b : List Entry) where
  same_columns : (n k : ℕ) (cs ds : List Column) (c d : Column) → all_long n cs ≡ true → all_long n ds ≡ true → column x xs cs ≡ Some c → column x xs ds ≡ Some d
      → EnvsAgree names (rows index xs a n k cs) (rows index xs b n k ds) → c ≡ d
  same_columns zero k cs ds [] [] p q e f g = refl
  same_columns zero k cs ds [] (w ∷ ws) p q e f g = absurd (omega (arith, column_long zero x xs ds (w ∷ ws) q f))
  same_columns zero k cs ds (v ∷ vs) d p q e f g = absurd (omega (arith, column_long zero x xs cs (v ∷ vs) p e))
  same_columns (suc n) k cs ds [] d p q e f g = absurd (omega (arith, column_long (suc n) x xs cs [] p e))
  same_columns (suc n) k cs ds (v ∷ vs) [] p q e f g = absurd (omega (arith, column_long (suc n) x xs ds [] q f))
  same_columns (suc n) k cs ds (v ∷ vs) (w ∷ ws) p q e f g =
      let heads_are : Some v ≡ Some w = sym (row_value n k index xs x a cs v vs apart p e) ∙ (g.0 x is ∙ row_value n k index xs x b ds w ws apart q f) in
      let first : v ≡ w = cc in
      ap₂ (λ y z. y ∷ z) first (same_columns n (k + 1) (tails cs) (tails ds) vs ws (long-tails n cs p) (long-tails n ds q)
      (column-tails x xs cs ∙ ap (option_map behind) e) (column-tails x xs ds ∙ ap (option_map behind) f) g.1)

module _ (how : Iteration) (names xs : List Name) (a b : Env) (cs ds : List Value) (as' bs : List Env) (ea : spread how xs a cs ≡ Over as') (eb : spread how xs b ds ≡ Over bs) (g : EnvsAgree names as' bs) where
  -- the lists agree where their elements do
  pub list_agrees : (x : Name) → has_name xs x ≡ true → has_name names x ≡ true → has_name (index_of how) x ≡ false → value_in a x ≡ value_in b x
  list_agrees x h i apart =
      let p = spread_parts how xs a cs as' ea in
      let q = spread_parts how xs b ds bs eb in
      let c = column_there (kind_of how) x xs a.entries p.1 p.3 h in
      let d = column_there (kind_of how) x xs b.entries q.1 q.3 h in
      let n : p.0 ≡ q.0 = sym (parts_number how xs a cs as' p) ∙ (envs_length names as' bs g ∙ parts_number how xs b ds bs q) in
      let agree : EnvsAgree names (rows (index_of how) xs a.entries p.0 0 p.1) (rows (index_of how) xs b.entries p.0 0 q.1) =
      subst (λ z. EnvsAgree names z (rows (index_of how) xs b.entries p.0 0 q.1)) (sym p.5)
      (subst (EnvsAgree names as') (sym (ap (λ z. rows (index_of how) xs b.entries z 0 q.1) n ∙ q.5)) g) in
      let same : c.0 ≡ d.0 = same_columns (index_of how) names xs x i apart a.entries b.entries p.0 0 p.1 q.1 c.0 d.0 p.4 (subst (λ z. all_long z q.1 ≡ true) (sym n) q.4) c.2 d.2 agree in
      value_by_column (kind_of how) (value_in a x) (value_in b x) d.0 (c.1 ∙ ap Some same) d.1

  -- so do the counts
  pub counts_same : (c d : Value) → cs ≡ c ∷ [] → ds ≡ d ∷ [] → c ≡ d
  counts_same c d ec ed =
      let p = spread_parts how xs a cs as' ea in
      let q = spread_parts how xs b ds bs eb in
      let n : p.0 ≡ q.0 = sym (parts_number how xs a cs as' p) ∙ (envs_length names as' bs g ∙ parts_number how xs b ds bs q) in
      natural_value c d q.0
      (ap (λ z. size_of z (columns (kind_of how) xs a.entries)) (sym ec) ∙ (p.2 ∙ ap Some n)) (ap (λ z. size_of z (columns (kind_of how) xs b.entries)) (sym ed) ∙ q.2)

-- ---- the values of a variable at the elements

values_column : (index xs : List Name) (x : Name) → has_name index x ≡ false → (env : List Entry) (n k : ℕ) (cs : List Column) (c vs : Column) → all_long n cs ≡ true → column x xs cs ≡ Some c
    → ValuesAt x (rows index xs env n k cs) vs → c ≡ vs
values_column index xs x apart env zero k cs [] [] l e h = refl
values_column index xs x apart env zero k cs [] (v ∷ vs) l e h = absurd h
values_column index xs x apart env zero k cs (w ∷ ws) vs l e h = absurd (omega (arith, column_long zero x xs cs (w ∷ ws) l e))
values_column index xs x apart env (suc n) k cs [] vs l e h = absurd (omega (arith, column_long (suc n) x xs cs [] l e))
values_column index xs x apart env (suc n) k cs (w ∷ ws) [] l e h = absurd h
values_column index xs x apart env (suc n) k cs (w ∷ ws) (v ∷ vs) l e h =
    let both_are : Some w ≡ Some v = sym (row_value n k index xs x env cs w ws apart l e) ∙ h.0 in
    let first : w ≡ v = cc in
    ap₂ (λ y z. y ∷ z) first (values_column index xs x apart env n (k + 1) (tails cs) ws vs (long-tails n cs l) (column-tails x xs cs ∙ ap (option_map behind) e) h.1)

pub values_at : (how : Iteration) (xs : List Name) (env : Env) (count : List Value) (envs : List Env) (x : Name) (vs : List Value) → spread how xs env count ≡ Over envs → has_name xs x ≡ true → has_name (index_of how) x ≡ false
    → ValuesAt x envs vs → column_of (kind_of how) (value_in env x) ≡ Some vs
values_at how xs env count envs x vs e h apart at =
    let p = spread_parts how xs env count envs e in
    let c = column_there (kind_of how) x xs env.entries p.1 p.3 h in
    c.1 ∙ ap Some (values_column (index_of how) xs x apart env.entries p.0 0 p.1 c.0 vs p.4 c.2 (subst (λ z. ValuesAt x z vs) (sym p.5) at))
