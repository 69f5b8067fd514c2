-- Where no value of an environment is higher than the limit, those of the elements of an iteration
-- are not, and what is gathered of them is not Deep.
use Rattle.std.proofs.Common.{◌≡◌, ℕ, zero, suc, ◌+◌, ◌≤◌, pos, refl, sym, ◌∙◌, ap, subst, List, [], ◌∷◌, map, Bool, true, false, ◌||◌, if◌then◌else◌, Option, Some, None, option_map, bytes_eq, nat_le, arith}
use Rattle.std.proofs.lemmas.Bool.{le-leb}
use Rattle.st_num.specs.declared.limit.TheConstants.{HIGHEST_VALUE}
use Rattle.st_num.specs.declared.dim.Kind.{Kind}
use Rattle.st_num.specs.declared.dim.Kind.TheVariants as kind
use Rattle.st_il.specs.declared.definition.Listed.{Listed}
use Rattle.st_il.specs.declared.definition.SyntaxDef.{SyntaxDef}
use Rattle.st_il.specs.declared.expression.Iteration.{Iteration}
use Rattle.st_il.specs.declared.value.Env.{Env}
use Rattle.st_il.specs.declared.value.Value.{Value, out-Value, fold_out-Value, map-Value}
use Rattle.st_il.specs.declared.value.Value.TheOpen.{Value-F}
use Rattle.st_il.specs.declared.value.Value.TheVariants as value
use Rattle.st_il.specs.Height.{height, height_at, highest}
use Rattle.st_semantics.specs.declared.outcome.Outcome.TheVariants.{Val, Deep}
use Rattle.st_il.specs.Names.{Name, has_name}
use Rattle.st_semantics.specs.Environments.{Entry, lookup, value_in, names_of, listed_names, listed_as, type_of, IsSomeTyped, EnvOk}
use Rattle.st_semantics.specs.Parts.{elements_at, option_at, limited}
use Rattle.st_semantics.specs.Iterations.{index_of, kind_of, Column, column_of, columns, all_long, heads, tails, bound_to, counted_to, rows, Over, spread, gathered_as}
use Rattle.st_semantics.proofs.Names.{known-within}
use Rattle.st_semantics.proofs.Restrict.{typed_of}
use Rattle.st_semantics.proofs.Columns.{column, column-tails, behind, column-value, row-lookup, in_row, long-tails, same_out, list_of_elements, spread_parts}

abbrev pub IsLow : Value → Type 0
IsLow v = height v ≤ HIGHEST_VALUE

abbrev AllLow : List Value → Type 0
AllLow [] = Unit {0}
AllLow (v ∷ vs) = IsLow v × AllLow vs

pub height-level : (v : Value) (y : Value-F Value) → out-Value v ≡ y → height v ≡ height_at (map-Value Value ℕ height y)
height-level v y e = fold_out-Value ℕ height_at v ∙ ap (λ z. height_at (map-Value Value ℕ height z)) e

highest_low : (vs : List Value) → highest (map height vs) ≤ HIGHEST_VALUE → AllLow vs
highest_low [] h = tt
highest_low (v ∷ vs) h =
    let first : height v ≤ HIGHEST_VALUE = omega (arith, h) in
    let rest : highest (map height vs) ≤ HIGHEST_VALUE = omega (arith, h) in
    (first, highest_low vs rest)

list_low : (y : Value-F Value) (v : Value) (c : Column) → out-Value v ≡ y → IsLow v → elements_at y ≡ Some c → AllLow c
list_low (Value-F.List xs) v c o low e =
    let same : xs ≡ c = cc in
    let n = height-level v (Value-F.List xs) o in
    let high : highest (map height xs) ≤ HIGHEST_VALUE = omega (arith, n, low) in
    subst AllLow same (highest_low xs high)
list_low _ v c o low e = cc

option_low : (y : Value-F Value) (v : Value) (c : Column) → out-Value v ≡ y → IsLow v → option_at y ≡ Some c → AllLow c
option_low (Value-F.Opt None) v [] o low e = tt
option_low (Value-F.Opt None) v (z ∷ zs) o low e = cc
option_low (Value-F.Opt (Some x)) v c o low e =
    let same : x ∷ [] ≡ c = cc in
    let n = height-level v (Value-F.Opt (Some x)) o in
    let high : height x ≤ HIGHEST_VALUE = omega (arith, n, low) in
    subst AllLow same (high, tt)
option_low _ v c o low e = cc

column_low : (k : Kind) (o : Option Value) (c : Column) → ((v : Value) → o ≡ Some v → IsLow v) → column_of k o ≡ Some c → AllLow c
column_low k None c h e = cc
column_low kind.List (Some v) c h e = list_low (out-Value v) v c refl (h v refl) e
column_low kind.Opt (Some v) c h e = option_low (out-Value v) v c refl (h v refl) e

abbrev LowEntries : List Entry → Type 0
LowEntries env = (x : Name) (v : Value) → lookup x env ≡ Some v → IsLow v

-- no value of an environment is too high
abbrev pub AreLow : Env → Type 0
AreLow env = LowEntries env.entries

abbrev LowColumns : List Name → List Column → Type 0
LowColumns xs cs = (x : Name) (c : Column) → column x xs cs ≡ Some c → AllLow c

columns_low : (k : Kind) (xs : List Name) (env : List Entry) (cs : List Column) → LowEntries env → columns k xs env ≡ Some cs → LowColumns xs cs
columns_low k xs env cs h e x c is = at (has_name xs x) (sym (column-value k x xs env cs e) ∙ is)
  where
    at : (b : Bool) → (if b then column_of k (lookup x env) else None) ≡ Some c → AllLow c
    at true e = column_low k (lookup x env) c (h x) e
    at false e = cc

tails_low : (xs : List Name) (cs : List Column) → LowColumns xs cs → LowColumns xs (tails cs)
tails_low xs cs h x c is = at (column x xs cs) refl (sym (column-tails x xs cs) ∙ is)
  where
    at : (o : Option Column) → column x xs cs ≡ o → option_map behind o ≡ Some c → AllLow c
    at None k e = cc
    at (Some []) k e = let same : [] ≡ c = cc in subst AllLow same tt
    at (Some (v ∷ vs)) k e = let same : vs ≡ c = cc in subst AllLow same (h x (v ∷ vs) k).1

pub number_low : (n : ℕ) → IsLow (value.Num (pos n))
number_low n = let h = height-level (value.Num (pos n)) (Value-F.Num (pos n)) (value.outs-Num (pos n)) in omega (arith, h)

row_low : (n : ℕ) (xs : List Name) (cs : List Column) (env : List Entry) → all_long (suc n) cs ≡ true → LowColumns xs cs → LowEntries env → LowEntries (bound_to xs (heads cs) env)
row_low n xs cs env long low h x v is = at (column x xs cs) refl (sym (row-lookup n x xs cs env long) ∙ is)
  where
    at : (o : Option Column) → column x xs cs ≡ o → in_row o (lookup x env) ≡ Some v → IsLow v
    at None k e = h x v e
    at (Some []) k e = h x v e
    at (Some (w ∷ ws)) k e = let same : w ≡ v = cc in subst IsLow same (low x (w ∷ ws) k).0

index_low : (index : List Name) (k : ℕ) (env : List Entry) → LowEntries env → LowEntries (counted_to index k env)
index_low [] k env h x v is = h x v is
index_low (i ∷ more) k env h x v is = at (bytes_eq x i) is
  where
    rest : (more : List Name) → lookup x (bound_to more [] env) ≡ Some v → IsLow v
    rest [] e = h x v e
    rest (j ∷ js) e = h x v e

    at : (b : Bool) → (if b then Some (value.Num (pos k)) else lookup x (bound_to more [] env)) ≡ Some v → IsLow v
    at true e = let same : value.Num (pos k) ≡ v = cc in subst IsLow same (number_low k)
    at false e = rest more e

abbrev pub AllAreLow : List Env → Type 0
AllAreLow [] = Unit {0}
AllAreLow (env ∷ envs) = AreLow env × AllAreLow envs

rows_low : (index xs : List Name) (env : List Entry) → LowEntries env → (n k : ℕ) (cs : List Column) → all_long n cs ≡ true → LowColumns xs cs → AllAreLow (rows index xs env n k cs)
rows_low index xs env h zero k cs long low = tt
rows_low index xs env h (suc n) k cs long low =
    (index_low index k (bound_to xs (heads cs) env) (row_low n xs cs env long low h), rows_low index xs env h n (k + 1) (tails cs) (long-tails n cs long) (tails_low xs cs low))

pub elements_low : (how : Iteration) (xs : List Name) (env : Env) (count : List Value) (envs : List Env) → AreLow env → spread how xs env count ≡ Over envs → AllAreLow envs
elements_low how xs env count envs h e =
    let p = spread_parts how xs env count envs e in
    subst AllAreLow p.5 (rows_low (index_of how) xs env.entries h p.0 0 p.1 p.4 (columns_low (kind_of how) xs env.entries p.1 h p.3))

-- ---- what is made of the elements

limited_low : (v : Value) → IsLow v → limited v ≡ Deep → ⊥
limited_low v h e = at (nat_le (height v) HIGHEST_VALUE) (le-leb (height v) HIGHEST_VALUE h) e
  where
    at : (b : Bool) → b ≡ true → (if b then Val v else Deep) ≡ Deep → ⊥
    at true k e = cc
    at false k e = cc

option_made : (y : Value-F Value) (v : Value) (c : Column) → out-Value v ≡ y → IsLow v → option_at y ≡ Some c → gathered_as kind.Opt c ≡ Deep → ⊥
option_made (Value-F.Opt None) v [] o low e g = limited_low (value.Opt None) (subst IsLow (same_out v (value.Opt None) (o ∙ sym (value.outs-Opt None))) low) g
option_made (Value-F.Opt None) v (z ∷ zs) o low e g = cc
option_made (Value-F.Opt (Some x)) v [] o low e g = cc
option_made (Value-F.Opt (Some x)) v (z ∷ zs) o low e g =
    let same : x ≡ z = cc in
    limited_low (value.Opt (Some z)) (subst IsLow (same_out v (value.Opt (Some z)) (o ∙ (ap (λ w. Value-F.Opt (Some w)) same ∙ sym (value.outs-Opt (Some z))))) low) g
option_made _ v c o low e g = cc

pub not_high : (k : Kind) (o : Option Value) (c : Column) → ((v : Value) → o ≡ Some v → IsLow v) → column_of k o ≡ Some c → gathered_as k c ≡ Deep → ⊥
not_high k None c h e g = cc
not_high kind.List (Some v) c h e g = limited_low (value.List c) (subst IsLow (list_of_elements v c e) (h v refl)) g
not_high kind.Opt (Some v) c h e g = option_made (out-Value v) v c refl (h v refl) e g

-- ---- a typed environment

pub name_there : (x : Name) (v : Value) (es : List Entry) → lookup x es ≡ Some v → has_name (map (λ (e : Entry). e.0) es) x ≡ true
name_there x v [] e = cc
name_there x v (f ∷ fs) e = at (bytes_eq x f.0) e (name_there x v fs)
  where
    at : (b : Bool) → (if b then Some f.1 else lookup x fs) ≡ Some v → (lookup x fs ≡ Some v → has_name (map (λ (e : Entry). e.0) fs) x ≡ true) → (b || has_name (map (λ (e : Entry). e.0) fs) x) ≡ true
    at true e ih = refl
    at false e ih = ih e

pub listed_there : (x : Name) (ls : List Listed) → has_name (listed_names ls) x ≡ true → (l : Listed) × (listed_as x ls ≡ Some l)
listed_there x [] h = cc
listed_there x (l ∷ ls) h = at (bytes_eq x l.name) h (listed_there x ls)
  where
    at : (b : Bool) → (b || has_name (listed_names ls) x) ≡ true → (has_name (listed_names ls) x ≡ true → (m : Listed) × (listed_as x ls ≡ Some m)) → (m : Listed) × ((if b then Some l else listed_as x ls) ≡ Some m)
    at true h ih = (l, refl)
    at false h ih = ih h

pub typed_low : (defs : List SyntaxDef) (ls : List Listed) (env : Env) → EnvOk defs ls env → AreLow env
typed_low defs ls env ok x v e =
    let l = listed_there x ls (known-within (listed_names ls) (names_of env) ok.no_other x (name_there x v env.entries e)) in
    at l.0 (value_in env x) (typed_of defs ls env ok x l.0 l.1) e
  where
    at : (l : Listed) (o : Option Value) → IsSomeTyped defs (type_of l) o → o ≡ Some v → IsLow v
    at l None t e = cc
    at l (Some w) t e = let same : w ≡ v = cc in subst IsLow same t.value.height
