-- An environment that is restricted to some names.
use Rattle.std.proofs.Common.{◌≡◌, refl, sym, ◌∙◌, ap, subst, List, [], ◌∷◌, map, Bool, true, false, ◌&&◌, ◌||◌, if◌then◌else◌, Some, bytes_eq, filter, All}
use Rattle.std.specs.Prelude.{AllPairs}
use Rattle.std.specs.Ordering.{is_lt}
use Rattle.std.proofs.lemmas.List.Elements.{All-nil, All-cons, All-head, All-tail}
use Rattle.std.proofs.lemmas.List.Kept.{AllPairs-filter}
use Rattle.st_il.specs.declared.definition.Listed.{Listed}
use Rattle.st_il.specs.declared.definition.SyntaxDef.{SyntaxDef}
use Rattle.st_il.specs.declared.value.Env.{Env}
use Rattle.st_il.specs.Order.{text_cmp}
use Rattle.st_il.specs.Names.{Name, has_name, all_known}
use Rattle.st_semantics.specs.Environments.{Entry, lookup, value_in, IsSomeTyped, HasListed, names_of, listed_names, EnvOk, type_of, listed_in, listed_as, AgreeOn, TypedIn}
use Rattle.st_semantics.proofs.Names.{bytes-path, or-left, and-both, true_false, Within}

-- the entries of some names
abbrev pub picked : List Name → List Entry → List Entry
picked names es = filter (λ (e : Entry). has_name names e.0) es

abbrev pub restricted : List Name → Env → Env
restricted names env = record { entries = picked names env.entries }

picked_same : (names : List Name) (x : Name) → has_name names x ≡ true → (es : List Entry) → lookup x (picked names es) ≡ lookup x es
picked_same names x h [] = refl
picked_same names x h (e ∷ es) = at (picked_same names x h es) (has_name names e.0) refl (bytes_eq x e.0) refl
  where
    at : lookup x (picked names es) ≡ lookup x es → (b : Bool) → has_name names e.0 ≡ b → (c : Bool) → bytes_eq x e.0 ≡ c
        → lookup x (if b then e ∷ picked names es else picked names es) ≡ (if bytes_eq x e.0 then Some e.1 else lookup x es)
    at ih true k c j = ap (λ z. if bytes_eq x e.0 then Some e.1 else z) ih
    at ih false k true j = absurd (true_false (sym h ∙ (ap (has_name names) (bytes-path x e.0 j) ∙ k)))
    at ih false k false j = ih ∙ ap (λ z. if z then Some e.1 else lookup x es) (sym j)

pub agree_picked : (names : List Name) (env : Env) → AgreeOn names (restricted names env) env
agree_picked names env x h = picked_same names x h env.entries

names_picked : (names : List Name) (es : List Entry) → map (λ (e : Entry). e.0) (picked names es) ≡ filter (has_name names) (map (λ (e : Entry). e.0) es)
names_picked names [] = refl
names_picked names (e ∷ es) = at (names_picked names es) (has_name names e.0)
  where
    at : map (λ (e : Entry). e.0) (picked names es) ≡ filter (has_name names) (map (λ (e : Entry). e.0) es) → (b : Bool) → map (λ (e : Entry). e.0) (if b then e ∷ picked names es else picked names es)
        ≡ (if b then e.0 ∷ filter (has_name names) (map (λ (e : Entry). e.0) es) else filter (has_name names) (map (λ (e : Entry). e.0) es))
    at ih true = ap (λ z. e.0 ∷ z) ih
    at ih false = ih

-- ---- listed variables of some names

pub listed_has : (names : List Name) (ls : List Listed) (x : Name) → has_name (listed_names ls) x ≡ true → has_name names x ≡ true → has_name (listed_names (listed_in names ls)) x ≡ true
listed_has names [] x h i = h
listed_has names (l ∷ ls) x h i = at (listed_has names ls x) (bytes_eq x l.name) refl (has_name names l.name) refl
  where
    or-right : (a b : Bool) → b ≡ true → (a || b) ≡ true
    or-right true b h = refl
    or-right false b h = h

    later : (a : Bool) → a ≡ false → (a || has_name (listed_names ls) x) ≡ true → has_name (listed_names ls) x ≡ true
    later true p q = cc
    later false p q = q

    at : (has_name (listed_names ls) x ≡ true → has_name names x ≡ true → has_name (listed_names (listed_in names ls)) x ≡ true)
        → (c : Bool) → bytes_eq x l.name ≡ c → (b : Bool) → has_name names l.name ≡ b → has_name (listed_names (if b then l ∷ listed_in names ls else listed_in names ls)) x ≡ true
    at ih true j true k = or-left (bytes_eq x l.name) (has_name (listed_names (listed_in names ls)) x) j
    at ih true j false k = absurd (true_false (sym i ∙ (ap (has_name names) (bytes-path x l.name j) ∙ k)))
    at ih false j true k = or-right (bytes_eq x l.name) (has_name (listed_names (listed_in names ls)) x) (ih (later (bytes_eq x l.name) j h) i)
    at ih false j false k = ih (later (bytes_eq x l.name) j h) i

-- listed variables of fewer names
pub listed_twice : (few names : List Name) (ls : List Listed) → Within few names → listed_in few (listed_in names ls) ≡ listed_in few ls
listed_twice few names [] w = refl
listed_twice few names (l ∷ ls) w = go (listed_twice few names ls w) (has_name names l.name) refl (has_name few l.name) refl
  where
    go : listed_in few (listed_in names ls) ≡ listed_in few ls → (b : Bool) → has_name names l.name ≡ b → (c : Bool) → has_name few l.name ≡ c
        → listed_in few (if b then l ∷ listed_in names ls else listed_in names ls) ≡ (if has_name few l.name then l ∷ listed_in few ls else listed_in few ls)
    go ih true k c j = ap (λ z. if has_name few l.name then l ∷ z else z) ih
    go ih false k true j = absurd (true_false (sym (w l.name j) ∙ k))
    go ih false k false j = ih ∙ ap (λ z. if z then l ∷ listed_in few ls else listed_in few ls) (sym j)

pub listed_same : (names : List Name) (ls : List Listed) (x : Name) → has_name names x ≡ true → listed_as x ls ≡ listed_as x (listed_in names ls)
listed_same names [] x h = refl
listed_same names (l ∷ ls) x h = go (listed_same names ls x h) (has_name names l.name) refl (bytes_eq x l.name) refl
  where
    go : listed_as x ls ≡ listed_as x (listed_in names ls) → (b : Bool) → has_name names l.name ≡ b → (c : Bool) → bytes_eq x l.name ≡ c
        → (if bytes_eq x l.name then Some l else listed_as x ls) ≡ listed_as x (if b then l ∷ listed_in names ls else listed_in names ls)
    go ih true k c j = ap (λ z. if bytes_eq x l.name then Some l else z) ih
    go ih false k true j = absurd (true_false (sym h ∙ (ap (has_name names) (bytes-path x l.name j) ∙ k)))
    go ih false k false j = ap (λ z. if z then Some l else listed_as x ls) j ∙ ih

-- ---- typed environments

module _ (defs : List SyntaxDef) where
  -- each listed variable has its type
  typed_all : (env : Env) (x : Name) (l : Listed) (ms : List Listed) → All (HasListed defs env) ms → listed_as x ms ≡ Some l → IsSomeTyped defs (type_of l) (value_in env x)
  typed_all env x l [] h e = cc
  typed_all env x l (m ∷ ms) h e = at (typed_all env x l ms (All-tail (HasListed defs env) m ms h)) (bytes_eq x m.name) refl e
    where
      at : (listed_as x ms ≡ Some l → IsSomeTyped defs (type_of l) (value_in env x)) → (b : Bool) → bytes_eq x m.name ≡ b → (if b then Some m else listed_as x ms) ≡ Some l → IsSomeTyped defs (type_of l) (value_in env x)
      at ih true j e =
          let same : m ≡ l = cc in
          subst (λ z. IsSomeTyped defs (type_of l) (value_in env z)) (sym (bytes-path x m.name j ∙ ap (λ (z : Listed). z.name) same))
          (subst (HasListed defs env) same (All-head (HasListed defs env) m ms h))
      at ih false j e = ih e

  pub typed_of : (ls : List Listed) (env : Env) → EnvOk defs ls env → (x : Name) (l : Listed) → listed_as x ls ≡ Some l → IsSomeTyped defs (type_of l) (value_in env x)
  typed_of ls env ok x l e = typed_all env x l ls ok.typed e

  pub typed_in : (ls : List Listed) (env : Env) → EnvOk defs ls env → (names : List Name) → TypedIn defs ls names env
  typed_in ls env ok names x h l e = typed_of ls env ok x l e

  both_true : (a b : Bool) → a ≡ true → b ≡ true → (a && b) ≡ true
  both_true true b p q = q
  both_true false b p q = cc

  others_listed : (names : List Name) (ls : List Listed) (es : List Entry) → all_known (listed_names ls) (map (λ (e : Entry). e.0) es) ≡ true
      → all_known (listed_names (listed_in names ls)) (map (λ (e : Entry). e.0) (picked names es)) ≡ true
  others_listed names ls [] h = refl
  others_listed names ls (e ∷ es) h =
      let b = and-both (has_name (listed_names ls) e.0) (all_known (listed_names ls) (map (λ (e : Entry). e.0) es)) h in
      at (has_name names e.0) refl b.0 (others_listed names ls es b.1)
    where
      at : (c : Bool) → has_name names e.0 ≡ c → has_name (listed_names ls) e.0 ≡ true → all_known (listed_names (listed_in names ls)) (map (λ (e : Entry). e.0) (picked names es)) ≡ true
          → all_known (listed_names (listed_in names ls)) (map (λ (e : Entry). e.0) (if c then e ∷ picked names es else picked names es)) ≡ true
      at true k first rest = both_true (has_name (listed_names (listed_in names ls)) e.0) (all_known (listed_names (listed_in names ls)) (map (λ (e : Entry). e.0) (picked names es))) (listed_has names ls e.0 first k) rest
      at false k first rest = rest

  all_restricted : (names : List Name) (env : Env) (ms : List Listed) → All (HasListed defs env) ms → All (HasListed defs (restricted names env)) (listed_in names ms)
  all_restricted names env [] h = All-nil (HasListed defs (restricted names env))
  all_restricted names env (m ∷ ms) h = at (all_restricted names env ms (All-tail (HasListed defs env) m ms h)) (has_name names m.name) refl
    where
      at : All (HasListed defs (restricted names env)) (listed_in names ms) → (b : Bool) → has_name names m.name ≡ b
          → All (HasListed defs (restricted names env)) (if b then m ∷ listed_in names ms else listed_in names ms)
      at ih true k = All-cons (HasListed defs (restricted names env)) m (listed_in names ms)
          (subst (IsSomeTyped defs (type_of m)) (sym (agree_picked names env m.name k)) (All-head (HasListed defs env) m ms h)) ih
      at ih false k = ih

  -- what is restricted is typed
  pub ok_restricted : (names : List Name) (ls : List Listed) (env : Env) → EnvOk defs ls env → EnvOk defs (listed_in names ls) (restricted names env)
  ok_restricted names ls env ok = record {
    ordered = subst (AllPairs (λ (x y : Name). is_lt (text_cmp x y) ≡ true)) (sym (names_picked names env.entries))
        (AllPairs-filter (λ (x y : Name). is_lt (text_cmp x y) ≡ true) (has_name names) (names_of env) ok.ordered);
    no_other = others_listed names ls env.entries ok.no_other;
    typed = all_restricted names env ls ok.typed;
  }
