-- What is found in entries that stand before others, and in those of some variables.
use Rattle.std.proofs.Common.{◌≡◌, refl, sym, ◌∙◌, ap, List, [], ◌∷◌, ◌++◌, Bool, true, false, ◌||◌, if◌then◌else◌, Option, Some, None, bytes_eq}
use Rattle.std.specs.Prelude.{is_some}
use Rattle.st_il.specs.declared.value.Env.{Env}
use Rattle.st_il.specs.declared.value.Value.{Value}
use Rattle.st_il.specs.Names.{Name, has_name}
use Rattle.st_semantics.specs.Environments.{Entry, lookup, value_in, names_of, AgreeOn}
use Rattle.st_semantics.proofs.Names.{bytes-path}
use Rattle.st_eval.specs.inner.Beside.{entry_with, entries_among}
use Rattle.st_eval.proofs.InByteOrder.{names_in}

-- the names are those that have a value
pub lookup-names : (x : Name) (es : List Entry) → has_name (names_in es) x ≡ is_some (lookup x es)
lookup-names x [] = refl
lookup-names x (e ∷ es) = at (bytes_eq x e.0) (lookup-names x es)
  where
    at : (b : Bool) → has_name (names_in es) x ≡ is_some (lookup x es) → (b || has_name (names_in es) x) ≡ is_some (if b then Some e.1 else lookup x es)
    at true ih = refl
    at false ih = ih

lookup-append : (x : Name) (es fs : List Entry) → lookup x (es ++ fs) ≡ (if has_name (names_in es) x then lookup x es else lookup x fs)
lookup-append x [] fs = refl
lookup-append x (e ∷ es) fs = at (bytes_eq x e.0) (lookup-append x es fs)
  where
    at : (b : Bool) → lookup x (es ++ fs) ≡ (if has_name (names_in es) x then lookup x es else lookup x fs)
        → (if b then Some e.1 else lookup x (es ++ fs)) ≡ (if b || has_name (names_in es) x then (if b then Some e.1 else lookup x es) else lookup x fs)
    at true ih = refl
    at false ih = ih

pub lookup-first : (x : Name) (es fs : List Entry) → has_name (names_in es) x ≡ true → lookup x (es ++ fs) ≡ lookup x es
lookup-first x es fs h = lookup-append x es fs ∙ ap (λ z. if z then lookup x es else lookup x fs) h

pub lookup-behind : (x : Name) (es fs : List Entry) → has_name (names_in es) x ≡ false → lookup x (es ++ fs) ≡ lookup x fs
lookup-behind x es fs h = lookup-append x es fs ∙ ap (λ z. if z then lookup x es else lookup x fs) h

pub names_in-append : (x : Name) (es fs : List Entry) → has_name (names_in (es ++ fs)) x ≡ (has_name (names_in es) x || has_name (names_in fs) x)
names_in-append x [] fs = refl
names_in-append x (e ∷ es) fs = at (bytes_eq x e.0) (names_in-append x es fs)
  where
    at : (b : Bool) → has_name (names_in (es ++ fs)) x ≡ (has_name (names_in es) x || has_name (names_in fs) x)
        → (b || has_name (names_in (es ++ fs)) x) ≡ ((b || has_name (names_in es) x) || has_name (names_in fs) x)
    at true ih = refl
    at false ih = ih

-- ---- the entries of some variables

pub entries_among-lookup : (env : Env) (xs : List Name) (x : Name) → lookup x (entries_among env xs) ≡ (if has_name xs x then value_in env x else None)
entries_among-lookup env [] x = refl
entries_among-lookup env (y ∷ ys) x = at (bytes_eq x y) refl (value_in env y) refl (entries_among-lookup env ys x)
  where
    none : (c : Bool) → value_in env x ≡ None → (if c then value_in env x else None) ≡ value_in env x
    none true e = refl
    none false e = sym e

    at : (b : Bool) → bytes_eq x y ≡ b → (o : Option Value) → value_in env y ≡ o → lookup x (entries_among env ys) ≡ (if has_name ys x then value_in env x else None)
        → lookup x (entry_with y o ++ entries_among env ys) ≡ (if b || has_name ys x then value_in env x else None)
    at true j None k ih = ih ∙ none (has_name ys x) (ap (value_in env) (bytes-path x y j) ∙ k)
    at true j (Some v) k ih = ap (λ z. if z then Some v else lookup x (entries_among env ys)) j ∙ sym (ap (value_in env) (bytes-path x y j) ∙ k)
    at false j None k ih = ih
    at false j (Some v) k ih = ap (λ z. if z then Some v else lookup x (entries_among env ys)) j ∙ ih

-- a variable among them is there where it is bound
pub entries_among-name : (env : Env) (xs : List Name) (x : Name) → has_name xs x ≡ true → has_name (names_in (entries_among env xs)) x ≡ has_name (names_of env) x
entries_among-name env xs x h =
    lookup-names x (entries_among env xs)
    ∙ (ap is_some (entries_among-lookup env xs x ∙ ap (λ z. if z then value_in env x else None) h) ∙ sym (lookup-names x env.entries))

-- there are no others
pub entries_among-names : (env : Env) (xs : List Name) (x : Name) → has_name (names_in (entries_among env xs)) x ≡ true → (has_name xs x ≡ true) × (has_name (names_of env) x ≡ true)
entries_among-names env xs x h = at (has_name xs x) refl (sym (ap is_some (entries_among-lookup env xs x)) ∙ (sym (lookup-names x (entries_among env xs)) ∙ h))
  where
    at : (b : Bool) → has_name xs x ≡ b → is_some (if b then value_in env x else None) ≡ true → (b ≡ true) × (has_name (names_of env) x ≡ true)
    at true k e = (refl, lookup-names x env.entries ∙ e)
    at false k e = cc

-- entries of these variables give them the values that they are bound to
pub entries_among-agrees : (env few : Env) (xs : List Name) → few.entries ≡ entries_among env xs → AgreeOn xs few env
entries_among-agrees env few xs e x i = ap (lookup x) e ∙ (entries_among-lookup env xs x ∙ ap (λ z. if z then value_in env x else None) i)
