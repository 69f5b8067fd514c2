-- The elements of an iteration over what is bound have the bound variables and its index.
use Rattle.std.proofs.Common.{◌≡◌, ℕ, zero, suc, ◌+◌, ◌≤◌, pos, refl, sym, ◌∙◌, ap, subst, List, [], ◌∷◌, ◌++◌, Bool, true, false, ◌||◌, if◌then◌else◌, Some, bytes_eq, arith}
use Rattle.st_num.specs.Number.{IsNumber}
use Rattle.st_il.specs.declared.definition.Il.{Il}
use Rattle.st_il.specs.declared.definition.Listed.{Listed}
use Rattle.st_il.specs.declared.definition.SyntaxDef.{SyntaxDef}
use Rattle.st_il.specs.declared.expression.Iteration.{Iteration}
use Rattle.st_il.specs.declared.ty.Ty.TheVariants as ty
use Rattle.st_il.specs.declared.value.Env.{Env}
use Rattle.st_il.specs.declared.value.Value.{Value}
use Rattle.st_il.specs.declared.value.Value.TheVariants as value
use Rattle.st_il.specs.Names.{Name, has_name, among, without}
use Rattle.st_il.specs.Definitions.{syntaxes}
use Rattle.st_semantics.specs.Environments.{Entry, lookup, value_in, type_of, listed_as, TypedIn, IsSomeTyped}
use Rattle.st_semantics.specs.Iterations.{index_of, Column, heads, tails, bound_to, counted_to, rows, Over, spread}
use Rattle.st_semantics.specs.Scopes.{inner, stepped_all, indices, listed_inside}
use Rattle.st_semantics.specs.Depth.{AllTypedIn}
use Rattle.st_semantics.specs.Kinds.{AreOfItsKind}
use Rattle.st_semantics.proofs.Names.{Within, bytes-same, bytes-path, or-left, or-right, without-other}
use Rattle.st_semantics.proofs.Agree.{IsShort, index_short}
use Rattle.st_semantics.proofs.Premises.{without-parts}
use Rattle.st_semantics.proofs.Elements.{elements_typed, no_index}
use Rattle.st_semantics.proofs.TypedParts.{number_below, natural_typed}
use Rattle.st_eval.specs.Steps.{HasOnly}
use Rattle.st_eval.specs.inner.AtElements.{AllHaveOnly}
use Rattle.st_eval.proofs.InByteOrder.{names_in}
use Rattle.st_eval.proofs.Unfolding.{among_has}
use Rattle.st_eval.proofs.SameNames.{among-parts}

-- names that are bound anew are names that were bound
bound_to-names : (bound : List Name) (xs : List Name) (hs : List Value) (es : List Entry) (x : Name) → Within xs bound → has_name (names_in es) x ≡ has_name bound x → has_name (names_in (bound_to xs hs es)) x ≡ has_name bound x
bound_to-names bound [] hs es x w e = e
bound_to-names bound (y ∷ ys) [] es x w e = e
bound_to-names bound (y ∷ ys) (h ∷ hs) es x w e = at (bytes_eq x y) refl (bound_to-names bound ys hs es x (λ z k. w z (or-right (bytes_eq z y) (has_name ys z) k)) e)
  where
    at : (b : Bool) → bytes_eq x y ≡ b → has_name (names_in (bound_to ys hs es)) x ≡ has_name bound x → (b || has_name (names_in (bound_to ys hs es)) x) ≡ has_name bound x
    at true j ih = sym (ap (has_name bound) (bytes-path x y j) ∙ w y (or-left (bytes_eq y y) (has_name ys y) (bytes-same y)))
    at false j ih = ih

counted_to-names : (index : List Name) → IsShort index → (bound : List Name) (k : ℕ) (es : List Entry) (x : Name) → has_name (names_in es) x ≡ has_name bound x → has_name (names_in (counted_to index k es)) x ≡ has_name (index ++ bound) x
counted_to-names [] s bound k es x e = e
counted_to-names (i ∷ []) s bound k es x e = ap (λ z. bytes_eq x i || z) e
counted_to-names (i ∷ j ∷ more) s bound k es x e = absurd s

-- the index is a number
index_typed : (defs : List SyntaxDef) (index : List Name) → IsShort index → (k : ℕ) → IsNumber (pos k) → (es : List Entry) (rest : List Listed) (x : Name) (m : Listed) → has_name index x ≡ true → listed_as x (indices index ++ rest) ≡ Some m
    → IsSomeTyped defs (type_of m) (lookup x (counted_to index k es))
index_typed defs [] s k num es rest x m h e = cc
index_typed defs (i ∷ j ∷ more) s k num es rest x m h e = absurd s
index_typed defs (i ∷ []) s k num es rest x m h e = at (bytes_eq x i) h e
  where
    at : (b : Bool) → (b || false) ≡ true → (if b then Some (record { name = i; ty = ty.Nat; dim = [] }) else listed_as x rest) ≡ Some m → IsSomeTyped defs (type_of m) (if b then Some (value.Num (pos k)) else lookup x es)
    at true h e =
        let listed : Listed = record { name = i; ty = ty.Nat; dim = [] } in
        let same : listed ≡ m = cc in
        subst (λ (z : Listed). IsSomeTyped defs (type_of z) (Some (value.Num (pos k)))) same (natural_typed defs k num)
    at false h e = cc

-- a listed variable that loses its outermost kind, or does not
abbrev stepped_by : Bool → Listed → Listed
stepped_by b l = record { name = l.name; ty = l.ty; dim = if b then inner l.dim else l.dim }

-- of what is bound, what is iterated is what is iterated among it
stepped-among : (bound xs : List Name) (x : Name) → has_name bound x ≡ true → (ls : List Listed) → listed_as x (stepped_all (among bound xs) ls) ≡ listed_as x (stepped_all xs ls)
stepped-among bound xs x i [] = refl
stepped-among bound xs x i (l ∷ ls) = at (bytes_eq x l.name) refl (stepped-among bound xs x i ls)
  where
    at : (b : Bool) → bytes_eq x l.name ≡ b → listed_as x (stepped_all (among bound xs) ls) ≡ listed_as x (stepped_all xs ls)
        → (if b then Some (stepped_by (has_name (among bound xs) l.name) l) else listed_as x (stepped_all (among bound xs) ls)) ≡ (if b then Some (stepped_by (has_name xs l.name) l) else listed_as x (stepped_all xs ls))
    at true j ih = ap (λ z. Some (stepped_by z l)) (among_has bound xs l.name (sym (ap (has_name bound) (bytes-path x l.name j)) ∙ i))
    at false j ih = ih

module _ (il : Il) (bound : List Name) (ls : List Listed) (env : Env) (how : Iteration) (xs : List Name) (kinded : AreOfItsKind how xs ls) (only : HasOnly il ls bound env) where
  abbrev Known : List Name
  Known = among bound xs

  abbrev Old : List Name
  Old = without (index_of how) bound

  abbrev row : ℕ → List Value → Env
  row k hs = record { entries = counted_to (index_of how) k (bound_to Known hs env.entries) }

  row_only : (k : ℕ) (hs : List Value) → IsNumber (pos k) → TypedIn (syntaxes il) (listed_inside how Known ls) Old (row k hs) → HasOnly il (listed_inside how xs ls) (index_of how ++ bound) (row k hs)
  row_only k hs num typed = record {
    names_are = λ x. counted_to-names (index_of how) (index_short how) bound k (bound_to Known hs env.entries) x (bound_to-names bound Known hs env.entries x (λ y i. (among-parts bound xs y i).0) (only.names_are x));
    typed = λ x i m at. of x i m at (has_name (index_of how) x) refl;
  }
    where
      later : (x : Name) → has_name (index_of how ++ bound) x ≡ true → has_name (index_of how) x ≡ false → has_name bound x ≡ true
      later x i away = by (index_of how) i away
        where
          by : (index : List Name) → has_name (index ++ bound) x ≡ true → has_name index x ≡ false → has_name bound x ≡ true
          by [] i a = i
          by (j ∷ js) i a = one (bytes_eq x j) i a (by js)
            where
              one : (b : Bool) → (b || has_name (js ++ bound) x) ≡ true → (b || has_name js x) ≡ false → (has_name (js ++ bound) x ≡ true → has_name js x ≡ false → has_name bound x ≡ true) → has_name bound x ≡ true
              one true i a ih = cc
              one false i a ih = ih i a

      of : (x : Name) → has_name (index_of how ++ bound) x ≡ true → (m : Listed) → listed_as x (listed_inside how xs ls) ≡ Some m → (b : Bool) → has_name (index_of how) x ≡ b → IsSomeTyped (syntaxes il) (type_of m) (value_in (row k hs) x)
      of x i m at true j = index_typed (syntaxes il) (index_of how) (index_short how) k num (bound_to Known hs env.entries) (stepped_all xs ls) x m j at
      of x i m at false j =
          let old : has_name bound x ≡ true = later x i j in
          typed x (without-other (index_of how) bound x j old) m
          (no_index (index_of how) x (stepped_all Known ls) j ∙ (stepped-among bound xs x old ls ∙ (sym (no_index (index_of how) x (stepped_all xs ls) j) ∙ at)))

  rows_only : (size k : ℕ) (cs : List Column) → IsNumber (pos (k + size)) → AllTypedIn il (listed_inside how Known ls) Old (rows (index_of how) Known env.entries size k cs)
      → AllHaveOnly il (listed_inside how xs ls) (index_of how ++ bound) (rows (index_of how) Known env.entries size k cs)
  rows_only zero k cs num typed = tt
  rows_only (suc size) k cs num typed =
      let less : k ≤ k + suc size = omega arith in
      let same : k + suc size ≡ (k + 1) + size = omega arith in (
        row_only k (heads cs) (number_below k (k + suc size) less num) typed.0,
        rows_only size (k + 1) (tails cs) (subst (λ z. IsNumber (pos z)) same num) typed.1,
      )

  -- these variables and no others are bound at each element
  pub AllHaveOnly-rows : (count : List Value) (size : ℕ) (cs : List Column) → IsNumber (pos size) → spread how Known env count ≡ Over (rows (index_of how) Known env.entries size 0 cs)
      → AllHaveOnly il (listed_inside how xs ls) (index_of how ++ bound) (rows (index_of how) Known env.entries size 0 cs)
  AllHaveOnly-rows count size cs num over =
      let same : size ≡ 0 + size = omega arith in
      rows_only size 0 cs (subst (λ z. IsNumber (pos z)) same num)
      (elements_typed il how Known Old ls env count (rows (index_of how) Known env.entries size 0 cs)
      (λ x i l at. kinded x (among-parts bound xs x i).1 l at)
      (λ x i. (without-parts (index_of how) bound x i).0)
      (λ x i l at. only.typed x (without-parts (index_of how) bound x i).1 l at) over)
