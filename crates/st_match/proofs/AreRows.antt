-- Rows of environments, one for each element, and what their columns give.
use Rattle.std.proofs.Common.{◌≡◌, ℕ, zero, suc, ◌+◌, ◌<◌, ◌≤◌, refl, sym, ◌∙◌, ap, subst, List, [], ◌∷◌, ◌++◌, map, length, take, get_or, ◌⊎◌, inl, inr, Bool, true, false, ◌&&◌, Option, Some, None, bytes_eq, arith}
use Rattle.std.proofs.lemmas.List.{take_more, take_all}
use Rattle.std.proofs.lemmas.List.Folds.{list_any-append}
use Rattle.st_num.specs.declared.dim.Kind.{Kind}
use Rattle.st_num.specs.declared.dim.Kind.TheVariants as kind
use Rattle.st_il.specs.declared.definition.SyntaxDef.{SyntaxDef}
use Rattle.st_il.specs.declared.expression.IlExp.{IlExp}
use Rattle.st_il.specs.declared.expression.Iteration.{Iteration}
use Rattle.st_il.specs.declared.value.Env.{Env}
use Rattle.st_il.specs.declared.value.Value.{Value, out-Value}
use Rattle.st_il.specs.declared.value.Value.TheOpen.{Value-F}
use Rattle.st_il.specs.declared.value.Value.TheVariants as value
use Rattle.st_semantics.specs.declared.outcome.Outcome.TheVariants.{Val}
use Rattle.st_il.specs.Names.{Name, has_name}
use Rattle.st_semantics.specs.Environments.{lookup, value_in}
use Rattle.st_semantics.specs.Parts.{option_at, option_list}
use Rattle.st_semantics.specs.Iterations.{kind_of, index_of, column_of, gathered_as}
use Rattle.st_semantics.specs.Patterns.{is_pattern}
use Rattle.st_semantics.specs.Depth.{ValuesAt}
use Rattle.st_semantics.proofs.Names.{and-both, bytes-path, bytes-same, or-cases, or-left, or-right}
use Rattle.st_semantics.proofs.Lengths.{limited_is}
use Rattle.st_semantics.proofs.Columns.{same_out, list_of_elements}
use Rattle.st_match.specs.inner.Fitting.{Fits, FitEach, HasValue, column_value}
use Rattle.st_match.specs.inner.Covering.{Names, joined, bound, blank, Stands, OneOf, Covers, AreCandidates}
use Rattle.st_match.specs.inner.Rows.{RowStands, with_each, product, AreRows, IsSized, AreRowsOf, RowsLead, first_of, row_values, row_column, are_there, in_columns, HasColumns, ColumnsCover, ColumnCovers}
use Rattle.st_match.proofs.Covers.{OneOf-left, OneOf-right, OneOf-cases, Covers-same, Covers-then, Covers-weaken}
use Rattle.st_match.proofs.AreCandidates.{List-parts}

-- ---- products

RowStands-push : (b : Names) (ss row : List Env) (s e : Env) → RowStands b ss row → Stands s b e → RowStands b (ss ++ s ∷ []) (row ++ e ∷ [])
RowStands-push b [] [] s e r p = (p, tt)
RowStands-push b [] (f ∷ row) s e r p = absurd r
RowStands-push b (t ∷ ss) [] s e r p = absurd r
RowStands-push b (t ∷ ss) (f ∷ row) s e r p = (r.0, RowStands-push b ss row s e r.1 p)

with_each-one : (b : Names) (ss row es : List Env) (s : Env) → RowStands b ss row → OneOf (Stands s b) es → OneOf (RowStands b (ss ++ s ∷ [])) (with_each row es)
with_each-one b ss row [] s r o = absurd o
with_each-one b ss row (e ∷ es) s r (inl p) = inl (RowStands-push b ss row s e r p)
with_each-one b ss row (e ∷ es) s r (inr o) = inr (with_each-one b ss row es s r o)

product-one : (b : Names) (ss es : List Env) (s : Env) (rows : List (List Env)) → OneOf (RowStands b ss) rows → OneOf (Stands s b) es → OneOf (RowStands b (ss ++ s ∷ [])) (product rows es)
product-one b ss es s [] o p = absurd o
product-one b ss es s (row ∷ rows) (inl r) p = OneOf-left (RowStands b (ss ++ s ∷ [])) (with_each row es) (product rows es) (with_each-one b ss row es s r p)
product-one b ss es s (row ∷ rows) (inr o) p = OneOf-right (RowStands b (ss ++ s ∷ [])) (with_each row es) (product rows es) (product-one b ss es s rows o p)

-- ---- one element after another

-- the last of several elements
FitEach-last : (defs : List SyntaxDef) (body : IlExp) (vs : List Value) (v : Value) (us : List Env) → FitEach defs body (vs ++ v ∷ []) us
    → (ss : List Env) × (s : Env) × (ss ++ s ∷ [] ≡ us) × FitEach defs body vs ss × Fits defs body v s
FitEach-last defs body [] v [] f = absurd f
FitEach-last defs body [] v (u ∷ []) f = ([], u, refl, tt, f.0)
FitEach-last defs body [] v (u ∷ w ∷ us) f = absurd f.1
FitEach-last defs body (x ∷ vs) v [] f = absurd f
FitEach-last defs body (x ∷ vs) v (u ∷ us) f =
    let r = FitEach-last defs body vs v us f.1 in
    (u ∷ r.0, r.1, ap (λ z. u ∷ z) r.2, (f.0, r.3), r.4)

abbrev no_names : Names
no_names x = false

blank_stands : (s e : Env) → e.entries ≡ [] → Stands s no_names e
blank_stands s e is = record {
  below = λ x v k. let bad : None ≡ Some v = sym (ap (lookup x) is) ∙ k in cc;
  has = λ x k. cc;
}

no_elements : (defs : List SyntaxDef) (body : IlExp) (b : Names) (us : List Env) → FitEach defs body [] us → RowStands b us []
no_elements defs body b [] f = tt
no_elements defs body b (u ∷ us) f = absurd f

pub AreRows-none : (body : IlExp) (vs : List Value) (rows : List (List Env)) → vs ≡ [] → rows ≡ [] ∷ [] → AreRows body vs rows
AreRows-none body vs rows none is = subst (λ z. AreRows body z rows) (sym none) (subst (AreRows body []) (sym is) (record { cover = λ defs us pat f. inl (no_elements defs body (bound body) us f) }))

-- one element more, where there are rows
pub RowsLead-found : (body : IlExp) (v : Value) (starts found : List Env) (before after : List (List Env)) → starts ≡ blank ∷ [] → AreCandidates body v starts found → after ≡ product before found → RowsLead body v before after
RowsLead-found body v starts found before after is c made = record {
  lead = λ vs r. record {
    cover = λ defs us pat f.
        let l = FitEach-last defs body vs v us f in
        let start : OneOf (Stands l.1 no_names) starts = subst (OneOf (Stands l.1 no_names)) (sym is) (inl (blank_stands l.1 blank refl)) in
        let one : OneOf (Stands l.1 (joined no_names (bound body))) found = (c.cover defs pat).covers l.1 no_names l.4 start in
        subst (λ z. OneOf (RowStands (bound body) z) after) l.2
        (subst (OneOf (RowStands (bound body) (l.0 ++ l.1 ∷ []))) (sym made) (product-one (bound body) l.0 found l.1 before (r.cover defs l.0 pat l.3) one));
  };
}

-- there are none where there are no rows of the elements before
pub RowsLead-none : (body : IlExp) (v : Value) (before after : List (List Env)) → before ≡ [] → RowsLead body v before after
RowsLead-none body v before after none = record {
  lead = λ vs r. record {
    cover = λ defs us pat f.
        let l = FitEach-last defs body vs v us f in
        absurd (subst (OneOf (RowStands (bound body) l.0)) none (r.cover defs l.0 pat l.3));
  };
}

pub AreRows-step : (body : IlExp) (vs : List Value) (i : ℕ) (v : Value) (before after : List (List Env)) → i < length vs → v ≡ get_or vs i v → RowsLead body v before after → AreRows body (take i vs) before
    → AreRows body (take (i + 1) vs) after
AreRows-step body vs i v before after h is l r =
    subst (λ z. AreRows body z after) (sym (take_more vs i v h ∙ ap (λ z. take i vs ++ z ∷ []) (sym is))) (l.lead (take i vs) r)

pub AreRows-end : (body : IlExp) (vs : List Value) (i : ℕ) (rows : List (List Env)) → length vs ≤ i → AreRows body (take i vs) rows → AreRows body vs rows
AreRows-end body vs i rows h r = subst (λ z. AreRows body z rows) (take_all i vs h) r

-- ---- rows by what is gathered

-- the elements of a list are those that it is gathered of
pub AreRowsOf-list : (k : Kind) (body : IlExp) (v : Value) (vs ws : List Value) (rows : List (List Env)) → k ≡ kind.List → v ≡ value.List vs → ws ≡ vs → AreRows body ws rows → AreRowsOf k body v rows
AreRowsOf-list k body v vs ws rows is at same r = record {
  cover = λ defs us xs pat sized f made.
      let whole : value.List xs ≡ v = limited_is (value.List xs) v (subst (λ z. gathered_as z xs ≡ Val v) is made) in
      let values : xs ≡ ws = List-parts xs vs (whole ∙ at) ∙ sym same in
      r.cover defs us pat (subst (λ z. FitEach defs body z us) values f);
}

pub AreRowsOf-no_list : (k : Kind) (body : IlExp) (v : Value) (rows : List (List Env)) → k ≡ kind.List → ((vs : List Value) → v ≡ value.List vs → ⊥) → AreRowsOf k body v rows
AreRowsOf-no_list k body v rows is not = record {
  cover = λ defs us xs pat sized f made. absurd (not xs (sym (limited_is (value.List xs) v (subst (λ z. gathered_as z xs ≡ Val v) is made))));
}

-- what an option is gathered of
abbrev Gathers : List Value → Value → Type 0
Gathers [] v = value.Opt None ≡ v
Gathers (x ∷ xs) v = value.Opt (Some x) ≡ v

gathers : (xs : List Value) (v : Value) → gathered_as kind.Opt xs ≡ Val v → Gathers xs v
gathers [] v e = limited_is (value.Opt None) v e
gathers (x ∷ xs) v e = limited_is (value.Opt (Some x)) v e

abbrev part_at : Value-F Value → List Value
part_at (Value-F.Opt part) = option_list part
part_at _ = []

pub AreRowsOf-option : (k : Kind) (body : IlExp) (v : Value) (part : Option Value) (rows : List (List Env)) → k ≡ kind.Opt → v ≡ value.Opt part → AreRows body (option_list part) rows
    → AreRowsOf k body v rows
AreRowsOf-option k body v part rows is at r = record {
  cover = λ defs us xs pat sized f made.
      go defs us xs pat (subst (λ z. IsSized z us) is sized) f (gathers xs v (subst (λ z. gathered_as z xs ≡ Val v) is made));
}
  where
    parts : (o : Option Value) → value.Opt o ≡ v → option_list o ≡ option_list part
    parts o e = let opened : Value-F.Opt o ≡ Value-F.Opt part = sym (value.outs-Opt o) ∙ (ap out-Value (e ∙ at) ∙ value.outs-Opt part) in ap part_at opened

    one : (defs : List SyntaxDef) (us : List Env) (x : Value) (xs : List Value) → length us ≤ 1 → FitEach defs body (x ∷ xs) us → FitEach defs body (x ∷ []) us
    one defs [] x xs few f = absurd f
    one defs (u ∷ []) x [] few f = f
    one defs (u ∷ []) x (y ∷ xs) few f = absurd f.1
    one defs (u ∷ w ∷ us) x xs few f = absurd (omega (arith, few))

    go : (defs : List SyntaxDef) (us : List Env) (xs : List Value) → is_pattern body ≡ true → length us ≤ 1 → FitEach defs body xs us → Gathers xs v → OneOf (RowStands (bound body) us) rows
    go defs us [] pat few f e = r.cover defs us pat (subst (λ z. FitEach defs body z us) (parts None e) f)
    go defs us (x ∷ xs) pat few f e = r.cover defs us pat (subst (λ z. FitEach defs body z us) (parts (Some x) e) (one defs us x xs few f))

pub AreRowsOf-no_option : (k : Kind) (body : IlExp) (v : Value) (rows : List (List Env)) → k ≡ kind.Opt → ((part : Option Value) → v ≡ value.Opt part → ⊥) → AreRowsOf k body v rows
AreRowsOf-no_option k body v rows is not = record {
  cover = λ defs us xs pat sized f made. absurd (no_part xs (gathers xs v (subst (λ z. gathered_as z xs ≡ Val v) is made)));
}
  where
    no_part : (xs : List Value) → Gathers xs v → ⊥
    no_part [] e = not None (sym e)
    no_part (x ∷ xs) e = not (Some x) (sym e)

-- the rows of an option that has a part or none
pub option_rows-some : (body : IlExp) (o : Option Value) (v : Value) (vs : List Value) (rows : List (List Env)) → o ≡ Some v → vs ≡ v ∷ [] → AreRows body vs rows → AreRows body (option_list o) rows
option_rows-some body o v vs rows is one r = subst (λ z. AreRows body z rows) (one ∙ sym (ap option_list is)) r

pub option_rows-none : (body : IlExp) (o : Option Value) (rows : List (List Env)) → o ≡ None → rows ≡ [] ∷ [] → AreRows body (option_list o) rows
option_rows-none body o rows is made = AreRows-none body (option_list o) rows (ap option_list is) made

-- an environment behind each row is the product with it alone
pub product-pushed : (rows : List (List Env)) (e : Env) → map (λ (row : List Env). row ++ e ∷ []) rows ≡ product rows (e ∷ [])
product-pushed [] e = refl
product-pushed (row ∷ rows) e = ap (λ z. (row ++ e ∷ []) ∷ z) (product-pushed rows e)

-- so it is with the only one of several
pub product-only : (rows longer : List (List Env)) (envs : List Env) (e : Env) → length envs ≡ 1 → e ≡ get_or envs 0 e → longer ≡ map (λ (row : List Env). row ++ e ∷ []) rows → longer ≡ product rows envs
product-only rows longer [] e one is made = absurd (omega (arith, one))
product-only rows longer (f ∷ []) e one is made = made ∙ (product-pushed rows e ∙ ap (λ z. product rows (z ∷ [])) is)
product-only rows longer (f ∷ g ∷ envs) e one is made = absurd (omega (arith, one))

-- ---- columns

first_parts : (o : Option Value) (more : Option (List Value)) (vs : List Value) → first_of o more ≡ Some vs → (w : Value) × (ws : List Value) × (o ≡ Some w) × (more ≡ Some ws) × (w ∷ ws ≡ vs)
first_parts None more vs e = cc
first_parts (Some w) None vs e = cc
first_parts (Some w) (Some ws) vs e = let same : w ∷ ws ≡ vs = cc in (w, ws, refl, refl, same)

-- the values in a row are those in the environments that it stands for
pub row_values-at : (x : Name) (b : Names) (us row : List Env) (vs : List Value) → RowStands b us row → row_values x row ≡ Some vs → ValuesAt x us vs
row_values-at x b [] [] [] r e = tt
row_values-at x b [] [] (v ∷ vs) r e = cc
row_values-at x b [] (f ∷ row) vs r e = absurd r
row_values-at x b (u ∷ us) [] vs r e = absurd r
row_values-at x b (u ∷ us) (f ∷ row) vs r e =
    let p = first_parts (value_in f x) (row_values x row) vs e in
    subst (ValuesAt x (u ∷ us)) p.4 (r.0.below x p.0 p.2, row_values-at x b us row p.1 r.1 p.3)

pub row_values-there : (x : Name) (b : Names) (us row : List Env) → b x ≡ true → RowStands b us row → are_there (row_values x row) ≡ true
row_values-there x b [] [] h r = refl
row_values-there x b [] (f ∷ row) h r = absurd r
row_values-there x b (u ∷ us) [] h r = absurd r
row_values-there x b (u ∷ us) (f ∷ row) h r = let k = r.0.has x h in front (value_in f x) (row_values x row) k.0 k.1 (row_values-there x b us row h r.1)
  where
    front : (o : Option Value) (more : Option (List Value)) (w : Value) → o ≡ Some w → are_there more ≡ true → are_there (first_of o more) ≡ true
    front None more w e k = cc
    front (Some v) None w e k = cc
    front (Some v) (Some vs) w e k = refl

option_column : (y : Value-F Value) (v : Value) (vs : List Value) → out-Value v ≡ y → option_at y ≡ Some vs → v ≡ column_value kind.Opt vs
option_column (Value-F.Opt None) v [] o e = same_out v (value.Opt None) (o ∙ sym (value.outs-Opt None))
option_column (Value-F.Opt None) v (z ∷ zs) o e = cc
option_column (Value-F.Opt (Some x)) v [] o e = cc
option_column (Value-F.Opt (Some x)) v (z ∷ zs) o e =
    let same : x ≡ z = cc in
    same_out v (value.Opt (Some z)) (o ∙ (ap (λ w. Value-F.Opt (Some w)) same ∙ sym (value.outs-Opt (Some z))))
option_column _ v vs o e = cc

-- a value with this column is what is gathered of it
pub column_value-is : (k : Kind) (o : Option Value) (vs : List Value) → column_of k o ≡ Some vs → o ≡ Some (column_value k vs)
column_value-is k None vs e = cc
column_value-is kind.List (Some v) vs e = ap Some (list_of_elements v vs e)
column_value-is kind.Opt (Some v) vs e = ap Some (option_column (out-Value v) v vs refl e)

-- ---- one column after another

name_last : (xs : List Name) (z y : Name) → has_name (xs ++ z ∷ []) y ≡ true → (has_name xs y ≡ true) ⊎ (bytes_eq y z ≡ true)
name_last xs z y h = elim (or-cases (has_name xs y) (has_name (z ∷ []) y) (sym (list_any-append (bytes_eq y) xs (z ∷ [])) ∙ h)) [
  | inl p ↦ inl p
  | inr p ↦ elim (or-cases (bytes_eq y z) false p) [ inl q ↦ inr q | inr q ↦ cc ]
]

name_more : (xs : List Name) (i : ℕ) (z y : Name) → i < length xs → z ≡ get_or xs i z → has_name (take (i + 1) xs) y ≡ true → (has_name (take i xs) y ≡ true) ⊎ (bytes_eq y z ≡ true)
name_more xs i z y h is k = name_last (take i xs) z y (subst (λ w. has_name w y ≡ true) (take_more xs i z h ∙ ap (λ w. take i xs ++ w ∷ []) (sym is)) k)

name_at : (xs : List Name) (i : ℕ) (d : Name) → i < length xs → has_name xs (get_or xs i d) ≡ true
name_at [] i d h = absurd (omega arith)
name_at (x ∷ xs) zero d h = or-left (bytes_eq x x) (has_name xs x) (bytes-same x)
name_at (x ∷ xs) (suc i) d h = or-right (bytes_eq (get_or xs i d) x) (has_name xs (get_or xs i d)) (name_at xs i d (omega arith))

both_true : (a b : Bool) → a ≡ true → b ≡ true → (a && b) ≡ true
both_true true b h k = k
both_true false b h k = cc

module _ (k : Kind) (index xs : List Name) (row : List Env) where
  abbrev Has : Env → Type 0
  Has s = HasColumns k index xs row s

  columns_none : (es fs : List Env) (i : ℕ) (x : Name) → i < length xs → x ≡ get_or xs i x → row_column index x row ≡ None
      → Covers Has (in_columns index (take i xs) row) es fs → Covers Has (in_columns index (take (i + 1) xs) row) es fs
  columns_none es fs i x h is nothing c =
      Covers-weaken Has Has (in_columns index (take i xs) row) (in_columns index (take (i + 1) xs) row) es fs (λ s f. f)
      (λ y m. let p = and-both (has_name (take (i + 1) xs) y) (are_there (row_column index y row)) m in
      elim (name_more xs i x y h is p.0) [
        | inl q ↦ both_true (has_name (take i xs) y) (are_there (row_column index y row)) q p.1
        | inr q ↦ (let bad : true ≡ false = sym p.1 ∙ (ap (λ z. are_there (row_column index z row)) (bytes-path y x q) ∙ ap are_there nothing) in cc)
      ]) c

  columns_some : (es fs gs : List Env) (i : ℕ) (x : Name) (vs : List Value) → i < length xs → x ≡ get_or xs i x → row_column index x row ≡ Some vs
      → Covers Has (in_columns index (take i xs) row) es fs → Covers (HasValue x (column_value k vs)) (has_name (x ∷ [])) fs gs → Covers Has (in_columns index (take (i + 1) xs) row) es gs
  columns_some es fs gs i x vs h is there p q =
      Covers-weaken (λ s. Has s × HasValue x (column_value k vs) s) Has (joined (in_columns index (take i xs) row) (has_name (x ∷ []))) (in_columns index (take (i + 1) xs) row) es gs
      (λ s f. (f, f.are x (subst (λ z. has_name xs z ≡ true) (sym is) (name_at xs i x h)) vs there))
      (λ y m. let r = and-both (has_name (take (i + 1) xs) y) (are_there (row_column index y row)) m in
      elim (name_more xs i x y h is r.0) [
        | inl a ↦ or-left (in_columns index (take i xs) row y) (has_name (x ∷ []) y) (both_true (has_name (take i xs) y) (are_there (row_column index y row)) a r.1)
        | inr a ↦ or-right (in_columns index (take i xs) row y) (has_name (x ∷ []) y) (or-left (bytes_eq y x) false a)
      ])
      (Covers-then Has (HasValue x (column_value k vs)) (in_columns index (take i xs) row) (has_name (x ∷ [])) es fs gs p q)

  pub columns_step : (es fs ds gs : List Env) (i : ℕ) (x : Name) → i < length xs → x ≡ get_or xs i x → ds ≡ fs
      → Covers Has (in_columns index (take i xs) row) es fs → ColumnCovers (row_column index x row) k x ds gs → Covers Has (in_columns index (take (i + 1) xs) row) es gs
  columns_step es fs ds gs i x h is same p q = at (row_column index x row) refl (subst (λ z. ColumnCovers (row_column index x row) k x z gs) same q)
    where
      at : (o : Option (List Value)) → row_column index x row ≡ o → ColumnCovers o k x fs gs → Covers Has (in_columns index (take (i + 1) xs) row) es gs
      at None e r = subst (Covers Has (in_columns index (take (i + 1) xs) row) es) (sym r) (columns_none es fs i x h is e p)
      at (Some vs) e r = columns_some es fs gs i x vs h is e p r

  pub columns_begin : (es fs : List Env) → fs ≡ es → Covers Has (in_columns index [] row) es fs
  columns_begin es fs is = subst (Covers Has (in_columns index [] row) es) (sym is) (Covers-same Has (in_columns index [] row) es (λ x h. cc))

  pub columns_end : (es fs : List Env) (i : ℕ) → length xs ≤ i → Covers Has (in_columns index (take i xs) row) es fs → Covers Has (in_columns index xs row) es fs
  columns_end es fs i h c = subst (λ z. Covers Has (in_columns index z row) es fs) (take_all i xs h) c

-- ---- one row after another

pub ColumnsCover-none : (how : Iteration) (xs : List Name) (env : Env) (found : List Env) → ColumnsCover how xs [] env found
ColumnsCover-none how xs env found = record { covers = λ s b n t o. absurd o }

pub ColumnsCover-step : (how : Iteration) (xs : List Name) (rows : List (List Env)) (env : Env) (found more after : List Env) (i : ℕ) (row a : List Env) → i < length rows → row ≡ get_or rows i row → a ≡ row
    → after ≡ found ++ more → ColumnsCover how xs (take i rows) env found
    → Covers (HasColumns (kind_of how) (index_of how) xs a) (in_columns (index_of how) xs a) (env ∷ []) more → ColumnsCover how xs (take (i + 1) rows) env after
ColumnsCover-step how xs rows env found more after i row a h is same made c d =
    subst (ColumnsCover how xs (take (i + 1) rows) env) (sym made)
    (subst (λ z. ColumnsCover how xs z env (found ++ more)) (sym (take_more rows i row h ∙ ap (λ z. take i rows ++ z ∷ []) (sym is)))
    (record {
      covers = λ s b n t o. elim (OneOf-cases _ (take i rows) (row ∷ []) o) [
        | inl q ↦ OneOf-left (Stands s (joined b n)) found more (c.covers s b n t q)
        | inr q ↦ elim q [
          | inl p ↦ OneOf-right (Stands s (joined b n)) found more (last s b n t p)
          | inr p ↦ absurd p
        ]
      ];
    }))
  where
    last : (s : Env) (b n : Names) → Stands s b env → HasColumns (kind_of how) (index_of how) xs row s × ((x : Name) → n x ≡ true → in_columns (index_of how) xs row x ≡ true) → OneOf (Stands s (joined b n)) more
    last s b n t p =
        let e : Covers (HasColumns (kind_of how) (index_of how) xs row) (in_columns (index_of how) xs row) (env ∷ []) more =
        subst (λ z. Covers (HasColumns (kind_of how) (index_of how) xs z) (in_columns (index_of how) xs z) (env ∷ []) more) same d in
        (Covers-weaken (HasColumns (kind_of how) (index_of how) xs row) (HasColumns (kind_of how) (index_of how) xs row) (in_columns (index_of how) xs row) n (env ∷ []) more (λ u f. f) p.1 e).covers s b p.0 (inl t)

pub ColumnsCover-end : (how : Iteration) (xs : List Name) (rows : List (List Env)) (env : Env) (found : List Env) (i : ℕ) → length rows ≤ i → ColumnsCover how xs (take i rows) env found → ColumnsCover how xs rows env found
ColumnsCover-end how xs rows env found i h c = subst (λ z. ColumnsCover how xs z env found) (take_all i rows h) c
