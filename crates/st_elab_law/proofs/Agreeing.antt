-- Erasure finds the fields of a record through its aliases.
use Rattle.std.proofs.Common.{◌≡◌, refl, sym, ◌∙◌, ap, subst, ℕ, zero, suc, ◌≤◌, arith, List, [], ◌∷◌, map, length, Bool, true, false, inl, inr}
use Rattle.std.proofs.lemmas.List.{length-map}
use Rattle.std.specs.Prelude.{Option, Some, None, ◌⊎◌, if◌then◌else◌, nat_eq}
use Rattle.std.specs.Cmp.Lexicographic.{pointwise}
use Rattle.std.proofs.lemmas.Slice.Eq.{bytes_eq-Decides}
use Rattle.st_il.specs.declared.ty.Ty.{Ty, out-Ty, roll-Ty, roll-out-Ty}
use Rattle.st_il.specs.declared.ty.Ty.TheOpen.{Ty-F}
use Rattle.st_il.specs.declared.ty.Ty.TheVariants as ty
use Rattle.st_il.specs.declared.definition.IlDef.{IlDef}
use Rattle.st_il.specs.declared.definition.IlDef.TheVariants as def
use Rattle.st_il.specs.declared.definition.SyntaxDef.{SyntaxDef}
use Rattle.st_il.specs.declared.definition.SyntaxBody.{SyntaxBody}
use Rattle.st_il.specs.declared.definition.SyntaxBody.TheVariants as body
use Rattle.st_type_table.specs.Meaning.{body_of, named_at, named, aliased, recorded, alias_of, fields_of, Means, itself, alias}
use Rattle.st_erase.specs.Records.{next_name, on_by, fields_by, body_of as written_of, fields_of as names_of}
use Rattle.st_elab_table.specs.declared.decls.Decls.{Decls}
use Rattle.st_elab_table.specs.Records.{field_names}
use Rattle.st_elab_law.specs.Agreement.{syntaxes, IsTableOf}

-- ---- at most as many different names as there are names

abbrev Among : List ℕ → List (List ℕ) → Type 0
Among q [] = ⊥
Among q (x ∷ xs) = (q ≡ x) ⊎ Among q xs

abbrev Distinct : List (List ℕ) → Type 0
Distinct [] = Unit {0}
Distinct (x ∷ xs) = (Among x xs → ⊥) × Distinct xs

record Removed (q : List ℕ) (ys : List (List ℕ)) : Type 0 where
  pub rest : List (List ℕ)
  pub fewer : length ys ≡ suc (length rest)
  pub keeps : (r : List ℕ) → (r ≡ q → ⊥) → Among r ys → Among r rest

remove : (q : List ℕ) (ys : List (List ℕ)) → Among q ys → Removed q ys
remove q [] a = absurd a
remove q (y ∷ ys) (inl e) = record { rest = ys; fewer = refl; keeps = λ r n a. by r n a }
  where
    by : (r : List ℕ) → (r ≡ q → ⊥) → (r ≡ y) ⊎ Among r ys → Among r ys
    by r n (inl f) = absurd (n (f ∙ sym e))
    by r n (inr b) = b
remove q (y ∷ ys) (inr a) =
    let rec = remove q ys a in
    record { rest = y ∷ rec.rest; fewer = ap suc rec.fewer; keeps = λ r n b. by rec r n b }
  where
    by : (rec : Removed q ys) (r : List ℕ) → (r ≡ q → ⊥) → (r ≡ y) ⊎ Among r ys → (r ≡ y) ⊎ Among r rec.rest
    by rec r n (inl f) = inl f
    by rec r n (inr b) = inr (rec.keeps r n b)

at_most : (xs ys : List (List ℕ)) → Distinct xs → ((q : List ℕ) → Among q xs → Among q ys) → length xs ≤ length ys
at_most [] ys d h = omega arith
at_most (x ∷ xs) ys d h =
    let one = remove x ys (h x (inl refl)) in
    let others : length xs ≤ length one.rest = at_most xs one.rest d.1 (λ q a. one.keeps q (λ e. d.0 (subst (λ z. Among z xs) e a)) (h q (inr a))) in
    let fewer : length ys ≡ suc (length one.rest) = one.fewer in
    omega (arith, others, fewer)

-- ---- names of types

abbrev name_in : Ty-F Ty → List ℕ
name_in (Ty-F.Name name) = name
name_in y = []

abbrev name_of : Ty → List ℕ
name_of t = name_in (out-Ty t)

aliased_some : (o : Option SyntaxBody) (w : Ty) → aliased o ≡ Some w → o ≡ Some (body.Alias w)
aliased_some None w h = absurd (cc)
aliased_some (Some (body.Alias t)) w h = let same : t ≡ w = cc in ap (λ z. Some (body.Alias z)) same
aliased_some (Some (body.Variant xs)) w h = absurd (cc)
aliased_some (Some (body.Fields xs)) w h = absurd (cc)

recorded_some : (o : Option SyntaxBody) (fs : List (List ℕ × Ty)) → recorded o ≡ Some fs → o ≡ Some (body.Fields fs)
recorded_some None fs h = absurd (cc)
recorded_some (Some (body.Alias t)) fs h = absurd (cc)
recorded_some (Some (body.Variant xs)) fs h = absurd (cc)
recorded_some (Some (body.Fields xs)) fs h = let same : xs ≡ fs = cc in ap (λ z. Some (body.Fields z)) same

module _ (defs : List SyntaxDef) where
  -- a type that names a body is a name
  is_named : (t : Ty) (b : SyntaxBody) → named defs t ≡ Some b → (t ≡ ty.Name (name_of t)) × (body_of defs (name_of t) ≡ Some b)
  is_named t b h = by (out-Ty t) refl h
    where
      by : (y : Ty-F Ty) → out-Ty t ≡ y → named_at defs y ≡ Some b → (t ≡ ty.Name (name_in y)) × (body_of defs (name_in y) ≡ Some b)
      by (Ty-F.Name name) o k = (sym (roll-out-Ty t) ∙ ap roll-Ty o ∙ ty.rolls-Name name, k)
      by Ty-F.Bool o k = absurd (cc)
      by Ty-F.Nat o k = absurd (cc)
      by Ty-F.Int o k = absurd (cc)
      by Ty-F.Text o k = absurd (cc)
      by (Ty-F.List x) o k = absurd (cc)
      by (Ty-F.Opt x) o k = absurd (cc)
      by (Ty-F.Tuple xs) o k = absurd (cc)

  of_alias : (t w : Ty) → alias_of defs t ≡ Some w → (t ≡ ty.Name (name_of t)) × (body_of defs (name_of t) ≡ Some (body.Alias w))
  of_alias t w h = is_named t (body.Alias w) (aliased_some (named defs t) w h)

  of_record : (t : Ty) (fs : List (List ℕ × Ty)) → fields_of defs t ≡ Some fs → (t ≡ ty.Name (name_of t)) × (body_of defs (name_of t) ≡ Some (body.Fields fs))
  of_record t fs h = is_named t (body.Fields fs) (recorded_some (named defs t) fs h)

  -- ---- the names that lead to a record

  abbrev chain : (t u : Ty) → Means defs t u → List (List ℕ)
  chain t u (itself p q) = name_of t ∷ []
  chain t u (alias w p m) = name_of t ∷ chain w u m

  chain_long : (t s u : Ty) (m : Means defs t u) (n : Means defs s u) → t ≡ s → length (chain t u m) ≡ length (chain s u n)
  chain_long t s u (itself p q) (itself r k) e = refl
  chain_long t s u (itself p q) (alias x r n) e = absurd (cc)
  chain_long t s u (alias w p m) (itself r k) e = absurd (cc)
  chain_long t s u (alias w p m) (alias x r n) e =
      let same : w ≡ x = cc in
      ap suc (chain_long w x u m n same)

  module _ (u : Ty) (fs : List (List ℕ × Ty)) (has : fields_of defs u ≡ Some fs) where
    first_named : (t : Ty) → Means defs t u → t ≡ ty.Name (name_of t)
    first_named t (itself p q) = (of_record t fs (ap (fields_of defs) q ∙ has)).0
    first_named t (alias w p m) = (of_alias t w p).0

    -- the chain from a name in the chain is no longer
    from_first : (t : Ty) (m : Means defs t u) (q : List ℕ) → q ≡ name_of t → (n : Means defs (ty.Name q) u) × (length (chain (ty.Name q) u n) ≤ length (chain t u m))
    from_first t m q e =
        let same : t ≡ ty.Name q = first_named t m ∙ ap ty.Name (sym e) in
        let n : Means defs (ty.Name q) u = subst (λ z. Means defs z u) same m in
        let long : length (chain (ty.Name q) u n) ≡ length (chain t u m) = chain_long (ty.Name q) t u n m (sym same) in
        (n, omega (arith, long))

    visit : (t : Ty) (m : Means defs t u) (q : List ℕ) → Among q (chain t u m) → (n : Means defs (ty.Name q) u) × (length (chain (ty.Name q) u n) ≤ length (chain t u m))
    visit t (itself p e) q (inl a) = from_first t (itself p e) q a
    visit t (itself p e) q (inr a) = absurd a
    visit t (alias w p m) q (inl a) = from_first t (alias w p m) q a
    visit t (alias w p m) q (inr a) =
        let found = visit w m q a in
        let short : length (chain (ty.Name q) u found.0) ≤ length (chain w u m) = found.1 in
        (found.0, omega (arith, short))

    distinct : (t : Ty) (m : Means defs t u) → Distinct (chain t u m)
    distinct t (itself p e) = ((λ a. a), tt)
    distinct t (alias w p m) = ((λ a. again a), distinct w m)
      where
        again : Among (name_of t) (chain w u m) → ⊥
        again a =
            let found = visit w m (name_of t) a in
            let short : length (chain (ty.Name (name_of t)) u found.0) ≤ length (chain w u m) = found.1 in
            let long : suc (length (chain w u m)) ≡ length (chain (ty.Name (name_of t)) u found.0) =
            chain_long t (ty.Name (name_of t)) u (alias w p m) found.0 (first_named t (alias w p m)) in
            absurd (omega (arith, short, long))

    -- ---- all of them are defined

    abbrev own_name : SyntaxDef → List ℕ
    own_name d = d.name

    defined : (ds : List SyntaxDef) (q : List ℕ) (b : SyntaxBody) → body_of ds q ≡ Some b → Among q (map own_name ds)
    defined [] q b h = absurd (cc)
    defined (d ∷ ds) q b h = by (pointwise nat_eq q d.name) refl h (defined ds q b)
      where
        by : (c : Bool) → pointwise nat_eq q d.name ≡ c → (if c then Some d.body else body_of ds q) ≡ Some b → (body_of ds q ≡ Some b → Among q (map own_name ds)) → (q ≡ d.name) ⊎ Among q (map own_name ds)
        by true e k later = inl ((bytes_eq-Decides q d.name).0 e)
        by false e k later = inr (later k)

    first_defined : (q : List ℕ) → Means defs (ty.Name q) u → Among q (map own_name defs)
    first_defined q m = by m
      where
        same : name_of (ty.Name q) ≡ q
        same = ap name_in (ty.outs-Name q)

        by : Means defs (ty.Name q) u → Among q (map own_name defs)
        by (itself p e) = defined defs q _ (ap (body_of defs) (sym same) ∙ (of_record (ty.Name q) fs (ap (fields_of defs) e ∙ has)).1)
        by (alias w p m) = defined defs q _ (ap (body_of defs) (sym same) ∙ (of_alias (ty.Name q) w p).1)

    chain_short : (t : Ty) (m : Means defs t u) → length (chain t u m) ≤ length defs
    chain_short t m =
        let few : length (chain t u m) ≤ length (map own_name defs) = at_most (chain t u m) (map own_name defs) (distinct t m) (λ q a. first_defined q (visit t m q a).0) in
        let same : length (map own_name defs) ≡ length defs = length-map defs own_name in
        omega (arith, few, same)

    -- ---- erasure goes along the chain

    module _ (ds : List IlDef) (of : defs ≡ syntaxes ds) where
      written : (q : List ℕ) (es : List IlDef) → written_of q es ≡ body_of (syntaxes es) q
      written q [] = refl
      written q (def.Syntax s ∷ es) = ap (λ z. if pointwise nat_eq q s.name then Some s.body else z) (written q es)
      written q (def.Var x t ∷ es) = written q es
      written q (def.Relation r ∷ es) = written q es
      written q (def.Rule r ∷ es) = written q es
      written q (def.Fun f ∷ es) = written q es
      written q (def.Clause c ∷ es) = written q es

      looked_up : (q : List ℕ) (b : SyntaxBody) → body_of defs q ≡ Some b → written_of q ds ≡ Some b
      looked_up q b h = written q ds ∙ ap (λ z. body_of z q) (sym of) ∙ h

      along : (n : ℕ) (t : Ty) (m : Means defs t u) → length (chain t u m) ≤ n → names_of n ds (name_of t) ≡ field_names fs
      along zero t (itself p e) l = absurd (omega (arith, l))
      along zero t (alias w p m) l = absurd (omega (arith, l))
      along (suc n) t (itself p e) l =
          ap (fields_by (names_of n ds)) (looked_up (name_of t) (body.Fields fs) (of_record t fs (ap (fields_of defs) e ∙ has)).1)
      along (suc n) t (alias w p m) l =
          let less : length (chain w u m) ≤ n = omega (arith, l) in
          ap (fields_by (names_of n ds)) (looked_up (name_of t) (body.Alias w) (of_alias t w p).1)
          ∙ ap (λ z. on_by (names_of n ds) (next_name z)) (ap out-Ty (first_named w m) ∙ ty.outs-Name (name_of w))
          ∙ along n w m less

few_syntaxes : (ds : List IlDef) → length (syntaxes ds) ≤ length ds
few_syntaxes [] = omega arith
few_syntaxes (def.Syntax s ∷ es) = let rec : length (syntaxes es) ≤ length es = few_syntaxes es in omega (arith, rec)
few_syntaxes (def.Var x t ∷ es) = let rec : length (syntaxes es) ≤ length es = few_syntaxes es in omega (arith, rec)
few_syntaxes (def.Relation r ∷ es) = let rec : length (syntaxes es) ≤ length es = few_syntaxes es in omega (arith, rec)
few_syntaxes (def.Rule r ∷ es) = let rec : length (syntaxes es) ≤ length es = few_syntaxes es in omega (arith, rec)
few_syntaxes (def.Fun f ∷ es) = let rec : length (syntaxes es) ≤ length es = few_syntaxes es in omega (arith, rec)
few_syntaxes (def.Clause c ∷ es) = let rec : length (syntaxes es) ≤ length es = few_syntaxes es in omega (arith, rec)

-- the fields of a record are found from each name that leads to it
pub knows_fields : (ds : List IlDef) (D : Decls) → IsTableOf ds D → (name : List ℕ) (u : Ty) (fs : List (List ℕ × Ty)) → Means D.types (ty.Name name) u → fields_of D.types u ≡ Some fs
    → names_of (length ds) ds name ≡ field_names fs
knows_fields ds D of name u fs means has =
    let short : length (chain D.types (ty.Name name) u means) ≤ length D.types = chain_short D.types u fs has (ty.Name name) means in
    let same : length D.types ≡ length (syntaxes ds) = ap length of in
    let few : length (syntaxes ds) ≤ length ds = few_syntaxes ds in
    let enough : length (chain D.types (ty.Name name) u means) ≤ length ds = omega (arith, short, same, few) in
    ap (names_of (length ds) ds) (sym (ap name_in (ty.outs-Name name))) ∙ along D.types u fs has ds of (length ds) (ty.Name name) means enough
