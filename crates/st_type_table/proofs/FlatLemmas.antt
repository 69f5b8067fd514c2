-- What alternatives bring, one after another.
use Rattle.std.proofs.Common.{◌≡◌, refl, sym, ap, ◌∙◌, subst, ℕ, zero, suc, ◌+◌, ◌<◌, ◌≤◌, List, [], ◌∷◌, ◌++◌, append_assoc, length, take, drop, get_or, drop-cons, add-one, Bool, true, false, Option, Some, None, arith, inl, inr}
use Rattle.std.specs.Prelude.{slice_get, MatchOption}
use Rattle.std.specs.Bool.{MatchBool}
use Rattle.std.specs.List.{flat_map}
use Rattle.std.specs.Borrow.{Bor}
use Rattle.std.specs.Option.{option_copied}
use Rattle.st_il.specs.declared.ty.Ty.{Ty, out-Ty, roll-Ty, roll-out-Ty}
use Rattle.st_il.specs.declared.ty.Ty.TheOpen.{Ty-F}
use Rattle.st_il.specs.declared.ty.Ty.TheVariants as ty
use Rattle.st_il.specs.declared.definition.SyntaxDef.{SyntaxDef}
use Rattle.st_il.specs.declared.definition.SyntaxBody.{SyntaxBody}
use Rattle.st_il.specs.declared.definition.SyntaxBody.TheVariants as body
use Rattle.st_il.specs.declared.definition.Alternative.{Alternative}
use Rattle.st_il.specs.declared.definition.Alternative.TheVariants as alternative
use Rattle.st_type_table.specs.declared.entry.CaseDef.{CaseDef}
use Rattle.st_type_table.specs.declared.flat.Flat.{Flat}
use Rattle.st_type_table.specs.Meaning.{Means, body_of, named, named_at, listed, aliased, alternatives_of}
use Rattle.st_type_table.specs.Cases.{Brings, Flatten, or_none}
use Rattle.st_type_table.specs.Leads.{Among, Ends, leads_from, included, names_in}
use Rattle.st_type_table.specs.inner.Graph.{position_of}
use Rattle.st_type_table.specs.Keys.{KeysDiffer}
use Rattle.st_type_table.specs.inner.CaseKeys.{IsKeyed}
use Rattle.st_type_table.specs.inner.Flat.{IsFlat, IsFlatAt, IsFlatOf, AllReady, IsBroken, AddsIncluded, AddsAlternative, Adds}
use Rattle.st_type_table.proofs.PositionLemmas.{placed, unplaced, names-Name}
use Rattle.st_type_table.proofs.KeyLemmas.{KeysDiffer-back}

-- ---- flattening, from the front

pub Flatten-append : (defs : List SyntaxDef) (as' bs : List Alternative) (xs ys : List CaseDef) → Flatten defs as' xs → Flatten defs bs ys → Flatten defs (as' ++ bs) (xs ++ ys)
Flatten-append defs [] bs xs ys (Flatten.none p) g = subst (λ z. Flatten defs bs (z ++ ys)) (sym p) g
Flatten-append defs (a ∷ as') bs xs ys (Flatten.more f r b s p) g =
    Flatten.more f (r ++ ys) b (Flatten-append defs as' bs r ys s g) (ap (λ z. z ++ ys) p ∙ append_assoc f r ys)

pub append_nil : {A : Type 0} (xs : List A) → xs ++ [] ≡ xs
append_nil [] = refl
append_nil (x ∷ xs) = ap (λ ys. x ∷ ys) (append_nil xs)

pub Flatten-one : (defs : List SyntaxDef) (a : Alternative) (xs : List CaseDef) → Brings defs a xs → Flatten defs (a ∷ []) xs
Flatten-one defs a xs b = Flatten.more xs [] b (Flatten.none refl) (sym (append_nil xs))

pub take-suc : {A : Type 0} (xs : List A) (i : ℕ) (x : A) → i < length xs → x ≡ get_or xs i x → take (suc i) xs ≡ take i xs ++ x ∷ []
take-suc [] i x h e = absurd (omega arith)
take-suc (y ∷ ys) zero x h e = ap (λ z. z ∷ []) (sym e)
take-suc (y ∷ ys) (suc i) x h e = ap (λ zs. y ∷ zs) (take-suc ys i x (omega arith) e)

pub read-get : {A : Type 0} (xs : List A) (i : ℕ) (x : A) → slice_get xs i ≡ Some x → x ≡ get_or xs i x
read-get [] i x e = cc
read-get (y ∷ ys) zero x e = cc
read-get (y ∷ ys) (suc i) x e = read-get ys i x e

pub take-step : {A : Type 0} (xs : List A) (i : ℕ) (x : A) → i < length xs → x ≡ get_or xs i x → take (i + 1) xs ≡ take i xs ++ x ∷ []
take-step xs i x h e = rw add-one (take-suc xs i x h e)

pub take-split : {A : Type 0} (xs : List A) (i : ℕ) → take i xs ++ drop i xs ≡ xs
take-split [] zero = refl
take-split [] (suc i) = refl
take-split (x ∷ xs) zero = refl
take-split (x ∷ xs) (suc i) = ap (λ ys. x ∷ ys) (take-split xs i)

pub drop-step : {A : Type 0} (xs : List A) (i : ℕ) (x : A) → i < length xs → x ≡ get_or xs i x → drop i xs ≡ x ∷ drop (i + 1) xs
drop-step xs i x h e = rw (add-one, drop-cons xs i x h) (ap (λ z. z ∷ drop (suc i) xs) (sym e))

pub within : {A : Type 0} (xs : List A) (i : ℕ) (x : A) → slice_get xs i ≡ Some x → i < length xs
within [] i x g = cc
within (y ∷ xs) zero x g = omega arith
within (y ∷ xs) (suc i) x g = let h = within xs i x g in omega (arith, h)

pub without : {A : Type 0} (xs : List A) (i : ℕ) → slice_get xs i ≡ None → length xs ≤ i
without [] i e = omega arith
without (x ∷ xs) zero e = cc
without (x ∷ xs) (suc i) e = let l = without xs i e in omega (arith, l)

-- ---- every list of alternatives whose ways end brings some cases

-- what a name means, and its cases
pub record Known (defs : List SyntaxDef) (t : Ty) : Type 0 where
  pub meaning : Ty
  pub means : Means defs t meaning
  pub cases : List CaseDef
  pub flattened : Flatten defs (or_none (alternatives_of defs meaning)) cases

module _ (defs : List SyntaxDef) where
  -- all that these alternatives include is known
  abbrev pub AllKnown : List Alternative → Type 0
  AllKnown as' = (name : List ℕ) → Among (flat_map included as') name → Known defs (ty.Name name)

  pub Flatten-known : (as' : List Alternative) → AllKnown as' → (cases : List CaseDef) × Flatten defs as' cases
  Flatten-known [] known = ([], Flatten.none refl)
  Flatten-known (alternative.Case tag operands ∷ as') known =
      let r = Flatten-known as' known in
      (_, Flatten.more _ r.0 (Brings.own tag operands refl refl) r.1 refl)
  Flatten-known (alternative.Incl name ∷ as') known =
      let k = known name (inl refl) in
      let r = Flatten-known as' (λ n a. known n (inr a)) in
      (_, Flatten.more k.cases r.0 (Brings.included name k.meaning refl k.means k.flattened) r.1 refl)

  known_plain : (t : Ty) → named defs t ≡ None → Known defs t
  known_plain t e = record {
    meaning = t;
    means = Means.itself (ap aliased e) refl;
    cases = [];
    flattened = subst (λ o. Flatten defs (or_none o) []) (sym (ap listed e)) (Flatten.none refl);
  }

  known_type : (t : Ty) (l : Ty-F Ty) → out-Ty t ≡ l → ((y : List ℕ) → t ≡ ty.Name y → Known defs (ty.Name y)) → Known defs t
  known_type t (Ty-F.Name y) e next = let q : t ≡ ty.Name y = sym (roll-out-Ty t) ∙ ap roll-Ty e ∙ ty.rolls-Name y in subst (Known defs) (sym q) (next y q)
  known_type t Ty-F.Bool e next = known_plain t (ap (named_at defs) e)
  known_type t Ty-F.Nat e next = known_plain t (ap (named_at defs) e)
  known_type t Ty-F.Int e next = known_plain t (ap (named_at defs) e)
  known_type t Ty-F.Text e next = known_plain t (ap (named_at defs) e)
  known_type t (Ty-F.List x) e next = known_plain t (ap (named_at defs) e)
  known_type t (Ty-F.Opt x) e next = known_plain t (ap (named_at defs) e)
  known_type t (Ty-F.Tuple xs) e next = known_plain t (ap (named_at defs) e)

  pub name-level : (name : List ℕ) → named defs (ty.Name name) ≡ body_of defs name
  name-level name = ap (named_at defs) (ty.outs-Name name)

  known_body : (name : List ℕ) (o : Option SyntaxBody) → body_of defs name ≡ o → ((y : List ℕ) → Among (leads_from o) y → Known defs (ty.Name y)) → Known defs (ty.Name name)
  known_body name None e next = known_plain (ty.Name name) (name-level name ∙ e)
  known_body name (Some (body.Alias s)) e next =
      let k = known_type s (out-Ty s) refl (λ y q. next y (subst (λ z. Among (names_in z) y) (sym q) (subst (λ ns. Among ns y) (sym (names-Name defs y)) (inl refl)))) in
      record { meaning = k.meaning; means = Means.alias s (ap aliased (name-level name ∙ e)) k.means; cases = k.cases; flattened = k.flattened }
  known_body name (Some (body.Variant as')) e next =
      let f = Flatten-known as' next in
      record {
        meaning = ty.Name name;
        means = Means.itself (ap aliased (name-level name ∙ e)) refl;
        cases = f.0;
        flattened = subst (λ o. Flatten defs (or_none o) f.0) (sym (ap listed (name-level name ∙ e))) f.1;
      }
  known_body name (Some (body.Fields fs)) e next =
      record {
        meaning = ty.Name name;
        means = Means.itself (ap aliased (name-level name ∙ e)) refl;
        cases = [];
        flattened = subst (λ o. Flatten defs (or_none o) []) (sym (ap listed (name-level name ∙ e))) (Flatten.none refl);
      }

  pub Ends-known : (x : List ℕ) → Ends defs x → Known defs (ty.Name x)
  Ends-known x (Ends.ends all) = known_body x (body_of defs x) refl (λ y a. Ends-known y (all y a))

  pub ready_known : (flats : List Flat) (as' : List Alternative) → AllReady defs flats as' → (name : List ℕ) → Among (flat_map included as') name → Known defs (ty.Name name)
  ready_known flats [] ready name a = absurd a
  ready_known flats (alternative.Case tag operands ∷ as') ready name a = ready_known flats as' ready.1 name a
  ready_known flats (alternative.Incl y ∷ as') ready name (inl e) = subst (λ z. Known defs (ty.Name z)) (sym e) (Ends-known y (ready.0 y refl).0)
  ready_known flats (alternative.Incl y ∷ as') ready name (inr a) = ready_known flats as' ready.1 name a

  -- the cases so far with those of the next
  pub grown : (as' : List Alternative) (i : ℕ) (a : Alternative) (xs more ys : List CaseDef) → i < length as' → a ≡ get_or as' i a
      → Flatten defs (take i as') xs → Brings defs a more → ys ≡ xs ++ more → Flatten defs (take (i + 1) as') ys
  grown as' i a xs more ys h e f b q =
      subst (Flatten defs (take (i + 1) as')) (sym q) (subst (λ z. Flatten defs z (xs ++ more)) (sym (take-step as' i a h e)) (Flatten-append defs (take i as') (a ∷ []) xs more f (Flatten-one defs a more b)))

  -- ---- one alternative

  pub adds-own : (before after : List CaseDef) (a : Alternative) (tag : List ℕ) (operands : List Ty) (added : Bool) → a ≡ alternative.Case tag operands
      → Adds before after (record { tag = tag; operands = operands } ∷ []) added → AddsAlternative defs before after a added
  adds-own before after a tag operands true e h = (record { tag = tag; operands = operands } ∷ [], (Brings.own tag operands e refl, h))
  adds-own before after a tag operands false e h = (record { tag = tag; operands = operands } ∷ [], (Brings.own tag operands e refl, h))

  pub adds-included : (before after : List CaseDef) (a : Alternative) (name : List ℕ) (t : Ty) (f : Flat) (added : Bool) → a ≡ alternative.Incl name → Means defs (ty.Name name) t
      → IsFlat defs (or_none (alternatives_of defs t)) f → AddsIncluded before after f added → AddsAlternative defs before after a added
  adds-included before after a name t f added e m flat h = by f.whole refl flat added h
    where
      by : (w : Bool) → f.whole ≡ w → MatchBool w (Flatten defs (or_none (alternatives_of defs t)) f.cases.items × IsKeyed f.cases) (IsBroken defs (or_none (alternatives_of defs t)))
          → (added : Bool) → AddsIncluded before after f added → AddsAlternative defs before after a added
      by true w flat true h = (f.cases.items, (Brings.included name t e m flat.0, h.1))
      by true w flat false (inl z) = let c : true ≡ false = sym w ∙ z in cc
      by true w flat false (inr clash) = (f.cases.items, (Brings.included name t e m flat.0, clash))
      by false w flat true h = let c : true ≡ false = sym h.0 ∙ w in cc
      by false w flat false h = (flat.0, (Brings.included name t e m flat.1.0, λ k. flat.1.1 (KeysDiffer-back before flat.0 k)))

  -- all cases that are kept have different keys, with an index of them
  pub whole-keyed : (alternatives : List Alternative) (f : Flat) → IsFlat defs alternatives f → f.whole ≡ true → IsKeyed f.cases
  whole-keyed alternatives f flat e = (subst (λ w. MatchBool w (Flatten defs alternatives f.cases.items × IsKeyed f.cases) (IsBroken defs alternatives)) e flat).1

  pub adds-nothing : (before : List CaseDef) (a : Alternative) (name : List ℕ) (t : Ty) → a ≡ alternative.Incl name → Means defs (ty.Name name) t
      → alternatives_of defs t ≡ None → KeysDiffer before → AddsAlternative defs before before a true
  adds-nothing before a name t e m z k =
      ([], (Brings.included name t e m (subst (λ o. Flatten defs (or_none o) []) (sym z) (Flatten.none refl)), (sym (append_nil before), k)))

  -- the flat at the position of a name
  pub flat-found : (flats : List Flat) (t u : Ty) (name : List ℕ) (position : ℕ) (found : Option (Bor Flat)) → length flats ≡ length defs → IsFlatAt defs flats t → Means defs t u
      → u ≡ ty.Name name → position_of defs name ≡ Some position → option_copied found ≡ slice_get flats position → IsFlatOf defs t found
  flat-found flats t u name position found size known m q p e = (u, (m, by found e))
    where
      by : (found : Option (Bor Flat)) → option_copied found ≡ slice_get flats position → MatchOption found (alternatives_of defs u ≡ None) (λ f. IsFlat defs (or_none (alternatives_of defs u)) f.now)
      by (Some f) e =
          let r = placed defs name position p in
          let at : alternatives_of defs u ≡ listed (Some r.definition.body) = ap (alternatives_of defs) q ∙ ap listed (name-level name ∙ r.body_is) in
          subst (λ o. IsFlat defs (or_none o) f.now) (sym at) (known name position r.definition f.now (subst (Means defs t) q m) p r.there (sym e))
      by None e = let r = placed defs name position p in absurd (lost r.definition r.there)
        where
          lost : (d : SyntaxDef) → slice_get defs position ≡ Some d → ⊥
          lost d g =
              let h = within defs position d g in
              let l = without flats position (sym e) in
              absurd (omega (arith, h, l, size))

  -- a name without a position, or a type that is no name, has no alternatives
  pub flat-unplaced : (t u : Ty) (name : List ℕ) → Means defs t u → u ≡ ty.Name name → position_of defs name ≡ None → IsFlatOf defs t None
  flat-unplaced t u name m q p = (u, (m, ap (alternatives_of defs) q ∙ ap listed (name-level name ∙ unplaced defs name p)))

  pub flat-none : (t u : Ty) (l : Ty-F Ty) → Means defs t u → out-Ty u ≡ l → listed (named_at defs l) ≡ None → IsFlatOf defs t None
  flat-none t u l m q e = (u, (m, ap (λ z. listed (named_at defs z)) q ∙ e))
