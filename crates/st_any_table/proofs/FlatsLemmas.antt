-- The cases of definitions by their numbers: how they are found, and that all that there are are found.
use Rattle.std.proofs.Common.{◌≡◌, ◌≢◌, ◌↔◌, refl, sym, ap, ◌∙◌, subst, ℕ, zero, suc, ◌+◌, ◌<◌, ◌≤◌, List, [], ◌∷◌, ◌++◌, append_assoc, add-one, take, drop, drop-cons, get_or, length, length-append, set, replicate, true≢false, Bool, true, false, Option, Some, None, arith, inl, inr, ◌⊎◌}
use Rattle.std.specs.Prelude.{IsTrue, ◌||◌, is_some, slice_get, MatchOption}
use Rattle.std.specs.Borrow.{Bor}
use Rattle.std.specs.Option.{option_copied}
use Rattle.std.proofs.Math.Seq.{take-suc}
use Rattle.std.specs.List.{flat_map}
use Rattle.std.proofs.lemmas.List.{append-nil, length-set, take-append-drop}
use Rattle.std.proofs.lemmas.Grind.{flat_map-append}
use Rattle.std.proofs.lemmas.Option.{slice_get_within}
use Rattle.st_il.specs.declared.ty.Ty.{Ty, out-Ty, roll-Ty, roll-out-Ty}
use Rattle.st_il.specs.declared.ty.Ty.TheOpen.{Ty-F}
use Rattle.st_il.specs.declared.ty.Ty.TheVariants as ty
use Rattle.st_il.specs.declared.definition.SyntaxDef.{SyntaxDef}
use Rattle.st_il.specs.declared.definition.SyntaxBody.{SyntaxBody}
use Rattle.st_il.specs.declared.definition.SyntaxBody.TheVariants as body
use Rattle.st_il.specs.declared.definition.Alternative.{Alternative}
use Rattle.st_il.specs.declared.definition.Alternative.TheVariants as alternative
use Rattle.st_type_table.specs.declared.entry.CaseDef.{CaseDef}
use Rattle.st_type_table.specs.Meaning.{Means, body_of, named_at, alias_of, aliased, alternatives_of, listed}
use Rattle.st_type_table.specs.Cases.{Brings, Flatten, HasCases, or_none}
use Rattle.st_type_table.specs.Leads.{Among, included}
use Rattle.st_type_table.specs.inner.Graph.{IsOne, position_of}
use Rattle.st_type_table.proofs.MeansLemmas.{Means-single}
use Rattle.st_type_table.proofs.GraphLemmas.{same_position}
use Rattle.st_type_table.proofs.RankLemmas.{set-other, set-same}
use Rattle.st_type_table.proofs.SearchLemmas.{take-whole}
use Rattle.st_type_table.proofs.PositionLemmas.{placed, unplaced, is_alias, split_one, one-left}
use Rattle.st_any_table.specs.inner.Flats.{Alike, one_case, cases_at, AreWithin, IsAdding, Grows, source_at, sources, IsFlat, Flats, known_at, flat_at, flat_of_position, where_listed, AreFlats, IsKnown, AllKnown, IsFilled, AreFilled, unknown, left, Fills, IsFillPass, IsFlatHere, NoFlatHere, HasFlat}
use Rattle.st_any_table.proofs.AlikeLemmas.{Alike-refl, Alike-trans, Alike-both, cases-append, cases-front, cases-grow, get-seam}

-- ---- growing lists of cases

pub Grows-refl : (cases : List CaseDef) → Grows cases cases
Grows-refl cases = ([], sym (append-nil cases))

pub Grows-trans : (a b c : List CaseDef) → Grows a b → Grows b c → Grows a c
Grows-trans a b c (m, e) (n, f) = (m ++ n, f ∙ ap (λ z. z ++ n) e ∙ append_assoc a m n)

Grows-longer : (a b : List CaseDef) → Grows a b → length a ≤ length b
Grows-longer a b (m, e) = let l = ap length e ∙ length-append a m in omega (arith, l)

slice_get_past-not : {A : Type 0} (xs : List A) (i : ℕ) → i < length xs → slice_get xs i ≡ None → ⊥
slice_get_past-not [] i h e = omega (arith, h)
slice_get_past-not (x ∷ xs) zero h e = cc
slice_get_past-not (x ∷ xs) (suc i) h e = slice_get_past-not xs i (omega (arith, h)) e

module _ (defs : List SyntaxDef) where
  pub IsFlat-grow : (cases cases' : List CaseDef) (ns : List ℕ) (as' : List Alternative) → Grows cases cases' → IsFlat defs cases ns as' → IsFlat defs cases' ns as'
  IsFlat-grow cases cases' ns as' g f = record {
    whole = f.whole;
    flattened = f.flattened;
    alike = subst (λ z. Alike z f.whole) (sym (cases-grow cases cases' ns f.within g)) f.alike;
    within = λ n m. let a = f.within n m in let b = Grows-longer cases cases' g in omega (arith, a, b);
  }

  pub AreFlats-grow : (flats : Flats) (cases cases' : List CaseDef) → Grows cases cases' → AreFlats defs flats cases → AreFlats defs flats cases'
  AreFlats-grow flats cases cases' g f = record { size = f.size; right = λ i d ns a b. IsFlat-grow cases cases' ns (sources d.body) g (f.right i d ns a b) }

  -- ---- alternatives one by one

  Flatten-append : (as' bs : List Alternative) (cs ds : List CaseDef) → Flatten defs as' cs → Flatten defs bs ds → Flatten defs (as' ++ bs) (cs ++ ds)
  Flatten-append [] bs cs ds (Flatten.none e) g = subst (λ z. Flatten defs bs (z ++ ds)) (sym e) g
  Flatten-append (a ∷ as') bs cs ds (Flatten.more first rest b f e) g =
      Flatten.more first (rest ++ ds) b (Flatten-append as' bs rest ds f g) (ap (λ z. z ++ ds) e ∙ append_assoc first rest ds)

  Flatten-one : (a : Alternative) (cs : List CaseDef) → Brings defs a cs → Flatten defs (a ∷ []) cs
  Flatten-one a cs b = Flatten.more cs [] b (Flatten.none refl) (sym (append-nil cs))

  pub IsFlat-start : (cases : List CaseDef) → IsFlat defs cases [] []
  IsFlat-start cases = record { whole = []; flattened = Flatten.none refl; alike = Alike-refl []; within = λ n m. absurd m }

  -- the case of an alternative at the end of all
  pub IsFlat-case : (cases cases' : List CaseDef) (ns ns' : List ℕ) (done : List Alternative) (tag : List ℕ) (operands : List Ty) → cases' ≡ cases ++ record { tag = tag; operands = operands } ∷ []
      → ns' ≡ ns ++ length cases ∷ [] → IsFlat defs cases ns done → IsFlat defs cases' ns' (done ++ alternative.Case tag operands ∷ [])
  IsFlat-case cases cases' ns ns' done tag operands e q f = subst (λ z. IsFlat defs z ns' (done ++ alternative.Case tag operands ∷ [])) (sym e)
      (subst (λ z. IsFlat defs (cases ++ case ∷ []) z (done ++ alternative.Case tag operands ∷ [])) (sym q) (record {
        whole = f.whole ++ case ∷ [];
        flattened = Flatten-append done (alternative.Case tag operands ∷ []) f.whole (case ∷ []) f.flattened (Flatten-one (alternative.Case tag operands) (case ∷ []) (Brings.own tag operands refl refl));
        alike = subst (λ z. Alike z (f.whole ++ case ∷ [])) (sym same) (Alike-both (cases_at cases ns) f.whole (case ∷ []) (case ∷ []) f.alike (Alike-refl (case ∷ [])));
        within = λ n m. by n (split_one ns (length cases ∷ []) n m);
      }))
    where
      case : CaseDef
      case = record { tag = tag; operands = operands }

      grown : Grows cases (cases ++ case ∷ [])
      grown = (case ∷ [], refl)

      one : cases_at (cases ++ case ∷ []) (length cases ∷ []) ≡ case ∷ []
      one = last (get-seam cases case)
        where
          last : slice_get (cases ++ case ∷ []) (length cases) ≡ Some case → cases_at (cases ++ case ∷ []) (length cases ∷ []) ≡ case ∷ []
          last g = ap (λ o. one_case o ++ []) g

      same : cases_at (cases ++ case ∷ []) (ns ++ length cases ∷ []) ≡ cases_at cases ns ++ case ∷ []
      same = cases-append (cases ++ case ∷ []) ns (length cases ∷ []) ∙ (λ i. cases-front cases (case ∷ []) ns f.within i ++ one i)

      longer : length cases < length (cases ++ case ∷ [])
      longer = slice_get_within (cases ++ case ∷ []) (length cases) case (get-seam cases case)

      by : (n : ℕ) → IsOne ns n ⊎ IsOne (length cases ∷ []) n → n < length (cases ++ case ∷ [])
      by n (inl m) = let a = f.within n m in let b = longer in omega (arith, a, b)
      by n (inr (inl e)) = let b = longer in omega (arith, b, e)
      by n (inr (inr m)) = absurd m

  -- what the name brings, at the end of all
  pub IsFlat-included : (cases : List CaseDef) (ns ns' more : List ℕ) (done : List Alternative) (y : List ℕ) (full : List CaseDef) → Brings defs (alternative.Incl y) full
      → Alike (cases_at cases more) full → AreWithin cases more → Alike (cases_at cases ns') (cases_at cases ns ++ cases_at cases more)
      → ((n : ℕ) → IsOne ns' n → IsOne (ns ++ more) n) → IsFlat defs cases ns done → IsFlat defs cases ns' (done ++ alternative.Incl y ∷ [])
  IsFlat-included cases ns ns' more done y full b a w l from f = record {
    whole = f.whole ++ full;
    flattened = Flatten-append done (alternative.Incl y ∷ []) f.whole full f.flattened (Flatten-one (alternative.Incl y) full b);
    alike = Alike-trans (cases_at cases ns') (cases_at cases ns ++ cases_at cases more) (f.whole ++ full) l (Alike-both (cases_at cases ns) f.whole (cases_at cases more) full f.alike a);
    within = λ n m. by n (split_one ns more n (from n m));
  }
    where
      by : (n : ℕ) → IsOne ns n ⊎ IsOne more n → n < length cases
      by n (inl m) = f.within n m
      by n (inr m) = w n m

  -- ---- names

  undeclared-brings : (y : List ℕ) → body_of defs y ≡ None → Brings defs (alternative.Incl y) []
  undeclared-brings y e = Brings.included y (ty.Name y) refl
      (Means.itself (ap (λ l. aliased (named_at defs l)) (ty.outs-Name y) ∙ ap aliased e) refl)
      (subst (λ o. Flatten defs (or_none o) []) (sym (ap (λ l. listed (named_at defs l)) (ty.outs-Name y) ∙ ap listed e)) (Flatten.none refl))

  -- a name that is not declared brings nothing
  pub IsFlat-undeclared : (cases : List CaseDef) (ns : List ℕ) (done : List Alternative) (y : List ℕ) → position_of defs y ≡ None → IsFlat defs cases ns done → IsFlat defs cases ns (done ++ alternative.Incl y ∷ [])
  IsFlat-undeclared cases ns done y e f =
      IsFlat-included cases ns ns [] done y [] (undeclared-brings y (unplaced defs y e)) (Alike-refl []) (λ n m. absurd m)
      (subst (Alike (cases_at cases ns)) (sym (append-nil (cases_at cases ns))) (Alike-refl (cases_at cases ns)))
      (λ n m. one-left ns [] n m) f

  -- a name brings what its body brings
  named-brings : (x : List ℕ) (b : SyntaxBody) (full : List CaseDef) → body_of defs x ≡ Some b → Flatten defs (sources b) full → Brings defs (alternative.Incl x) full
  named-brings x (body.Alias t) full e f = by (out-Ty t) refl f
    where
      alias : alias_of defs (ty.Name x) ≡ Some t
      alias = ap (λ l. aliased (named_at defs l)) (ty.outs-Name x) ∙ ap aliased e

      plain : (l : Ty-F Ty) → out-Ty t ≡ l → named_at defs l ≡ None → Flatten defs [] full → Brings defs (alternative.Incl x) full
      plain l q n (Flatten.none z) = Brings.included x t refl (Means.alias t alias (Means.itself (ap (λ k. aliased (named_at defs k)) q ∙ ap aliased n) refl))
          (subst (λ o. Flatten defs (or_none o) full) (sym (ap (λ k. listed (named_at defs k)) q ∙ ap listed n)) (Flatten.none z))

      name : (y : List ℕ) → out-Ty t ≡ Ty-F.Name y → (first rest : List CaseDef) → full ≡ first ++ rest → rest ≡ [] → Brings defs (alternative.Incl y) first → Brings defs (alternative.Incl x) full
      name y q first rest z w (Brings.own tag operands p r) = cc
      name y q first rest z w (Brings.included y' u p m g) =
          let s : y' ≡ y = cc in
          let t_is : t ≡ ty.Name y' = sym (roll-out-Ty t) ∙ ap roll-Ty q ∙ ty.rolls-Name y ∙ ap ty.Name (sym s) in
          Brings.included x u refl (Means.alias t alias (subst (λ k. Means defs k u) (sym t_is) m))
          (subst (Flatten defs (or_none (alternatives_of defs u))) (sym (z ∙ ap (λ k. first ++ k) w ∙ append-nil first)) g)

      one : (y : List ℕ) → out-Ty t ≡ Ty-F.Name y → Flatten defs (alternative.Incl y ∷ []) full → Brings defs (alternative.Incl x) full
      one y q (Flatten.more first rest b (Flatten.none w) z) = name y q first rest z w b

      by : (l : Ty-F Ty) → out-Ty t ≡ l → Flatten defs (source_at l) full → Brings defs (alternative.Incl x) full
      by (Ty-F.Name y) q g = one y q g
      by Ty-F.Bool q g = plain Ty-F.Bool q refl g
      by Ty-F.Nat q g = plain Ty-F.Nat q refl g
      by Ty-F.Int q g = plain Ty-F.Int q refl g
      by Ty-F.Text q g = plain Ty-F.Text q refl g
      by (Ty-F.List u) q g = plain (Ty-F.List u) q refl g
      by (Ty-F.Opt u) q g = plain (Ty-F.Opt u) q refl g
      by (Ty-F.Tuple us) q g = plain (Ty-F.Tuple us) q refl g
  named-brings x (body.Variant as') full e f = Brings.included x (ty.Name x) refl
      (Means.itself (ap (λ l. aliased (named_at defs l)) (ty.outs-Name x) ∙ ap aliased e) refl)
      (subst (λ o. Flatten defs (or_none o) full) (sym (ap (λ l. listed (named_at defs l)) (ty.outs-Name x) ∙ ap listed e)) f)
  named-brings x (body.Fields fs) full e f = Brings.included x (ty.Name x) refl
      (Means.itself (ap (λ l. aliased (named_at defs l)) (ty.outs-Name x) ∙ ap aliased e) refl)
      (subst (λ o. Flatten defs (or_none o) full) (sym (ap (λ l. listed (named_at defs l)) (ty.outs-Name x) ∙ ap listed e)) f)

  -- a name whose cases are known, at the end of all
  pub IsFlat-named : (flats : Flats) (cases : List CaseDef) (ns ns' more : List ℕ) (done : List Alternative) (y : List ℕ) (p : ℕ) → AreFlats defs flats cases → position_of defs y ≡ Some p
      → slice_get flats p ≡ Some (Some more) → Alike (cases_at cases ns') (cases_at cases ns ++ cases_at cases more)
      → ((n : ℕ) → IsOne ns' n → IsOne (ns ++ more) n) → IsFlat defs cases ns done → IsFlat defs cases ns' (done ++ alternative.Incl y ∷ [])
  IsFlat-named flats cases ns ns' more done y p r e g l from f =
      let q = placed defs y p e in
      let b = r.right p q.definition more q.there g in
      IsFlat-included cases ns ns' more done y b.whole (named-brings y q.definition.body b.whole q.body_is b.flattened) b.alike b.within l from f

  -- ---- what is known

  among-left : (xs ys : List (List ℕ)) (y : List ℕ) → Among xs y → Among (xs ++ ys) y
  among-left [] ys y a = absurd a
  among-left (x ∷ xs) ys y (inl e) = inl e
  among-left (x ∷ xs) ys y (inr a) = inr (among-left xs ys y a)

  among-right : (xs ys : List (List ℕ)) (y : List ℕ) → Among ys y → Among (xs ++ ys) y
  among-right [] ys y a = a
  among-right (x ∷ xs) ys y a = inr (among-right xs ys y a)

  among-split : (xs ys : List (List ℕ)) (y : List ℕ) → Among (xs ++ ys) y → Among xs y ⊎ Among ys y
  among-split [] ys y a = inr a
  among-split (x ∷ xs) ys y (inl e) = inl (inl e)
  among-split (x ∷ xs) ys y (inr a) = by (among-split xs ys y a)
    where
      by : Among xs y ⊎ Among ys y → Among (x ∷ xs) y ⊎ Among ys y
      by (inl b) = inl (inr b)
      by (inr b) = inr b

  pub AllKnown-append : (flats : Flats) (as' bs : List Alternative) → AllKnown defs flats as' → AllKnown defs flats bs → AllKnown defs flats (as' ++ bs)
  AllKnown-append flats as' bs h k = λ y a. by y (among-split (flat_map included as') (flat_map included bs) y (subst (λ ns. Among ns y) (flat_map-append included as' bs) a))
    where
      by : (y : List ℕ) → Among (flat_map included as') y ⊎ Among (flat_map included bs) y → IsKnown defs flats y
      by y (inl a) = h y a
      by y (inr a) = k y a

  pub AllKnown-left : (flats : Flats) (as' bs : List Alternative) → AllKnown defs flats (as' ++ bs) → AllKnown defs flats as'
  AllKnown-left flats as' bs h = λ y a. h y (subst (λ ns. Among ns y) (sym (flat_map-append included as' bs)) (among-left (flat_map included as') (flat_map included bs) y a))

  pub AllKnown-right : (flats : Flats) (as' bs : List Alternative) → AllKnown defs flats (as' ++ bs) → AllKnown defs flats bs
  AllKnown-right flats as' bs h = λ y a. h y (subst (λ ns. Among ns y) (sym (flat_map-append included as' bs)) (among-right (flat_map included as') (flat_map included bs) y a))

  pub AllKnown-name : (flats : Flats) (y : List ℕ) → IsKnown defs flats y → AllKnown defs flats (alternative.Incl y ∷ [])
  AllKnown-name flats y h = λ x a. by x a
    where
      by : (x : List ℕ) → Among (y ∷ []) x → IsKnown defs flats x
      by x (inl e) = subst (IsKnown defs flats) (sym e) h
      by x (inr a) = absurd a

  pub AllKnown-named : (flats : Flats) (y : List ℕ) → AllKnown defs flats (alternative.Incl y ∷ []) → IsKnown defs flats y
  AllKnown-named flats y h = h y (inl refl)

  -- where no more can be known, all that bring cases are known
  module _ (flats : Flats) (filled : AreFilled defs flats) where
    body-known : (x : List ℕ) (b : SyntaxBody) → body_of defs x ≡ Some b → AllKnown defs flats (sources b) → IsKnown defs flats x
    body-known x b e h p q g =
        let r = placed defs x p q in
        let s : Some r.definition.body ≡ Some b = sym r.body_is ∙ e in
        let s' : r.definition.body ≡ b = cc in
        filled p r.definition r.there g (subst (λ z. AllKnown defs flats (sources z)) (sym s') h)

    none-known : (as' : List Alternative) → as' ≡ [] → AllKnown defs flats as'
    none-known as' e = subst (AllKnown defs flats) (sym e) (λ y a. absurd a)

    -- the name of what is no alias
    itself-known : (x : List ℕ) (o : Option SyntaxBody) → body_of defs x ≡ o → aliased o ≡ None → AllKnown defs flats (or_none (listed o)) → IsKnown defs flats x
    itself-known x None e n h = λ p q g. let r = placed defs x p q in let z : Some r.definition.body ≡ None = sym r.body_is ∙ e in cc
    itself-known x (Some (body.Alias t)) e n h = cc
    itself-known x (Some (body.Variant as')) e n h = body-known x (body.Variant as') e h
    itself-known x (Some (body.Fields fs)) e n h = body-known x (body.Fields fs) e (λ y a. absurd a)

    means-known : (t u : Ty) → Means defs t u → AllKnown defs flats (or_none (alternatives_of defs u)) → AllKnown defs flats (source_at (out-Ty t))
    means-known t u (Means.itself p q) h = by (out-Ty t) refl
      where
        at : AllKnown defs flats (or_none (alternatives_of defs t))
        at = subst (λ z. AllKnown defs flats (or_none (alternatives_of defs z))) (sym q) h

        by : (l : Ty-F Ty) → out-Ty t ≡ l → AllKnown defs flats (source_at l)
        by (Ty-F.Name x) e = AllKnown-name flats x (itself-known x (body_of defs x) refl (sym (ap (λ l. aliased (named_at defs l)) e) ∙ p)
            (subst (λ o. AllKnown defs flats (or_none o)) (ap (λ l. listed (named_at defs l)) e) at))
        by Ty-F.Bool e = λ y a. absurd a
        by Ty-F.Nat e = λ y a. absurd a
        by Ty-F.Int e = λ y a. absurd a
        by Ty-F.Text e = λ y a. absurd a
        by (Ty-F.List v) e = λ y a. absurd a
        by (Ty-F.Opt v) e = λ y a. absurd a
        by (Ty-F.Tuple vs) e = λ y a. absurd a
    means-known t u (Means.alias s p m) h =
        let i = is_alias defs (out-Ty t) s p in
        subst (λ l. AllKnown defs flats (source_at l)) (sym i.level) (AllKnown-name flats i.name (body-known i.name (body.Alias s) i.body_is (means-known s u m h)))

    mutual
      brings-known : (a : Alternative) (cs : List CaseDef) → Brings defs a cs → AllKnown defs flats (a ∷ [])
      brings-known a cs (Brings.own tag operands p q) = subst (λ z. AllKnown defs flats (z ∷ [])) (sym p) (λ y m. absurd m)
      brings-known a cs (Brings.included name t p m f) = subst (λ z. AllKnown defs flats (z ∷ [])) (sym p)
          (subst (λ l. AllKnown defs flats (source_at l)) (ty.outs-Name name) (means-known (ty.Name name) t m (flatten-known (or_none (alternatives_of defs t)) cs f)))

      pub flatten-known : (as' : List Alternative) (cs : List CaseDef) → Flatten defs as' cs → AllKnown defs flats as'
      flatten-known [] cs f = λ y a. absurd a
      flatten-known (a ∷ as') cs (Flatten.more first rest b f e) = AllKnown-append flats (a ∷ []) as' (brings-known a first b) (flatten-known as' rest f)

  -- ---- what is filled

  pub unknown-set : (flats : Flats) (i : ℕ) (ns : List ℕ) → slice_get flats i ≡ Some None → unknown (set flats i (Some ns)) < unknown flats
  unknown-set [] i ns e = cc
  unknown-set (None ∷ fs) zero ns e = omega arith
  unknown-set (Some ms ∷ fs) zero ns e = cc
  unknown-set (None ∷ fs) (suc i) ns e = let h = unknown-set fs i ns e in omega (arith, h)
  unknown-set (Some ms ∷ fs) (suc i) ns e = unknown-set fs i ns e

  pub AreFlats-set : (flats : Flats) (cases : List CaseDef) (i : ℕ) (d : SyntaxDef) (ns : List ℕ) → AreFlats defs flats cases → slice_get defs i ≡ Some d → IsFlat defs cases ns (sources d.body)
      → AreFlats defs (set flats i (Some ns)) cases
  AreFlats-set flats cases i d ns f g is = record {
    size = length-set flats i (Some ns) ∙ f.size;
    right = λ j v ms a e. by j v ms a e (same_position j i);
  }
    where
      by : (j : ℕ) (v : SyntaxDef) (ms : List ℕ) → slice_get defs j ≡ Some v → slice_get (set flats i (Some ns)) j ≡ Some (Some ms) → (j ≡ i) ⊎ (j ≢ i) → IsFlat defs cases ms (sources v.body)
      by j v ms a e (inl q) =
          let s : Some ns ≡ Some ms = set-same flats i (Some ns) (Some ms) (ap (slice_get (set flats i (Some ns))) (sym q) ∙ e) in
          let s' : ns ≡ ms = cc in
          let t : Some d ≡ Some v = sym g ∙ ap (slice_get defs) (sym q) ∙ a in
          let t' : d ≡ v = cc in
          subst (λ z. IsFlat defs cases z (sources v.body)) s' (subst (λ z. IsFlat defs cases ns (sources z.body)) t' is)
      by j v ms a e (inr n) = f.right j v ms a (sym (set-other flats i j (Some ns) n) ∙ e)

  -- at the start nothing is known
  pub AreFlats-start : (flats : Flats) (cases : List CaseDef) → flats ≡ replicate (length defs) None → AreFlats defs flats cases
  AreFlats-start flats cases e = subst (λ z. AreFlats defs z cases) (sym e) (record { size = size (length defs); right = λ i d ns a b. absurd (by (length defs) i ns b) })
    where
      size : (n : ℕ) → length {A = Option (List ℕ)} (replicate n None) ≡ n
      size zero = refl
      size (suc n) = ap suc (size n)

      by : (n i : ℕ) (ns : List ℕ) → ◌≡◌ {A = Option (Option (List ℕ))} (slice_get (replicate n None) i) (Some (Some ns)) → ⊥
      by zero i ns b = cc
      by (suc n) zero ns b = cc
      by (suc n) (suc i) ns b = by n i ns b

  -- ---- a variant by what it means

  pub HasFlat-here : (cases : List CaseDef) (t u : Ty) (ns : List ℕ) → Means defs t u → IsFlatHere defs cases u ns → HasFlat defs cases t ns
  HasFlat-here cases t u ns m f = record {
    whole = f.flat.whole;
    has = record { variant = u; alternatives = f.alternatives; means = m; declared = f.declared; flattened = f.flat.flattened };
    alike = f.flat.alike;
  }

  pub no-flat : (t u : Ty) (whole : List CaseDef) → Means defs t u → NoFlatHere defs u → HasCases defs t whole → ⊥
  no-flat t u whole m n h =
      let e = Means-single defs t h.variant u h.means m in
      n h.alternatives whole (ap (alternatives_of defs) (sym e) ∙ h.declared) h.flattened

  pub no-cases : (t : Ty) (whole : List CaseDef) → ((u : Ty) → Means defs t u → ⊥) → HasCases defs t whole → ⊥
  no-cases t whole n h = n h.variant h.means

  listed-name : (x : List ℕ) (p : ℕ) (d : SyntaxDef) → position_of defs x ≡ Some p → slice_get defs p ≡ Some d → alternatives_of defs (ty.Name x) ≡ listed (Some d.body)
  listed-name x p d e g =
      let q = placed defs x p e in
      let s : Some q.definition ≡ Some d = sym q.there ∙ g in
      let s' : q.definition ≡ d = cc in
      ap (λ l. listed (named_at defs l)) (ty.outs-Name x) ∙ ap listed q.body_is ∙ ap (λ z. listed (Some z.body)) s'

  -- the variant of a name
  pub IsFlatHere-name : (flats : Flats) (cases : List CaseDef) (x : List ℕ) (p : ℕ) (d : SyntaxDef) (as' : List Alternative) (ns : List ℕ) → AreFlats defs flats cases → position_of defs x ≡ Some p
      → slice_get defs p ≡ Some d → d.body ≡ body.Variant as' → slice_get flats p ≡ Some (Some ns) → IsFlatHere defs cases (ty.Name x) ns
  IsFlatHere-name flats cases x p d as' ns f e g b h = record {
    alternatives = as';
    declared = listed-name x p d e g ∙ ap (λ z. listed (Some z)) b;
    flat = subst (λ z. IsFlat defs cases ns (sources z)) b (f.right p d ns g h);
  }

  pub NoFlatHere-name : (x : List ℕ) (p : ℕ) (d : SyntaxDef) → position_of defs x ≡ Some p → slice_get defs p ≡ Some d → listed (Some d.body) ≡ None → NoFlatHere defs (ty.Name x)
  NoFlatHere-name x p d e g n as' whole q f = let z : None ≡ Some as' = sym n ∙ sym (listed-name x p d e g) ∙ q in cc

  pub NoFlatHere-unknown : (flats : Flats) → AreFilled defs flats → (x : List ℕ) (p : ℕ) (d : SyntaxDef) (as' : List Alternative) → position_of defs x ≡ Some p → slice_get defs p ≡ Some d
      → d.body ≡ body.Variant as' → slice_get flats p ≡ Some None → NoFlatHere defs (ty.Name x)
  NoFlatHere-unknown flats filled x p d as' e g b h bs whole q f =
      let z : Some as' ≡ Some bs = ap (λ y. listed (Some y)) (sym b) ∙ sym (listed-name x p d e g) ∙ q in
      let z' : as' ≡ bs = cc in
      filled p d g h (subst (λ y. AllKnown defs flats (sources y)) (sym b) (subst (AllKnown defs flats) (sym z') (flatten-known flats filled bs whole f)))

  pub NoFlatHere-undeclared : (x : List ℕ) → position_of defs x ≡ None → NoFlatHere defs (ty.Name x)
  NoFlatHere-undeclared x e as' whole q f =
      let z : None ≡ Some as' = ap listed (sym (unplaced defs x e)) ∙ sym (ap (λ l. listed (named_at defs l)) (ty.outs-Name x)) ∙ q in
      cc

  pub NoFlatHere-unnamed : (t : Ty) → named_at defs (out-Ty t) ≡ None → NoFlatHere defs t
  NoFlatHere-unnamed t n as' whole q f = let z : None ≡ Some as' = ap listed (sym n) ∙ q in cc

  -- ---- what is known, as the code finds it

  -- whether the cases of the definition at a name's position are known
  pub known-at : (flats : Flats) (y : List ℕ) (p : ℕ) (r : Bool) → length flats ≡ length defs → Some p ≡ position_of defs y → r ≡ is_some (flat_at flats p) → IsTrue r ↔ IsKnown defs flats y
  known-at flats y p r size e q = by (slice_get flats p) refl
    where
      in_flats : p < length flats
      in_flats = let d = placed defs y p (sym e) in let w = slice_get_within defs p d.definition d.there in omega (arith, w, size)

      same : (j : ℕ) → position_of defs y ≡ Some j → j ≡ p
      same j f = let z : Some j ≡ Some p = sym f ∙ sym e in cc

      by : (o : Option (Option (List ℕ))) → slice_get flats p ≡ o → IsTrue r ↔ IsKnown defs flats y
      by None f = let w = slice_get_past-not flats p in_flats f in absurd w
      by (Some None) f = (λ t j g h. let z = q ∙ ap (λ o. is_some (known_at o)) f in cc, λ k. absurd (k p (sym e) f))
      by (Some (Some ns)) f = (λ t j g h. let z : Some None ≡ Some (Some ns) = sym h ∙ ap (slice_get flats) (same j g) ∙ f in cc, λ k. q ∙ ap (λ o. is_some (known_at o)) f)

  pub known-undeclared : (flats : Flats) (y : List ℕ) → None ≡ position_of defs y → IsKnown defs flats y
  known-undeclared flats y e p f g = let z : None ≡ Some p = e ∙ f in cc

  pub AllKnown-none : (flats : Flats) → AllKnown defs flats []
  AllKnown-none flats y a = absurd a

  pub AllKnown-case : (flats : Flats) (a : Alternative) (tag : List ℕ) (operands : List Ty) → a ≡ alternative.Case tag operands → AllKnown defs flats (a ∷ [])
  AllKnown-case flats a tag operands e = subst (λ z. AllKnown defs flats (z ∷ [])) (sym e) (λ y m. absurd m)

  pub AllKnown-incl : (flats : Flats) (a : Alternative) (y : List ℕ) (r : Bool) → a ≡ alternative.Incl y → (IsTrue r ↔ IsKnown defs flats y) → IsTrue r ↔ AllKnown defs flats (a ∷ [])
  AllKnown-incl flats a y r e h = subst (λ z. IsTrue r ↔ AllKnown defs flats (z ∷ [])) (sym e) (λ t. AllKnown-name flats y (h.0 t), λ k. h.1 (AllKnown-named flats y k))

  -- one of several alternatives
  pub AllKnown-item : (flats : Flats) (as' : List Alternative) (i : ℕ) (a : Alternative) → i < length as' → a ≡ get_or as' i a → AllKnown defs flats as' → AllKnown defs flats (a ∷ [])
  AllKnown-item flats as' i a h e k =
      let whole : as' ≡ take i as' ++ drop i as' = sym (take-append-drop i as') in
      let rest : drop i as' ≡ a ∷ drop (suc i) as' = drop-cons as' i a h ∙ ap (λ z. z ∷ drop (suc i) as') (sym e) in
      AllKnown-left flats (a ∷ []) (drop (suc i) as') (AllKnown-right flats (take i as') (a ∷ drop (suc i) as') (subst (AllKnown defs flats) (whole ∙ ap (λ z. take i as' ++ z) rest) k))

  pub take-item : (as' : List Alternative) (i : ℕ) (a : Alternative) → i < length as' → a ≡ get_or as' i a → take (i + 1) as' ≡ take i as' ++ a ∷ []
  take-item as' i a h e = rw (add-one, take-suc as' i a h) (ap (λ z. take i as' ++ z ∷ []) (sym e))

  pub AllKnown-next : (flats : Flats) (as' : List Alternative) (i : ℕ) (a : Alternative) → i < length as' → a ≡ get_or as' i a → AllKnown defs flats (take i as') → AllKnown defs flats (a ∷ []) → AllKnown defs flats (take (i + 1) as')
  AllKnown-next flats as' i a h e k m = subst (AllKnown defs flats) (sym (take-item as' i a h e)) (AllKnown-append flats (take i as') (a ∷ []) k m)

  -- ---- what is added

  pub add-some : (flats : Flats) (cases : List CaseDef) (ns ns' more more' : List ℕ) (done : List Alternative) (y : List ℕ) → AreFlats defs flats cases → Some more ≡ flat_of_position flats (position_of defs y)
      → more' ≡ more → IsAdding ns more' ns' → IsFlat defs cases ns done → IsFlat defs cases ns' (done ++ alternative.Incl y ∷ [])
  add-some flats cases ns ns' more more' done y r e q a f = by (position_of defs y) refl e
    where
      at : (p : ℕ) (o : Option (Option (List ℕ))) → slice_get flats p ≡ o → Some more ≡ known_at o → slice_get flats p ≡ Some (Some more)
      at p None g h = cc
      at p (Some None) g h = cc
      at p (Some (Some ms)) g h = let z : more ≡ ms = cc in g ∙ ap (λ w. Some (Some w)) (sym z)

      by : (o : Option ℕ) → position_of defs y ≡ o → Some more ≡ flat_of_position flats o → IsFlat defs cases ns' (done ++ alternative.Incl y ∷ [])
      by None g h = cc
      by (Some p) g h =
          let b = subst (λ w. IsAdding ns w ns') q a in
          IsFlat-named flats cases ns ns' more done y p r g (at p (slice_get flats p) refl h) (b.alike cases) b.from f

  pub add-none : (flats : Flats) (cases : List CaseDef) (ns : List ℕ) (done : List Alternative) (y : List ℕ) → length flats ≡ length defs → IsKnown defs flats y → None ≡ flat_of_position flats (position_of defs y)
      → IsFlat defs cases ns done → IsFlat defs cases ns (done ++ alternative.Incl y ∷ [])
  add-none flats cases ns done y size k e f = by (position_of defs y) refl e
    where
      at : (p : ℕ) → position_of defs y ≡ Some p → (o : Option (Option (List ℕ))) → slice_get flats p ≡ o → None ≡ known_at o → ⊥
      at p g None h n = let d = placed defs y p g in let w = slice_get_within defs p d.definition d.there in slice_get_past-not flats p (omega (arith, w, size)) h
      at p g (Some None) h n = k p g h
      at p g (Some (Some ms)) h n = cc

      by : (o : Option ℕ) → position_of defs y ≡ o → None ≡ flat_of_position flats o → IsFlat defs cases ns (done ++ alternative.Incl y ∷ [])
      by None g h = IsFlat-undeclared cases ns done y g f
      by (Some p) g h = absurd (at p g (slice_get flats p) refl h)

  pub IsFlat-end : (cases : List CaseDef) (ns : List ℕ) (as' : List Alternative) (i : ℕ) → length as' ≤ i → IsFlat defs cases ns (take i as') → IsFlat defs cases ns as'
  IsFlat-end cases ns as' i h f = subst (IsFlat defs cases ns) (take-whole as' i h) f

  -- ---- passes

  pub IsFillPass-start : (before : Flats) (cases : List CaseDef) → AreFlats defs before cases → IsFillPass defs before before cases false 0
  IsFillPass-start before cases f = record { flats_are = f; fewer = λ t. absurd (true≢false (sym t)); same = λ t. refl; filled = λ t i h. absurd (omega (arith, h)) }

  pub IsFillPass-next : (before flats flats' : Flats) (cases cases' : List CaseDef) (changed filled changed' : Bool) (at : ℕ) → IsFillPass defs before flats cases changed at → AreFlats defs flats' cases'
      → Fills defs at flats flats' filled → changed' ≡ (changed || filled) → IsFillPass defs before flats' cases' changed' (at + 1)
  IsFillPass-next before flats flats' cases cases' changed filled changed' at p f h e = subst (λ b. IsFillPass defs before flats' cases' b (at + 1)) (sym e) (by changed filled refl refl p h)
    where
      by : (c g : Bool) → changed ≡ c → filled ≡ g → IsFillPass defs before flats cases c at → Fills defs at flats flats' g → IsFillPass defs before flats' cases' (c || g) (at + 1)
      by true true q r p h = record { flats_are = f; fewer = λ t. let a = p.fewer refl in omega (arith, a, h); same = λ t. absurd (true≢false t); filled = λ t. absurd (true≢false t) }
      by true false q r p h = record {
        flats_are = f;
        fewer = λ t. subst (λ z. unknown z < unknown before) (sym h.0) (p.fewer refl);
        same = λ t. absurd (true≢false t);
        filled = λ t. absurd (true≢false t);
      }
      by false true q r p h = record {
        flats_are = f;
        fewer = λ t. subst (λ z. unknown flats' < unknown z) (p.same refl) h;
        same = λ t. absurd (true≢false t);
        filled = λ t. absurd (true≢false t);
      }
      by false false q r p h = record {
        flats_are = f;
        fewer = λ t. absurd (true≢false (sym t));
        same = λ t. h.0 ∙ p.same refl;
        filled = λ t i k. subst (λ z. IsFilled defs z i) (sym h.0) (at_i i k (same_position i at));
      }
        where
          at_i : (i : ℕ) → i < at + 1 → (i ≡ at) ⊎ (i ≢ at) → IsFilled defs flats i
          at_i i k (inl s) = subst (IsFilled defs flats) (sym s) h.1
          at_i i k (inr n) = p.filled refl i (omega (arith, k, n))

  pub IsFillPass-falls : (before flats : Flats) (cases : List CaseDef) (changed : Bool) (at : ℕ) → IsFillPass defs before flats cases changed at → left changed flats < left true before
  IsFillPass-falls before flats cases changed at p = by changed p
    where
      by : (c : Bool) → IsFillPass defs before flats cases c at → left c flats < left true before
      by true p = let h = p.fewer refl in omega (arith, h)
      by false p = let h = ap unknown (p.same refl) in omega (arith, h)

  pub IsFillPass-end : (before flats : Flats) (cases : List CaseDef) (changed : Bool) (at : ℕ) → IsFillPass defs before flats cases changed at → length defs ≤ at → changed ≡ false → AreFilled defs flats
  IsFillPass-end before flats cases changed at p h e i d there = p.filled e i (let w = slice_get_within defs i d there in omega (arith, w, h)) d there

  pub filled-known : (flats : Flats) (i : ℕ) → IsTrue (is_some (flat_at flats i)) → IsFilled defs flats i
  filled-known flats i t d there e k = let z = sym t ∙ ap (λ o. is_some (known_at o)) e in true≢false z

  pub filled-waiting : (flats : Flats) (i : ℕ) (d : SyntaxDef) → slice_get defs i ≡ Some d → (AllKnown defs flats (sources d.body) → ⊥) → IsFilled defs flats i
  filled-waiting flats i d e n d' there f k =
      let s : Some d ≡ Some d' = sym e ∙ there in
      let s' : d ≡ d' = cc in
      n (subst (λ z. AllKnown defs flats (sources z.body)) (sym s') k)

  -- where the cases of a definition are not known there is none under its number
  pub unknown-at : (flats : Flats) (i : ℕ) (d : SyntaxDef) → length flats ≡ length defs → slice_get defs i ≡ Some d → (IsTrue (is_some (flat_at flats i)) → ⊥) → slice_get flats i ≡ Some None
  unknown-at flats i d size e n = by (slice_get flats i) refl
    where
      by : (o : Option (Option (List ℕ))) → slice_get flats i ≡ o → slice_get flats i ≡ Some None
      by None f = let w = slice_get_within defs i d e in absurd (slice_get_past-not flats i (omega (arith, w, size)) f)
      by (Some None) f = f
      by (Some (Some ns)) f = absurd (n (ap (λ o. is_some (known_at o)) f))

  -- ---- variants

  pub flat-here-some : (flats : Flats) → length flats ≡ length defs → AreFilled defs flats → (t : Ty) (x : List ℕ) (p : ℕ) → t ≡ ty.Name x → position_of defs x ≡ Some p → (o : Option (Bor (List ℕ)))
      → ((d : SyntaxDef) → slice_get defs p ≡ Some d → option_copied o ≡ where_listed (listed (Some d.body)) (flat_at flats p))
      → MatchOption o (NoFlatHere defs t) (λ ns. (cases : List CaseDef) → AreFlats defs flats cases → IsFlatHere defs cases t ns.now)
  flat-here-some flats size filled t x p q e o h = let r = placed defs x p e in by o r.definition r.there r.definition.body refl (h r.definition r.there)
    where
      is_flat : (ns : List ℕ) (g : Option (Option (List ℕ))) → slice_get flats p ≡ g → Some ns ≡ known_at g → slice_get flats p ≡ Some (Some ns)
      is_flat ns None f k = cc
      is_flat ns (Some None) f k = cc
      is_flat ns (Some (Some ms)) f k = let z : ns ≡ ms = cc in f ∙ ap (λ w. Some (Some w)) (sym z)

      is_none : (d : SyntaxDef) → slice_get defs p ≡ Some d → (g : Option (Option (List ℕ))) → slice_get flats p ≡ g → None ≡ known_at g → slice_get flats p ≡ Some None
      is_none d there None f k = let w = slice_get_within defs p d there in absurd (slice_get_past-not flats p (omega (arith, w, size)) f)
      is_none d there (Some None) f k = f
      is_none d there (Some (Some ms)) f k = cc

      by : (o : Option (Bor (List ℕ))) (d : SyntaxDef) → slice_get defs p ≡ Some d → (b : SyntaxBody) → d.body ≡ b → option_copied o ≡ where_listed (listed (Some d.body)) (flat_at flats p)
          → MatchOption o (NoFlatHere defs t) (λ ns. (cases : List CaseDef) → AreFlats defs flats cases → IsFlatHere defs cases t ns.now)
      by None d there (body.Variant as') b k = subst (NoFlatHere defs) (sym q) (NoFlatHere-unknown flats filled x p d as' e there b
          (is_none d there (slice_get flats p) refl (k ∙ ap (λ z. where_listed (listed (Some z)) (flat_at flats p)) b)))
      by None d there (body.Alias s) b k = subst (NoFlatHere defs) (sym q) (NoFlatHere-name x p d e there (ap (λ z. listed (Some z)) b))
      by None d there (body.Fields fs) b k = subst (NoFlatHere defs) (sym q) (NoFlatHere-name x p d e there (ap (λ z. listed (Some z)) b))
      by (Some ns) d there (body.Variant as') b k = λ cases f. subst (λ z. IsFlatHere defs cases z ns.now) (sym q) (IsFlatHere-name flats cases x p d as' ns.now f e there b
          (is_flat ns.now (slice_get flats p) refl (k ∙ ap (λ z. where_listed (listed (Some z)) (flat_at flats p)) b)))
      by (Some ns) d there (body.Alias s) b k = let z : Some ns.now ≡ None = k ∙ ap (λ z. where_listed (listed (Some z)) (flat_at flats p)) b in cc
      by (Some ns) d there (body.Fields fs) b k = let z : Some ns.now ≡ None = k ∙ ap (λ z. where_listed (listed (Some z)) (flat_at flats p)) b in cc

  pub flat-of-type : (flats : Flats) (t u : Ty) (o : Option (Bor (List ℕ))) → Means defs t u
      → MatchOption o (NoFlatHere defs u) (λ ns. (cases : List CaseDef) → AreFlats defs flats cases → IsFlatHere defs cases u ns.now)
      → MatchOption o ((whole : List CaseDef) → HasCases defs t whole → ⊥) (λ ns. (cases : List CaseDef) → AreFlats defs flats cases → HasFlat defs cases t ns.now)
  flat-of-type flats t u None m h = λ whole k. no-flat t u whole m h k
  flat-of-type flats t u (Some ns) m h = λ cases f. HasFlat-here cases t u ns.now m (h cases f)

  pub listed-at : (p : ℕ) (d d' : SyntaxDef) (flats : Flats) (o : Option (List ℕ)) → slice_get defs p ≡ Some d → slice_get defs p ≡ Some d' → o ≡ where_listed (listed (Some d.body)) (flat_at flats p)
      → o ≡ where_listed (listed (Some d'.body)) (flat_at flats p)
  listed-at p d d' flats o e f h =
      let s : Some d ≡ Some d' = sym e ∙ f in
      let s' : d ≡ d' = cc in
      h ∙ ap (λ z. where_listed (listed (Some z.body)) (flat_at flats p)) s'
