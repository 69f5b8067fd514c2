-- How many alternatives of a list have cases with different keys.
use Rattle.std.proofs.Common.{◌≡◌, refl, sym, ap, ◌∙◌, subst, ℕ, zero, suc, ◌+◌, ◌<◌, ◌≤◌, List, [], ◌∷◌, ◌++◌, append_assoc, length, take, drop, get_or, min, Bool, true, false, Option, Some, None, arith, inl, inr, ◌⊎◌}
use Rattle.std.specs.Prelude.{slice_get}
use Rattle.std.specs.Bool.{MatchBool}
use Rattle.std.proofs.lemmas.List.{length-map}
use Rattle.std.proofs.Math.Seq.{take-length}
use Rattle.st_il.specs.declared.ty.Ty.TheVariants as ty
use Rattle.st_il.specs.declared.definition.SyntaxDef.{SyntaxDef}
use Rattle.st_il.specs.declared.definition.Alternative.{Alternative}
use Rattle.st_il.specs.declared.definition.Alternative.TheVariants as alternative
use Rattle.st_type_table.specs.declared.entry.CaseDef.{CaseDef}
use Rattle.st_type_table.specs.declared.flat.Flat.{Flat}
use Rattle.st_type_table.specs.Cases.{Flatten}
use Rattle.st_type_table.specs.Keys.{KeysDiffer}
use Rattle.st_type_table.specs.Leads.{Ends, Among, leads_from}
use Rattle.st_type_table.specs.Breach.{Holds, keys, asked, AllHold, on_included, on_alternative, on_alternatives}
use Rattle.st_type_table.specs.inner.Graph.{AreRanks, graph_of, node_of, position_of, EndsIn}
use Rattle.st_type_table.specs.inner.CaseKeys.{IsKeyed}
use Rattle.st_type_table.specs.inner.Flat.{IsFlat, IsReady, AllReady, IsBroken, IsEndless, AllKnownParts, TriesAlternative, IsReached, IsFlattened, AreFlats}
use Rattle.st_type_table.proofs.KeyLemmas.{KeysDiffer-front}
use Rattle.st_type_table.proofs.CasesLemmas.{Flatten-single}
use Rattle.st_type_table.proofs.PositionLemmas.{Ends-EndsAt, unplaced}
use Rattle.st_type_table.proofs.RankLemmas.{means-lower, name-same}
use Rattle.st_type_table.proofs.FlatLemmas.{Flatten-append, Flatten-one, Flatten-known, ready_known, take-split, take-suc, within, without}
use Rattle.st_type_table.proofs.CheckLemmas.{front_hold, back_hold}

-- ---- runs of a list

pub take-take : {A : Type 0} (xs : List A) (i j : ℕ) → i ≤ j → take i (take j xs) ≡ take i xs
take-take xs zero j h = refl
take-take xs (suc i) zero h = absurd (omega arith)
take-take [] (suc i) (suc j) h = refl
take-take (x ∷ xs) (suc i) (suc j) h = ap (λ ys. x ∷ ys) (take-take xs i j (omega arith))

get-take : {A : Type 0} (xs : List A) (i j : ℕ) → i < j → slice_get (take j xs) i ≡ slice_get xs i
get-take xs i zero h = absurd (omega arith)
get-take [] i (suc j) h = refl
get-take (x ∷ xs) zero (suc j) h = refl
get-take (x ∷ xs) (suc i) (suc j) h = get-take xs i j (omega arith)

pub run-step : {A : Type 0} (xs : List A) (i to : ℕ) (x : A) → i < to → i < length xs → x ≡ get_or xs i x → drop i (take to xs) ≡ x ∷ drop (suc i) (take to xs)
run-step [] i to x h g e = absurd (omega arith)
run-step xs i zero x h g e = absurd (omega arith)
run-step (y ∷ ys) zero (suc to) x h g e = ap (λ z. z ∷ take to ys) (sym e)
run-step (y ∷ ys) (suc i) (suc to) x h g e = run-step ys i to x (omega arith) (omega arith) e

pub run-end : {A : Type 0} (xs : List A) (i to : ℕ) → min to (length xs) ≤ i → drop i (take to xs) ≡ []
run-end xs zero zero h = refl
run-end xs (suc i) zero h = refl
run-end [] zero (suc to) h = refl
run-end [] (suc i) (suc to) h = refl
run-end (x ∷ xs) zero (suc to) h = absurd (omega arith)
run-end (x ∷ xs) (suc i) (suc to) h = run-end xs i to (omega (arith, h))

-- a name that is not declared leads nowhere
pub ends-unplaced : (defs : List SyntaxDef) (name : List ℕ) → position_of defs name ≡ None → Ends defs name
ends-unplaced defs name e = Ends.ends (λ y a. absurd (subst (λ o. Among (leads_from o) y) (unplaced defs name e) a))

-- ---- what all say of one

pub ready-at : (defs : List SyntaxDef) (flats : List Flat) (xs : List Alternative) (i : ℕ) (a : Alternative) → AllReady defs flats xs → slice_get xs i ≡ Some a → IsReady defs flats a
ready-at defs flats [] i a h e = cc
ready-at defs flats (x ∷ xs) zero a h e = let q : x ≡ a = cc in subst (IsReady defs flats) q h.0
ready-at defs flats (x ∷ xs) (suc i) a h e = ready-at defs flats xs i a h.1 e

ready-behind : (defs : List SyntaxDef) (flats : List Flat) (xs : List Alternative) (i : ℕ) → AllReady defs flats xs → AllReady defs flats (drop i xs)
ready-behind defs flats xs zero h = h
ready-behind defs flats [] (suc i) h = h
ready-behind defs flats (x ∷ xs) (suc i) h = ready-behind defs flats xs i h.1

pub ready-parts : (defs : List SyntaxDef) (flats : List Flat) (xs : List Alternative) → AllReady defs flats xs → AllKnownParts defs flats xs
ready-parts defs flats xs h i a g name e ends = (ready-at defs flats xs i a h g name e).1

-- where all that ends is known, what an alternative includes is
pub ended-parts : (defs : List SyntaxDef) (ranks : List ℕ) (flats : List Flat) → AreRanks (graph_of defs) ranks → AreFlats defs ranks (length defs) flats → (xs : List Alternative) → AllKnownParts defs flats xs
ended-parts defs ranks flats right known xs at a there name e ends variant position d f m p k h =
    let ends_in : EndsIn defs (ty.Name name) = λ x r. subst (Ends defs) (name-same name x r) ends in
    let l = means-lower defs ranks right (ty.Name name) (ty.Name variant) ends_in m in
    let b = right.bounded position in
    let c = length-map defs (node_of defs) in
    known.right position d f k ((right.exact position).1 (Ends-EndsAt defs variant (l.1 variant refl) position p)) (omega (arith, b, c)) h

hold-from : (defs : List SyntaxDef) (target : List ℕ) (n : ℕ) (before xs : List Alternative) (i : ℕ) (a : Alternative) → slice_get xs i ≡ Some a
    → AllHold defs (on_alternatives target n before xs) → AllHold defs (on_alternative target (n + i) (before ++ take (suc i) xs) a)
hold-from defs target n before [] i a e h = cc
hold-from defs target n before (x ∷ xs) zero a e h =
    let q : x ≡ a = cc in
    subst (λ k. AllHold defs (on_alternative target k (before ++ x ∷ []) a)) (omega arith)
    (subst (λ z. AllHold defs (on_alternative target n (before ++ x ∷ []) z)) q
    (front_hold defs (on_alternative target n (before ++ x ∷ []) x) (on_alternatives target (suc n) (before ++ x ∷ []) xs) h))
hold-from defs target n before (x ∷ xs) (suc i) a e h =
    subst (λ k. AllHold defs (on_alternative target k (before ++ take (suc (suc i)) (x ∷ xs)) a)) (omega arith)
    (subst (λ z. AllHold defs (on_alternative target (suc n + i) z a)) (append_assoc before (x ∷ []) (take (suc i) xs))
    (hold-from defs target (suc n) (before ++ x ∷ []) xs i a e
    (back_hold defs (on_alternative target n (before ++ x ∷ []) x) (on_alternatives target (suc n) (before ++ x ∷ []) xs) h)))

-- the conditions on one of the first alternatives hold
pub hold-at : (defs : List SyntaxDef) (target : List ℕ) (parts : List Alternative) (from at : ℕ) (a : Alternative) → at < from → slice_get parts at ≡ Some a
    → AllHold defs (on_alternatives target 0 [] (take from parts)) → AllHold defs (on_alternative target at (take (suc at) parts) a)
hold-at defs target parts from at a h e all =
    subst (λ z. AllHold defs (on_alternative target at z a)) (take-take parts (suc at) from (omega (arith, h)))
    (subst (λ k. AllHold defs (on_alternative target k (take (suc at) (take from parts)) a)) (omega arith)
    (hold-from defs target 0 [] (take from parts) at a (get-take parts at from h ∙ e) all))

-- the keys so far differ, where the conditions on an alternative hold
pub hold-keys : (defs : List SyntaxDef) (target : List ℕ) (part : ℕ) (so_far : List Alternative) (a : Alternative) → AllHold defs (on_alternative target part so_far a) → Holds defs (keys so_far)
hold-keys defs target part so_far (alternative.Case tag operands) h = h.0
hold-keys defs target part so_far (alternative.Incl name) h = (back_hold defs (on_included target part name) (asked part (keys so_far) ∷ []) h).0

-- what is included ends, where the conditions on it hold
pub included-ends : (defs : List SyntaxDef) (target : List ℕ) (part : ℕ) (so_far : List Alternative) (a : Alternative) → AllHold defs (on_alternative target part so_far a) → IsEndless defs a → ⊥
included-ends defs target part so_far (alternative.Case tag operands) h (name, e, never) = cc
included-ends defs target part so_far (alternative.Incl x) h (name, e, never) = let q : x ≡ name = cc in never (subst (Ends defs) q (h.1.1.0).ends)

-- ---- the cases of a front

-- a list of cases in two parts
pub record Split (defs : List SyntaxDef) (xs ys : List Alternative) (cases : List CaseDef) : Type 0 where
  pub front : List CaseDef
  pub rest : List CaseDef
  pub first : Flatten defs xs front
  pub second : Flatten defs ys rest
  pub whole : cases ≡ front ++ rest

pub Flatten-split : (defs : List SyntaxDef) (xs ys : List Alternative) (cases : List CaseDef) → Flatten defs (xs ++ ys) cases → Split defs xs ys cases
Flatten-split defs [] ys cases f = record { front = []; rest = cases; first = Flatten.none refl; second = f; whole = refl }
Flatten-split defs (x ∷ xs) ys cases (Flatten.more one others b f e) =
    let s = Flatten-split defs xs ys others f in
    record {
      front = one ++ s.front;
      rest = s.rest;
      first = Flatten.more one s.front b s.first refl;
      second = s.second;
      whole = e ∙ ap (λ z. one ++ z) s.whole ∙ sym (append_assoc one s.front s.rest);
    }

module _ (defs : List SyntaxDef) (parts : List Alternative) where
  broken-keys : (xs : List Alternative) → IsBroken defs xs → Holds defs (keys xs) → ⊥
  broken-keys xs b h = b.1.1 (h b.0 b.1.0)

  -- the keys of as many as are reached differ
  pub reach-keys : (reach k : ℕ) → IsReached defs parts reach → k ≤ reach → Holds defs (keys (take k parts))
  reach-keys reach k r h others f =
      let s = Flatten-split defs (take k parts) (drop k (take reach parts)) r.cases
      (subst (λ z. Flatten defs z r.cases) (sym (ap (λ z. z ++ drop k (take reach parts)) (sym (take-take parts k reach h)) ∙ take-split (take reach parts) k)) r.flattened) in
      subst KeysDiffer (Flatten-single defs (take k parts) s.front others s.first f) (KeysDiffer-front s.front s.rest (subst KeysDiffer s.whole r.differ))

  -- at the end of the reach the keys do not differ, where what is included ends
  pub reach-clash : (reach : ℕ) (a : Alternative) → IsReached defs parts reach → slice_get parts reach ≡ Some a → (IsEndless defs a → ⊥) → Holds defs (keys (take (suc reach) parts)) → ⊥
  reach-clash reach a r g ends h = by (r.stops a g)
    where
      by : IsEndless defs a ⊎ IsBroken defs (take (suc reach) parts) → ⊥
      by (inl e) = ends e
      by (inr b) = broken-keys (take (suc reach) parts) b h

  -- so many alternatives are reached, where their conditions hold
  reach-far : (target : List ℕ) (from reach : ℕ) → IsReached defs parts reach → AllHold defs (on_alternatives target 0 [] (take from parts)) → (o : Option Alternative) → slice_get parts reach ≡ o
      → from < length parts → reach < from → ⊥
  reach-far target from reach r all None e h g = let l = without parts reach e in omega (arith, l, h, g)
  reach-far target from reach r all (Some a) e h g =
      let c = hold-at defs target parts from reach a g e all in
      reach-clash reach a r e (included-ends defs target reach (take (suc reach) parts) a c) (hold-keys defs target reach (take (suc reach) parts) a c)

  at_most : (a b : ℕ) → (b < a → ⊥) → a ≤ b
  at_most zero b h = omega arith
  at_most (suc a) zero h = absurd (h (omega arith))
  at_most (suc a) (suc b) h = let r = at_most a b (λ l. h (omega (arith, l))) in omega (arith, r)

  pub far-enough : (target : List ℕ) (from reach : ℕ) → IsReached defs parts reach → AllHold defs (on_alternatives target 0 [] (take from parts)) → from < length parts → from ≤ reach
  far-enough target from reach r all h = at_most from reach (reach-far target from reach r all (slice_get parts reach) refl h)

  -- ---- one alternative more

  pub stop-here : (at : ℕ) (cases after : List CaseDef) (a : Alternative) → Flatten defs (take at parts) cases → KeysDiffer cases → at < length parts → a ≡ get_or parts at a
      → slice_get parts at ≡ Some a → TriesAlternative defs cases after a false → IsReached defs parts at
  stop-here at cases after a f k h e there tried = record {
    cases = cases;
    flattened = f;
    differ = k;
    stops = λ b g. let s : Some a ≡ Some b = sym there ∙ g in let q : a ≡ b = cc in subst (λ z. IsEndless defs z ⊎ IsBroken defs (take (suc at) parts)) q (by tried);
  }
    where
      by : TriesAlternative defs cases after a false → IsEndless defs a ⊎ IsBroken defs (take (suc at) parts)
      by (inl n) = inl n
      by (inr (more, (b, clash))) = inr (
        cases ++ more,
        (
          subst (λ z. Flatten defs z (cases ++ more)) (sym (take-suc parts at a h e)) (Flatten-append defs (take at parts) (a ∷ []) cases more f (Flatten-one defs a more b)),
          clash,
        ),
      )

  pub stop-nowhere : (at : ℕ) (cases : List CaseDef) → Flatten defs (take at parts) cases → KeysDiffer cases → length parts ≤ at → IsReached defs parts (length parts) × Flatten defs parts cases
  stop-nowhere at cases f k h =
      let whole = subst (λ z. Flatten defs z cases) (take-over parts at h) f in (
        record {
          cases = cases;
          flattened = subst (λ z. Flatten defs z cases) (sym (take-length parts)) whole;
          differ = k;
          stops = λ a g. let l = within parts (length parts) a g in absurd (omega (arith, l));
        },
        whole,
      )
    where
      take-over : {A : Type 0} (xs : List A) (i : ℕ) → length xs ≤ i → take i xs ≡ xs
      take-over [] zero h = refl
      take-over [] (suc i) h = refl
      take-over (x ∷ xs) zero h = absurd (omega arith)
      take-over (x ∷ xs) (suc i) h = ap (λ ys. x ∷ ys) (take-over xs i (omega arith))

-- ---- all cases, where all ways end

pub flat-from : (defs : List SyntaxDef) (flats : List Flat) (parts : List Alternative) (f : Flat) → AllReady defs flats parts → IsFlattened defs parts f → IsFlat defs parts f
flat-from defs flats parts f ready r = by f.whole refl
  where
    rest_of : (k : ℕ) → (cases : List CaseDef) × Flatten defs (drop k parts) cases
    rest_of k = Flatten-known defs (drop k parts) (ready_known defs flats (drop k parts) (ready-behind defs flats parts k ready))

    wider : (k : ℕ) → IsBroken defs (take k parts) → IsBroken defs parts
    wider k b = let rest = rest_of k in (
      b.0 ++ rest.0,
      (
        subst (λ z. Flatten defs z (b.0 ++ rest.0)) (take-split parts k) (Flatten-append defs (take k parts) (drop k parts) b.0 rest.0 b.1.0 rest.1),
        λ k. b.1.1 (KeysDiffer-front b.0 rest.0 k),
      ),
    )

    stopped : (a : Alternative) → slice_get parts f.reach ≡ Some a → IsEndless defs a ⊎ IsBroken defs (take (suc f.reach) parts) → IsBroken defs parts
    stopped a g (inl (name, e, never)) = absurd (never (ready-at defs flats parts f.reach a ready g name e).0)
    stopped a g (inr b) = wider (suc f.reach) b

    by : (w : Bool) → f.whole ≡ w → IsFlat defs parts f
    by true w = subst (λ z. MatchBool z (Flatten defs parts f.cases.items × IsKeyed f.cases) (IsBroken defs parts)) (sym w) (r.whole w)
    by false w = let s = r.stopped w in subst (λ z. MatchBool z (Flatten defs parts f.cases.items × IsKeyed f.cases) (IsBroken defs parts)) (sym w) (stopped s.0 s.1 (r.reached.stops s.0 s.1))
