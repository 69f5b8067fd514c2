-- Lists of cases that tell the same.
use Rattle.std.proofs.Common.{◌≡◌, ◌↔◌, refl, sym, ap, ◌∙◌, subst, ℕ, zero, suc, ◌+◌, ◌<◌, ◌≤◌, List, [], ◌∷◌, ◌++◌, append_assoc, add-one, drop, drop-cons, length, true≢false, Bool, true, false, Option, Some, None, nat_eq, if◌then◌else◌, arith, inl, inr, ◌⊎◌}
use Rattle.std.specs.Prelude.{IsTrue, ◌||◌, slice_get, slice_index}
use Rattle.std.specs.List.{list_any}
use Rattle.std.specs.Cmp.Lexicographic.{pointwise}
use Rattle.std.proofs.lemmas.Bool.Decides.{Decides-eqb}
use Rattle.std.proofs.lemmas.Grind.{flat_map-append}
use Rattle.std.proofs.lemmas.List.{append-nil, drop_all}
use Rattle.st_il.specs.declared.ty.Ty.{Ty}
use Rattle.st_type_table.specs.declared.entry.CaseDef.{CaseDef}
use Rattle.st_type_table.specs.Cases.{operands_of}
use Rattle.st_type_table.specs.inner.Graph.{IsOne}
use Rattle.st_type_table.proofs.PositionLemmas.{split_one, one-left, one-right}
use Rattle.st_any_table.specs.inner.Flats.{IsCase, Alike, one_case, cases_at, AreWithin, IsAdded, IsAdding, Grows}

-- ---- cases of two lists

abbrev or_else : Option (List Ty) → Option (List Ty) → Option (List Ty)
or_else None o = o
or_else (Some x) o = Some x

operands-append : (cs ds : List CaseDef) (tag : List ℕ) → operands_of (cs ++ ds) tag ≡ or_else (operands_of cs tag) (operands_of ds tag)
operands-append [] ds tag = refl
operands-append (c ∷ cs) ds tag = by (pointwise nat_eq c.tag tag) (operands-append cs ds tag)
  where
    by : (b : Bool) → operands_of (cs ++ ds) tag ≡ or_else (operands_of cs tag) (operands_of ds tag)
        → (if b then Some c.operands else operands_of (cs ++ ds) tag) ≡ or_else (if b then Some c.operands else operands_of cs tag) (operands_of ds tag)
    by true h = refl
    by false h = h

split_case : (cs ds : List CaseDef) (c : CaseDef) → IsCase (cs ++ ds) c → IsCase cs c ⊎ IsCase ds c
split_case [] ds c h = inr h
split_case (x ∷ xs) ds c (inl e) = inl (inl e)
split_case (x ∷ xs) ds c (inr h) = by (split_case xs ds c h)
  where
    by : IsCase xs c ⊎ IsCase ds c → IsCase (x ∷ xs) c ⊎ IsCase ds c
    by (inl a) = inl (inr a)
    by (inr a) = inr a

case-left : (cs ds : List CaseDef) (c : CaseDef) → IsCase cs c → IsCase (cs ++ ds) c
case-left [] ds c h = absurd h
case-left (x ∷ xs) ds c (inl e) = inl e
case-left (x ∷ xs) ds c (inr h) = inr (case-left xs ds c h)

case-right : (cs ds : List CaseDef) (c : CaseDef) → IsCase ds c → IsCase (cs ++ ds) c
case-right [] ds c h = h
case-right (x ∷ xs) ds c h = inr (case-right xs ds c h)

-- ---- what tells the same

pub Alike-refl : (cs : List CaseDef) → Alike cs cs
Alike-refl cs = record { first = λ tag. refl; to = λ c h. h; from = λ c h. h }

pub Alike-trans : (cs ds es : List CaseDef) → Alike cs ds → Alike ds es → Alike cs es
Alike-trans cs ds es a b = record { first = λ tag. a.first tag ∙ b.first tag; to = λ c h. b.to c (a.to c h); from = λ c h. a.from c (b.from c h) }

pub Alike-both : (cs ds es fs : List CaseDef) → Alike cs ds → Alike es fs → Alike (cs ++ es) (ds ++ fs)
Alike-both cs ds es fs a b = record {
  first = λ tag. operands-append cs es tag ∙ (λ i. or_else (a.first tag i) (b.first tag i)) ∙ sym (operands-append ds fs tag);
  to = λ c h. to c (split_case cs es c h);
  from = λ c h. from c (split_case ds fs c h);
}
  where
    to : (c : CaseDef) → IsCase cs c ⊎ IsCase es c → IsCase (ds ++ fs) c
    to c (inl h) = case-left ds fs c (a.to c h)
    to c (inr h) = case-right ds fs c (b.to c h)

    from : (c : CaseDef) → IsCase ds c ⊎ IsCase fs c → IsCase (cs ++ es) c
    from c (inl h) = case-left cs es c (a.from c h)
    from c (inr h) = case-right cs es c (b.from c h)

-- the tag of a case is found
found : (cs : List CaseDef) (c : CaseDef) (tag : List ℕ) → IsCase cs c → pointwise nat_eq c.tag tag ≡ true → operands_of cs tag ≡ None → ⊥
found [] c tag h t e = absurd h
found (d ∷ ds) c tag (inl q) t e =
    let z : (if pointwise nat_eq c.tag tag then Some d.operands else operands_of ds tag) ≡ None = ap (λ x. if pointwise nat_eq x.tag tag then Some d.operands else operands_of ds tag) q ∙ e in
    let y : Some d.operands ≡ None = ap (λ b. if b then Some d.operands else operands_of ds tag) (sym t) ∙ z in
    cc
found (d ∷ ds) c tag (inr h) t e = by (pointwise nat_eq d.tag tag) refl (found ds c tag h t)
  where
    by : (b : Bool) → pointwise nat_eq d.tag tag ≡ b → (operands_of ds tag ≡ None → ⊥) → ⊥
    by true q next = let y : Some d.operands ≡ None = ap (λ b. if b then Some d.operands else operands_of ds tag) (sym q) ∙ e in cc
    by false q next = next (ap (λ b. if b then Some d.operands else operands_of ds tag) (sym q) ∙ e)

-- a case that stands there already changes nothing at the end
again : (cs : List CaseDef) (c : CaseDef) → IsCase cs c → Alike cs (cs ++ c ∷ [])
again cs c h = record {
  first = λ tag. first tag (operands_of cs tag) refl ∙ sym (operands-append cs (c ∷ []) tag);
  to = λ d m. case-left cs (c ∷ []) d m;
  from = λ d m. from d (split_case cs (c ∷ []) d m);
}
  where
    first : (tag : List ℕ) (o : Option (List Ty)) → operands_of cs tag ≡ o → operands_of cs tag ≡ or_else (operands_of cs tag) (operands_of (c ∷ []) tag)
    first tag (Some x) e = e ∙ ap (λ z. or_else z (operands_of (c ∷ []) tag)) (sym e)
    first tag None e = by (pointwise nat_eq c.tag tag) refl
      where
        by : (b : Bool) → pointwise nat_eq c.tag tag ≡ b → operands_of cs tag ≡ or_else (operands_of cs tag) (operands_of (c ∷ []) tag)
        by true q = absurd (found cs c tag h q e)
        by false q = e ∙ ap (λ b. if b then Some c.operands else None) (sym q) ∙ ap (λ z. or_else z (operands_of (c ∷ []) tag)) (sym e)

    from : (d : CaseDef) → IsCase cs d ⊎ IsCase (c ∷ []) d → IsCase cs d
    from d (inl m) = m
    from d (inr (inl q)) = subst (IsCase cs) (sym q) h
    from d (inr (inr m)) = absurd m

-- ---- cases by their numbers

pub cases-append : (cases : List CaseDef) (ns ms : List ℕ) → cases_at cases (ns ++ ms) ≡ cases_at cases ns ++ cases_at cases ms
cases-append cases ns ms = flat_map-append (λ n. one_case (slice_get cases n)) ns ms

cases-of-one : (cases : List CaseDef) (n : ℕ) (c : CaseDef) → slice_get cases n ≡ Some c → cases_at cases (n ∷ []) ≡ c ∷ []
cases-of-one cases n c e = ap (λ o. one_case o ++ []) e

case-of : (cases : List CaseDef) (ns : List ℕ) (n : ℕ) (c : CaseDef) → IsOne ns n → slice_get cases n ≡ Some c → IsCase (cases_at cases ns) c
case-of cases [] n c m e = absurd m
case-of cases (k ∷ ks) n c (inl q) e = subst (λ o. IsCase (one_case o ++ cases_at cases ks) c) (sym e ∙ ap (slice_get cases) q) (inl refl)
case-of cases (k ∷ ks) n c (inr m) e = case-right (one_case (slice_get cases k)) (cases_at cases ks) c (case-of cases ks n c m e)

-- one number more tells the same as its case at the end
pub added-alike : (cases : List CaseDef) (before after : List ℕ) (n : ℕ) → IsAdded before after n → Alike (cases_at cases after) (cases_at cases before ++ cases_at cases (n ∷ []))
added-alike cases before after n (inr d) = subst (Alike (cases_at cases after)) (ap (cases_at cases) d.1 ∙ cases-append cases before (n ∷ [])) (Alike-refl (cases_at cases after))
added-alike cases before after n (inl d) = subst (λ z. Alike (cases_at cases z) (cases_at cases before ++ cases_at cases (n ∷ []))) (sym d.1) (by (slice_get cases n) refl)
  where
    by : (o : Option CaseDef) → slice_get cases n ≡ o → Alike (cases_at cases before) (cases_at cases before ++ cases_at cases (n ∷ []))
    by None e = subst (Alike (cases_at cases before)) (sym (append-nil (cases_at cases before)) ∙ ap (λ o. cases_at cases before ++ (one_case o ++ [])) (sym e)) (Alike-refl (cases_at cases before))
    by (Some c) e = subst (λ z. Alike (cases_at cases before) (cases_at cases before ++ z)) (sym (cases-of-one cases n c e)) (again (cases_at cases before) c (case-of cases before n c d.0 e))

-- a number more, behind those that are added already
pub adding-alike : (cases : List CaseDef) (start done before after : List ℕ) (n : ℕ) → Alike (cases_at cases before) (cases_at cases start ++ cases_at cases done) → IsAdded before after n
    → Alike (cases_at cases after) (cases_at cases start ++ cases_at cases (done ++ n ∷ []))
adding-alike cases start done before after n a d =
    subst (Alike (cases_at cases after)) (append_assoc (cases_at cases start) (cases_at cases done) (cases_at cases (n ∷ [])) ∙ ap (λ z. cases_at cases start ++ z) (sym (cases-append cases done (n ∷ []))))
    (Alike-trans (cases_at cases after) (cases_at cases before ++ cases_at cases (n ∷ [])) ((cases_at cases start ++ cases_at cases done) ++ cases_at cases (n ∷ []))
    (added-alike cases before after n d)
    (Alike-both (cases_at cases before) (cases_at cases start ++ cases_at cases done) (cases_at cases (n ∷ [])) (cases_at cases (n ∷ [])) a (Alike-refl (cases_at cases (n ∷ [])))))

pub adding-from : (start done before after : List ℕ) (n : ℕ) → ((k : ℕ) → IsOne before k → IsOne (start ++ done) k) → IsAdded before after n → (k : ℕ) → IsOne after k → IsOne (start ++ (done ++ n ∷ [])) k
adding-from start done before after n f d k m = subst (λ z. IsOne z k) (append_assoc start done (n ∷ [])) (by d)
  where
    by : IsAdded before after n → IsOne ((start ++ done) ++ n ∷ []) k
    by (inl e) = one-left (start ++ done) (n ∷ []) k (f k (subst (λ z. IsOne z k) e.1 m))
    by (inr e) = at (split_one before (n ∷ []) k (subst (λ z. IsOne z k) e.1 m))
      where
        at : IsOne before k ⊎ IsOne (n ∷ []) k → IsOne ((start ++ done) ++ n ∷ []) k
        at (inl a) = one-left (start ++ done) (n ∷ []) k (f k a)
        at (inr a) = one-right (start ++ done) (n ∷ []) k a

-- ---- more cases

get-front : (xs ys : List CaseDef) (n : ℕ) → n < length xs → slice_get (xs ++ ys) n ≡ slice_get xs n
get-front [] ys n h = absurd (omega (arith, h))
get-front (x ∷ xs) ys zero h = refl
get-front (x ∷ xs) ys (suc n) h = get-front xs ys n (omega (arith, h))

pub get-seam : (xs : List CaseDef) (c : CaseDef) → slice_get (xs ++ c ∷ []) (length xs) ≡ Some c
get-seam [] c = refl
get-seam (x ∷ xs) c = get-seam xs c

pub cases-front : (cases more : List CaseDef) (ns : List ℕ) → AreWithin cases ns → cases_at (cases ++ more) ns ≡ cases_at cases ns
cases-front cases more [] w = refl
cases-front cases more (n ∷ ns) w = λ i. one_case (get-front cases more n (w n (inl refl)) i) ++ cases-front cases more ns (λ k m. w k (inr m)) i

pub cases-grow : (cases cases' : List CaseDef) (ns : List ℕ) → AreWithin cases ns → Grows cases cases' → cases_at cases' ns ≡ cases_at cases ns
cases-grow cases cases' ns w (more, e) = ap (λ z. cases_at z ns) e ∙ cases-front cases more ns w

-- ---- one number more

pub any-one : (ns : List ℕ) (n : ℕ) → IsTrue (list_any (λ y. nat_eq y n) ns) ↔ IsOne ns n
any-one [] n = (λ f. cc, λ m. absurd m)
any-one (k ∷ ks) n = by (nat_eq k n) refl (any-one ks n)
  where
    by : (b : Bool) → nat_eq k n ≡ b → (IsTrue (list_any (λ y. nat_eq y n) ks) ↔ IsOne ks n) → IsTrue (b || list_any (λ y. nat_eq y n) ks) ↔ ((n ≡ k) ⊎ IsOne ks n)
    by true e h = (λ f. inl (sym ((Decides-eqb k n).0 e)), λ m. refl)
    by false e h = (λ f. inr (h.0 f), λ m. elim m [ inl q ↦ absurd (true≢false (sym ((Decides-eqb k n).1 (sym q)) ∙ e)) | inr r ↦ h.1 r ])

pub IsAdding-start : (start : List ℕ) → IsAdding start [] start
IsAdding-start start = record {
  alike = λ cases. subst (Alike (cases_at cases start)) (sym (append-nil (cases_at cases start))) (Alike-refl (cases_at cases start));
  from = λ n m. one-left start [] n m;
}

pub IsAdding-next : (start done before after : List ℕ) (n : ℕ) → IsAdding start done before → IsAdded before after n → IsAdding start (done ++ n ∷ []) after
IsAdding-next start done before after n a d = record {
  alike = λ cases. adding-alike cases start done before after n (a.alike cases) d;
  from = λ k m. adding-from start done before after n a.from d k m;
}

-- ---- the first operands

pub operands-next : (cases : List CaseDef) (ns : List ℕ) (i : ℕ) (tag : List ℕ) → i < length ns
    → operands_of (cases_at cases (drop i ns)) tag ≡ or_else (operands_of (one_case (slice_get cases (slice_index ns i))) tag) (operands_of (cases_at cases (drop (i + 1) ns)) tag)
operands-next cases ns i tag h =
    let q : drop i ns ≡ slice_index ns i ∷ drop (i + 1) ns = drop-cons ns i 0 h ∙ ap (λ n. slice_index ns i ∷ drop n ns) (sym (add-one i)) in
    ap (λ z. operands_of (cases_at cases z) tag) q ∙ operands-append (one_case (slice_get cases (slice_index ns i))) (cases_at cases (drop (i + 1) ns)) tag

pub operands-found : (cases : List CaseDef) (ns : List ℕ) (i : ℕ) (tag : List ℕ) (operands : List Ty) → i < length ns → Some operands ≡ operands_of (one_case (slice_get cases (slice_index ns i))) tag
    → operands_of (cases_at cases ns) tag ≡ operands_of (cases_at cases (drop i ns)) tag → Some operands ≡ operands_of (cases_at cases ns) tag
operands-found cases ns i tag operands h f inv = sym (inv ∙ operands-next cases ns i tag h ∙ ap (λ z. or_else z (operands_of (cases_at cases (drop (i + 1) ns)) tag)) (sym f))

pub operands-passed : (cases : List CaseDef) (ns : List ℕ) (i : ℕ) (tag : List ℕ) → i < length ns → None ≡ operands_of (one_case (slice_get cases (slice_index ns i))) tag
    → operands_of (cases_at cases ns) tag ≡ operands_of (cases_at cases (drop i ns)) tag → operands_of (cases_at cases ns) tag ≡ operands_of (cases_at cases (drop (i + 1) ns)) tag
operands-passed cases ns i tag h f inv = inv ∙ operands-next cases ns i tag h ∙ ap (λ z. or_else z (operands_of (cases_at cases (drop (i + 1) ns)) tag)) (sym f)

pub operands-end : (cases : List CaseDef) (ns : List ℕ) (i : ℕ) (tag : List ℕ) → length ns ≤ i → operands_of (cases_at cases ns) tag ≡ operands_of (cases_at cases (drop i ns)) tag → None ≡ operands_of (cases_at cases ns) tag
operands-end cases ns i tag h inv = sym (inv ∙ ap (λ z. operands_of (cases_at cases z) tag) (drop_all i ns h))
