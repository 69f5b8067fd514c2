-- How far a walk against citations has come, target after target, and what is found by it.
use Rattle.std.proofs.Common.{◌≡◌, refl, sym, ◌∙◌, ap, ap₂, subst, ℕ, zero, suc, ◌+◌, ◌<◌, ◌≤◌, ◌⊎◌, inl, inr, Bool, true, false, true≢false, ◌||◌, if◌then◌else◌, List, [], ◌∷◌, ◌++◌, length, get_or, take, drop, Option, Some, None, is_some, bytes_eq, arith}
use Rattle.std.specs.Borrow.{Bor}
use Rattle.std.specs.Option.{option_copied}
use Rattle.std.proofs.lemmas.List.{take_all, take_more, take-append-drop, length-map, length-take}
use Rattle.std.proofs.lemmas.Slice.Eq.{bytes_eq-Decides}
use Rattle.st_il.specs.Names.{Name, has_name}
use Rattle.st_order.specs.Known.{at}
use Rattle.st_order.specs.inner.Index.{names_in}
use Rattle.st_modes.specs.inner.Reaching.{Reached, first, next, Grows, HasWalked}
use Rattle.st_modes.specs.inner.Targets.{Numbers, IsLeastOf, lesser, least_first, IsClosed, Spreads, or_number, AreFirst, HasFirst}
use Rattle.st_modes.proofs.HasWalked.{or_cases, or_right, has_itself, has_one, has_left, has_right, has_cases, ends}
use Rattle.st_semantics.proofs.HoleSums.{drop_there}
use Rattle.st_order.proofs.NamesIn.{names_in_last, has_name_append}
use Rattle.st_modes.proofs.LeastOf.{IsLeastOf-none, IsLeastOf-as, IsLeastOf-or, IsLeastOf-more, lesser-assoc, lesser-none}

-- ---- a walk from one target

module _ (citing : Name → List Name) (old : List Name) (target : Name) where
  take_old : (names : List Name) → Grows old (target ∷ []) names → take (length old) names ≡ old
  take_old names g = g.kept (length old) (omega arith) ∙ take_all (length old) old (omega arith)

  -- all that was there has been walked
  begins : (names : List Name) → IsClosed citing old → Grows old (target ∷ []) names → HasWalked (old ++ target ∷ []) citing (length old) names
  begins names closed g = record {
    sound = λ q h. first (sym (g.same q) ∙ h);
    begun = λ q h. g.same q ∙ h;
    closed = λ p q h e. g.same q ∙ has_left old (target ∷ []) q (closed p q (ap (λ z. has_name z p) (sym (take_old names g)) ∙ h) e);
    within = g.longer;
  }

  pub spread-begins : (front : ℕ) (names : List Name) → front ≡ length old → IsClosed citing old → Grows old (target ∷ []) names → HasWalked (old ++ target ∷ []) citing front names
  spread-begins front names is closed g = subst (λ n. HasWalked (old ++ target ∷ []) citing n names) (sym is) (begins names closed g)

  pub spread-kept : (names : List Name) → Grows old (target ∷ []) names → take (length old) names ≡ old
  spread-kept names g = take_old names g

  pub spread-next : (more names new : List Name) → take (length old) names ≡ old → length old ≤ length names → Grows names more new → take (length old) new ≡ old
  spread-next more names new kept longer g = g.kept (length old) longer ∙ kept

  pub spread-ends : (front : ℕ) (names : List Name) → HasWalked (old ++ target ∷ []) citing front names → length names ≤ front → take (length old) names ≡ old → length old ≤ length names → Spreads citing old target names
  spread-ends front names walked beyond kept longer = record { reached = ends (old ++ target ∷ []) citing front names walked beyond; kept = kept; longer = longer }

  -- ---- what it adds

  from_target : IsClosed citing old → (q : Name) → Reached (old ++ target ∷ []) citing q → (has_name old q ≡ true) ⊎ Reached (target ∷ []) citing q
  from_target closed q (first h) = by (has_cases old (target ∷ []) q h)
    where
      by : (has_name old q ≡ true) ⊎ (has_name (target ∷ []) q ≡ true) → (has_name old q ≡ true) ⊎ Reached (target ∷ []) citing q
      by (inl e) = inl e
      by (inr e) = inr (first e)
  from_target closed q (next p r h) = by (from_target closed p r)
    where
      by : (has_name old p ≡ true) ⊎ Reached (target ∷ []) citing p → (has_name old q ≡ true) ⊎ Reached (target ∷ []) citing q
      by (inl e) = inl (closed p q e h)
      by (inr s) = inr (next p s h)

  to_target : (q : Name) → Reached (target ∷ []) citing q → Reached (old ++ target ∷ []) citing q
  to_target q (first h) = first (has_right old (target ∷ []) q h)
  to_target q (next p r h) = next p (to_target p r) h

  known-next : (o : Option ℕ) (b : Bool) (number : ℕ) → (is_some o || b) ≡ is_some (or_number o b number)
  known-next (Some i) b number = refl
  known-next None true number = refl
  known-next None false number = refl

  module _ (targets new more : List Name) (was now : Numbers) (h : HasFirst citing targets old was) (s : Spreads citing old target new) (split : new ≡ old ++ more)
      (put : (q : Name) → at now q ≡ or_number (at was q) (has_name more q) (length targets)) where
    new_has : (q : Name) → has_name new q ≡ (has_name old q || has_name more q)
    new_has q = ap (λ z. has_name z q) split ∙ has_name_append old more q

    not_old : (q : Name) → at was q ≡ None → has_name old q ≡ false
    not_old q e = h.known q ∙ ap is_some e

    reaches : (q : Name) → at was q ≡ None → has_name more q ≡ true → Reached (target ∷ []) citing q
    reaches q e m = by (from_target h.closed q ((s.reached q).0 (new_has q ∙ or_right (has_name old q) (has_name more q) m)))
      where
        by : (has_name old q ≡ true) ⊎ Reached (target ∷ []) citing q → Reached (target ∷ []) citing q
        by (inl there) = absurd (true≢false (sym there ∙ not_old q e))
        by (inr r) = r

    not_reached : (q : Name) → at was q ≡ None → has_name more q ≡ false → Reached (target ∷ []) citing q → ⊥
    not_reached q e m r = true≢false (sym ((s.reached q).1 (to_target q r)) ∙ new_has q ∙ ap₂ (λ a b. a || b) (not_old q e) m)

    pub target-more : HasFirst citing (targets ++ target ∷ []) new now
    target-more = record {
      first = λ q.
          subst (IsLeastOf (λ t. Reached (t ∷ []) citing q) (targets ++ target ∷ [])) (sym (put q))
          (IsLeastOf-more (λ t. Reached (t ∷ []) citing q) targets target (at was q) (has_name more q) (h.first q) (reaches q) (not_reached q));
      known = λ q. new_has q ∙ ap (λ z. z || has_name more q) (h.known q) ∙ known-next (at was q) (has_name more q) (length targets) ∙ ap is_some (sym (put q));
      closed = λ p q e f. (s.reached q).1 (next p ((s.reached p).0 e) f);
    }

-- before the first target
pub target-none : (citing : Name → List Name) (names : List Name) (entries : Numbers) → names ≡ [] → entries ≡ [] → HasFirst citing [] names entries
target-none citing names entries none empty = record {
  first = λ q. subst (λ es. IsLeastOf (λ t. Reached (t ∷ []) citing q) [] (at es q)) (sym empty) (λ j u g r. cc);
  known = λ q. ap (λ z. has_name z q) none ∙ ap (λ es. is_some (at es q)) (sym empty);
  closed = λ p q e f. absurd (true≢false (sym e ∙ ap (λ z. has_name z p) none));
}

module _ (citing : Name → List Name) (targets : List (Bor (List ℕ))) (i : ℕ) where
  -- one target after another
  pub targets-next : (names : List Name) (entries : Numbers) (target : Bor (List ℕ)) → i < length targets → target ≡ get_or targets i target
      → (i ≡ length (names_in (take i targets)) → HasFirst citing (names_in (take i targets) ++ target.now ∷ []) names entries) → HasFirst citing (names_in (take (i + 1) targets)) names entries
  targets-next names entries target within is h =
      let counted : i ≡ length (names_in (take i targets)) = omega (arith, length-map (take i targets) (λ (key : Bor (List ℕ)). key.now), length-take i targets) in
      subst (λ ts. HasFirst citing ts names entries)
      (sym (ap names_in (take_more targets i target within ∙ ap (λ z. take i targets ++ z ∷ []) (sym is)) ∙ names_in_last (take i targets) target)) (h counted)

  pub targets-end : (keys : List (Bor (List ℕ))) (entries : Numbers) → length targets ≤ i → HasFirst citing (names_in (take i targets)) (names_in keys) entries → AreFirst citing (names_in targets) entries
  targets-end keys entries beyond h = subst (λ z. AreFirst citing (names_in z) entries) (take_all i targets beyond) h.first

-- the names behind those that were there
names_in_drop : (n : ℕ) (keys : List (Bor (List ℕ))) → names_in (drop n keys) ≡ drop n (names_in keys)
names_in_drop zero keys = refl
names_in_drop (suc n) [] = refl
names_in_drop (suc n) (key ∷ keys) = names_in_drop n keys

pub spread-split : (citing : Name → List Name) (target : Name) (old new behind : List (Bor (List ℕ))) (n : ℕ) → n ≡ length (names_in old) → behind ≡ drop n new → Spreads citing (names_in old) target (names_in new)
    → names_in new ≡ names_in old ++ names_in behind
spread-split citing target old new behind n count is s =
    sym (take-append-drop n (names_in new)) ∙ ap₂ (λ a b. a ++ b) (ap (λ m. take m (names_in new)) count ∙ s.kept) (sym (ap names_in is ∙ names_in_drop n new))

-- ---- numbers under names

none_there : (o : Option (Bor ℕ)) (p : Option ℕ) (b : Bool) → option_copied o ≡ p → b ≡ is_some o → b ≡ false → p ≡ None
none_there None p b e is f = sym e
none_there (Some n) p b e is f = absurd (true≢false (sym is ∙ f))

pub put-new : (entries new : Numbers) (name : Name) (number : ℕ) (o : Option (Bor ℕ)) (b : Bool) → option_copied o ≡ at entries name → b ≡ is_some o → b ≡ false → ((q : Name) → at new q ≡ (if bytes_eq q name then Some number else at entries q))
    → (q : Name) → at new q ≡ or_number (at entries q) (bytes_eq q name) number
put-new entries new name number o b found is f put q = put q ∙ by (at entries q) refl (bytes_eq q name) refl
  where
    e : at entries name ≡ None
    e = none_there o (at entries name) b found is f

    by : (o : Option ℕ) → at entries q ≡ o → (b : Bool) → bytes_eq q name ≡ b → (if b then Some number else o) ≡ or_number o b number
    by None h true g = refl
    by None h false g = refl
    by (Some j) h false g = refl
    by (Some j) h true g = let same : q ≡ name = (bytes_eq-Decides q name).0 g in let apart : Some j ≡ None = sym h ∙ ap (at entries) same ∙ e in cc

or_number-next : (o : Option ℕ) (a b : Bool) (number : ℕ) → or_number (or_number o a number) b number ≡ or_number o (a || (b || false)) number
or_number-next (Some i) a b number = refl
or_number-next None true b number = refl
or_number-next None false true number = refl
or_number-next None false false number = refl

or_number-none : (o : Option ℕ) (number : ℕ) → o ≡ or_number o false number
or_number-none (Some i) number = refl
or_number-none None number = refl

module _ (initial : Numbers) (names : List (Bor (List ℕ))) (number : ℕ) where
  -- the number stands under those that had none
  abbrev pub Put : List (Bor (List ℕ)) → Numbers → Type 0
  Put some entries = (q : Name) → at entries q ≡ or_number (at initial q) (has_name (names_in some) q) number

  pub put-none : Put (take 0 names) initial
  put-none q = or_number-none (at initial q) number

  pub put-next : (now new : Numbers) (i : ℕ) (name : Bor (List ℕ)) → i < length names → name ≡ get_or names i name → Put (take i names) now
      → ((q : Name) → at new q ≡ or_number (at now q) (bytes_eq q name.now) number) → Put (take (i + 1) names) new
  put-next now new i name within is inv one q =
      one q ∙ ap (λ o. or_number o (bytes_eq q name.now) number) (inv q) ∙ or_number-next (at initial q) (has_name (names_in (take i names)) q) (bytes_eq q name.now) number
      ∙ ap (λ b. or_number (at initial q) b number) (sym front)
    where
      front : has_name (names_in (take (i + 1) names)) q ≡ (has_name (names_in (take i names)) q || (bytes_eq q name.now || false))
      front =
          ap (λ z. has_name (names_in z) q) (take_more names i name within ∙ ap (λ z. take i names ++ z ∷ []) (sym is))
          ∙ ap (λ z. has_name z q) (names_in_last (take i names) name) ∙ has_name_append (names_in (take i names)) (name.now ∷ []) q

  pub put-end : (entries : Numbers) (i : ℕ) → length names ≤ i → Put (take i names) entries → Put names entries
  put-end entries i beyond inv = subst (λ z. Put z entries) (take_all i names beyond) inv

-- ---- the first target of several names

module _ (entries : Numbers) (names : List (Bor (List ℕ))) where
  pub least-next : (i : ℕ) (name : Bor (List ℕ)) (found new one : Option ℕ) (whole : Option ℕ) → i < length names → name ≡ get_or names i name
      → lesser found (least_first entries (names_in (drop i names))) ≡ whole → one ≡ at entries name.now → new ≡ lesser found one → lesser new (least_first entries (names_in (drop (i + 1) names))) ≡ whole
  least-next i name found new one whole within is inv o n =
      ap (λ z. lesser z (least_first entries (names_in (drop (i + 1) names)))) (n ∙ ap (lesser found) o)
      ∙ lesser-assoc found (at entries name.now) (least_first entries (names_in (drop (i + 1) names)))
      ∙ ap (λ z. lesser found (least_first entries (names_in z))) (sym (drop_there names i name within is)) ∙ inv

  pub least-end : (i : ℕ) (found whole : Option ℕ) → drop i names ≡ [] → lesser found (least_first entries (names_in (drop i names))) ≡ whole → found ≡ whole
  least-end i found whole none inv = sym (lesser-none found) ∙ ap (λ z. lesser found (least_first entries (names_in z))) (sym none) ∙ inv

-- ---- with the citations and against them

module _ (cited citing : Name → List Name) (turned : (p q : Name) → has_name (citing q) p ≡ has_name (cited p) q) where
  -- one of the names leads to the target
  abbrev Any : List Name → Name → Type 0
  Any [] t = ⊥
  Any (n ∷ ns) t = Reached (t ∷ []) citing n ⊎ Any ns t

  module _ (start : List Name) where
    along : (t n : Name) → Reached (t ∷ []) citing n → Reached start cited n → Reached start cited t
    along t n (first h) r = subst (Reached start cited) (has_one t n h) r
    along t n (next p s h) r = along t p s (next n r (sym (turned n p) ∙ h))

    any-along : (ns : List Name) → ((n : Name) → has_name ns n ≡ true → has_name start n ≡ true) → (t : Name) → Any ns t → Reached start cited t
    any-along [] among t a = absurd a
    any-along (n ∷ ns) among t (inl s) = along t n s (first (among n (has_itself ns n)))
    any-along (n ∷ ns) among t (inr a) = any-along ns (λ m h. among m (or_right (bytes_eq m n) (has_name ns m) h)) t a

    any-there : (ns : List Name) (q t : Name) → has_name ns q ≡ true → Reached (t ∷ []) citing q → Any ns t
    any-there [] q t h s = absurd (true≢false (sym h))
    any-there (n ∷ ns) q t h s = by (or_cases (bytes_eq q n) (has_name ns q) h) (λ g. any-there ns q t g s)
      where
        by : (bytes_eq q n ≡ true) ⊎ (has_name ns q ≡ true) → (has_name ns q ≡ true → Any ns t) → Any (n ∷ ns) t
        by (inl e) more = inl (subst (Reached (t ∷ []) citing) ((bytes_eq-Decides q n).0 e) s)
        by (inr g) more = inr (more g)

    against : (t q : Name) → Reached start cited q → Reached (t ∷ []) citing q → Any start t
    against t q (first h) s = any-there start q t h s
    against t q (next p r h) s = against t p r (next q s (turned p q ∙ h))

  any-least : (targets : List Name) (entries : Numbers) → AreFirst citing targets entries → (ns : List Name) → IsLeastOf (Any ns) targets (least_first entries ns)
  any-least targets entries h [] = IsLeastOf-none (λ t. ⊥) targets (λ t a. a)
  any-least targets entries h (n ∷ ns) =
      IsLeastOf-or (λ t. Reached (t ∷ []) citing n) (Any ns) targets (at entries n) (least_first entries ns) (h n) (any-least targets entries h ns)

  -- the least number under some names is that of the first target to which they lead
  pub least-reached : (targets : List Name) (entries : Numbers) → AreFirst citing targets entries → (start : List Name) → IsLeastOf (Reached start cited) targets (least_first entries start)
  least-reached targets entries h start =
      IsLeastOf-as (Any start) (Reached start cited) (any-along start start (λ n e. e)) (λ t r. against start t t r (first (has_itself [] t))) targets (least_first entries start)
      (any-least targets entries h start)
