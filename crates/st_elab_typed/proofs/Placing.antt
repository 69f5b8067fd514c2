-- Where occurrences are listed and iterations keep their names, expressions are placed.
use Rattle.std.proofs.Common.{◌≡◌, refl, sym, ap, ◌∙◌, subst, List, [], ◌∷◌, ◌++◌, map, Bool, true, false, true≢false, ◌||◌, ◌&&◌, not, Some}
use Rattle.std.specs.Prelude.{cond, IsTrue, filter, if◌then◌else◌}
use Rattle.std.specs.List.{AllByRecursion, list_all}
use Rattle.std.proofs.lemmas.Slice.Eq.{bytes_eq-Decides}
use Rattle.st_num.specs.Names.{same_name}
use Rattle.st_num.specs.declared.dim.Kind.{Kind}
use Rattle.st_il.specs.Occurrences.{occurs}
use Rattle.st_il.specs.declared.definition.Listed.{Listed}
use Rattle.st_il.specs.declared.expression.IlExp.{IlExp, out-IlExp}
use Rattle.st_il.specs.declared.expression.IlExp.TheOpen.{IlExp-F}
use Rattle.st_il.specs.declared.expression.Iteration.{Iteration}
use Rattle.st_il.specs.declared.ty.Ty.TheVariants as ty
use Rattle.st_il.specs.Names.{Name, has_name, flattened}
use Rattle.st_semantics.specs.Environments.{listed_as}
use Rattle.st_semantics.specs.Iterations.{count_of, index_of, kind_of}
use Rattle.st_semantics.specs.Operands.{operands_at, item_exp, segment_exps}
use Rattle.st_semantics.specs.OperationTypes.{Level}
use Rattle.st_semantics.specs.Scopes.{inner, stepped, stepped_all, indices, listed_inside}
use Rattle.st_ilcheck.specs.Naming.{is_left, has_dimension, goes_over, is_once, is_repeated, is_named, names_exactly, names_kept}
use Rattle.st_ilcheck.specs.Parts.{Part, parts_at, parts_of, standing}
use Rattle.st_ilcheck.specs.Variables.{Occurrence, deeper, inside, occurrences, BeginsWith, IsListed}
use Rattle.st_elab_typed.specs.KeepsNames.{KeepsNames, AllKeepNames, keeps, more}
use Rattle.st_elab_typed.specs.inner.IsPlaced.{IsReached, IsPlaced, ArePlaced, placed}
use Rattle.st_elab_typed.specs.inner.IsPlaced.{none as unplaced, more as place_more}
use Rattle.st_elab_typed.proofs.Members.{Each-append, Each-split, or_left, or_right, Each-weaken}
use Rattle.st_elab_typed.proofs.Occurring.{occurrences-Var, occurrences-plain, occurrences-Iter, in_some, occurs-plain, occurs-Var, occurs-count, occurs-body, IsPlain}

same_itself : (name : Name) → same_name name name ≡ true
same_itself name = (bytes_eq-Decides name name).1 refl

-- ---- what occurs in a part occurs as a name

-- each occurrence in an expression is that of a name that occurs in it
abbrev pub Occurs : IlExp → Occurrence → Type 0
Occurs e o = occurs o.0 e ≡ true

abbrev pub PartOccurs : Part → Type 0
PartOccurs p = AllByRecursion (Occurs p.1) (occurrences p.1)

-- each occurrence in a part is listed
abbrev pub PartListed : Part → Type 0
PartListed p = AllByRecursion (IsListed p.0) (occurrences p.1)

pub some_occur : (ls : List Listed) (es : List IlExp) → AllByRecursion PartOccurs (standing ls es) → AllByRecursion (λ (o : Occurrence). in_some o.0 es ≡ true) (flattened (map occurrences es))
some_occur ls [] h = tt
some_occur ls (e ∷ es) h = Each-append (λ (o : Occurrence). in_some o.0 (e ∷ es) ≡ true) (occurrences e) (flattened (map occurrences es))
    (Each-weaken (Occurs e) (λ (o : Occurrence). in_some o.0 (e ∷ es) ≡ true) (occurrences e) (λ o k. or_left (occurs o.0 e) (in_some o.0 es) k) h.0)
    (Each-weaken (λ (o : Occurrence). in_some o.0 es ≡ true) (λ (o : Occurrence). in_some o.0 (e ∷ es) ≡ true) (flattened (map occurrences es)) (λ o k. or_right (occurs o.0 e) (in_some o.0 es) k) (some_occur ls es h.1))

-- what holds of the occurrences in a body, but for those of an index, holds of them inside
pub each_inside : (P Q : Occurrence → Type 0) (is : List Name) (kind : Kind) (os : List Occurrence) → ((o : Occurrence) → has_name is o.0 ≡ false → P o → Q (deeper kind o)) → AllByRecursion P os → AllByRecursion Q (inside is kind os)
each_inside P Q is kind [] goes h = tt
each_inside P Q is kind (o ∷ os) goes h = by (has_name is o.0) refl (each_inside P Q is kind os goes h.1)
  where
    by : (b : Bool) → has_name is o.0 ≡ b → AllByRecursion Q (inside is kind os)
        → AllByRecursion Q (map (deeper kind) (cond (not b) (o ∷ filter (λ (z : Occurrence). not (has_name is z.0)) os) (filter (λ (z : Occurrence). not (has_name is z.0)) os)))
    by true e rest = rest
    by false e rest = (goes o e h.0, rest)

plain_occurs : (ls : List Listed) (e : IlExp) (y : Level) → out-IlExp e ≡ y → IsPlain y → AllByRecursion PartOccurs (standing ls (operands_at item_exp segment_exps y)) → AllByRecursion (Occurs e) (occurrences e)
plain_occurs ls e y is p h = subst (AllByRecursion (Occurs e)) (sym (occurrences-plain e y is p))
    (Each-weaken (λ (o : Occurrence). in_some o.0 (operands_at item_exp segment_exps y) ≡ true) (Occurs e) (flattened (map occurrences (operands_at item_exp segment_exps y))) (λ o k. occurs-plain o.0 e y is p k)
    (some_occur ls (operands_at item_exp segment_exps y) h))

iteration_occurs : (ls : List Listed) (e : IlExp) (how : Iteration) (xs : List Name) (body : IlExp) → out-IlExp e ≡ IlExp-F.Iter how xs body
    → AllByRecursion PartOccurs (standing ls (count_of how) ++ (listed_inside how xs ls, body) ∷ []) → AllByRecursion (Occurs e) (occurrences e)
iteration_occurs ls e how xs body is h =
    let parts = Each-split PartOccurs (standing ls (count_of how)) ((listed_inside how xs ls, body) ∷ []) h in
    subst (AllByRecursion (Occurs e)) (sym (occurrences-Iter e how xs body is))
    (Each-append (Occurs e) (flattened (map occurrences (count_of how))) (inside (index_of how) (kind_of how) (occurrences body))
    (Each-weaken (λ (o : Occurrence). in_some o.0 (count_of how) ≡ true) (Occurs e) (flattened (map occurrences (count_of how))) (λ o k. occurs-count o.0 e how xs body is k) (some_occur ls (count_of how) parts.0))
    (each_inside (Occurs body) (Occurs e) (index_of how) (kind_of how) (occurrences body) (λ o other k. occurs-body o.0 e how xs body is other k) parts.1.0))

level_occurs : (ls : List Listed) (e : IlExp) (y : Level) → out-IlExp e ≡ y → AllByRecursion PartOccurs (parts_at ls y) → AllByRecursion (Occurs e) (occurrences e)
level_occurs ls e (IlExp-F.Var x) is h = subst (AllByRecursion (Occurs e)) (sym (occurrences-Var e x is)) (occurs-Var x e is (same_itself x), tt)
level_occurs ls e (IlExp-F.Iter how xs body) is h = iteration_occurs ls e how xs body is h
level_occurs ls e y is h = plain_occurs ls e y is tt h

mutual
  pub occurring : (ls : List Listed) (e : IlExp) → KeepsNames ls e → AllByRecursion (Occurs e) (occurrences e)
  occurring ls e (keeps names parts) = level_occurs ls e (out-IlExp e) refl (parts_occur (parts_of ls e) parts)

  pub parts_occur : (ps : List Part) → AllKeepNames ps → AllByRecursion PartOccurs ps
  parts_occur [] k = tt
  parts_occur (p ∷ ps) (more k ks) = (occurring p.0 p.1 k, parts_occur ps ks)

-- ---- variables as they are listed inside

index_listed : (is : List Name) (ls : List Listed) (x : Name) → has_name is x ≡ true → (l : Listed) × ((listed_as x (indices is ++ ls) ≡ Some l) × (l.dim ≡ []))
index_listed [] ls x h = absurd (true≢false (sym h))
index_listed (i ∷ is) ls x h = by (same_name x i) h (index_listed is ls x)
  where
    by : (b : Bool) → (b || has_name is x) ≡ true → (has_name is x ≡ true → (l : Listed) × ((listed_as x (indices is ++ ls) ≡ Some l) × (l.dim ≡ [])))
        → (l : Listed) × (((if b then Some (record { name = i; ty = ty.Nat; dim = [] }) else listed_as x (indices is ++ ls)) ≡ Some l) × (l.dim ≡ []))
    by true k next = (record { name = i; ty = ty.Nat; dim = [] }, (refl, refl))
    by false k next = next k

pub stepped_listed : (xs : List Name) (ls : List Listed) (x : Name) (l : Listed) → listed_as x ls ≡ Some l → listed_as x (stepped_all xs ls) ≡ Some (stepped xs l)
stepped_listed xs [] x l h = absurd (cc)
stepped_listed xs (k ∷ ls) x l h = by (same_name x k.name) h (stepped_listed xs ls x l)
  where
    by : (b : Bool) → (if b then Some k else listed_as x ls) ≡ Some l → (listed_as x ls ≡ Some l → listed_as x (stepped_all xs ls) ≡ Some (stepped xs l)) → (if b then Some (stepped xs k) else listed_as x (stepped_all xs ls)) ≡ Some (stepped xs l)
    by true e next = let same : k ≡ l = cc in ap (λ z. Some (stepped xs z)) same
    by false e next = next e

pub other_listed : (is : List Name) (ls : List Listed) (x : Name) (l : Listed) → has_name is x ≡ false → listed_as x ls ≡ Some l → listed_as x (indices is ++ ls) ≡ Some l
other_listed [] ls x l h k = k
other_listed (i ∷ is) ls x l h k = by (same_name x i) h (λ n. other_listed is ls x l n k)
  where
    by : (b : Bool) → (b || has_name is x) ≡ false → (has_name is x ≡ false → listed_as x (indices is ++ ls) ≡ Some l) → (if b then Some (record { name = i; ty = ty.Nat; dim = [] }) else listed_as x (indices is ++ ls)) ≡ Some l
    by true e next = absurd (true≢false e)
    by false e next = next e

pub listed_name : (ls : List Listed) (x : Name) (l : Listed) → listed_as x ls ≡ Some l → x ≡ l.name
listed_name [] x l h = absurd (cc)
listed_name (k ∷ ls) x l h = by (same_name x k.name) refl h (listed_name ls x l)
  where
    by : (b : Bool) → same_name x k.name ≡ b → (if b then Some k else listed_as x ls) ≡ Some l → (listed_as x ls ≡ Some l → x ≡ l.name) → x ≡ l.name
    by true e g next = let same : k ≡ l = cc in (bytes_eq-Decides x k.name).0 e ∙ ap (λ z. z.name) same
    by false e g next = next g

pub and-left : (a b : Bool) → (a && b) ≡ true → a ≡ true
and-left true b h = refl
and-left false b h = h

pub and-right : (a b : Bool) → (a && b) ≡ true → b ≡ true
and-right true b h = h
and-right false b h = absurd (true≢false (sym h))

-- what holds of all that are listed holds of one
test_listed : (test : Listed → Bool) (ls : List Listed) (x : Name) (l : Listed) → list_all test ls ≡ true → listed_as x ls ≡ Some l → test l ≡ true
test_listed test [] x l h k = absurd (cc)
test_listed test (m ∷ ls) x l h k = by (same_name x m.name) k (test_listed test ls x l (and-right (test m) (list_all test ls) h))
  where
    by : (b : Bool) → (if b then Some m else listed_as x ls) ≡ Some l → (listed_as x ls ≡ Some l → test l ≡ true) → test l ≡ true
    by true e next = let same : m ≡ l = cc in ap test (sym same) ∙ and-left (test m) (list_all test ls) h
    by false e next = next e

-- ---- dimensions

not_left : (dim : List Kind) → is_left dim ≡ false → dim ≡ []
not_left [] h = refl
not_left (k ∷ ks) h = absurd (true≢false h)

inner_begins : (dim : List Kind) (k : Kind) (chain : List Kind) → BeginsWith dim (k ∷ chain) → BeginsWith (inner dim) chain
inner_begins [] k chain b = record { rest = chain; whole = refl }
inner_begins (d ∷ ds) k chain b = let whole : k ∷ chain ≡ d ∷ (ds ++ b.rest) = b.whole in record { rest = b.rest; whole = cc }

-- a variable of which the test is true, as one that occurs in the body, and which is not named, has
-- no dimension left
unnamed : (how : Iteration) (xs : List Name) (ls : List Listed) (test : Name → Bool) (x : Name) (l : Listed) → names_exactly how xs ls test ≡ true → listed_as x ls ≡ Some l → has_name (index_of how) x ≡ false → test x ≡ true
    → has_name xs l.name ≡ false → l.dim ≡ []
unnamed how xs ls test x l exact found other occurs_in not_named =
    let same = listed_name ls x l found in
    let last = and-right (is_once xs) _ exact in
    let all = and-left (list_all (is_named how xs ls test) ls) (is_repeated xs (count_of how)) (and-right (list_all (goes_over how ls test) xs) _ last) in
    let named : (not (goes_over how ls test l.name) || has_name xs l.name) ≡ true = test_listed (is_named how xs ls test) ls x l all found in
    not_left l.dim
    (ap has_dimension (sym found)
    ∙ not_over (has_dimension (listed_as x ls)) (has_name (index_of how) x) (test x) other occurs_in
    (ap (λ z. not (has_dimension (listed_as z ls) && (not (has_name (index_of how) z) && test z))) same ∙ none_named (goes_over how ls test l.name) (has_name xs l.name) not_named named))
  where
    none_named : (a b : Bool) → b ≡ false → (not a || b) ≡ true → not a ≡ true
    none_named true b n h = sym n ∙ h
    none_named false b n h = refl

    not_over : (d i o : Bool) → i ≡ false → o ≡ true → not (d && (not i && o)) ≡ true → d ≡ false
    not_over false i o n y h = refl
    not_over true true o n y h = absurd (true≢false n)
    not_over true false true n y h = absurd (true≢false (sym h))
    not_over true false false n y h = absurd (true≢false (sym y))

-- ---- parts

pub each_listed : (ls : List Listed) (es : List IlExp) → AllByRecursion (IsListed ls) (flattened (map occurrences es)) → AllByRecursion PartListed (standing ls es)
each_listed ls [] h = tt
each_listed ls (e ∷ es) h = let r = Each-split (IsListed ls) (occurrences e) (flattened (map occurrences es)) h in (r.0, each_listed ls es r.1)

module _ (how : Iteration) (xs : List Name) (ls : List Listed) (test : Name → Bool) (exact : names_exactly how xs ls test ≡ true) where
  -- an occurrence in the body, by the same occurrence with the iteration round it
  stepped_in : (o : Occurrence) → has_name (index_of how) o.0 ≡ false → test o.0 ≡ true → IsListed ls (deeper (kind_of how) o) → IsListed (listed_inside how xs ls) o
  stepped_in o other occurs_in h = record {
    variable = stepped xs h.variable;
    found = other_listed (index_of how) (stepped_all xs ls) o.0 (stepped xs h.variable) other (stepped_listed xs ls o.0 h.variable h.found);
    begins = by (has_name xs (h.variable).name) refl;
  }
    where
      by : (b : Bool) → has_name xs (h.variable).name ≡ b → BeginsWith (if b then inner (h.variable).dim else (h.variable).dim) o.1
      by true e = inner_begins (h.variable).dim (kind_of how) o.1 h.begins
      by false e = record { rest = o.1; whole = ap (λ z. z ++ o.1) (sym (unnamed how xs ls test o.0 h.variable exact h.found other occurs_in e)) }

  index_in : (o : Occurrence) → has_name (index_of how) o.0 ≡ true → IsListed (listed_inside how xs ls) o
  index_in o h =
      let r = index_listed (index_of how) (stepped_all xs ls) o.0 h in
      record { variable = r.0; found = r.1.0; begins = record { rest = o.1; whole = ap (λ z. z ++ o.1) (sym r.1.1) } }

  -- where the occurrences with the iteration round them are listed, they are listed inside
  pub body_listed : (os : List Occurrence) → AllByRecursion (λ (o : Occurrence). test o.0 ≡ true) os → AllByRecursion (IsListed ls) (inside (index_of how) (kind_of how) os) → AllByRecursion (IsListed (listed_inside how xs ls)) os
  body_listed [] h k = tt
  body_listed (o ∷ os) h k = by (has_name (index_of how) o.0) refl k (λ l. body_listed os h.1 l)
    where
      by : (b : Bool) → has_name (index_of how) o.0 ≡ b
          → AllByRecursion (IsListed ls) (map (deeper (kind_of how)) (cond (not b) (o ∷ filter (λ (z : Occurrence). not (has_name (index_of how) z.0)) os) (filter (λ (z : Occurrence). not (has_name (index_of how) z.0)) os)))
          → (AllByRecursion (IsListed ls) (inside (index_of how) (kind_of how) os) → AllByRecursion (IsListed (listed_inside how xs ls)) os) → AllByRecursion (IsListed (listed_inside how xs ls)) (o ∷ os)
      by true e l next = (index_in o e, next l)
      by false e l next = (stepped_in o e h.0 l.0, next l.1)

iteration_listed : (ls : List Listed) (e : IlExp) (how : Iteration) (xs : List Name) (body : IlExp) → out-IlExp e ≡ IlExp-F.Iter how xs body → names_exactly how xs ls (λ z. occurs z body) ≡ true
    → AllByRecursion PartOccurs (standing ls (count_of how) ++ (listed_inside how xs ls, body) ∷ []) → AllByRecursion (IsListed ls) (occurrences e)
    → AllByRecursion PartListed (standing ls (count_of how) ++ (listed_inside how xs ls, body) ∷ [])
iteration_listed ls e how xs body is exact occur h =
    let parts = Each-split PartOccurs (standing ls (count_of how)) ((listed_inside how xs ls, body) ∷ []) occur in
    let split = Each-split (IsListed ls) (flattened (map occurrences (count_of how))) (inside (index_of how) (kind_of how) (occurrences body)) (subst (AllByRecursion (IsListed ls)) (occurrences-Iter e how xs body is) h) in
    Each-append PartListed (standing ls (count_of how)) ((listed_inside how xs ls, body) ∷ []) (each_listed ls (count_of how) split.0)
    (body_listed how xs ls (λ z. occurs z body) exact (occurrences body) parts.1.0 split.1, tt)

plain_listed : (ls : List Listed) (e : IlExp) (y : Level) → out-IlExp e ≡ y → IsPlain y → AllByRecursion (IsListed ls) (occurrences e) → AllByRecursion PartListed (standing ls (operands_at item_exp segment_exps y))
plain_listed ls e y is p h = each_listed ls (operands_at item_exp segment_exps y) (subst (AllByRecursion (IsListed ls)) (occurrences-plain e y is p) h)

parts_listed : (ls : List Listed) (e : IlExp) (y : Level) → out-IlExp e ≡ y → IsTrue (names_kept ls y) → AllByRecursion PartOccurs (parts_at ls y) → AllByRecursion (IsListed ls) (occurrences e) → AllByRecursion PartListed (parts_at ls y)
parts_listed ls e (IlExp-F.Var x) is names occur h = tt
parts_listed ls e (IlExp-F.Iter how xs body) is names occur h = iteration_listed ls e how xs body is names occur h
parts_listed ls e y is names occur h = plain_listed ls e y is tt h

reached : (ls : List Listed) (e : IlExp) (y : Level) → out-IlExp e ≡ y → AllByRecursion (IsListed ls) (occurrences e) → IsReached ls y
reached ls e (IlExp-F.Var x) is h =
    let r = (subst (AllByRecursion (IsListed ls)) (occurrences-Var e x is) h).0 in
    (r.variable, r.found, none_left (r.variable).dim (r.begins).rest (r.begins).whole)
  where
    none_left : (dim rest : List Kind) → [] ≡ dim ++ rest → dim ≡ []
    none_left [] rest w = refl
    none_left (k ∷ ks) rest w = absurd (cc)
reached ls e y is h = tt

mutual
  pub IsPlaced-listed : (ls : List Listed) (e : IlExp) → KeepsNames ls e → AllByRecursion (IsListed ls) (occurrences e) → IsPlaced ls e
  IsPlaced-listed ls e (keeps names parts) h =
      placed (reached ls e (out-IlExp e) refl h) names (ArePlaced-listed (parts_of ls e) parts (parts_listed ls e (out-IlExp e) refl names (parts_occur (parts_of ls e) parts) h))

  pub ArePlaced-listed : (ps : List Part) → AllKeepNames ps → AllByRecursion PartListed ps → ArePlaced ps
  ArePlaced-listed [] k h = unplaced
  ArePlaced-listed (p ∷ ps) (more k ks) h = place_more (IsPlaced-listed p.0 p.1 k h.0) (ArePlaced-listed ps ks h.1)
