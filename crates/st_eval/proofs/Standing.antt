-- Occurrences of listed variables, and premises whose iterations go over such variables.
use Rattle.std.proofs.Common.{◌≡◌, refl, sym, ap, ◌∙◌, subst, List, [], ◌∷◌, ◌++◌, map, Bool, true, false, true≢false, ◌||◌, ◌&&◌, not, Some, inl, inr, bytes_eq}
use Rattle.std.specs.Prelude.{cond, filter, if◌then◌else◌}
use Rattle.std.specs.List.{AllByRecursion, list_all}
use Rattle.std.proofs.lemmas.Slice.Eq.{bytes_eq-Decides}
use Rattle.st_num.specs.Names.{same_name}
use Rattle.st_num.specs.declared.dim.Kind.{Kind}
use Rattle.st_il.specs.Occurrences.{occurs_in_prem}
use Rattle.st_il.specs.declared.definition.Listed.{Listed}
use Rattle.st_il.specs.declared.expression.IlExp.{IlExp, out-IlExp}
use Rattle.st_il.specs.declared.expression.IlExp.TheOpen.{IlExp-F}
use Rattle.st_il.specs.declared.expression.IlPrem.{IlPrem, out-IlPrem}
use Rattle.st_il.specs.declared.expression.IlPrem.TheOpen.{IlPrem-F}
use Rattle.st_il.specs.declared.expression.Iteration.{Iteration}
use Rattle.st_il.specs.declared.ty.Ty.TheVariants as ty
use Rattle.st_il.specs.Names.{Name, has_name, without}
use Rattle.st_semantics.specs.Environments.{listed_as, listed_names}
use Rattle.st_semantics.specs.Iterations.{count_of, index_of, kind_of}
use Rattle.st_semantics.specs.Kinds as kinds
use Rattle.st_semantics.specs.Kinds.{IsKinded, NamesOccurring}
use Rattle.st_semantics.specs.Scopes.{inner, stepped, stepped_all, indices, listed_inside}
use Rattle.st_semantics.specs.Variables.{prem_vars}
use Rattle.st_semantics.proofs.Names.{Within, bytes-same, bytes-path, or-left, or-right, or-cases, true_false, without-other}
use Rattle.st_ilcheck.specs.Naming.{is_left, has_dimension, goes_over, is_once, is_repeated, is_named, names_exactly}
use Rattle.st_ilcheck.specs.Variables.{Occurrence, deeper, inside, occurrences_in, prem_occurrences, names_of, BeginsWith, IsListed}
use Rattle.st_eval.specs.CanBeMet as met
use Rattle.st_eval.specs.CanBeMet.{CountsAreApart}
use Rattle.st_eval.proofs.Trying.{known_all}
use Rattle.st_eval.proofs.Occurring.{occurrences-Var, prem_occurrences-Each}
use Rattle.st_eval.proofs.NamesKept.{PremKeepsNames, plain, each, names_exactly-named, PremKeepsNames-occurs, PremKeepsNames-vars, Each-split}

pub Each-weaken : {X : Type 0} (P Q : X → Type 0) (xs : List X) → ((x : X) → P x → Q x) → AllByRecursion P xs → AllByRecursion Q xs
Each-weaken P Q [] goes h = tt
Each-weaken P Q (x ∷ xs) goes h = (goes x h.0, Each-weaken P Q xs goes h.1)

-- ---- variables as they are listed inside

index_listed : (is : List Name) (ls : List Listed) (x : Name) → has_name is x ≡ true → (l : Listed) × ((listed_as x (indices is ++ ls) ≡ Some l) × (l.dim ≡ []))
index_listed [] ls x h = absurd (true≢false (sym h))
index_listed (i ∷ is) ls x h = by (same_name x i) h (index_listed is ls x)
  where
    by : (b : Bool) → (b || has_name is x) ≡ true → (has_name is x ≡ true → (l : Listed) × ((listed_as x (indices is ++ ls) ≡ Some l) × (l.dim ≡ [])))
        → (l : Listed) × (((if b then Some (record { name = i; ty = ty.Nat; dim = [] }) else listed_as x (indices is ++ ls)) ≡ Some l) × (l.dim ≡ []))
    by true k next = (record { name = i; ty = ty.Nat; dim = [] }, (refl, refl))
    by false k next = next k

stepped_listed : (xs : List Name) (ls : List Listed) (x : Name) (l : Listed) → listed_as x ls ≡ Some l → listed_as x (stepped_all xs ls) ≡ Some (stepped xs l)
stepped_listed xs [] x l h = absurd (cc)
stepped_listed xs (k ∷ ls) x l h = by (same_name x k.name) h (stepped_listed xs ls x l)
  where
    by : (b : Bool) → (if b then Some k else listed_as x ls) ≡ Some l → (listed_as x ls ≡ Some l → listed_as x (stepped_all xs ls) ≡ Some (stepped xs l)) → (if b then Some (stepped xs k) else listed_as x (stepped_all xs ls)) ≡ Some (stepped xs l)
    by true e next = let same : k ≡ l = cc in ap (λ z. Some (stepped xs z)) same
    by false e next = next e

other_listed : (is : List Name) (ls : List Listed) (x : Name) (l : Listed) → has_name is x ≡ false → listed_as x ls ≡ Some l → listed_as x (indices is ++ ls) ≡ Some l
other_listed [] ls x l h k = k
other_listed (i ∷ is) ls x l h k = by (same_name x i) h (λ n. other_listed is ls x l n k)
  where
    by : (b : Bool) → (b || has_name is x) ≡ false → (has_name is x ≡ false → listed_as x (indices is ++ ls) ≡ Some l) → (if b then Some (record { name = i; ty = ty.Nat; dim = [] }) else listed_as x (indices is ++ ls)) ≡ Some l
    by true e next = absurd (true≢false e)
    by false e next = next e

listed_name : (ls : List Listed) (x : Name) (l : Listed) → listed_as x ls ≡ Some l → x ≡ l.name
listed_name [] x l h = absurd (cc)
listed_name (k ∷ ls) x l h = by (same_name x k.name) refl h (listed_name ls x l)
  where
    by : (b : Bool) → same_name x k.name ≡ b → (if b then Some k else listed_as x ls) ≡ Some l → (listed_as x ls ≡ Some l → x ≡ l.name) → x ≡ l.name
    by true e g next = let same : k ≡ l = cc in (bytes_eq-Decides x k.name).0 e ∙ ap (λ z. z.name) same
    by false e g next = next g

and-left : (a b : Bool) → (a && b) ≡ true → a ≡ true
and-left true b h = refl
and-left false b h = h

and-right : (a b : Bool) → (a && b) ≡ true → b ≡ true
and-right true b h = h
and-right false b h = absurd (true≢false (sym h))

-- what holds of all that are listed holds of one
test_listed : (test : Listed → Bool) (ls : List Listed) (x : Name) (l : Listed) → list_all test ls ≡ true → listed_as x ls ≡ Some l → test l ≡ true
test_listed test [] x l h k = absurd (cc)
test_listed test (m ∷ ls) x l h k = by (same_name x m.name) k (test_listed test ls x l (and-right (test m) (list_all test ls) h))
  where
    by : (b : Bool) → (if b then Some m else listed_as x ls) ≡ Some l → (listed_as x ls ≡ Some l → test l ≡ true) → test l ≡ true
    by true e next = let same : m ≡ l = cc in ap test (sym same) ∙ and-left (test m) (list_all test ls) h
    by false e next = next e

-- ---- dimensions

not_left : (dim : List Kind) → is_left dim ≡ false → dim ≡ []
not_left [] h = refl
not_left (k ∷ ks) h = absurd (true≢false h)

inner_begins : (dim : List Kind) (k : Kind) (chain : List Kind) → BeginsWith dim (k ∷ chain) → BeginsWith (inner dim) chain
inner_begins [] k chain b = record { rest = chain; whole = refl }
inner_begins (d ∷ ds) k chain b = let whole : k ∷ chain ≡ d ∷ (ds ++ b.rest) = b.whole in record { rest = b.rest; whole = cc }

-- a variable of which the test is true, as one that occurs in the body, and which is not named, has
-- no dimension left
unnamed : (how : Iteration) (xs : List Name) (ls : List Listed) (test : Name → Bool) (x : Name) (l : Listed) → names_exactly how xs ls test ≡ true → listed_as x ls ≡ Some l → has_name (index_of how) x ≡ false → test x ≡ true
    → has_name xs l.name ≡ false → l.dim ≡ []
unnamed how xs ls test x l exact found other occurs_in not_named =
    let same = listed_name ls x l found in
    let last = and-right (is_once xs) _ exact in
    let all = and-left (list_all (is_named how xs ls test) ls) (is_repeated xs (count_of how)) (and-right (list_all (goes_over how ls test) xs) _ last) in
    let named : (not (goes_over how ls test l.name) || has_name xs l.name) ≡ true = test_listed (is_named how xs ls test) ls x l all found in
    not_left l.dim
    (ap has_dimension (sym found)
    ∙ not_over (has_dimension (listed_as x ls)) (has_name (index_of how) x) (test x) other occurs_in
    (ap (λ z. not (has_dimension (listed_as z ls) && (not (has_name (index_of how) z) && test z))) same ∙ none_named (goes_over how ls test l.name) (has_name xs l.name) not_named named))
  where
    none_named : (a b : Bool) → b ≡ false → (not a || b) ≡ true → not a ≡ true
    none_named true b n h = sym n ∙ h
    none_named false b n h = refl

    not_over : (d i o : Bool) → i ≡ false → o ≡ true → not (d && (not i && o)) ≡ true → d ≡ false
    not_over false i o n y h = refl
    not_over true true o n y h = absurd (true≢false n)
    not_over true false true n y h = absurd (true≢false (sym h))
    not_over true false false n y h = absurd (true≢false (sym y))

module _ (how : Iteration) (xs : List Name) (ls : List Listed) (test : Name → Bool) (exact : names_exactly how xs ls test ≡ true) where
  -- an occurrence in the body, by the same occurrence with the iteration round it
  stepped_in : (o : Occurrence) → has_name (index_of how) o.0 ≡ false → test o.0 ≡ true → IsListed ls (deeper (kind_of how) o) → IsListed (listed_inside how xs ls) o
  stepped_in o other occurs_in h = record {
    variable = stepped xs h.variable;
    found = other_listed (index_of how) (stepped_all xs ls) o.0 (stepped xs h.variable) other (stepped_listed xs ls o.0 h.variable h.found);
    begins = by (has_name xs (h.variable).name) refl;
  }
    where
      by : (b : Bool) → has_name xs (h.variable).name ≡ b → BeginsWith (if b then inner (h.variable).dim else (h.variable).dim) o.1
      by true e = inner_begins (h.variable).dim (kind_of how) o.1 h.begins
      by false e = record { rest = o.1; whole = ap (λ z. z ++ o.1) (sym (unnamed how xs ls test o.0 h.variable exact h.found other occurs_in e)) }

  index_in : (o : Occurrence) → has_name (index_of how) o.0 ≡ true → IsListed (listed_inside how xs ls) o
  index_in o h =
      let r = index_listed (index_of how) (stepped_all xs ls) o.0 h in
      record { variable = r.0; found = r.1.0; begins = record { rest = o.1; whole = ap (λ z. z ++ o.1) (sym r.1.1) } }

  -- where the occurrences with the iteration round them are listed, they are listed inside
  pub body_listed : (os : List Occurrence) → AllByRecursion (λ (o : Occurrence). test o.0 ≡ true) os → AllByRecursion (IsListed ls) (inside (index_of how) (kind_of how) os) → AllByRecursion (IsListed (listed_inside how xs ls)) os
  body_listed [] h k = tt
  body_listed (o ∷ os) h k = by (has_name (index_of how) o.0) refl k (λ l. body_listed os h.1 l)
    where
      by : (b : Bool) → has_name (index_of how) o.0 ≡ b
          → AllByRecursion (IsListed ls) (map (deeper (kind_of how)) (cond (not b) (o ∷ filter (λ (z : Occurrence). not (has_name (index_of how) z.0)) os) (filter (λ (z : Occurrence). not (has_name (index_of how) z.0)) os)))
          → (AllByRecursion (IsListed ls) (inside (index_of how) (kind_of how) os) → AllByRecursion (IsListed (listed_inside how xs ls)) os) → AllByRecursion (IsListed (listed_inside how xs ls)) (o ∷ os)
      by true e l next = (index_in o e, next l)
      by false e l next = (stepped_in o e h.0 l.0, next l.1)

-- ---- names of occurrences

pub own_names : (os : List Occurrence) → AllByRecursion (λ (o : Occurrence). has_name (names_of os) o.0 ≡ true) os
own_names [] = tt
own_names (o ∷ os) = (
  or-left (bytes_eq o.0 o.0) (has_name (names_of os) o.0) (bytes-same o.0),
  Each-weaken (λ (z : Occurrence). has_name (names_of os) z.0 ≡ true) (λ (z : Occurrence). has_name (names_of (o ∷ os)) z.0 ≡ true) os (λ z h. or-right (bytes_eq z.0 o.0) (has_name (names_of os) z.0) h) (own_names os),
)

-- a variable that is found is listed
pub listed_as-named : (ls : List Listed) (x : Name) (l : Listed) → listed_as x ls ≡ Some l → has_name (listed_names ls) x ≡ true
listed_as-named [] x l h = absurd (cc)
listed_as-named (m ∷ ls) x l h = by (bytes_eq x m.name) h (listed_as-named ls x l)
  where
    by : (b : Bool) → (if b then Some m else listed_as x ls) ≡ Some l → (listed_as x ls ≡ Some l → has_name (listed_names ls) x ≡ true) → (b || has_name (listed_names ls) x) ≡ true
    by true e next = refl
    by false e next = next e

pub names_listed : (ls : List Listed) (os : List Occurrence) → AllByRecursion (IsListed ls) os → Within (names_of os) (listed_names ls)
names_listed ls [] h x i = absurd (cc)
names_listed ls (o ∷ os) h x i = elim (or-cases (bytes_eq x o.0) (has_name (names_of os) x) i) [
  | inl e ↦ subst (λ z. has_name (listed_names ls) z ≡ true) (sym (bytes-path x o.0 e)) (listed_as-named ls o.0 (h.0).variable (h.0).found)
  | inr e ↦ names_listed ls os h.1 x e
]

-- an occurrence in the body that is not the index, with the iteration round it
pub found_inside : (ls : List Listed) (index : List Name) (kind : Kind) (x : Name) → has_name index x ≡ false → (os : List Occurrence) → AllByRecursion (IsListed ls) (inside index kind os) → has_name (names_of os) x ≡ true
    → (ks : List Kind) × IsListed ls (x, kind ∷ ks)
found_inside ls index kind x n [] h i = absurd (cc)
found_inside ls index kind x n (o ∷ os) h i = by (has_name index o.0) refl (bytes_eq x o.0) refl h i (found_inside ls index kind x n os)
  where
    by : (b : Bool) → has_name index o.0 ≡ b → (d : Bool) → bytes_eq x o.0 ≡ d
        → AllByRecursion (IsListed ls) (map (deeper kind) (cond (not b) (o ∷ filter (λ (z : Occurrence). not (has_name index z.0)) os) (filter (λ (z : Occurrence). not (has_name index z.0)) os)))
        → (d || has_name (names_of os) x) ≡ true
        → (AllByRecursion (IsListed ls) (inside index kind os) → has_name (names_of os) x ≡ true → (ks : List Kind) × IsListed ls (x, kind ∷ ks))
        → (ks : List Kind) × IsListed ls (x, kind ∷ ks)
    by true e true f l j next = absurd (true_false (sym (ap (has_name index) (bytes-path x o.0 f) ∙ e) ∙ n))
    by true e false f l j next = next l j
    by false e true f l j next = (o.1, subst (λ z. IsListed ls (z, kind ∷ o.1)) (sym (bytes-path x o.0 f)) l.0)
    by false e false f l j next = next l.1 j

pub begins_kind : (dim : List Kind) (k : Kind) (ks : List Kind) → is_left dim ≡ true → BeginsWith dim (k ∷ ks) → kinds.BeginsWith k dim
begins_kind [] k ks left b = absurd (cc)
begins_kind (d ∷ ds) k ks left b = let whole : k ∷ ks ≡ d ∷ (ds ++ b.rest) = b.whole in let same : d ≡ k = cc in same

none_left : (dim rest : List Kind) → [] ≡ dim ++ rest → dim ≡ []
none_left [] rest w = refl
none_left (k ∷ ks) rest w = absurd (cc)

-- ---- premises

-- What typing says of the iterations of a premise.
pub record Stands (ls : List Listed) (p : IlPrem) : Type 0 where
  pub kinded : IsKinded ls p
  pub occurring : NamesOccurring p
  pub apart : CountsAreApart p

plain_stands : (ls : List Listed) (p : IlPrem) (y : IlPrem-F IlPrem) → out-IlPrem p ≡ y → ((how : Iteration) (xs : List Name) (body : IlPrem) → out-IlPrem p ≡ IlPrem-F.Each how xs body → ⊥) → Stands ls p
plain_stands ls p (IlPrem-F.If e) is n = record { kinded = kinds.IsKinded.condition e is; occurring = kinds.NamesOccurring.condition e is; apart = met.CountsAreApart.plain n }
plain_stands ls p (IlPrem-F.Goal relation es) is n = record { kinded = kinds.IsKinded.goal relation es is; occurring = kinds.NamesOccurring.goal relation es is; apart = met.CountsAreApart.plain n }
plain_stands ls p IlPrem-F.Otherwise is n = record { kinded = kinds.IsKinded.otherwise is; occurring = kinds.NamesOccurring.otherwise is; apart = met.CountsAreApart.plain n }
plain_stands ls p (IlPrem-F.Each how xs body) is n = absurd (n how xs body is)

module _ (ls : List Listed) (how : Iteration) (xs : List Name) (body : IlPrem) (exact : names_exactly how xs ls (λ x. occurs_in_prem x body) ≡ true) (k : PremKeepsNames (listed_inside how xs ls) body) where
  goes : (x : Name) → has_name xs x ≡ true → (has_dimension (listed_as x ls) ≡ true) × (has_name (index_of how) x ≡ false) × (occurs_in_prem x body ≡ true)
  goes x i = names_exactly-named how xs ls (λ z. occurs_in_prem z body) exact x i

  of_its_kind : AllByRecursion (IsListed ls) (inside (index_of how) (kind_of how) (prem_occurrences body)) → kinds.AreOfItsKind how xs ls
  of_its_kind h x i l e =
      let g = goes x i in
      let found = found_inside ls (index_of how) (kind_of how) x g.1 (prem_occurrences body) h (sym (PremKeepsNames-occurs k x) ∙ g.2) in
      let both : Some (found.1).variable ≡ Some l = sym (found.1).found ∙ e in
      let same : (found.1).variable ≡ l = cc in
      begins_kind l.dim (kind_of how) found.0 (sym (ap has_dimension e) ∙ g.0) (subst (λ (z : Listed). BeginsWith z.dim (kind_of how ∷ found.0)) same (found.1).begins)

  of_its_body : kinds.AreOfItsBody how xs body
  of_its_body = known_all (without (index_of how) (prem_vars body)) xs (λ x i. let g = goes x i in without-other (index_of how) (prem_vars body) x g.1 (PremKeepsNames-vars k x ∙ g.2))

  count_apart : AllByRecursion (IsListed ls) (occurrences_in (count_of how)) → (e : IlExp) (c : Name) → count_of how ≡ e ∷ [] → out-IlExp e ≡ IlExp-F.Var c → has_name xs c ≡ false
  count_apart h e c counted is = by (has_name xs c) refl
    where
      first : IsListed ls (c, [])
      first = (subst (AllByRecursion (IsListed ls)) (ap occurrences_in counted ∙ ap (λ z. z ++ []) (occurrences-Var e c is)) h).0

      by : (b : Bool) → has_name xs c ≡ b → has_name xs c ≡ false
      by false i = i
      by true i = absurd (true_false (sym (goes c i).0 ∙ (ap has_dimension first.found ∙ ap is_left (none_left (first.variable).dim (first.begins).rest (first.begins).whole))))

  body_in : AllByRecursion (IsListed ls) (inside (index_of how) (kind_of how) (prem_occurrences body)) → AllByRecursion (IsListed (listed_inside how xs ls)) (prem_occurrences body)
  body_in h = body_listed how xs ls (λ z. occurs_in_prem z body) exact (prem_occurrences body)
      (Each-weaken (λ (o : Occurrence). has_name (names_of (prem_occurrences body)) o.0 ≡ true) (λ (o : Occurrence). occurs_in_prem o.0 body ≡ true) (prem_occurrences body) (λ o i. PremKeepsNames-occurs k o.0 ∙ i) (own_names (prem_occurrences body))) h

pub Stands-kept : {ls : List Listed} {p : IlPrem} → PremKeepsNames ls p → AllByRecursion (IsListed ls) (prem_occurrences p) → Stands ls p
Stands-kept {ls = ls} {p = p} (plain es n v o w k) h = plain_stands ls p (out-IlPrem p) refl n
Stands-kept {ls = ls} {p = p} (each how xs body is exact count k) h =
    let parts = Each-split (IsListed ls) (occurrences_in (count_of how)) (inside (index_of how) (kind_of how) (prem_occurrences body)) (subst (AllByRecursion (IsListed ls)) (prem_occurrences-Each p how xs body is) h) in
    let within = Stands-kept k (body_in ls how xs body exact k parts.1) in
    record {
      kinded = kinds.IsKinded.each how xs body is (of_its_kind ls how xs body exact k parts.1) within.kinded;
      occurring = kinds.NamesOccurring.each how xs body is (of_its_body ls how xs body exact k) within.occurring;
      apart = met.CountsAreApart.each how xs body is (count_apart ls how xs body exact k parts.0) within.apart;
    }

-- its variables are listed
pub PremKeepsNames-listed : {ls : List Listed} {p : IlPrem} → PremKeepsNames ls p → AllByRecursion (IsListed ls) (prem_occurrences p) → Within (prem_vars p) (listed_names ls)
PremKeepsNames-listed {ls = ls} {p = p} k h x i = names_listed ls (prem_occurrences p) h x (sym (PremKeepsNames-occurs k x) ∙ (sym (PremKeepsNames-vars k x) ∙ i))
