-- Which relations can be searched: those without a mark and an `otherwise`, and all that they cite.
use Rattle.std.proofs.Common.{arith, ◌≡◌, refl, sym, ◌∙◌, ap, subst, ℕ, zero, suc, ◌<◌, Bool, true, false, ◌||◌, cond, if◌then◌else◌, List, [], ◌∷◌, ◌++◌, map, length, ◌⊎◌, inl, inr, Option, Some, None, Result, Ok, Err, slice_get, bytes_eq, All}
use Rattle.std.specs.Prelude.{Contains, find}
use Rattle.std.specs.List.{list_any, slice_index_or}
use Rattle.std.proofs.lemmas.List.Elements.{All-nil, All-cons, All-head, All-tail, All-contains, All-contains_itself, Contains-append_left, Contains-append_right, Contains-append_cases}
use Rattle.st_il.specs.declared.definition.Il.{Il}
use Rattle.st_il.specs.declared.definition.Listed.{Listed}
use Rattle.st_il.specs.declared.definition.RelationDef.{RelationDef}
use Rattle.st_il.specs.declared.definition.RuleDef.{RuleDef}
use Rattle.st_il.specs.declared.expression.IlPrem.{IlPrem, out-IlPrem, map-IlPrem, fold_out-IlPrem}
use Rattle.st_il.specs.declared.expression.IlPrem.TheOpen.{IlPrem-F}
use Rattle.st_semantics.specs.declared.unfit.Unfit.TheVariants as unfit
use Rattle.st_semantics.specs.declared.unfit.Unordered.{Unordered}
use Rattle.st_il.specs.Names.{Name, flattened}
use Rattle.st_il.specs.Definitions.{relations, relation_named, rules_in, rules_from, rules_of, IsFirst}
use Rattle.st_semantics.specs.Directions.{direction}
use Rattle.st_semantics.specs.Variables.{called_in, prem_called, relations_cited, relations_cited_at, has_otherwise, have_otherwise}
use Rattle.st_semantics.specs.ModeRules.{Relation, Function, cited_by, cited_by_rule}
use Rattle.st_semantics.specs.Orders.{in_order}
use Rattle.st_semantics.specs.OrderOf.{order_of}
use Rattle.st_semantics.specs.Marks as marks
use Rattle.st_semantics.specs.Marks.{NeedsRelation, IsUnordered, IsUnfit, HasOwn, NeedsUnfit, HasUnfit, Mark, HasMark, full_name}
use Rattle.std.proofs.lemmas.Slice.Eq.{bytes_eq-Decides}
use Rattle.st_semantics.proofs.Names.{bytes-path}
use Rattle.st_search.specs.Searchable as searchable
use Rattle.st_search.specs.Searchable.{CanBeRun, GoalsAreTyped, HasNoOtherwise}
use Rattle.st_search.specs.inner.Rules.{IsReady, CanBeSearched, IsSearchedIn}
use Rattle.st_search.proofs.Derived.{contains_got}
use Rattle.st_search.proofs.RunBy.{premise_has}

-- ---- members of lists

member_none : {A : Type 0} (x : A) → Contains [] x → ⊥
member_none x c = omega (arith, c.1)

member_first : {A : Type 0} (x : A) (xs : List A) → Contains (x ∷ xs) x
member_first x xs = (0, omega arith, refl)

member_later : {A : Type 0} (y : A) (xs : List A) (x : A) → Contains xs x → Contains (y ∷ xs) x
member_later y xs x c = let less = c.1 in (suc c.0, omega (arith, less), c.2)

member_parts : {A : Type 0} (y : A) (xs : List A) (x : A) → Contains (y ∷ xs) x → (y ≡ x) ⊎ Contains xs x
member_parts {A} y xs x c = at c.0 c.1 c.2
  where
    at : (k : ℕ) → k < length (y ∷ xs) → slice_index_or (y ∷ xs) k x ≡ x → (y ≡ x) ⊎ Contains xs x
    at zero less same = inl same
    at (suc k) less same = inr (k, omega (arith, less), same)

mapped_there : {A B : Type 0} (f : A → B) (xs : List A) (x : A) → Contains xs x → Contains (map f xs) (f x)
mapped_there f [] x c = absurd (member_none x c)
mapped_there f (y ∷ ys) x c = elim (member_parts y ys x c) [
  | inl same ↦ subst (λ z. Contains (map f (y ∷ ys)) z) (ap f same) (member_first (f y) (map f ys))
  | inr later ↦ member_later (f y) (map f ys) (f x) (mapped_there f ys x later)
]

mapped_of : {A B : Type 0} (f : A → B) (xs : List A) (z : B) → Contains (map f xs) z → (x : A) × Contains xs x × (f x ≡ z)
mapped_of f [] z c = absurd (member_none z c)
mapped_of f (y ∷ ys) z c = elim (member_parts (f y) (map f ys) z c) [
  | inl same ↦ (y, member_first y ys, same)
  | inr later ↦ (let w = mapped_of f ys z later in (w.0, member_later y ys w.0 w.1, w.2))
]

flat_there : {A : Type 0} (xss : List (List A)) (xs : List A) (x : A) → Contains xss xs → Contains xs x → Contains (flattened xss) x
flat_there [] xs x c d = absurd (member_none xs c)
flat_there (ys ∷ xss) xs x c d = elim (member_parts ys xss xs c) [
  | inl same ↦ Contains-append_left ys (flattened xss) x (subst (λ z. Contains z x) (sym same) d)
  | inr later ↦ Contains-append_right ys (flattened xss) x (flat_there xss xs x later d)
]

flat_of : {A : Type 0} (xss : List (List A)) (x : A) → Contains (flattened xss) x → (xs : List A) × Contains xss xs × Contains xs x
flat_of [] x c = absurd (member_none x c)
flat_of (ys ∷ xss) x c = elim (Contains-append_cases ys (flattened xss) x c) [
  | inl here ↦ (ys, member_first ys xss, here)
  | inr later ↦ (let w = flat_of xss x later in (w.0, member_later ys xss w.0 w.1, w.2))
]

-- ---- what a rule cites

rule_cites : (r : RuleDef) (p : IlPrem) (other : Name) → Contains r.premises p → Contains (relations_cited p) other → Contains (cited_by_rule r) (Relation other)
rule_cites r p other c d =
    Contains-append_right (map Function (called_in r.conclusion ++ flattened (map prem_called r.premises))) (map Relation (flattened (map relations_cited r.premises))) (Relation other)
    (mapped_there Relation (flattened (map relations_cited r.premises)) other (flat_there (map relations_cited r.premises) (relations_cited p) other (mapped_there relations_cited r.premises p c) d))

relation_cites : (il : Il) (relation : Name) (r : RuleDef) (p : IlPrem) (other : Name) → Contains (rules_of il relation) r → Contains r.premises p → Contains (relations_cited p) other → Contains (cited_by il (Relation relation)) (Relation other)
relation_cites il relation r p other b c d = flat_there (map cited_by_rule (rules_of il relation)) (cited_by_rule r) (Relation other) (mapped_there cited_by_rule (rules_of il relation) r b) (rule_cites r p other c d)

same_relation : (a b : Name) → Relation a ≡ Relation b → a ≡ b
same_relation a b e = cc

no_function : (a b : Name) → Function a ≡ Relation b → ⊥
no_function a b e = cc

abbrev IsCiting : Il → Name → Name → Type 0
IsCiting il relation other = (r : RuleDef) × Contains (rules_of il relation) r × ((p : IlPrem) × Contains r.premises p × Contains (relations_cited p) other)

citing_of : (il : Il) (relation other : Name) → Contains (cited_by il (Relation relation)) (Relation other) → IsCiting il relation other
citing_of il relation other c =
    let f = flat_of (map cited_by_rule (rules_of il relation)) (Relation other) c in
    let r = mapped_of cited_by_rule (rules_of il relation) f.0 f.1 in
    (r.0, r.1, by_rule r.0 (subst (λ z. Contains z (Relation other)) (sym r.2) f.2))
  where
    by_rule : (r : RuleDef) → Contains (cited_by_rule r) (Relation other) → (p : IlPrem) × Contains r.premises p × Contains (relations_cited p) other
    by_rule r c = elim (Contains-append_cases (map Function (called_in r.conclusion ++ flattened (map prem_called r.premises))) (map Relation (flattened (map relations_cited r.premises))) (Relation other) c) [
      | inl first ↦ (let w = mapped_of Function (called_in r.conclusion ++ flattened (map prem_called r.premises)) (Relation other) first in absurd (no_function w.0 other w.2))
      | inr later ↦ (
          let w = mapped_of Relation (flattened (map relations_cited r.premises)) (Relation other) later in
          let g = flat_of (map relations_cited r.premises) w.0 w.1 in
          let p = mapped_of relations_cited r.premises g.0 g.1 in
          (p.0, p.1, subst (λ z. Contains (relations_cited p.0) z) (same_relation w.0 other w.2) (subst (λ z. Contains z w.0) (sym p.2) g.2)))
    ]

-- ---- relations that are cited

needs_behind : (il : Il) (relation other : Name) → Contains (cited_by il (Relation relation)) (Relation other) → {third : Name} → NeedsRelation il other third → NeedsRelation il relation third
needs_behind il relation other cites (marks.of_rule c) = marks.of_needed other (marks.of_rule cites) c
needs_behind il relation other cites (marks.of_needed between n c) = marks.of_needed between (needs_behind il relation other cites n) c

-- what a relation cites that can be searched can be searched
pub searched_next : (il : Il) (relation other : Name) → CanBeSearched il relation → Contains (cited_by il (Relation relation)) (Relation other) → CanBeSearched il other
searched_next il relation other search cites third (inl same) = search third (inr (subst (NeedsRelation il relation) (sym same) (marks.of_rule cites)))
searched_next il relation other search cites third (inr needs) = search third (inr (needs_behind il relation other cites needs))

or_none : (a b : Bool) → (a || b) ≡ false → (a ≡ false) × (b ≡ false)
or_none false b h = (refl, h)
or_none true b h = cc

none_has : (ps : List IlPrem) (p : IlPrem) → Contains ps p → list_any has_otherwise ps ≡ false → has_otherwise p ≡ false
none_has [] p c h = absurd (member_none p c)
none_has (q ∷ ps) p c h =
    let both = or_none (has_otherwise q) (list_any has_otherwise ps) h in
    elim (member_parts q ps p c) [
      | inl same ↦ subst (λ z. has_otherwise z ≡ false) same both.0
      | inr later ↦ none_has ps p later both.1
    ]

-- all relations that a premise of one of its rules cites can be searched
pub premise_searched : (il : Il) (relation : Name) → CanBeSearched il relation → (number : ℕ) (rule : RuleDef) → slice_get (rules_of il relation) number ≡ Some rule → (order : List ℕ) (before : List IlPrem) (p : IlPrem) (after : List IlPrem)
    → in_order rule.premises order ≡ before ++ p ∷ after → IsSearchedIn il p
premise_searched il relation search number rule is order before p after split =
    let here : Contains rule.premises p = premise_has (Contains rule.premises) rule.premises (All-contains_itself rule.premises) order before p after split in
    let there : Contains (rules_of il relation) rule = contains_got (rules_of il relation) number rule is in
    record {
      cited = λ k d less. searched_next il relation (slice_index_or (relations_cited p) k d) search (relation_cites il relation rule p (slice_index_or (relations_cited p) k d) there here (All-contains_itself (relations_cited p) k d less));
      plain = none_has rule.premises p here (All-contains (λ (r : RuleDef). have_otherwise r.premises ≡ false) (rules_of il relation) rule (search relation (inl refl)).plain there);
    }

-- ---- relations without marks

all_rules : (P : RuleDef → Type 0) (name : Name) (rs : List RuleDef) → All P rs → All P (rules_from name rs)
all_rules P name [] all = All-nil P
all_rules P name (r ∷ rs) all = at (bytes_eq name r.relation) (all_rules P name rs (All-tail P r rs all))
  where
    at : (b : Bool) → All P (rules_from name rs) → All P (if b then r ∷ rules_from name rs else rules_from name rs)
    at true rest = All-cons P r (rules_from name rs) (All-head P r rs all) rest
    at false rest = rest

cited-level : (p : IlPrem) (y : IlPrem-F IlPrem) → out-IlPrem p ≡ y → relations_cited p ≡ relations_cited_at (map-IlPrem IlPrem (List Name) relations_cited y)
cited-level p y is = fold_out-IlPrem (List Name) relations_cited_at p ∙ ap (λ z. relations_cited_at (map-IlPrem IlPrem (List Name) relations_cited z)) is

-- a relation that a typed premise cites is declared
cited_declared : (il : Il) (other : Name) {ls : List Listed} {p : IlPrem} → GoalsAreTyped il ls p → Contains (relations_cited p) other → (d : RelationDef) × (relation_named il other ≡ Some d)
cited_declared il other {p = p} (searchable.condition e is) c = absurd (member_none other (subst (λ z. Contains z other) (cited-level p (IlPrem-F.If e) is) c))
cited_declared il other {p = p} (searchable.goal relation es is typed) c =
    elim (member_parts relation [] other (subst (λ z. Contains z other) (cited-level p (IlPrem-F.Goal relation es) is) c)) [
      | inl same ↦ (typed.declared, subst (λ z. relation_named il z ≡ Some typed.declared) same typed.found)
      | inr later ↦ absurd (member_none other later)
    ]
cited_declared il other {p = p} (searchable.otherwise is) c = absurd (member_none other (subst (λ z. Contains z other) (cited-level p IlPrem-F.Otherwise is) c))
cited_declared il other {p = p} (searchable.each how xs body is inside) c = cited_declared il other inside (subst (λ z. Contains z other) (cited-level p (IlPrem-F.Each how xs body) is) c)

module _ (il : Il) (all_can : All (CanBeRun il) (rules_in il.defs)) where
  cites_declared : (relation other : Name) → Contains (cited_by il (Relation relation)) (Relation other) → (d : RelationDef) × (relation_named il other ≡ Some d)
  cites_declared relation other c =
      let w = citing_of il relation other c in
      let can : CanBeRun il w.0 = All-contains (CanBeRun il) (rules_of il relation) w.0 (all_rules (CanBeRun il) relation (rules_in il.defs) all_can) w.1 in
      cited_declared il other (All-contains (GoalsAreTyped il w.0.variables) w.0.premises w.2.0 can.goals w.2.1) w.2.2

  needed_declared : {relation other : Name} → NeedsRelation il relation other → (d : RelationDef) × (relation_named il other ≡ Some d)
  needed_declared {relation = relation} {other = other} (marks.of_rule c) = cites_declared relation other c
  needed_declared {other = other} (marks.of_needed between n c) = cites_declared between other c

-- a relation that is found is one of all, and has the name
named_one : (name : Name) (rs : List RelationDef) (d : RelationDef) → find (λ (r : RelationDef). bytes_eq name r.name) rs ≡ Some d → Contains rs d × (name ≡ d.name)
named_one name [] d e = cc
named_one name (r ∷ rs) d e = at (bytes_eq name r.name) refl e (named_one name rs d)
  where
    at : (b : Bool) → bytes_eq name r.name ≡ b → cond b (Some r) (find (λ (r : RelationDef). bytes_eq name r.name) rs) ≡ Some d → (find (λ (r : RelationDef). bytes_eq name r.name) rs ≡ Some d → Contains rs d × (name ≡ d.name)) → Contains (r ∷ rs) d × (name ≡ d.name)
    at true k e later =
        let same : r ≡ d = cc in
        (subst (λ z. Contains (r ∷ rs) z) same (member_first r rs), bytes-path name r.name k ∙ ap (λ (z : RelationDef). z.name) same)
    at false k e later = let w = later e in (member_later r rs d w.0, w.1)

-- each of some rules has an order, or there is a first one that has none
ordered_or : (il : Il) (rs : List RuleDef) → All (λ (r : RuleDef). (order : List ℕ) × (order_of il r ≡ Ok order)) rs ⊎ ((r : RuleDef) × IsFirst (IsUnordered il) rs r)
ordered_or il [] = inl (All-nil (λ (r : RuleDef). (order : List ℕ) × (order_of il r ≡ Ok order)))
ordered_or il (r ∷ rs) = at (order_of il r) refl (ordered_or il rs)
  where
    contrary : (order : List ℕ) → order_of il r ≡ Ok order → IsUnordered il r → ⊥
    contrary order e u = let bad : Ok order ≡ Err u.0 = sym e ∙ u.1 in cc

    at : (o : Result (List ℕ) Unordered) → order_of il r ≡ o → All (λ (r : RuleDef). (order : List ℕ) × (order_of il r ≡ Ok order)) rs ⊎ ((q : RuleDef) × IsFirst (IsUnordered il) rs q)
        → All (λ (r : RuleDef). (order : List ℕ) × (order_of il r ≡ Ok order)) (r ∷ rs) ⊎ ((q : RuleDef) × IsFirst (IsUnordered il) (r ∷ rs) q)
    at (Ok order) e (inl all) = inl (All-cons (λ (r : RuleDef). (order : List ℕ) × (order_of il r ≡ Ok order)) r rs (order, e) all)
    at (Ok order) e (inr (q, first)) = inr (
      q,
      record {
        before = r ∷ first.before;
        after = first.after;
        split = ap (λ z. r ∷ z) first.split;
        not_before = All-cons (λ y. IsUnordered il y → ⊥) r first.before (contrary order e) first.not_before;
        holds = first.holds;
      },
    )
    at (Err fault) e rest = inr (r, record { before = []; after = rs; split = refl; not_before = All-nil (λ y. IsUnordered il y → ⊥); holds = (fault, e) })

-- a declared relation without a mark of its own and without an `otherwise` is ready
ready : (il : Il) (name : Name) (d : RelationDef) → relation_named il name ≡ Some d → name ≡ d.name → (IsUnfit il d → ⊥) → All (λ (r : RuleDef). have_otherwise r.premises ≡ false) (rules_of il name) → IsReady il name
ready il name d found same fit plain = directed (direction d) refl
  where
    ordered : (inputs : List Bool) → direction d ≡ Some inputs → All (λ (r : RuleDef). (order : List ℕ) × (order_of il r ≡ Ok order)) (rules_of il d.name)
    ordered inputs e = at (ordered_or il (rules_of il d.name))
      where
        at : All (λ (r : RuleDef). (order : List ℕ) × (order_of il r ≡ Ok order)) (rules_of il d.name) ⊎ ((q : RuleDef) × IsFirst (IsUnordered il) (rules_of il d.name) q) → All (λ (r : RuleDef). (order : List ℕ) × (order_of il r ≡ Ok order)) (rules_of il d.name)
        at (inl all) = all
        at (inr (q, first)) = absurd (fit (unfit.U2 (full_name q) first.holds.0.premise first.holds.0.variable, marks.u2 q first.holds.0 (λ none. (let bad : Some inputs ≡ None = sym e ∙ none in cc)) first first.holds.1 refl))

    directed : (o : Option (List Bool)) → direction d ≡ o → IsReady il name
    directed None e = absurd (fit (unfit.U1, marks.u1 e refl))
    directed (Some inputs) e = record {
      declared = d;
      found = found;
      inputs = inputs;
      directed = e;
      ordered = subst (λ z. All (λ (r : RuleDef). (order : List ℕ) × (order_of il r ≡ Ok order)) (rules_of il z)) (sym same) (ordered inputs e);
      plain = plain;
    }

-- what no mark says
abbrev IsFit : Il → Name → Type 0
IsFit il name = (d : RelationDef) × (relation_named il name ≡ Some d) × (IsUnfit il d → ⊥) × All (λ other. NeedsUnfit il d other → ⊥) (relations il)

unfit_none : (il : Il) (d : RelationDef) → HasUnfit il d None → (IsUnfit il d → ⊥) × All (λ other. NeedsUnfit il d other → ⊥) (relations il)
unfit_none il d (marks.own one has e) = let bad : None ≡ Some one = e in cc
unfit_none il d (marks.u4 other fit first e) = let bad : None ≡ Some (unfit.U4 other.name) = e in cc
unfit_none il d (marks.none fit others e) = (fit, others)

fit_of : (il : Il) (name : Name) → HasMark il false name None → IsFit il name
fit_of il name (marks.u0 missing e) = let bad : None ≡ Some marks.U0 = e in cc
fit_of il name (marks.searched d one found has e) = let bad : None ≡ Some (marks.Unsearchable one) = e in cc
fit_of il name (marks.u5 d found has steps turned e) = let bad : None ≡ Some marks.U5 = e in cc
fit_of il name (marks.none d found has steps e) = let w = unfit_none il d has in (d, found, w.0, w.1)

-- a relation without a mark, in which no `otherwise` stands nor in what it needs, can be searched
pub can_be_searched : (il : Il) → All (CanBeRun il) (rules_in il.defs) → (relation : Name) → HasMark il false relation None → HasNoOtherwise il relation → CanBeSearched il relation
can_be_searched il all_can relation marked plain other which = by (fit_of il relation marked) which
  where
    at_needed : (f : IsFit il relation) → NeedsRelation il relation other → (d : RelationDef) → relation_named il other ≡ Some d → (b : Bool) → bytes_eq other relation ≡ b → IsReady il other
    at_needed f needs d found true k =
        let same : other ≡ relation = bytes-path other relation k in
        let one : Some f.0 ≡ Some d = sym f.1 ∙ (ap (relation_named il) (sym same) ∙ found) in
        let equal : f.0 ≡ d = cc in
        ready il other d found (named_one other (relations il) d found).1 (subst (λ z. IsUnfit il z → ⊥) equal f.2) (plain other (inr needs))
    at_needed f needs d found false k =
        let w = named_one other (relations il) d found in
        let own = (named_one relation (relations il) f.0 f.1).1 in
        ready il other d found w.1 (λ un. All-contains (λ other. NeedsUnfit il f.0 other → ⊥) (relations il) d f.3 w.0 (
          subst (λ z. NeedsRelation il z d.name) own (subst (λ z. NeedsRelation il relation z) w.1 needs),
          λ e. (let same : other ≡ relation = w.1 ∙ (e ∙ sym own) in let bad : true ≡ false = sym ((bytes_eq-Decides other relation).1 same) ∙ k in cc),
          un,
        )) (plain other (inr needs))

    by : IsFit il relation → (other ≡ relation) ⊎ NeedsRelation il relation other → IsReady il other
    by f (inl same) = ready il other f.0 (ap (relation_named il) same ∙ f.1) (same ∙ (named_one relation (relations il) f.0 f.1).1) f.2 (plain other (inl same))
    by f (inr needs) = let d = needed_declared il all_can needs in at_needed f needs d.0 d.1 (bytes_eq other relation) refl
