-- What a relation needs is what is reached from its rules.
use Rattle.std.proofs.Common.{◌≡◌, refl, sym, ◌∙◌, ap, ap₂, subst, slice_get, Option, ℕ, zero, suc, ◌<◌, Bool, true, false, true≢false, ◌||◌, ◌&&◌, not, List, [], ◌∷◌, ◌++◌, map, length, Contains, slice_index_or, ◌↔◌, ◌⊎◌, inl, inr, bytes_eq, arith, Some, None, find}
use Rattle.std.specs.Borrow.{Bor}
use Rattle.std.specs.List.{list_any}
use Rattle.std.proofs.lemmas.List.{length-map}
use Rattle.std.proofs.lemmas.List.Folds.{list_any-append}
use Rattle.std.proofs.lemmas.Slice.Eq.{bytes_eq-Decides}
use Rattle.st_il.specs.declared.definition.ClauseDef.{ClauseDef}
use Rattle.st_il.specs.declared.definition.FunDef.{FunDef}
use Rattle.st_il.specs.declared.definition.Il.{Il}
use Rattle.st_il.specs.declared.definition.RelationDef.{RelationDef}
use Rattle.st_il.specs.declared.definition.RuleDef.{RuleDef}
use Rattle.st_semantics.specs.declared.unfit.Unfit.TheVariants as unfit
use Rattle.st_il.specs.Names.{Name, has_name, flattened}
use Rattle.st_il.specs.Definitions.{relations, rules_of, clauses_of}
use Rattle.st_semantics.specs.Variables.{relations_cited}
use Rattle.st_semantics.specs.ModeRules.{Citer, Relation, Function, cited_by, cited_by_rule, cited_by_clause}
use Rattle.st_semantics.specs.Marks.{NeedsFun, NeedsRelation, LacksClauses, IsUnfit, NeedsUnfit}
use Rattle.st_modes.specs.declared.indexed.Indexed.{Indexed}
use Rattle.st_modes.specs.declared.needs.Marked.{Marked}
use Rattle.st_order.specs.Known.{all_now}
use Rattle.st_modes.specs.inner.Citing.{functions_in_rule, functions_in_clause}
use Rattle.st_modes.specs.inner.Citations.{relations_in_rule, called_by_relation, cited_by_relation, called_by_function}
use Rattle.st_modes.specs.inner.Reaching.{cited_under, Reached, first, next, AreReached}
use Rattle.st_modes.specs.inner.Sifted.{Sifted}
use Rattle.st_modes.specs.inner.Targets.{IsLeastOf, least_first}
use Rattle.st_modes.specs.inner.Needs.{HasNoClause, IsIndexed, LacksFunction, NeedsMarked, AreMarked, is_other_in}
use Rattle.st_order.proofs.NamesIn.{has_name_append}
use Rattle.st_modes.proofs.HasWalked.{or_cases, or_left, or_right, same_itself}
use Rattle.st_modes.proofs.LeastOf.{IsLeastOf-as}
use Rattle.st_modes.proofs.Sifted.{none_first, first_found, none_least, first_least, least_holds, least_within, sifted_holds}

-- ---- members that pass a test which one alone passes

module _ {A : Type 0} (test : A → Bool) (x : A) (itself : test x ≡ true) (only : (y : A) → test y ≡ true → y ≡ x) where
  any_to : (xs : List A) → list_any test xs ≡ true → Contains xs x
  any_to [] h = absurd (true≢false (sym h))
  any_to (y ∷ ys) h = by (or_cases (test y) (list_any test ys) h) (any_to ys)
    where
      by : (test y ≡ true) ⊎ (list_any test ys ≡ true) → (list_any test ys ≡ true → Contains ys x) → Contains (y ∷ ys) x
      by (inl e) more = (0, omega arith, only y e)
      by (inr e) more =
          let there : Contains ys x = more e in
          let within : there.0 < length ys = there.1 in
          (suc there.0, omega arith, there.2)

  any_from : (xs : List A) (k : ℕ) → k < length xs → slice_index_or xs k x ≡ x → list_any test xs ≡ true
  any_from [] k within is = absurd (omega arith)
  any_from (y ∷ ys) zero within is = or_left (test y) (list_any test ys) (ap test is ∙ itself)
  any_from (y ∷ ys) (suc k) within is = or_right (test y) (list_any test ys) (any_from ys k (omega arith) is)

  any_contains : (xs : List A) (b : Bool) → list_any test xs ≡ b → (b ≡ true) ↔ Contains xs x
  any_contains xs b e = (λ h. any_to xs (e ∙ h), λ c. sym e ∙ any_from xs c.0 c.1 c.2)

-- ---- what is cited

abbrev fun_test : Name → Citer → Bool
fun_test q (Relation name) = false
fun_test q (Function name) = bytes_eq q name

abbrev relation_test : Name → Citer → Bool
relation_test q (Relation name) = bytes_eq q name
relation_test q (Function name) = false

or_none : (b : Bool) → (b || false) ≡ b
or_none true = refl
or_none false = refl

module _ (q : Name) where
  fun_only : (y : Citer) → fun_test q y ≡ true → y ≡ Function q
  fun_only (Relation name) h = absurd (true≢false (sym h))
  fun_only (Function name) h = ap Function (sym ((bytes_eq-Decides q name).0 h))

  relation_only : (y : Citer) → relation_test q y ≡ true → y ≡ Relation q
  relation_only (Relation name) h = ap Relation (sym ((bytes_eq-Decides q name).0 h))
  relation_only (Function name) h = absurd (true≢false (sym h))

  fun_of_fun : (xs : List Name) → list_any (fun_test q) (map Function xs) ≡ has_name xs q
  fun_of_fun [] = refl
  fun_of_fun (x ∷ xs) = ap (λ z. bytes_eq q x || z) (fun_of_fun xs)

  fun_of_relation : (xs : List Name) → list_any (fun_test q) (map Relation xs) ≡ false
  fun_of_relation [] = refl
  fun_of_relation (x ∷ xs) = fun_of_relation xs

  relation_of_relation : (xs : List Name) → list_any (relation_test q) (map Relation xs) ≡ has_name xs q
  relation_of_relation [] = refl
  relation_of_relation (x ∷ xs) = ap (λ z. bytes_eq q x || z) (relation_of_relation xs)

  relation_of_fun : (xs : List Name) → list_any (relation_test q) (map Function xs) ≡ false
  relation_of_fun [] = refl
  relation_of_fun (x ∷ xs) = relation_of_fun xs

  -- among functions and relations
  funs_among : (fs rs : List Name) → list_any (fun_test q) (map Function fs ++ map Relation rs) ≡ has_name fs q
  funs_among fs rs =
      list_any-append (fun_test q) (map Function fs) (map Relation rs) ∙ ap₂ (λ a b. a || b) (fun_of_fun fs) (fun_of_relation rs) ∙ or_none (has_name fs q)

  relations_among : (fs rs : List Name) → list_any (relation_test q) (map Function fs ++ map Relation rs) ≡ has_name rs q
  relations_among fs rs =
      list_any-append (relation_test q) (map Function fs) (map Relation rs) ∙ ap₂ (λ a b. a || b) (relation_of_fun fs) (relation_of_relation rs)

  -- in what is told of each of several
  among_all : {A : Type 0} (test : Citer → Bool) (f : A → List Citer) (g : A → List Name) → ((x : A) → list_any test (f x) ≡ has_name (g x) q) → (xs : List A)
      → list_any test (flattened (map f xs)) ≡ has_name (flattened (map g xs)) q
  among_all test f g h [] = refl
  among_all test f g h (x ∷ xs) =
      list_any-append test (f x) (flattened (map f xs)) ∙ ap₂ (λ a b. a || b) (h x) (among_all test f g h xs) ∙ sym (has_name_append (g x) (flattened (map g xs)) q)

  rule_functions : (r : RuleDef) → list_any (fun_test q) (cited_by_rule r) ≡ has_name (functions_in_rule r) q
  rule_functions r = funs_among (functions_in_rule r) (relations_in_rule r)

  rule_relations : (r : RuleDef) → list_any (relation_test q) (cited_by_rule r) ≡ has_name (relations_in_rule r) q
  rule_relations r = relations_among (functions_in_rule r) (relations_in_rule r)

  module _ (il : Il) (name : Name) where
    relation_calls : (has_name (called_by_relation name il.defs) q ≡ true) ↔ Contains (cited_by il (Relation name)) (Function q)
    relation_calls =
        any_contains (fun_test q) (Function q) (same_itself q) fun_only (cited_by il (Relation name)) (has_name (called_by_relation name il.defs) q)
        (among_all (fun_test q) cited_by_rule functions_in_rule rule_functions (rules_of il name))

    pub relation_cites : (has_name (cited_by_relation name il.defs) q ≡ true) ↔ Contains (cited_by il (Relation name)) (Relation q)
    relation_cites =
        any_contains (relation_test q) (Relation q) (same_itself q) relation_only (cited_by il (Relation name)) (has_name (cited_by_relation name il.defs) q)
        (among_all (relation_test q) cited_by_rule relations_in_rule rule_relations (rules_of il name))

-- what a clause calls, beside what it cites
clause_functions : (q : Name) (c : ClauseDef) → list_any (fun_test q) (cited_by_clause c) ≡ has_name (functions_in_clause c) q
clause_functions q c = funs_among q (functions_in_clause c) (flattened (map relations_cited c.premises))

function_calls : (q : Name) (il : Il) (name : Name) → (has_name (called_by_function name il.defs) q ≡ true) ↔ Contains (cited_by il (Function name)) (Function q)
function_calls q il name =
    any_contains (fun_test q) (Function q) (same_itself q) (fun_only q) (cited_by il (Function name)) (has_name (called_by_function name il.defs) q)
    (among_all q (fun_test q) cited_by_clause functions_in_clause (clause_functions q) (clauses_of il name))

-- ---- what is needed

has_as : (xs ys : List Name) (q : Name) → xs ≡ ys → has_name xs q ≡ true → has_name ys q ≡ true
has_as xs ys q e h = ap (λ z. has_name z q) (sym e) ∙ h

module _ (il : Il) (name : Name) (start : List Name) (cited : Name → List Name) where
  module _ (first_is : start ≡ called_by_relation name il.defs) (next_is : (q : Name) → cited q ≡ called_by_function q il.defs) where
    to_fun : (q : Name) → Reached start cited q → NeedsFun il name q
    to_fun q (first h) = NeedsFun.of_rule ((relation_calls q il name).0 (has_as start (called_by_relation name il.defs) q first_is h))
    to_fun q (next p r h) = NeedsFun.of_clause p (to_fun p r) ((function_calls q il p).0 (has_as (cited p) (called_by_function p il.defs) q (next_is p) h))

    from_fun : (q : Name) → NeedsFun il name q → Reached start cited q
    from_fun q (NeedsFun.of_rule c) = first (has_as (called_by_relation name il.defs) start q (sym first_is) ((relation_calls q il name).1 c))
    from_fun q (NeedsFun.of_clause p n c) = next p (from_fun p n) (has_as (called_by_function p il.defs) (cited p) q (sym (next_is p)) ((function_calls q il p).1 c))

  module _ (first_is : start ≡ cited_by_relation name il.defs) (next_is : (q : Name) → cited q ≡ cited_by_relation q il.defs) where
    to_relation : (q : Name) → Reached start cited q → NeedsRelation il name q
    to_relation q (first h) = NeedsRelation.of_rule ((relation_cites q il name).0 (has_as start (cited_by_relation name il.defs) q first_is h))
    to_relation q (next p r h) = NeedsRelation.of_needed p (to_relation p r) ((relation_cites q il p).0 (has_as (cited p) (cited_by_relation p il.defs) q (next_is p) h))

    from_relation : (q : Name) → NeedsRelation il name q → Reached start cited q
    from_relation q (NeedsRelation.of_rule c) = first (has_as (cited_by_relation name il.defs) start q (sym first_is) ((relation_cites q il name).1 c))
    from_relation q (NeedsRelation.of_needed p n c) = next p (from_relation p n) (has_as (cited_by_relation p il.defs) (cited p) q (sym (next_is p)) ((relation_cites q il p).1 c))

-- ---- what is found of them

module _ (x : Indexed) (h : IsIndexed x) where
  abbrev il : Il
  il = x.directions.il.now

  -- the number of the first function without clauses, by the functions in the rules of a relation
  module _ (name : Name) (o : Option ℕ) (is : o ≡ least_first x.lacks.entries (cited_under x.citations.called.entries name)) where
    abbrev fun_names : List Name
    fun_names = map (λ (f : FunDef). f.name) (all_now x.lacking)

    fun_least : IsLeastOf (NeedsFun il name) fun_names o
    fun_least =
        let start : List Name = called_by_relation name il.defs in
        let same : least_first x.lacks.entries start ≡ o = sym (is ∙ ap (least_first x.lacks.entries) (h.read.called name)) in
        IsLeastOf-as (Reached start (λ q. called_by_function q il.defs)) (NeedsFun il name) (to_fun il name start (λ q. called_by_function q il.defs) refl (λ q. refl))
        (from_fun il name start (λ q. called_by_function q il.defs) refl (λ q. refl)) fun_names o (subst (IsLeastOf (Reached start (λ q. called_by_function q il.defs)) fun_names) same (h.lacks start))

    fun_least_at : (i : ℕ) → o ≡ Some i → IsLeastOf (NeedsFun il name) fun_names (Some i)
    fun_least_at i e = subst (IsLeastOf (NeedsFun il name) fun_names) e fun_least

    pub lacks_none : o ≡ None → LacksFunction il name None
    lacks_none e =
        none_least (HasNoClause il) (LacksClauses il name) (λ f r. r.1) (λ (f : FunDef). f.name) (NeedsFun il name) (λ f r. r.0) h.lacking
        (subst (IsLeastOf (NeedsFun il name) fun_names) e fun_least)

    pub lacks_within : (i : ℕ) (funs : List (Bor FunDef)) → funs ≡ x.lacking → o ≡ Some i → i < length funs
    lacks_within i funs same e =
        let within : i < length (all_now x.lacking) = least_within (λ (f : FunDef). f.name) (NeedsFun il name) (all_now x.lacking) i (fun_least_at i e) in
        let long : length (all_now x.lacking) ≡ length x.lacking = length-map x.lacking (λ (f : Bor FunDef). f.now) in
        let long_too : length funs ≡ length x.lacking = ap length same in
        omega arith

    pub lacks_some : (i : ℕ) (funs : List (Bor FunDef)) (f : FunDef) (copied : Name) → funs ≡ x.lacking → o ≡ Some i → slice_get (all_now funs) i ≡ Some f → copied ≡ f.name → LacksFunction il name (Some (unfit.U3 copied))
    lacks_some i funs f copied same e there is =
        let here : slice_get (all_now x.lacking) i ≡ Some f = ap (λ z. slice_get (all_now z) i) (sym same) ∙ there in
        let needed : NeedsFun il name f.name = least_holds (λ (f : FunDef). f.name) (NeedsFun il name) (all_now x.lacking) i f (fun_least_at i e) here in (
          f,
          first_least (HasNoClause il) (LacksClauses il name) (λ f r. r.1) (λ (f : FunDef). f.name) (NeedsFun il name) (λ f r. r.0) h.lacking i f (fun_least_at i e) here
              (needed, sifted_holds (HasNoClause il) h.lacking i f here),
          ap unfit.U3 is,
        )

  -- the number of the first relation with a mark of its own
  module _ (relation : RelationDef) (m : Marked) (g : AreMarked il m) (o : Option ℕ) (is : o ≡ least_first m.firsts.entries (cited_under x.citations.cited.entries relation.name)) where
    abbrev relation_names : List Name
    relation_names = map (λ (r : RelationDef). r.name) (all_now m.unfit)

    abbrev Needed : Name → Type 0
    Needed = NeedsRelation il relation.name

    relation_least : IsLeastOf Needed relation_names o
    relation_least =
        let start : List Name = cited_by_relation relation.name il.defs in
        let same : least_first m.firsts.entries start ≡ o = sym (is ∙ ap (least_first m.firsts.entries) (h.read.cited relation.name)) in
        IsLeastOf-as (Reached start (λ q. cited_by_relation q il.defs)) Needed (to_relation il relation.name start (λ q. cited_by_relation q il.defs) refl (λ q. refl))
        (from_relation il relation.name start (λ q. cited_by_relation q il.defs) refl (λ q. refl)) relation_names o
        (subst (IsLeastOf (Reached start (λ q. cited_by_relation q il.defs)) relation_names) same (g.firsts start))

    relation_least_at : (i : ℕ) → o ≡ Some i → IsLeastOf Needed relation_names (Some i)
    relation_least_at i e = subst (IsLeastOf Needed relation_names) e relation_least

    pub leads_to_none : o ≡ None → NeedsMarked il relation None
    leads_to_none e =
        none_least (IsUnfit il) (NeedsUnfit il relation) (λ r n. n.2) (λ (r : RelationDef). r.name) Needed (λ r n. n.0) g.unfit (subst (IsLeastOf Needed relation_names) e relation_least)

    pub leads_within : (i : ℕ) (rs : List (Bor RelationDef)) → rs ≡ m.unfit → o ≡ Some i → i < length rs
    leads_within i rs same e =
        let within : i < length (all_now m.unfit) = least_within (λ (r : RelationDef). r.name) Needed (all_now m.unfit) i (relation_least_at i e) in
        let long : length (all_now m.unfit) ≡ length m.unfit = length-map m.unfit (λ (r : Bor RelationDef). r.now) in
        let long_too : length rs ≡ length m.unfit = ap length same in
        omega arith

    pub leads_to : (i : ℕ) (rs : List (Bor RelationDef)) (r : RelationDef) (copied : Name) (b : Bool) → rs ≡ m.unfit → o ≡ Some i → slice_get (all_now rs) i ≡ Some r → b ≡ bytes_eq r.name relation.name → b ≡ false → copied ≡ r.name
        → NeedsMarked il relation (Some (unfit.U4 copied))
    leads_to i rs r copied b same e there test other copy =
        let here : slice_get (all_now m.unfit) i ≡ Some r = ap (λ z. slice_get (all_now z) i) (sym same) ∙ there in
        let needed : Needed r.name = least_holds (λ (r : RelationDef). r.name) Needed (all_now m.unfit) i r (relation_least_at i e) here in (
          r,
          first_least (IsUnfit il) (NeedsUnfit il relation) (λ r n. n.2) (λ (r : RelationDef). r.name) Needed (λ r n. n.0) g.unfit i r (relation_least_at i e) here
              (needed, (λ one. true≢false (sym (ap (bytes_eq r.name) (sym one) ∙ same_itself r.name) ∙ sym test ∙ other)), sifted_holds (IsUnfit il) g.unfit i r here),
          ap unfit.U4 copy,
        )

  module _ (relation : RelationDef) (names : List Name) (reached : AreReached (cited_under x.citations.cited.entries relation.name) (cited_under x.citations.cited.entries) names)
      (marked : List RelationDef) (sifted : Sifted (IsUnfit il) (relations il) marked) where
    relation_to : (q : Name) → has_name names q ≡ true → NeedsRelation il relation.name q
    relation_to q e =
        to_relation il relation.name (cited_under x.citations.cited.entries relation.name) (cited_under x.citations.cited.entries) (h.read.cited relation.name) h.read.cited q ((reached q).0 e)

    relation_from : (q : Name) → NeedsRelation il relation.name q → has_name names q ≡ true
    relation_from q n =
        (reached q).1 (from_relation il relation.name (cited_under x.citations.cited.entries relation.name) (cited_under x.citations.cited.entries) (h.read.cited relation.name) h.read.cited q n)

    passes : (r : RelationDef) → NeedsUnfit il relation r → is_other_in names relation.name r ≡ true
    passes r needs = by (bytes_eq relation.name r.name) refl
      where
        by : (b : Bool) → bytes_eq relation.name r.name ≡ b → (has_name names r.name && not b) ≡ true
        by true e = absurd (needs.1 (sym ((bytes_eq-Decides relation.name r.name).0 e)))
        by false e = ap (λ z. z && true) (relation_from r.name needs.0)

    holds : (r : RelationDef) → IsUnfit il r → is_other_in names relation.name r ≡ true → NeedsUnfit il relation r
    holds r own t = by (has_name names r.name) refl (bytes_eq relation.name r.name) refl t
      where
        by : (a : Bool) → has_name names r.name ≡ a → (b : Bool) → bytes_eq relation.name r.name ≡ b → (a && not b) ≡ true → NeedsUnfit il relation r
        by false e b g t = absurd (true≢false (sym t))
        by true e true g t = absurd (true≢false (sym t))
        by true e false g t = (relation_to r.name e, (λ same. true≢false (sym (ap (bytes_eq relation.name) same ∙ same_itself relation.name) ∙ g)), own)

    pub needs_none : find (is_other_in names relation.name) marked ≡ None → NeedsMarked il relation None
    needs_none none = none_first (IsUnfit il) (NeedsUnfit il relation) (is_other_in names relation.name) (λ r n. n.2) passes holds sifted none

    pub needs_some : (r : RelationDef) (copied : Name) → find (is_other_in names relation.name) marked ≡ Some r → copied ≡ r.name → NeedsMarked il relation (Some (unfit.U4 copied))
    needs_some r copied found is = (
      r,
      first_found (IsUnfit il) (NeedsUnfit il relation) (is_other_in names relation.name) (λ r n. n.2) passes holds r sifted found,
      ap unfit.U4 is,
    )
