-- Whether a relation, or one that it needs, has a rule with an `otherwise`: what is reached is what
-- it needs.
use Rattle.std.proofs.Common.{◌≡◌, refl, sym, ◌∙◌, ap, Bool, true, false, true≢false, ◌||◌, List, [], ◌∷◌, Contains, ◌⊎◌, inl, inr, bytes_eq}
use Rattle.std.specs.Prelude.{All, MatchBool}
use Rattle.std.specs.List.{list_any, AllByRecursion}
use Rattle.std.proofs.lemmas.List.Elements.{All-from_recursion, All-head, All-tail}
use Rattle.std.proofs.lemmas.Slice.Eq.{bytes_eq-Decides}
use Rattle.st_il.specs.declared.definition.Il.{Il}
use Rattle.st_il.specs.declared.definition.RuleDef.{RuleDef}
use Rattle.st_search.specs.Searchable.{HasNoOtherwise}
use Rattle.st_il.specs.Names.{Name, has_name}
use Rattle.st_il.specs.Definitions.{rules_of}
use Rattle.st_semantics.specs.Variables.{have_otherwise}
use Rattle.st_semantics.specs.ModeRules.{Relation, cited_by}
use Rattle.st_semantics.specs.Marks.{NeedsRelation}
use Rattle.st_modes.specs.declared.citations.Citations.{Citations}
use Rattle.st_modes.specs.inner.Citations.{HasRead, cited_by_relation}
use Rattle.st_modes.specs.inner.Reaching.{cited_under, Reached, first, next, AreReached}
use Rattle.st_modes.proofs.NeedsFun.{relation_cites}
use Rattle.st_modes.proofs.HasWalked.{or_cases, or_right, has_itself}
use Rattle.st_commands.specs.inner.Needing.{some_has_otherwise, has_otherwise_under}

-- ---- what is needed is what is reached

has_as : (xs ys : List Name) (q : Name) → xs ≡ ys → has_name xs q ≡ true → has_name ys q ≡ true
has_as xs ys q e h = ap (λ z. has_name z q) (sym e) ∙ h

module _ (il : Il) (relation : Name) (cited : Name → List Name) (are : (q : Name) → cited q ≡ cited_by_relation q il.defs) where
  cites : (p q : Name) → has_name (cited p) q ≡ true → Contains (cited_by il (Relation p)) (Relation q)
  cites p q h = (relation_cites q il p).0 (has_as (cited p) (cited_by_relation p il.defs) q (are p) h)

  is_cited : (p q : Name) → Contains (cited_by il (Relation p)) (Relation q) → has_name (cited p) q ≡ true
  is_cited p q c = has_as (cited_by_relation p il.defs) (cited p) q (sym (are p)) ((relation_cites q il p).1 c)

  is_needed : (q : Name) → Reached (cited relation) cited q → NeedsRelation il relation q
  is_needed q (first h) = NeedsRelation.of_rule (cites relation q h)
  is_needed q (next p r h) = NeedsRelation.of_needed p (is_needed p r) (cites p q h)

  is_reached : (q : Name) → NeedsRelation il relation q → Reached (cited relation) cited q
  is_reached q (NeedsRelation.of_rule c) = first (is_cited relation q c)
  is_reached q (NeedsRelation.of_needed p n c) = next p (is_reached p n) (is_cited p q c)

-- ---- rules without an `otherwise`

abbrev IsPlain : RuleDef → Type 0
IsPlain r = have_otherwise r.premises ≡ false

none_has : (rs : List RuleDef) → some_has_otherwise rs ≡ false → AllByRecursion IsPlain rs
none_has [] h = tt
none_has (r ∷ rs) h = by (have_otherwise r.premises) refl h (none_has rs)
  where
    by : (b : Bool) → have_otherwise r.premises ≡ b → (b || some_has_otherwise rs) ≡ false → (some_has_otherwise rs ≡ false → AllByRecursion IsPlain rs) → AllByRecursion IsPlain (r ∷ rs)
    by true e k later = absurd (true≢false k)
    by false e k later = (e, later k)

has_none : (rs : List RuleDef) → All IsPlain rs → some_has_otherwise rs ≡ false
has_none [] all = refl
has_none (r ∷ rs) all = ap (λ b. b || some_has_otherwise rs) (All-head IsPlain r rs all) ∙ has_none rs (All-tail IsPlain r rs all)

-- ---- tests of names

none_passes : (test : Name → Bool) (names : List Name) (q : Name) → list_any test names ≡ false → has_name names q ≡ true → test q ≡ false
none_passes test [] q none h = absurd (true≢false (sym h))
none_passes test (x ∷ names) q none h = by (test x) refl none (or_cases (bytes_eq q x) (has_name names q) h) (none_passes test names q)
  where
    by : (b : Bool) → test x ≡ b → (b || list_any test names) ≡ false → (bytes_eq q x ≡ true) ⊎ (has_name names q ≡ true) → (list_any test names ≡ false → has_name names q ≡ true → test q ≡ false) → test q ≡ false
    by true e k c later = absurd (true≢false k)
    by false e k (inl same) later = ap test ((bytes_eq-Decides q x).0 same) ∙ e
    by false e k (inr there) later = later k there

one_passes : (test : Name → Bool) (names : List Name) → list_any test names ≡ true → (q : Name) × (has_name names q ≡ true) × (test q ≡ true)
one_passes test [] some = absurd (true≢false (sym some))
one_passes test (x ∷ names) some = by (test x) refl some (one_passes test names)
  where
    by : (b : Bool) → test x ≡ b → (b || list_any test names) ≡ true → (list_any test names ≡ true → (q : Name) × (has_name names q ≡ true) × (test q ≡ true))
        → (q : Name) × (has_name (x ∷ names) q ≡ true) × (test q ≡ true)
    by true e k later = (x, has_itself names x, e)
    by false e k later = let (q, there, passed) = later k in (q, or_right (bytes_eq q x) (has_name names q) there, passed)

-- ---- the relation, and what it needs

module _ (il : Il) (relation : Name) (c : Citations) (read : HasRead il.defs c) where
  same_rules : (q : Name) → has_otherwise_under c.rules.entries q ≡ some_has_otherwise (rules_of il q)
  same_rules q = ap some_has_otherwise (read.rules q)

  -- the relation has a rule with an `otherwise`
  pub own_has : has_otherwise_under c.rules.entries relation ≡ true → HasNoOtherwise il relation → ⊥
  own_has has plain = true≢false (sym has ∙ same_rules relation ∙ has_none (rules_of il relation) (plain relation (inl refl)))

  -- it has none, and one of those that are reached has one, or has none
  pub needed_have : (b : Bool) (names : List Name) → has_otherwise_under c.rules.entries relation ≡ false
      → AreReached (cited_under c.cited.entries relation) (cited_under c.cited.entries) names → b ≡ list_any (has_otherwise_under c.rules.entries) names
      → MatchBool b (HasNoOtherwise il relation → ⊥) (HasNoOtherwise il relation)
  needed_have true names own reached is = λ plain.
      let (q, there, has) = one_passes (has_otherwise_under c.rules.entries) names (sym is) in
      let needed = is_needed il relation (cited_under c.cited.entries) read.cited q ((reached q).0 there) in
      true≢false (sym has ∙ same_rules q ∙ has_none (rules_of il q) (plain q (inr needed)))
  needed_have false names own reached is = λ other needed. All-from_recursion IsPlain (rules_of il other) (none_has (rules_of il other) (sym (same_rules other) ∙ by other needed))
    where
      by : (other : Name) → (other ≡ relation) ⊎ NeedsRelation il relation other → has_otherwise_under c.rules.entries other ≡ false
      by other (inl same) = ap (has_otherwise_under c.rules.entries) same ∙ own
      by other (inr needs) =
          none_passes (has_otherwise_under c.rules.entries) names other (sym is) ((reached other).1 (is_reached il relation (cited_under c.cited.entries) read.cited other needs))
