-- Which rules definitions break, and which definition is the first, from the last one on.
use Rattle.std.proofs.Common.{◌≡◌, refl, sym, ap, ◌∙◌, subst, ℕ, ◌+◌, ◌<◌, Bool, true, false, true≢false, not, ◌&&◌, ◌||◌, if◌then◌else◌, List, [], ◌∷◌, ◌++◌, length, get_or, drop, Option, Some, None, bytes_eq, arith}
use Rattle.std.specs.Prelude.{is_some, unwrap_or}
use Rattle.std.specs.List.{list_any}
use Rattle.std.specs.Option.{option_map}
use Rattle.std.proofs.lemmas.Bool.{false≢true}
use Rattle.std.proofs.lemmas.List.Elements.{All-nil, All-cons}
use Rattle.st_num.specs.declared.rule.RuleId.{RuleId}
use Rattle.st_num.specs.declared.rule.RuleId.TheVariants.{M1, M2, M3, M4, M5, M6, M7}
use Rattle.st_il.specs.declared.definition.ClauseDef.{ClauseDef}
use Rattle.st_il.specs.declared.definition.Il.{Il}
use Rattle.st_il.specs.declared.definition.IlDef.{IlDef}
use Rattle.st_il.specs.declared.definition.IlDef.TheVariants as def
use Rattle.st_il.specs.declared.definition.RelationDef.{RelationDef}
use Rattle.st_il.specs.declared.definition.RuleDef.{RuleDef}
use Rattle.st_il.specs.Names.{Name, has_name}
use Rattle.st_il.specs.Definitions.{relation_named, rules_in, rules_from, IsFirst}
use Rattle.st_semantics.specs.Directions.{direction}
use Rattle.st_semantics.specs.Variables.{have_otherwise}
use Rattle.st_semantics.specs.ModeRules.{keeps_m3, keeps_m4, keeps_m6, keeps_m7, IsDirected, cites_nothing}
use Rattle.st_semantics.specs.Breaches.{Standing, standings, Breaks, ClauseBreaks, RuleBreaks}
use Rattle.st_modes.specs.declared.breaches.ModeBreach.{ModeBreach}
use Rattle.st_modes.specs.declared.relations.Relations.{Relations}
use Rattle.st_order.specs.inner.Index.{SameNames}
use Rattle.st_modes.specs.inner.Circles.{is_circular}
use Rattle.st_modes.specs.inner.Relations.{is_directed, AreRelations}
use Rattle.st_modes.specs.inner.Breaches.{least_not_kept, clause_breach, breaks_m1, breaks_m2, breaks_m5, least_broken, rule_breach, is_decided, AreDecided, IsLeast, earlier, AllKeep, IsFound, IsBreachAnswer}
use Rattle.st_semantics.proofs.HoleSums.{drop_there}
use Rattle.st_order.proofs.NamesIn.{has_name_append}

-- ---- the least of the rules

module _ (P : RuleId → Type 0) where
  abbrev Not : RuleId → Type 0
  Not m = P m → ⊥

  abbrev First : RuleId → Type 0
  First m = IsFirst P (M1 ∷ M2 ∷ M3 ∷ M4 ∷ M5 ∷ M6 ∷ M7 ∷ []) m

  first_m1 : P M1 → First M1
  first_m1 h = record {
    before = [];
    after = M2 ∷ M3 ∷ M4 ∷ M5 ∷ M6 ∷ M7 ∷ [];
    split = refl;
    not_before = All-nil Not;
    holds = h;
  }

  first_m2 : Not M1 → P M2 → First M2
  first_m2 n1 h = record {
    before = M1 ∷ [];
    after = M3 ∷ M4 ∷ M5 ∷ M6 ∷ M7 ∷ [];
    split = refl;
    not_before = All-cons Not M1 [] n1 (All-nil Not);
    holds = h;
  }

  first_m3 : Not M1 → Not M2 → P M3 → First M3
  first_m3 n1 n2 h = record {
    before = M1 ∷ M2 ∷ [];
    after = M4 ∷ M5 ∷ M6 ∷ M7 ∷ [];
    split = refl;
    not_before = All-cons Not M1 (M2 ∷ []) n1 (All-cons Not M2 [] n2 (All-nil Not));
    holds = h;
  }

  first_m4 : Not M1 → Not M2 → Not M3 → P M4 → First M4
  first_m4 n1 n2 n3 h = record {
    before = M1 ∷ M2 ∷ M3 ∷ [];
    after = M5 ∷ M6 ∷ M7 ∷ [];
    split = refl;
    not_before = All-cons Not M1 (M2 ∷ M3 ∷ []) n1 (All-cons Not M2 (M3 ∷ []) n2 (All-cons Not M3 [] n3 (All-nil Not)));
    holds = h;
  }

  first_m5 : Not M1 → Not M2 → Not M3 → Not M4 → P M5 → First M5
  first_m5 n1 n2 n3 n4 h = record {
    before = M1 ∷ M2 ∷ M3 ∷ M4 ∷ [];
    after = M6 ∷ M7 ∷ [];
    split = refl;
    not_before = All-cons Not M1 (M2 ∷ M3 ∷ M4 ∷ []) n1 (All-cons Not M2 (M3 ∷ M4 ∷ []) n2 (All-cons Not M3 (M4 ∷ []) n3 (All-cons Not M4 [] n4 (All-nil Not))));
    holds = h;
  }

  first_m6 : Not M1 → Not M2 → Not M3 → Not M4 → Not M5 → P M6 → First M6
  first_m6 n1 n2 n3 n4 n5 h = record {
    before = M1 ∷ M2 ∷ M3 ∷ M4 ∷ M5 ∷ [];
    after = M7 ∷ [];
    split = refl;
    not_before = All-cons Not M1 (M2 ∷ M3 ∷ M4 ∷ M5 ∷ []) n1 (All-cons Not M2 (M3 ∷ M4 ∷ M5 ∷ []) n2 (All-cons Not M3 (M4 ∷ M5 ∷ []) n3 (All-cons Not M4 (M5 ∷ []) n4 (All-cons Not M5 [] n5 (All-nil Not)))));
    holds = h;
  }

  first_m7 : Not M1 → Not M2 → Not M3 → Not M4 → Not M5 → Not M6 → P M7 → First M7
  first_m7 n1 n2 n3 n4 n5 n6 h = record {
    before = M1 ∷ M2 ∷ M3 ∷ M4 ∷ M5 ∷ M6 ∷ [];
    after = [];
    split = refl;
    not_before =
        All-cons Not M1 (M2 ∷ M3 ∷ M4 ∷ M5 ∷ M6 ∷ []) n1
        (All-cons Not M2 (M3 ∷ M4 ∷ M5 ∷ M6 ∷ []) n2 (All-cons Not M3 (M4 ∷ M5 ∷ M6 ∷ []) n3 (All-cons Not M4 (M5 ∷ M6 ∷ []) n4 (All-cons Not M5 (M6 ∷ []) n5 (All-cons Not M6 [] n6 (All-nil Not))))));
    holds = h;
  }

-- ---- clauses

module _ (il : Il) (c : ClauseDef) (after : List IlDef) where
  abbrev at_clause : Standing
  at_clause = (def.Clause c, after)

  kept : (b : Bool) → b ≡ true → b ≡ false → ⊥
  kept b h k = true≢false (sym h ∙ k)

  none_broken : keeps_m3 il c ≡ true → keeps_m4 il c ≡ true → keeps_m6 c ≡ true → keeps_m7 c ≡ true → (m : RuleId) → ClauseBreaks il c m → ⊥
  none_broken m3 m4 m6 m7 M3 h = kept (keeps_m3 il c) m3 h
  none_broken m3 m4 m6 m7 M4 h = kept (keeps_m4 il c) m4 h
  none_broken m3 m4 m6 m7 M6 h = kept (keeps_m6 c) m6 h
  none_broken m3 m4 m6 m7 M7 h = kept (keeps_m7 c) m7 h
  none_broken m3 m4 m6 m7 m h = h

  by_kept : (a b d e : Bool) → keeps_m3 il c ≡ a → keeps_m4 il c ≡ b → keeps_m6 c ≡ d → keeps_m7 c ≡ e → IsLeast il at_clause (least_not_kept a b d e)
  by_kept false b d e m3 m4 m6 m7 = first_m3 (Breaks il at_clause) (λ h. h) (λ h. h) m3
  by_kept true false d e m3 m4 m6 m7 = first_m4 (Breaks il at_clause) (λ h. h) (λ h. h) (kept (keeps_m3 il c) m3) m4
  by_kept true true false e m3 m4 m6 m7 = first_m6 (Breaks il at_clause) (λ h. h) (λ h. h) (kept (keeps_m3 il c) m3) (kept (keeps_m4 il c) m4) (λ h. h) m6
  by_kept true true true false m3 m4 m6 m7 =
      first_m7 (Breaks il at_clause) (λ h. h) (λ h. h) (kept (keeps_m3 il c) m3) (kept (keeps_m4 il c) m4) (λ h. h) (kept (keeps_m6 c) m6) m7
  by_kept true true true true m3 m4 m6 m7 = none_broken m3 m4 m6 m7

  pub clause_least : (breach : Option RuleId) → breach ≡ clause_breach il c → IsLeast il at_clause breach
  clause_least breach e = subst (IsLeast il at_clause) (sym e) (by_kept (keeps_m3 il c) (keeps_m4 il c) (keeps_m6 c) (keeps_m7 c) refl refl refl refl)

-- ---- rules

and-both : (a b : Bool) → (a && b) ≡ true → (a ≡ true) × (b ≡ true)
and-both true b h = (refl, h)
and-both false b h = absurd (false≢true h)

and-other : (a b : Bool) → (a && b) ≡ false → a ≡ true → b ≡ false
and-other true b h is = h
and-other false b h is = absurd (false≢true is)

not-true : (b : Bool) → not b ≡ true → b ≡ false
not-true true h = absurd (false≢true h)
not-true false h = refl

not-false : (b : Bool) → not b ≡ false → b ≡ true
not-false true h = refl
not-false false h = absurd (true≢false h)

directed-by : (o : Option RelationDef) → unwrap_or (option_map (λ (r : RelationDef). is_some (direction r)) o) false ≡ true → (r : RelationDef) × (o ≡ Some r) × (is_some (direction r) ≡ true)
directed-by None h = absurd (false≢true h)
directed-by (Some r) h = (r, refl, h)

directed-of : (o : Option RelationDef) (r : RelationDef) → o ≡ Some r → is_some (direction r) ≡ true → unwrap_or (option_map (λ (r : RelationDef). is_some (direction r)) o) false ≡ true
directed-of o r e h = ap (λ z. unwrap_or (option_map (λ (r : RelationDef). is_some (direction r)) z) false) e ∙ h

module _ (r : Relations) (known : AreRelations r) (rule : RuleDef) (after : List IlDef) where
  abbrev il : Il
  il = r.directions.il.now

  abbrev at_rule : Standing
  at_rule = (def.Rule rule, after)

  read : is_directed r rule.relation ≡ unwrap_or (option_map (λ (s : RelationDef). is_some (direction s)) (relation_named il rule.relation)) false
  read = ap (λ o. unwrap_or o false) (known.directed rule.relation)

  directed : is_directed r rule.relation ≡ true → IsDirected il rule.relation
  directed h = directed-by (relation_named il rule.relation) (sym read ∙ h)

  undirected : is_directed r rule.relation ≡ false → IsDirected il rule.relation → ⊥
  undirected h (s, e, is) = true≢false (sym (read ∙ directed-of (relation_named il rule.relation) s e is) ∙ h)

  m1_is : breaks_m1 r rule ≡ true → RuleBreaks il rule after M1
  m1_is h = let b = and-both (have_otherwise rule.premises) (not (is_directed r rule.relation)) h in (b.0, undirected (not-true (is_directed r rule.relation) b.1))

  m1_not : breaks_m1 r rule ≡ false → RuleBreaks il rule after M1 → ⊥
  m1_not h (has, un) =
      un (directed (not-false (is_directed r rule.relation) (and-other (have_otherwise rule.premises) (not (is_directed r rule.relation)) h has)))

  m2_is : breaks_m2 r rule ≡ true → RuleBreaks il rule after M2
  m2_is h = let b = and-both (have_otherwise rule.premises) (is_circular r.circles rule.relation) h in (b.0, (known.circles rule.relation).0 b.1)

  m2_not : breaks_m2 r rule ≡ false → RuleBreaks il rule after M2 → ⊥
  m2_not h (has, leads) =
      true≢false (sym ((known.circles rule.relation).1 leads) ∙ and-other (have_otherwise rule.premises) (is_circular r.circles rule.relation) h has)

  module _ (decided : List Name) (are : AreDecided decided after) where
    m5_is : breaks_m5 decided rule ≡ true → RuleBreaks il rule after M5
    m5_is h = let b = and-both (not (cites_nothing rule)) (has_name decided rule.relation) h in (not-true (cites_nothing rule) b.0, sym (are rule.relation) ∙ b.1)

    m5_not : breaks_m5 decided rule ≡ false → RuleBreaks il rule after M5 → ⊥
    m5_not h (cites, is) =
        true≢false (sym (are rule.relation ∙ is) ∙ and-other (not (cites_nothing rule)) (has_name decided rule.relation) h (ap not cites))

    rule_keeps : breaks_m1 r rule ≡ false → breaks_m2 r rule ≡ false → breaks_m5 decided rule ≡ false → (m : RuleId) → RuleBreaks il rule after m → ⊥
    rule_keeps m1 m2 m5 M1 h = m1_not m1 h
    rule_keeps m1 m2 m5 M2 h = m2_not m2 h
    rule_keeps m1 m2 m5 M5 h = m5_not m5 h
    rule_keeps m1 m2 m5 m h = h

    by_broken : (a b d : Bool) → breaks_m1 r rule ≡ a → breaks_m2 r rule ≡ b → breaks_m5 decided rule ≡ d → IsLeast il at_rule (least_broken a b d)
    by_broken true b d m1 m2 m5 = first_m1 (Breaks il at_rule) (m1_is m1)
    by_broken false true d m1 m2 m5 = first_m2 (Breaks il at_rule) (m1_not m1) (m2_is m2)
    by_broken false false true m1 m2 m5 = first_m5 (Breaks il at_rule) (m1_not m1) (m2_not m2) (λ h. h) (λ h. h) (m5_is m5)
    by_broken false false false m1 m2 m5 = rule_keeps m1 m2 m5

    pub rule_least : (breach : Option RuleId) → breach ≡ rule_breach r decided rule → IsLeast il at_rule breach
    rule_least breach e = subst (IsLeast il at_rule) (sym e) (by_broken (breaks_m1 r rule) (breaks_m2 r rule) (breaks_m5 decided rule) refl refl refl)

-- ---- relations that have an `otherwise` behind a definition

module _ (rule : RuleDef) (after : List IlDef) where
  abbrev rest : Name → List RuleDef
  rest name = rules_from name (rules_in after)

  abbrev test : RuleDef → Bool
  test r = have_otherwise r.premises

  pub decided_more : (old new : List Name) → have_otherwise rule.premises ≡ true → SameNames new (old ++ rule.relation ∷ []) → AreDecided old after → AreDecided new (def.Rule rule ∷ after)
  decided_more old new has s are name =
      s name ∙ has_name_append old (rule.relation ∷ []) name ∙ by (bytes_eq name rule.relation) (has_name old name) (are name)
    where
      true_behind : (b : Bool) → (b || true) ≡ true
      true_behind true = refl
      true_behind false = refl

      false_behind : (b : Bool) → (b || false) ≡ b
      false_behind true = refl
      false_behind false = refl

      by : (b x : Bool) → x ≡ list_any test (rest name) → (x || (b || false)) ≡ list_any test (if b then rule ∷ rest name else rest name)
      by true x e = true_behind x ∙ sym (ap (λ z. z || list_any test (rest name)) has)
      by false x e = false_behind x ∙ e

  pub decided_same : (old : List Name) → have_otherwise rule.premises ≡ false → AreDecided old after → AreDecided old (def.Rule rule ∷ after)
  decided_same old has are name = are name ∙ by (bytes_eq name rule.relation)
    where
      by : (b : Bool) → list_any test (rest name) ≡ list_any test (if b then rule ∷ rest name else rest name)
      by true = sym (ap (λ z. z || list_any test (rest name)) has)
      by false = refl

-- ---- the first of several definitions

module _ (il : Il) where
  abbrev Keeps : Standing → Type 0
  Keeps at = (m : RuleId) → Breaks il at m → ⊥

  abbrev Broken : Standing → Type 0
  Broken at = (m : RuleId) × Breaks il at m

  found_step : (d : IlDef) (ds : List IlDef) (n : ℕ) (breach : Option RuleId) (old : Option ModeBreach) → IsLeast il (d, ds) breach → IsFound il (n + 1) ds old → IsFound il n (d ∷ ds) (earlier n breach old)
  found_step d ds n (Some m) old least f = record {
    at = (d, ds);
    first = record {
      before = [];
      after = standings ds;
      split = refl;
      not_before = All-nil (λ (at : Standing). Broken at → ⊥);
      holds = (m, least.holds);
    };
    number_is = omega arith;
    least = least;
  }
  found_step d ds n None None least f = All-cons Keeps (d, ds) (standings ds) least f
  found_step d ds n None (Some found) least f = record {
    at = f.at;
    first = record {
      before = (d, ds) ∷ f.first.before;
      after = f.first.after;
      split = ap (λ z. (d, ds) ∷ z) f.first.split;
      not_before = All-cons (λ (at : Standing). Broken at → ⊥) (d, ds) f.first.before (λ (m, h). least m h) f.first.not_before;
      holds = f.first.holds;
    };
    number_is = let e = f.number_is in omega (arith, e);
    least = f.least;
  }

  -- the definition before those that were gone through
  pub found_next : (defs : List IlDef) (n m k : ℕ) (d : IlDef) (breach : Option RuleId) (old new : Option ModeBreach) → n < length defs → d ≡ get_or defs n d → m ≡ n → k ≡ n + 1
      → IsLeast il (d, drop k defs) breach → IsFound il k (drop k defs) old → new ≡ earlier n breach old → IsFound il m (drop m defs) new
  found_next defs n m k d breach old new h e m_is k_is least f new_is =
      let l = subst (λ z. IsLeast il (d, drop z defs) breach) k_is least in
      let g = subst (λ z. IsFound il z (drop z defs) old) k_is f in
      subst (λ z. IsFound il z (drop z defs) new) (sym m_is)
      (subst (λ z. IsFound il n (drop n defs) z) (sym new_is) (subst (λ z. IsFound il n z (earlier n breach old)) (sym (drop_there defs n d h e)) (found_step d (drop (n + 1) defs) n breach old l g)))

  -- no definition has been gone through
  pub found_first : (defs : List IlDef) (k : ℕ) → drop k defs ≡ [] → IsFound il k (drop k defs) None
  found_first defs k none = subst (λ z. AllKeep il z) (sym none) (All-nil Keeps)

  -- all have
  pub found_end : (defs : List IlDef) (k : ℕ) (found : Option ModeBreach) → k ≡ 0 → IsFound il k (drop k defs) found → IsFound il 0 defs found
  found_end defs k found none f = subst (λ z. IsFound il z (drop z defs) found) none f

  pub answered : (defs : List IlDef) (found : Option ModeBreach) → defs ≡ il.defs → IsFound il 0 defs found → IsBreachAnswer il found
  answered defs found e f = by found (subst (λ z. IsFound il 0 z found) e f)
    where
      by : (found : Option ModeBreach) → IsFound il 0 il.defs found → IsBreachAnswer il found
      by None g = g
      by (Some b) g = record {
        at = g.at;
        first = g.first;
        place_is = let e = g.number_is in omega (arith, e);
        least = g.least;
      }

-- nothing is decided behind the last definition
pub decided_first : (defs : List IlDef) (k : ℕ) (names : List Name) → drop k defs ≡ [] → names ≡ [] → AreDecided names (drop k defs)
decided_first defs k names none empty name = ap (λ z. has_name z name) empty ∙ sym (ap (is_decided name) none)

-- before it
pub decided_next : (defs : List IlDef) (n m k : ℕ) (d : IlDef) (old new : List Name) → n < length defs → d ≡ get_or defs n d → m ≡ n → k ≡ n + 1
    → ((after : List IlDef) → AreDecided old after → AreDecided new (d ∷ after)) → AreDecided old (drop k defs) → AreDecided new (drop m defs)
decided_next defs n m k d old new h e m_is k_is more are =
    let now = more (drop (n + 1) defs) (subst (λ z. AreDecided old (drop z defs)) k_is are) in
    subst (λ z. AreDecided new (drop z defs)) (sym m_is) (subst (λ z. AreDecided new z) (sym (drop_there defs n d h e)) now)
