-- What is known by name where no definition breaks an M rule.
use Rattle.std.proofs.Common.{◌≡◌, refl, sym, ◌∙◌, ap, subst, ℕ, zero, suc, List, [], ◌∷◌, take, Option, Some, None, Bool, true, false, ◌&&◌, ◌||◌, is_some, bytes_eq, if◌then◌else◌, All, slice_get}
use Rattle.std.specs.List.{list_all, list_any}
use Rattle.std.proofs.lemmas.List.Elements.{All-nil, All-cons, All-head, All-tail}
use Rattle.std.proofs.lemmas.Slice.Eq.{bytes_eq-Decides}
use Rattle.st_il.specs.declared.definition.ClauseDef.{ClauseDef}
use Rattle.st_il.specs.declared.definition.Il.{Il}
use Rattle.st_il.specs.declared.definition.IlDef.{IlDef}
use Rattle.st_il.specs.declared.definition.IlDef.TheVariants.{Syntax, Var, Relation, Rule, Fun, Clause}
use Rattle.st_il.specs.declared.definition.RelationDef.{RelationDef}
use Rattle.st_il.specs.declared.definition.RuleDef.{RuleDef}
use Rattle.st_num.specs.declared.rule.RuleId.{RuleId}
use Rattle.st_num.specs.declared.rule.RuleId.TheVariants.{M1, M2, M3, M4, M5, M6, M7}
use Rattle.st_il.specs.Names.{Name}
use Rattle.st_il.specs.Definitions.{relation_named, rules_in, rules_from, rules_of, clauses_in}
use Rattle.st_semantics.specs.Directions.{direction}
use Rattle.st_semantics.specs.Variables.{have_otherwise}
use Rattle.st_semantics.specs.ModeRules.{IsDirected, IsOtherwise, cites_nothing, Leads, keeps_m3, keeps_m4, keeps_m6, keeps_m7}
use Rattle.st_semantics.specs.Breaches.{KeepModes, ClausesKeep, ClauseKeeps, ClauseBreaks, Standing, standings, Breaks, is_decided_behind}
use Rattle.st_semantics.specs.ModeRules as mode
use Rattle.st_semantics.specs.inner.Modes.{ClauseRuns, ModesByName}

not_false : (b : Bool) → (b ≡ false → ⊥) → b ≡ true
not_false true n = refl
not_false false n = absurd (n refl)

any_at : {X : Type 0} (test : X → Bool) (xs : List X) (k : ℕ) (x : X) → slice_get xs k ≡ Some x → test x ≡ true → list_any test xs ≡ true
any_at test [] k x e h = cc
any_at test (y ∷ ys) zero x e h =
    let same : y ≡ x = cc in or_left (test y) (list_any test ys) (ap test same ∙ h)
  where
    or_left : (a b : Bool) → a ≡ true → (a || b) ≡ true
    or_left true b h = refl
    or_left false b h = cc
any_at test (y ∷ ys) (suc k) x e h = or_right (test y) (list_any test ys) (any_at test ys k x e h)
  where
    or_right : (a b : Bool) → b ≡ true → (a || b) ≡ true
    or_right true b h = refl
    or_right false b h = h

module _ (il : Il) where
  -- the relation of a name is directed, or it is not
  directed : (name : Name) → ((IsDirected il name → ⊥) → ⊥) → IsDirected il name
  directed name n = at (relation_named il name) refl
    where
      by : (r : RelationDef) → relation_named il name ≡ Some r → (b : Bool) → is_some (direction r) ≡ b → IsDirected il name
      by r e true h = (r, e, h)
      by r e false h = absurd (n (λ d. let same : r ≡ d.0 = cc in let bad : false ≡ true = sym h ∙ (ap (λ z. is_some (direction z)) same ∙ d.2) in cc))

      at : (o : Option RelationDef) → relation_named il name ≡ o → IsDirected il name
      at None e = absurd (n (λ d. let bad : None ≡ Some d.0 = sym e ∙ d.1 in cc))
      at (Some r) e = by r e (is_some (direction r)) refl

  abbrev Kept : Standing → Type 0
  Kept at = (m : RuleId) → Breaks il at m → ⊥

  abbrev ClauseKept : ClauseDef → Type 0
  ClauseKept c = (m : RuleId) → ClauseBreaks il c m → ⊥

  kept_clauses : (defs : List IlDef) → All Kept (standings defs) → All ClauseKept (clauses_in defs)
  kept_clauses [] h = All-nil ClauseKept
  kept_clauses (Syntax d ∷ ds) h = kept_clauses ds (All-tail Kept (Syntax d, ds) (standings ds) h)
  kept_clauses (Var x t ∷ ds) h = kept_clauses ds (All-tail Kept (Var x t, ds) (standings ds) h)
  kept_clauses (Relation d ∷ ds) h = kept_clauses ds (All-tail Kept (Relation d, ds) (standings ds) h)
  kept_clauses (Rule d ∷ ds) h = kept_clauses ds (All-tail Kept (Rule d, ds) (standings ds) h)
  kept_clauses (Fun d ∷ ds) h = kept_clauses ds (All-tail Kept (Fun d, ds) (standings ds) h)
  kept_clauses (Clause c ∷ ds) h =
      All-cons ClauseKept c (clauses_in ds) (All-head Kept (Clause c, ds) (standings ds) h) (kept_clauses ds (All-tail Kept (Clause c, ds) (standings ds) h))

  kept_run : (cs : List ClauseDef) → All ClauseKept cs → All (ClauseRuns il) cs
  kept_run [] h = All-nil (ClauseRuns il)
  kept_run (c ∷ cs) h =
      let here : ClauseKept c = All-head ClauseKept c cs h in
      All-cons (ClauseRuns il) c cs (record {
        m3 = not_false (keeps_m3 il c) (here M3);
        m4 = not_false (keeps_m4 il c) (here M4);
        m6 = not_false (keeps_m6 c) (here M6);
        m7 = not_false (keeps_m7 c) (here M7);
      }) (kept_run cs (All-tail ClauseKept c cs h))

  -- what is known of a rule with an `otherwise`
  record RuleKept (name : Name) (number : ℕ) (rules : List RuleDef) (rule : RuleDef) : Type 0 where
    relation : name ≡ rule.relation
    m1 : (IsDirected il rule.relation → ⊥) → ⊥
    m2 : Leads il (mode.Relation rule.relation) (mode.Relation rule.relation) → ⊥
    m5 : list_all cites_nothing (take number rules) ≡ true

  rule_kept : (defs : List IlDef) → All Kept (standings defs) → (name : Name) (number : ℕ) (rule : RuleDef)
      → slice_get (rules_from name (rules_in defs)) number ≡ Some rule → have_otherwise rule.premises ≡ true
      → RuleKept name number (rules_from name (rules_in defs)) rule
  rule_kept [] h name number rule e o = cc
  rule_kept (Syntax d ∷ ds) h name number rule e o = rule_kept ds (All-tail Kept (Syntax d, ds) (standings ds) h) name number rule e o
  rule_kept (Var x t ∷ ds) h name number rule e o = rule_kept ds (All-tail Kept (Var x t, ds) (standings ds) h) name number rule e o
  rule_kept (Relation d ∷ ds) h name number rule e o = rule_kept ds (All-tail Kept (Relation d, ds) (standings ds) h) name number rule e o
  rule_kept (Fun d ∷ ds) h name number rule e o = rule_kept ds (All-tail Kept (Fun d, ds) (standings ds) h) name number rule e o
  rule_kept (Clause d ∷ ds) h name number rule e o = rule_kept ds (All-tail Kept (Clause d, ds) (standings ds) h) name number rule e o
  rule_kept (Rule r ∷ ds) h name number rule e o =
      by (bytes_eq name r.relation) refl number e (λ k f. rule_kept ds (All-tail Kept (Rule r, ds) (standings ds) h) name k rule f o)
    where
      here : Kept (Rule r, ds)
      here = All-head Kept (Rule r, ds) (standings ds) h

      rest : List RuleDef
      rest = rules_from name (rules_in ds)

      nothing_cited : name ≡ r.relation → (k : ℕ) → slice_get rest k ≡ Some rule → cites_nothing r ≡ true
      nothing_cited n k f =
          let behind : is_decided_behind r ds ≡ true = any_at (λ (x : RuleDef). have_otherwise x.premises) (rules_from r.relation (rules_in ds)) k rule (subst (λ z. slice_get (rules_from z (rules_in ds)) k ≡ Some rule) n f) o in
          not_false (cites_nothing r) (λ c. here M5 (c, behind))

      by : (b : Bool) → bytes_eq name r.relation ≡ b → (number : ℕ) → slice_get (if b then r ∷ rest else rest) number ≡ Some rule
          → ((k : ℕ) → slice_get rest k ≡ Some rule → RuleKept name k rest rule) → RuleKept name number (if b then r ∷ rest else rest) rule
      by true n zero e more =
          let same : r ≡ rule = cc in
          record {
            relation = (bytes_eq-Decides name r.relation).0 n ∙ ap (λ (z : RuleDef). z.relation) same;
            m1 = subst (λ (z : RuleDef). (IsDirected il z.relation → ⊥) → ⊥) same (λ d. here M1 (ap (λ (z : RuleDef). have_otherwise z.premises) same ∙ o, d));
            m2 = subst (λ (z : RuleDef). Leads il (mode.Relation z.relation) (mode.Relation z.relation) → ⊥) same (λ l. here M2 (ap (λ (z : RuleDef). have_otherwise z.premises) same ∙ o, l));
            m5 = refl;
          }
      by true n (suc k) e more =
          let deeper : RuleKept name k rest rule = more k e in
          record {
            relation = deeper.relation;
            m1 = deeper.m1;
            m2 = deeper.m2;
            m5 = ap (λ z. z && list_all cites_nothing (take k rest)) (nothing_cited ((bytes_eq-Decides name r.relation).0 n) k e) ∙ deeper.m5;
          }
      by false n k e more = more k e

-- where no definition breaks a rule, no clause breaks one of these
pub clauses_keep : (il : Il) (rules : List RuleId) → KeepModes il → ClausesKeep il rules
clauses_keep il rules keep = all_keep (clauses_in il.defs) (kept_clauses il il.defs keep)
  where
    keeps : (c : ClauseDef) → ClauseKept il c → (ms : List RuleId) → ClauseKeeps il ms c
    keeps c h [] = All-nil (λ (m : RuleId). ClauseBreaks il c m → ⊥)
    keeps c h (m ∷ ms) = All-cons (λ (m : RuleId). ClauseBreaks il c m → ⊥) m ms (h m) (keeps c h ms)

    all_keep : (cs : List ClauseDef) → All (ClauseKept il) cs → All (ClauseKeeps il rules) cs
    all_keep [] h = All-nil (ClauseKeeps il rules)
    all_keep (c ∷ cs) h = All-cons (ClauseKeeps il rules) c cs (keeps c (All-head (ClauseKept il) c cs h) rules) (all_keep cs (All-tail (ClauseKept il) c cs h))

-- what is known of a clause that keeps M3 and M4
pub keeps_both : (il : Il) (c : ClauseDef) (more : List RuleId) → ClauseKeeps il (M3 ∷ M4 ∷ more) c → (keeps_m3 il c ≡ true) × (keeps_m4 il c ≡ true)
keeps_both il c more h = (
  not_false (keeps_m3 il c) (All-head (λ (m : RuleId). ClauseBreaks il c m → ⊥) M3 (M4 ∷ more) h),
  not_false (keeps_m4 il c) (All-head (λ (m : RuleId). ClauseBreaks il c m → ⊥) M4 more (All-tail (λ (m : RuleId). ClauseBreaks il c m → ⊥) M3 (M4 ∷ more) h)),
)

-- and of one that keeps M6 as well
pub keeps_third : (il : Il) (c : ClauseDef) → ClauseKeeps il (M3 ∷ M4 ∷ M6 ∷ []) c → keeps_m6 c ≡ true
keeps_third il c h =
    not_false (keeps_m6 c) (All-head (λ (m : RuleId). ClauseBreaks il c m → ⊥) M6 []
    (All-tail (λ (m : RuleId). ClauseBreaks il c m → ⊥) M4 (M6 ∷ []) (All-tail (λ (m : RuleId). ClauseBreaks il c m → ⊥) M3 (M4 ∷ M6 ∷ []) h)))

pub modes_by_name : (il : Il) → KeepModes il → ModesByName il
modes_by_name il keep = record {
  clauses = kept_run il (clauses_in il.defs) (kept_clauses il il.defs keep);
  rules = λ name number rule has.
      let kept : RuleKept il name number (rules_of il name) rule = rule_kept il il.defs keep name number rule has.is_rule has.has in
      record {
        m1 = subst (IsDirected il) (sym kept.relation) (directed il rule.relation kept.m1);
        m2 = subst (λ z. Leads il (mode.Relation z) (mode.Relation z) → ⊥) (sym kept.relation) kept.m2;
        m5 = kept.m5;
      };
}
