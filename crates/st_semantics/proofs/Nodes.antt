-- The tree of a node that is accepted, with what its evidence says.
use Rattle.std.proofs.Common.{◌≡◌, refl, ℕ, zero, suc, ◌+◌, ◌<◌, sym, ◌∙◌, ap, subst, List, [], ◌∷◌, Option, Some, None, inl, inr, arith, map, length, take}
use Rattle.std.specs.Prelude.{Bool, true, false, not, ◌&&◌, ◌||◌, cond, All, slice_get, find, bytes_eq, if◌then◌else◌, is_some}
use Rattle.std.specs.List.{list_all, enumerate_from}
use Rattle.std.proofs.lemmas.Slice.Eq.{bytes_eq-Decides}
use Rattle.st_deriv.specs.declared.line.NodeLine.{NodeLine}
use Rattle.st_il.specs.declared.definition.Il.{Il}
use Rattle.st_il.specs.declared.definition.RelationDef.{RelationDef}
use Rattle.st_il.specs.declared.definition.RuleDef.{RuleDef}
use Rattle.st_il.specs.declared.expression.IlExp.{IlExp}
use Rattle.st_il.specs.declared.expression.IlPrem.{IlPrem}
use Rattle.st_il.specs.declared.expression.IlPrem.TheOpen.{IlPrem-F}
use Rattle.st_il.specs.declared.tree.Child.{Child}
use Rattle.st_il.specs.declared.tree.Tree.{Tree}
use Rattle.st_il.specs.declared.value.Env.{Env}
use Rattle.st_il.specs.declared.value.Value.{Value}
use Rattle.st_semantics.proofs.Modes.{modes_by_name}
use Rattle.st_semantics.specs.declared.verify_rule.VerifyRule.{VerifyRule}
use Rattle.st_semantics.specs.declared.verify_rule.VerifyRule.TheVariants.{V4, V5, V6, V7, V10, V13}
use Rattle.st_semantics.specs.declared.notes.Notes.{Notes}
use Rattle.st_il.specs.Names.{Name}
use Rattle.st_il.specs.Definitions.{IsRelation, relation_named, relations, rules_in, rules_from, rules_of, syntaxes}
use Rattle.st_semantics.specs.Directions.{mask, inputs_by, inputs_of}
use Rattle.st_semantics.specs.Environments.{EnvOk}
use Rattle.st_semantics.specs.Evaluation.{tasks}
use Rattle.st_semantics.specs.Variables.{cites, has_otherwise, have_otherwise}
use Rattle.st_semantics.specs.Orders.{is_order}
use Rattle.st_semantics.specs.ModeRules.{IsOtherwise, cites_nothing}
use Rattle.st_semantics.specs.Breaches.{KeepModes}
use Rattle.st_semantics.specs.Holding as h
use Rattle.st_semantics.specs.Holding.{Meaning, HaveValues, Instance, instances, HoldAll}
use Rattle.st_semantics.specs.Calls.{has_value, no_goal}
use Rattle.st_semantics.specs.Derivation as d
use Rattle.st_semantics.specs.Derivation.{Root, Exclusion, Valid, Proved, HasTree, IsValid, excluded, exclusion_to, NoneBefore, derived}
use Rattle.st_semantics.specs.Checks.{Answer, asks, forbids, and_then, evaluates, evaluate_each, checking_depth}
use Rattle.st_semantics.specs.Walks.{Judges, Walks}
use Rattle.st_semantics.specs.Verdict.{Found, find_rule, rule_named, IsNode, lines_cited, tests_node}
use Rattle.st_semantics.specs.inner.Trials.{TrialsAreStable}
use Rattle.st_semantics.specs.Evidence.{IsDeepTrial, GivesOutputs, in_trial, in_trial_at, tries, try_each, try_all, excludes, HasShape}
use Rattle.st_semantics.proofs.Holding.{Holds-map}
use Rattle.st_semantics.proofs.Acceptance.{no_refusal, cites-level, AllAllowed, proved_of}

-- ---- of tests one after another each accepts

pub both : (first second : Answer → Type 0) (a : Answer) → and_then first second a → a ≡ None → first None × second a
both first second a (inl p) n = p
both first second a (inr p) n = absurd (no_refusal p.0 p.2 n)

-- ---- definitions that are found

abbrev Found-in : {X : Type 0} → (X → Bool) → List X → X → Type 0
Found-in test xs x = (k : ℕ) × (slice_get xs k ≡ Some x) × (test x ≡ true)

found_next : {X : Type 0} (test : X → Bool) (y : X) (ys : List X) (x : X) (b : Bool) → test y ≡ b → cond b (Some y) (find test ys) ≡ Some x
    → (find test ys ≡ Some x → Found-in test ys x) → Found-in test (y ∷ ys) x
found_next test y ys x true is e more = let same : y ≡ x = cc in (0, e, subst (λ z. test z ≡ true) same is)
found_next test y ys x false is e more = let r = more e in (suc r.0, r.1, r.2)

found_at : {X : Type 0} (test : X → Bool) (xs : List X) (x : X) → find test xs ≡ Some x → Found-in test xs x
found_at test [] x e = cc
found_at test (y ∷ ys) x e = found_next test y ys x (test y) refl e (found_at test ys x)

relation_at : (il : Il) (name : Name) (r : RelationDef) → relation_named il name ≡ Some r → (k : ℕ) × IsRelation il k name
relation_at il name r e =
    let at = found_at (λ (x : RelationDef). bytes_eq name x.name) (relations il) r e in
    (at.0, (r, at.1, sym ((bytes_eq-Decides name r.name).0 at.2)))

abbrev RuleAt : Name → ℕ → List RuleDef → Found → Type 0
RuleAt name n rs f = (k : ℕ) × (f.0 ≡ n + k) × (slice_get rs k ≡ Some f.1)

rule_next : (name : Name) (n : ℕ) (r : RuleDef) (rs : List RuleDef) (f : Found) (b : Bool)
    → (if b then Some (n, r) else find_rule name (enumerate_from (n + 1) rs)) ≡ Some f
    → (find_rule name (enumerate_from (n + 1) rs) ≡ Some f → RuleAt name (n + 1) rs f) → RuleAt name n (r ∷ rs) f
rule_next name n r rs f true e more =
    let same : (n, r) ≡ f = cc in (0, omega (arith, sym (ap (λ (z : Found). z.0) same)), ap (λ (z : Found). Some z.1) same)
rule_next name n r rs f false e more = let a = more e in (suc a.0, omega (arith, a.1), a.2)

rule_at : (name : Name) (n : ℕ) (rs : List RuleDef) (f : Found) → find_rule name (enumerate_from n rs) ≡ Some f → RuleAt name n rs f
rule_at name n [] f e = cc
rule_at name n (r ∷ rs) f e = rule_next name n r rs f (bytes_eq name r.name) e (rule_at name (n + 1) rs f)

-- a rule of a relation has the name of the relation, and so there is one
abbrev pub RuleOf : Name → List RuleDef → RuleDef → Type 0
RuleOf name rs r = (name ≡ r.relation) × ((m : ℕ) × (length rs ≡ suc m))

of_next : (name : Name) (x : RuleDef) (xs : List RuleDef) (k : ℕ) (r : RuleDef) (b : Bool) → bytes_eq name x.relation ≡ b
    → slice_get (if b then x ∷ rules_from name xs else rules_from name xs) k ≡ Some r
    → ((j : ℕ) → slice_get (rules_from name xs) j ≡ Some r → RuleOf name xs r) → RuleOf name (x ∷ xs) r
of_next name x xs zero r true is e more =
    let same : x ≡ r = cc in ((bytes_eq-Decides name x.relation).0 is ∙ ap (λ (z : RuleDef). z.relation) same, (length xs, omega arith))
of_next name x xs (suc k) r true is e more = let a = more k e in (a.0, (length xs, omega arith))
of_next name x xs k r false is e more = let a = more k e in (a.0, (length xs, omega arith))

pub rule_of : (name : Name) (rs : List RuleDef) (k : ℕ) (r : RuleDef) → slice_get (rules_from name rs) k ≡ Some r → RuleOf name rs r
rule_of name [] k r e = cc
rule_of name (x ∷ xs) k r e = of_next name x xs k r (bytes_eq name x.relation) refl e (λ j. rule_of name xs j r)

-- ---- values by a mask

some_values : (V : Meaning) (env : Env) (m : List Bool) (es : List IlExp) (vs : List Value) → HaveValues V (tasks env es) vs
    → HaveValues V (tasks env (inputs_by m es)) (inputs_by m vs)
some_values V env [] es vs have = tt
some_values V env (b ∷ m) [] [] have = tt
some_values V env (b ∷ m) [] (v ∷ vs) have = absurd have
some_values V env (b ∷ m) (e ∷ es) [] have = absurd have
some_values V env (true ∷ m) (e ∷ es) (v ∷ vs) have = (have.0, some_values V env m es vs have.1)
some_values V env (false ∷ m) (e ∷ es) (v ∷ vs) have = some_values V env m es vs have.1

-- ---- a tree of a rule without relation premises

abbrev pub AllPlain : List Instance → Type 0
AllPlain [] = Unit {0}
AllPlain (at ∷ rest) = (cites at.1 ≡ false) × AllPlain rest

and_true : (a b : Bool) → (a && b) ≡ true → (a ≡ true) × (b ≡ true)
and_true true b e = (refl, e)
and_true false b e = let bad : false ≡ true = e in cc

not_true : (a : Bool) → not a ≡ true → a ≡ false
not_true true e = cc
not_true false e = refl

pub all_plain : (env : Env) (ps : List IlPrem) → list_all (λ (p : IlPrem). not (cites p)) ps ≡ true → AllPlain (instances env ps)
all_plain env [] e = tt
all_plain env (p ∷ ps) e = let parts = and_true (not (cites p)) _ e in (not_true (cites p) parts.0, all_plain env ps parts.1)

plain_holds : (il : Il) (O : Exclusion) {root : Root} {ps : List Instance} {cs : List Child} → Proved il (has_value il) O root ps cs
    → AllPlain ps → HoldAll (has_value il) (Unit {0}) (derived il) ps
plain_holds il O d.done plain = h.done
plain_holds il O (d.plain c x rest) plain =
    h.more (Holds-map (has_value il) (has_value il) (λ env e v have. have) no_goal (derived il) (λ r vs d. absurd d) (λ o. tt) x)
    (plain_holds il O rest plain.1)
plain_holds il O (d.goal {at = at} name es below is one valid relation have rest) plain =
    let bad : true ≡ false = sym (cites-level at.1 (IlPrem-F.Goal name es) is) ∙ plain.0 in cc
plain_holds il O (d.each how xs body envs inner c is many are all rest) plain = let bad : true ≡ false = sym c ∙ plain.0 in cc

-- ---- the evidence

pub take_get : {X : Type 0} (n j : ℕ) (xs : List X) (x : X) → j < n → slice_get xs j ≡ Some x → slice_get (take n xs) j ≡ Some x
take_get zero j xs x less e = absurd (omega (arith, less))
take_get (suc n) j [] x less e = e
take_get (suc n) zero (y ∷ ys) x less e = e
take_get (suc n) (suc j) (y ∷ ys) x less e = take_get n j ys x (omega (arith, less)) e

pub all_get : {X : Type 0} (test : X → Bool) (xs : List X) (j : ℕ) (x : X) → list_all test xs ≡ true → slice_get xs j ≡ Some x → test x ≡ true
all_get test [] j x e get = cc
all_get test (y ∷ ys) zero x e get = let same : y ≡ x = cc in subst (λ z. test z ≡ true) same (and_true (test y) _ e).0
all_get test (y ∷ ys) (suc j) x e get = all_get test ys j x (and_true (test y) _ e).1 get

pub asked : (P : Type 0) (rule : VerifyRule) → asks P rule None → P
asked P rule (inl p) = p.0
asked P rule (inr p) = absurd (no_refusal rule p.1 refl)

forbidden : (P : Type 0) (rule : VerifyRule) → forbids P rule None → P → ⊥
forbidden P rule (inl p) q = p.0 q
forbidden P rule (inr p) q = no_refusal rule p.1 refl

tried : (il : Il) → TrialsAreStable il → (name : Name) (number : ℕ) (one : RuleDef) → slice_get (rules_of il name) number ≡ Some one → (inputs : List Value) (rs : List RuleDef) (orders : List (List ℕ)) → try_each il inputs rs orders None
    → (j : ℕ) → slice_get rs j ≡ Some one → cites_nothing one ≡ true → GivesOutputs (in_trial il) one inputs → ⊥
tried il stable name number one is inputs [] orders t j get c gives = cc
tried il stable name number one is inputs (r ∷ rs) [] t j get c gives = no_refusal _ t refl
tried il stable name number one is inputs (r ∷ rs) (o ∷ os) t zero get c gives =
    let same : r ≡ one = cc in
    let one = both (tries il inputs r o) (try_each il inputs rs os) None t refl in
    let two = both (asks (is_order il r o ≡ true) V10) (and_then (forbids (IsDeepTrial il r o inputs) V13) (forbids (GivesOutputs (in_trial_at il) r inputs) V10)) None one.0 refl in
    let three = both (forbids (IsDeepTrial il r o inputs) V13) (forbids (GivesOutputs (in_trial_at il) r inputs) V10) None two.1 refl in
    stable name number r (is ∙ ap Some (sym same)) o inputs (ap cites_nothing same ∙ c) (asked (is_order il r o ≡ true) V10 two.0)
    (forbidden (IsDeepTrial il r o inputs) V13 three.0) (subst (λ z. GivesOutputs (in_trial il) z inputs) (sym same) gives)
    (forbidden (GivesOutputs (in_trial_at il) r inputs) V10 three.1)
tried il stable name number one is inputs (r ∷ rs) (o ∷ os) t (suc j) get c gives =
    tried il stable name number one is inputs rs os (both (tries il inputs r o) (try_each il inputs rs os) None t refl).1 j get c gives

pub relation_single : (il : Il) (k : ℕ) (a b : Name) → IsRelation il k a → IsRelation il k b → a ≡ b
relation_single il k a b p q = let same : p.0 ≡ q.0 = cc in sym p.2 ∙ (ap (λ (r : RelationDef). r.name) same ∙ q.2)

module _ (il : Il) (modes : KeepModes il) (stable : TrialsAreStable il) (name : Name) (number : ℕ) (rule : RuleDef) (inputs : List Value)
    (has : IsOtherwise il name number rule) (orders : List (List ℕ)) (all : try_each il inputs (take number (rules_of il name)) orders None) where
  refute : (O : Exclusion) (tree : Tree) → Valid il (has_value il) O tree → IsRelation il tree.relation name → tree.rule < number
      → inputs_of il name tree.values ≡ inputs → ⊥
  refute O tree (d.node name' rule' is at ok gives proved) rel less ins =
      let nn : name' ≡ name = relation_single il tree.relation name' name is rel in
      let here : slice_get (rules_of il name) tree.rule ≡ Some rule' = subst (λ z. slice_get (rules_of il z) tree.rule ≡ Some rule') nn at in
      let rn : name ≡ rule'.relation = (rule_of name (rules_in il.defs) tree.rule rule' here).0 in
      let early : slice_get (take number (rules_of il name)) tree.rule ≡ Some rule' = take_get number tree.rule (rules_of il name) rule' less here in
      let nothing_cited : cites_nothing rule' ≡ true = all_get cites_nothing (take number (rules_of il name)) tree.rule rule' ((modes_by_name il modes).rules name number rule has).m5 early in
      tried il stable name tree.rule rule' here inputs (take number (rules_of il name)) orders all tree.rule early nothing_cited (record {
        env = tree.env;
        reached = record {
          typed = ok;
          heads_are = subst (λ m. HaveValues (has_value il) (tasks tree.env (inputs_by m rule'.conclusion)) inputs) (ap (mask il) rn)
              (subst (HaveValues (has_value il) (tasks tree.env (inputs_by (mask il name) rule'.conclusion))) ins
              (some_values (has_value il) tree.env (mask il name) rule'.conclusion tree.values gives));
          hold = plain_holds il O proved (all_plain tree.env rule'.premises nothing_cited);
        };
        outputs = inputs_by (map not (mask il rule'.relation)) tree.values;
        values = some_values (has_value il) tree.env (map not (mask il rule'.relation)) rule'.conclusion tree.values gives;
      })

  is_excluded : excluded il (record { relation = name; rule = number; inputs = inputs })
  is_excluded =
      let many = (rule_of name (rules_in il.defs) number rule has.is_rule).1 in
      subst (λ n. exclusion_to il (has_value il) n (record { relation = name; rule = number; inputs = inputs })) (sym many.1)
      (λ tree valid rel less ins. refute (exclusion_to il (has_value il) many.0) tree valid rel less ins)

-- ---- the node

evaluated_one : (il : Il) (env : Env) (e : IlExp) (v : Value) → evaluates il V7 env e v None → has_value il env e v
evaluated_one il env e v (inl p) = (checking_depth, p.0)
evaluated_one il env e v (inr p) = absurd (no_refusal _ p.3 refl)

evaluated_all : (il : Il) (env : Env) (es : List IlExp) (vs : List Value) → evaluate_each il env es vs None → length vs ≡ length es → HaveValues (has_value il) (tasks env es) vs
evaluated_all il env [] [] t n = tt
evaluated_all il env [] (v ∷ vs) t n = absurd (omega (arith, n))
evaluated_all il env (e ∷ es) [] t n = absurd (omega (arith, n))
evaluated_all il env (e ∷ es) (v ∷ vs) t n =
    let one = both (evaluates il V7 env e v) (evaluate_each il env es vs) None t refl in
    (evaluated_one il env e v one.0, evaluated_all il env es vs one.1 (omega (arith, n)))

evidence_of : (b : Bool) (number : ℕ) (e : Option (List (List ℕ))) → HasShape b number e → b ≡ true → (orders : List (List ℕ)) × (e ≡ Some orders)
evidence_of true number (Some orders) s h = (orders, refl)
evidence_of true number None s h = absurd s
evidence_of false number e s h = let bad : false ≡ true = h in cc

pub or_left : (a b : Bool) → a ≡ true → (a || b) ≡ true
or_left true b h = refl
or_left false b h = let bad : false ≡ true = h in cc

pub or_right : (a b : Bool) → b ≡ true → (a || b) ≡ true
or_right true b h = refl
or_right false b h = h

named_so : (il : Il) (relation : Option RelationDef) (found : Option Found) (f : Found) → (if is_some relation then found else None) ≡ Some f
    → ((r : RelationDef) × (relation ≡ Some r)) × (found ≡ Some f)
named_so il (Some r) found f e = ((r, refl), e)
named_so il None found f e = cc

module _ (il : Il) (modes : KeepModes il) (stable : TrialsAreStable il) (notes : Notes)
    (trees : (line : ℕ) (relation : Name) (vs : List Value) → Judges notes line relation vs → HasTree il relation vs) (node : NodeLine) where
  allowed_all : (root : Root) (env : Env) (ps : List IlPrem) → (have_otherwise ps ≡ true → excluded il root) → AllAllowed il notes trees root (instances env ps)
  allowed_all root env [] f = tt
  allowed_all root env (p ∷ ps) f =
      (λ h. f (or_left (has_otherwise p) (have_otherwise ps) h), allowed_all root env ps (λ h. f (or_right (has_otherwise p) (have_otherwise ps) h)))

  excluded_here : (number : ℕ) (rule : RuleDef) → slice_get (rules_of il node.relation) number ≡ Some rule → excludes il node number rule None
      → have_otherwise rule.premises ≡ true → excluded il (record { relation = node.relation; rule = number; inputs = inputs_of il node.relation node.values })
  excluded_here number rule at t h =
      let parts = both (asks (HasShape (have_otherwise rule.premises) number node.evidence) V10)
      (try_all il (inputs_of il node.relation node.values) (take number (rules_of il node.relation)) node.evidence) None t refl in
      let shape = asked (HasShape (have_otherwise rule.premises) number node.evidence) V10 parts.0 in
      let evidence = evidence_of (have_otherwise rule.premises) number node.evidence shape h in
      is_excluded il modes stable node.relation number rule (inputs_of il node.relation node.values)
      (record { is_rule = at; has = h }) evidence.0
      (subst (λ e. try_all il (inputs_of il node.relation node.values) (take number (rules_of il node.relation)) e None) evidence.1 parts.1)

  found_tree : (found : Option Found) → rule_named il node ≡ found → tests_node il notes node found None → HasTree il node.relation node.values
  found_tree None is t = absurd (no_refusal V5 t refl)
  found_tree (Some (number, rule)) is t =
      let names = named_so il (relation_named il node.relation) (find_rule node.rule (enumerate_from 0 (rules_of il node.relation))) (number, rule) is in
      let relation = relation_at il node.relation names.0.0 names.0.1 in
      let place = rule_at node.rule 0 (rules_of il node.relation) (number, rule) names.1 in
      let same : place.0 ≡ number = omega (arith, place.1) in
      let at : slice_get (rules_of il node.relation) number ≡ Some rule = subst (λ k. slice_get (rules_of il node.relation) k ≡ Some rule) same place.2 in
      let T1 = asks (EnvOk (syntaxes il) rule.variables node.env) V6 in
      let T2 = asks (All (IsNode notes) (lines_cited node.children)) V4 in
      let T3 = asks (length node.values ≡ length rule.conclusion) V7 in
      let T4 = evaluate_each il node.env rule.conclusion node.values in
      let T5 = Walks il notes (instances node.env rule.premises) node.children in
      let T6 = excludes il node number rule in
      let one = both T1 (and_then T2 (and_then T3 (and_then T4 (and_then T5 T6)))) None t refl in
      let two = both T2 (and_then T3 (and_then T4 (and_then T5 T6))) None one.1 refl in
      let three = both T3 (and_then T4 (and_then T5 T6)) None two.1 refl in
      let four = both T4 (and_then T5 T6) None three.1 refl in
      let five = both T5 T6 None four.1 refl in
      let root : Root = record { relation = node.relation; rule = number; inputs = inputs_of il node.relation node.values } in
      let children = proved_of il notes trees root five.0 refl (allowed_all root node.env rule.premises (excluded_here number rule at five.1)) in
      let tree : Tree = record { relation = relation.0; rule = number; env = node.env; values = node.values; children = children.0 } in
      record {
        tree = tree;
        valid = d.node {tree = tree} node.relation rule relation.1 at (asked (EnvOk (syntaxes il) rule.variables node.env) V6 one.0)
            (evaluated_all il node.env rule.conclusion node.values four.0 (asked (length node.values ≡ length rule.conclusion) V7 three.0)) children.1;
        relation_is = relation.1;
        values_are = refl;
      }

  -- A node line that is accepted after lines whose judgements are derived has a valid tree.
  pub node_tree : tests_node il notes node (rule_named il node) None → HasTree il node.relation node.values
  node_tree t = found_tree (rule_named il node) refl t
