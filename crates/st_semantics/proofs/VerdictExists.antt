-- It is not that a line has no verdict.
use Rattle.std.proofs.Common.{◌≡◌, ℕ, ◌+◌, refl, sym, ◌∙◌, subst, List, [], ◌∷◌, take, inl, inr, Bool, true, false, if◌then◌else◌, Option, Some, None, is_some, bytes_eq, All}
use Rattle.std.specs.List.{enumerate_from}
use Rattle.std.proofs.lemmas.List.Elements.{All-cons, All-head, All-tail}
use Rattle.st_deriv.specs.declared.line.Line.{Line}
use Rattle.st_deriv.specs.declared.line.Line.TheVariants.{Head, From, Node, Step, End}
use Rattle.st_deriv.specs.declared.line.NodeLine.{NodeLine}
use Rattle.st_deriv.specs.declared.line.Ref.{Ref, out-Ref}
use Rattle.st_deriv.specs.declared.line.Ref.TheOpen.{Ref-F}
use Rattle.st_il.specs.declared.definition.Il.{Il}
use Rattle.st_il.specs.declared.definition.RuleDef.{RuleDef}
use Rattle.st_il.specs.declared.expression.IlExp.{IlExp}
use Rattle.st_il.specs.declared.expression.IlPrem.{IlPrem, out-IlPrem}
use Rattle.st_il.specs.declared.expression.IlPrem.TheOpen.{IlPrem-F}
use Rattle.st_il.specs.declared.expression.Iteration.{Iteration}
use Rattle.st_il.specs.declared.value.Env.{Env}
use Rattle.st_il.specs.declared.value.Value.{Value}
use Rattle.st_il.specs.declared.value.Value.TheVariants as value
use Rattle.st_semantics.specs.declared.verify_rule.VerifyRule.{VerifyRule}
use Rattle.st_semantics.specs.declared.verify_rule.VerifyRule.TheVariants.{V3, V4, V5, V6, V7, V8, V9, V10, V11, V13}
use Rattle.st_semantics.specs.declared.notes.Notes.{Notes}
use Rattle.st_semantics.specs.declared.outcome.Outcome.{Outcome}
use Rattle.st_semantics.specs.declared.outcome.Outcome.TheVariants.{Val}
use Rattle.st_semantics.specs.declared.outcome.Outcomes.{Outcomes}
use Rattle.st_semantics.specs.declared.outcome.Outcomes.TheVariants.{Values, Stopped}
use Rattle.st_il.specs.Names.{Name}
use Rattle.st_il.specs.Definitions.{syntaxes, relation_named, rules_in, rules_from, rules_of}
use Rattle.st_semantics.specs.Directions.{inputs_of}
use Rattle.st_semantics.specs.Iterations.{count_of}
use Rattle.st_semantics.specs.Evaluation.{Way, Ends, Goes, way}
use Rattle.st_semantics.specs.Formed.{IsFormed, AreFormed, PremIsFormed, ResultsAreFormed, RuleIsFormed, RulesAreFormed}
use Rattle.st_semantics.specs.Formed as formed
use Rattle.st_semantics.specs.Variables.{cites}
use Rattle.st_semantics.specs.Holding.{Instance, instances, each_instance}
use Rattle.st_semantics.specs.Calls.{CallAt, ValueAt}
use Rattle.st_semantics.specs.Checks.{Answer, Test, accepts, refuses, asks, forbids, and_then, checking_depth, refusal, evaluates, evaluate_each}
use Rattle.st_semantics.specs.Walks as w
use Rattle.st_semantics.specs.Walks.{ComeTo, Judges, judged, rule_at, TakenChild, TestsAtOnce, Tests, Walks}
use Rattle.st_semantics.specs.Evidence.{tries, try_each, try_all}
use Rattle.st_semantics.specs.Verdict.{Found, find_rule, rule_named, tests_node, tests}
use Rattle.st_semantics.specs.Laws.{LawOfSomeVerdict}
use Rattle.st_semantics.proofs.Acceptance.{cites-level}
use Rattle.st_semantics.proofs.Depths.{Likely, likely, likely_then, likely_map, decided}
use Rattle.st_semantics.proofs.ComesToOutcome.{comes, all_come, call_comes}

-- a test gives some answer
abbrev Answers : Test → Type 0
Answers T = Likely ((a : Answer) × T a)

accepts_answers : Answers accepts
accepts_answers = likely (None, refl)

refuses_answers : (rule : VerifyRule) → Answers (refuses rule)
refuses_answers rule = likely (Some rule, refl)

asks_answers : (P : Type 0) (rule : VerifyRule) → Answers (asks P rule)
asks_answers P rule = likely_map (elim [ inl p ↦ (None, inl (p, refl)) | inr n ↦ (Some rule, inr (n, refl)) ]) (decided P)

forbids_answers : (P : Type 0) (rule : VerifyRule) → Answers (forbids P rule)
forbids_answers P rule = likely_map (elim [ inl p ↦ (Some rule, inr (p, refl)) | inr n ↦ (None, inl (n, refl)) ]) (decided P)

and_then_answers : (first second : Test) → Answers first → Answers second → Answers (and_then first second)
and_then_answers first second one two = likely_then one (λ x. at x.0 x.1)
  where
    at : (a : Answer) → first a → Answers (and_then first second)
    at None p = likely_map (λ y. (y.0, inl (p, y.1))) two
    at (Some rule) p = likely (Some rule, inr (rule, p, refl))

module _ (il : Il) (results : ResultsAreFormed il) where
  some_value : (env : Env) (e : IlExp) → IsFormed (syntaxes il) e → Likely ((o : Outcome) × ValueAt il checking_depth env e o)
  some_value env e is = comes (syntaxes il) (CallAt il checking_depth) (call_comes il results checking_depth) is env

  some_values : (env : Env) (es : List IlExp) → AreFormed (syntaxes il) es → Likely ((r : Outcomes) × ComeTo il env es r)
  some_values env es are = all_come (syntaxes il) (CallAt il checking_depth) (call_comes il results checking_depth) are env

  evaluates_answers : (rule : VerifyRule) (env : Env) (e : IlExp) (v : Value) → IsFormed (syntaxes il) e → Answers (evaluates il rule env e v)
  evaluates_answers rule env e v is = likely_then (some_value env e is) (λ x. likely_map (elim [
    | inl same ↦ (None, inl (subst (ValueAt il checking_depth env e) same x.1, refl))
    | inr other ↦ (Some (refusal rule x.0), inr (x.0, x.1, other, refl))
  ]) (decided (x.0 ≡ Val v)))

  each_answers : (env : Env) (es : List IlExp) (vs : List Value) → AreFormed (syntaxes il) es → Answers (evaluate_each il env es vs)
  each_answers env [] vs are = accepts_answers
  each_answers env (e ∷ es) [] are = refuses_answers V7
  each_answers env (e ∷ es) (v ∷ vs) (formed.more x xs) = and_then_answers (evaluates il V7 env e v) (evaluate_each il env es vs) (evaluates_answers V7 env e v x) (each_answers env es vs xs)

  module _ (notes : Notes) where
    judged_answers : (line : ℕ) (relation : Name) (r : Outcomes) → Answers (judged notes line relation r)
    judged_answers line relation (Values vs) = asks_answers (Judges notes line relation vs) V9
    judged_answers line relation (Stopped o) = refuses_answers (refusal V9 o)

    -- a premise takes a child exactly where it cites a relation
    abbrev Fits : IlPrem → TakenChild → Type 0
    Fits p None = cites p ≡ false
    Fits p (Some child) = cites p ≡ true

    -- an instance, with what it takes, is tested
    abbrev Tested : Instance → Type 0
    Tested at = (taken : TakenChild) → Fits at.1 taken → Answers (Tests il notes at taken)

    abbrev AllTested : List Instance → Type 0
    AllTested [] = Unit {0}
    AllTested (at ∷ rest) = Tested at × AllTested rest

    walk_on : (at : Instance) (rest : List Instance) (children others : List Ref) (taken : TakenChild) → w.TakenBy at.1 children taken others → Answers (Tests il notes at taken) → Answers (Walks il notes rest others)
        → Answers (Walks il notes (at ∷ rest) children)
    walk_on at rest children others taken takes one more = likely_then one (λ x. by x.0 x.1)
      where
        by : (a : Answer) → Tests il notes at taken a → Answers (Walks il notes (at ∷ rest) children)
        by None t = likely_map (λ y. (y.0, w.goes taken others takes t y.1)) more
        by (Some rule) t = likely (Some rule, w.stops taken others rule takes t refl)

    walks_answers : (ps : List Instance) → AllTested ps → (children : List Ref) → Answers (Walks il notes ps children)
    walks_answers [] h [] = likely (None, w.done refl)
    walks_answers [] h (child ∷ children) = likely (Some V9, w.left_over refl)
    walks_answers (at ∷ rest) h children = by (cites at.1) refl children (walks_answers rest h.1)
      where
        by : (b : Bool) → cites at.1 ≡ b → (children : List Ref) → ((children : List Ref) → Answers (Walks il notes rest children)) → Answers (Walks il notes (at ∷ rest) children)
        by false c children more = walk_on at rest children children None (c, refl) (h.0 None c) (more children)
        by true c [] more = likely (Some V9, w.missing c refl)
        by true c (child ∷ children) more = walk_on at rest (child ∷ children) children (Some child) (c, refl) (h.0 (Some child) c) (more children)

    -- an iteration, with what stands for its elements
    elements_answer : (at : Instance) (how : Iteration) (xs : List Name) (body : IlPrem) (taken : TakenChild) (inner : List Ref) (r : Outcomes) (way_is : Way) → out-IlPrem at.1 ≡ IlPrem-F.Each how xs body → w.IsTakenFor inner taken
        → ComeTo il at.0 (count_of how) r → way how xs at.0 r ≡ way_is → ((envs : List Env) → AllTested (each_instance envs body)) → Answers (Tests il notes at taken)
    elements_answer at how xs body taken inner r (Ends o) is takes come goes all =
        likely (Some (refusal (rule_at at.1) o), w.at_once (w.each_refused how xs body is (w.ends inner r o takes come goes refl)))
    elements_answer at how xs body taken inner r (Goes envs) is takes come goes all =
        likely_map (λ y. (y.0, w.each how xs body inner r envs is takes come goes y.1)) (walks_answers (each_instance envs body) (all envs) inner)

    each_tested : (body : IlPrem) → ((env : Env) → Tested (env, body)) → (envs : List Env) → AllTested (each_instance envs body)
    each_tested body f [] = tt
    each_tested body f (env ∷ envs) = (f env, each_tested body f envs)

    premise_tested : {p : IlPrem} → PremIsFormed (syntaxes il) p → (env : Env) → Tested (env, p)
    premise_tested {p = p} (formed.condition e is x) env taken fits = likely_map (λ y. (y.0, w.at_once (w.condition e is y.1))) (evaluates_answers V8 env e (value.Bool true) x)
    premise_tested {p = p} (formed.goal relation es is xs) env None fits = let bad : true ≡ false = sym (cites-level p (IlPrem-F.Goal relation es) is) ∙ fits in cc
    premise_tested {p = p} (formed.goal relation es is xs) env (Some child) fits = at (out-Ref child) refl
      where
        at : (y : Ref-F Ref) → out-Ref child ≡ y → Answers (Tests il notes (env, p) (Some child))
        at (Ref-F.Line line) k = likely_then (some_values env es xs) (λ r.
            likely_map (λ y. (y.0, w.at_once (w.goal relation es child is refl (w.on_line line r.0 k r.1 y.1)))) (judged_answers line relation r.0))
        at (Ref-F.Many inner) k = likely (Some V9, w.at_once (w.goal relation es child is refl (w.of_many (λ line l. let bad : Ref-F.Many inner ≡ Ref-F.Line line = sym k ∙ l in cc) refl)))
    premise_tested (formed.otherwise is) env taken fits = likely (None, w.at_once (w.otherwise is refl))
    premise_tested {p = p} (formed.each how xs body is count inside) env None fits =
        likely_then (some_values env (count_of how) count) (λ r. elements_answer (env, p) how xs body None [] r.0 (way how xs env r.0) is refl r.1 refl (each_tested body (premise_tested inside)))
    premise_tested {p = p} (formed.each how xs body is count inside) env (Some child) fits = at (out-Ref child) refl (premise_tested inside)
      where
        at : (y : Ref-F Ref) → out-Ref child ≡ y → ((env : Env) → Tested (env, body)) → Answers (Tests il notes (env, p) (Some child))
        at (Ref-F.Line line) k ih = likely (Some V9, w.at_once (w.each_refused how xs body is (w.of_one child refl (line, k) refl)))
        at (Ref-F.Many inner) k ih = likely_then (some_values env (count_of how) count) (λ r. elements_answer (env, p) how xs body (Some child) inner r.0 (way how xs env r.0) is k r.1 refl (each_tested body ih))

    premises_tested : (env : Env) (ps : List IlPrem) → All (PremIsFormed (syntaxes il)) ps → AllTested (instances env ps)
    premises_tested env [] h = tt
    premises_tested env (p ∷ ps) h = (premise_tested (All-head (PremIsFormed (syntaxes il)) p ps h) env, premises_tested env ps (All-tail (PremIsFormed (syntaxes il)) p ps h))

    -- ---- the evidence, and lines

    tries_answer : (inputs : List Value) (rule : RuleDef) (order : List ℕ) → Answers (tries il inputs rule order)
    tries_answer inputs rule order = and_then_answers _ _ (asks_answers _ V10) (and_then_answers _ _ (forbids_answers _ V13) (forbids_answers _ V10))

    try_each_answers : (inputs : List Value) (rules : List RuleDef) (orders : List (List ℕ)) → Answers (try_each il inputs rules orders)
    try_each_answers inputs [] [] = accepts_answers
    try_each_answers inputs [] (order ∷ orders) = refuses_answers V10
    try_each_answers inputs (rule ∷ rules) [] = refuses_answers V10
    try_each_answers inputs (rule ∷ rules) (order ∷ orders) = and_then_answers (tries il inputs rule order) (try_each il inputs rules orders) (tries_answer inputs rule order) (try_each_answers inputs rules orders)

    try_all_answers : (inputs : List Value) (rules : List RuleDef) (o : Option (List (List ℕ))) → Answers (try_all il inputs rules o)
    try_all_answers inputs rules None = accepts_answers
    try_all_answers inputs rules (Some orders) = try_each_answers inputs rules orders

    node_answers : (node : NodeLine) (found : Option Found) → ((f : Found) → found ≡ Some f → RuleIsFormed il f.1) → Answers (tests_node il notes node found)
    node_answers node None h = refuses_answers V5
    node_answers node (Some (number, rule)) h =
        let is : RuleIsFormed il rule = h (number, rule) refl in
        and_then_answers _ _ (asks_answers _ V6) (and_then_answers _ _ (asks_answers _ V4) (and_then_answers _ _ (asks_answers _ V7)
        (and_then_answers _ _ (each_answers node.env rule.conclusion node.values is.0)
        (and_then_answers _ _ (walks_answers (instances node.env rule.premises) (premises_tested node.env rule.premises is.1) node.children)
        (and_then_answers _ _ (asks_answers _ V10) (try_all_answers (inputs_of il node.relation node.values) (take number (rules_of il node.relation)) node.evidence))))))

-- ---- the rule that a node names

abbrev FormedIn : Il → RuleDef → Type 0
FormedIn il r = RuleIsFormed il r

of_relation : (il : Il) (name : Name) (rs : List RuleDef) → All (FormedIn il) rs → All (FormedIn il) (rules_from name rs)
of_relation il name [] h = h
of_relation il name (r ∷ rs) h = at (bytes_eq name r.relation) (of_relation il name rs (All-tail (FormedIn il) r rs h))
  where
    at : (b : Bool) → All (FormedIn il) (rules_from name rs) → All (FormedIn il) (if b then r ∷ rules_from name rs else rules_from name rs)
    at true ih = All-cons (FormedIn il) r (rules_from name rs) (All-head (FormedIn il) r rs h) ih
    at false ih = ih

found_formed : (il : Il) (name : Name) (n : ℕ) (rs : List RuleDef) → All (FormedIn il) rs → (f : Found) → find_rule name (enumerate_from n rs) ≡ Some f → FormedIn il f.1
found_formed il name n [] h f e = cc
found_formed il name n (r ∷ rs) h f e = at (bytes_eq name r.name) e (found_formed il name (n + 1) rs (All-tail (FormedIn il) r rs h) f)
  where
    first : Found
    first = (n, r)

    at : (b : Bool) → (if b then Some first else find_rule name (enumerate_from (n + 1) rs)) ≡ Some f → (find_rule name (enumerate_from (n + 1) rs) ≡ Some f → FormedIn il f.1) → FormedIn il f.1
    at true e ih = let same : first ≡ f = cc in subst (λ (z : Found). FormedIn il z.1) same (All-head (FormedIn il) r rs h)
    at false e ih = ih e

named_formed : (il : Il) → RulesAreFormed il → (node : NodeLine) (f : Found) → rule_named il node ≡ Some f → FormedIn il f.1
named_formed il h node f e = at (is_some (relation_named il node.relation)) e
  where
    at : (b : Bool) → (if b then find_rule node.rule (enumerate_from 0 (rules_of il node.relation)) else None) ≡ Some f → FormedIn il f.1
    at true e = found_formed il node.rule 0 (rules_of il node.relation) (of_relation il node.relation (rules_in il.defs) h) f e
    at false e = cc

line_answers : (il : Il) → ResultsAreFormed il → RulesAreFormed il → (notes : Notes) (line : Line) → Answers (tests il notes line)
line_answers il results rules notes (Head format relation) = asks_answers _ V5
line_answers il results rules notes (From values) = asks_answers _ V6
line_answers il results rules notes (Node node) = node_answers il results notes node (rule_named il node) (named_formed il rules node)
line_answers il results rules notes (Step line) = and_then_answers _ _ (asks_answers _ V4) (asks_answers _ V11)
line_answers il results rules notes (End ending) = accepts_answers

pub law_of_some_verdict : LawOfSomeVerdict
law_of_some_verdict il results rules notes line none = and_then_answers _ (tests il notes line) (asks_answers _ V3) (line_answers il results rules notes line) (λ x. none x.0 x.1)
