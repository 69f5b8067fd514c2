-- What follows a goal and where a rule meets Deep, by what is asked and met among its premises in order.
use Rattle.std.proofs.Common.{arith, ◌≡◌, refl, sym, ◌∙◌, ap, subst, ℕ, zero, suc, ◌+◌, ◌<◌, ◌≤◌, Bool, true, false, not, ◌&&◌, ◌||◌, if◌then◌else◌, List, [], ◌∷◌, ◌++◌, length, Option, Some, None, slice_get, All, length-append}
use Rattle.std.specs.List.{list_all}
use Rattle.std.proofs.lemmas.List.Elements.{All-nil, All-cons, All-contains}
use Rattle.st_il.specs.declared.definition.Il.{Il}
use Rattle.st_il.specs.declared.definition.Listed.{Listed}
use Rattle.st_il.specs.declared.definition.RuleDef.{RuleDef}
use Rattle.st_il.specs.declared.expression.IlExp.{IlExp}
use Rattle.st_il.specs.declared.expression.IlPrem.{IlPrem, out-IlPrem}
use Rattle.st_il.specs.declared.expression.IlPrem.TheOpen.{IlPrem-F}
use Rattle.st_il.specs.declared.value.Env.{Env}
use Rattle.st_il.specs.declared.value.Value.{Value}
use Rattle.st_il.specs.Names.{Name, all_known}
use Rattle.st_semantics.specs.Directions.{inputs_of, outputs_of}
use Rattle.st_semantics.specs.Parts.{option_list}
use Rattle.st_semantics.specs.Variables.{vars, vars_of}
use Rattle.st_semantics.specs.Patterns.{is_pattern, bound_by}
use Rattle.st_semantics.specs.Executable.{is_met}
use Rattle.st_semantics.specs.Depth.{computed}
use Rattle.st_semantics.specs.Reaching.{Reached, MeetsAmong}
use Rattle.st_semantics.specs.Orders.{inputs_of_rule, in_order, premise_at}
use Rattle.st_semantics.specs.RuleDepth.{MeetsDeep, at_premise}
use Rattle.st_semantics.specs.Goals.{Goal}
use Rattle.st_semantics.specs.Chains.{RuleAt, at_goal, Follows}
use Rattle.st_semantics.proofs.Names.{and-both}
use Rattle.st_algo.specs.declared.algorithm.AlgoStep.{AlgoStep}
use Rattle.st_search.specs.inner.Asking.{AsksAmong}
use Rattle.st_search.specs.inner.RunBy.{IsJudged, IsRunBy, test, binds, goal, otherwise, each}
use Rattle.st_search.proofs.Asked.{GoalIsBound}

-- ---- premises that can be run

-- an output that is no pattern is bound
computed_known : (bound after : List Name) (es : List IlExp) → list_all (is_met bound after) es ≡ true → All (λ (e : IlExp). all_known bound (vars e) ≡ true) (computed es)
computed_known bound after [] h = All-nil (λ (e : IlExp). all_known bound (vars e) ≡ true)
computed_known bound after (e ∷ es) h =
    let both = and-both (is_met bound after e) (list_all (is_met bound after) es) h in
    at (is_pattern e) both.0 (computed_known bound after es both.1)
  where
    known_one : (a b : Bool) → (a || (false && b)) ≡ true → a ≡ true
    known_one true b k = refl
    known_one false b k = cc

    at : (b : Bool) → (all_known bound (vars e) || (b && all_known after (vars e))) ≡ true → All (λ (e : IlExp). all_known bound (vars e) ≡ true) (computed es)
        → All (λ (e : IlExp). all_known bound (vars e) ≡ true) (if not b then e ∷ computed es else computed es)
    at true k rest = rest
    at false k rest = All-cons (λ (e : IlExp). all_known bound (vars e) ≡ true) e (computed es) (known_one (all_known bound (vars e)) (all_known after (vars e)) k) rest

judged_bound : (il : Il) (bound : List Name) (ls : List Listed) (p : IlPrem) (relation : Name) (es : List IlExp) → out-IlPrem p ≡ IlPrem-F.Goal relation es → IsJudged il bound ls relation es → GoalIsBound il bound p
judged_bound il bound ls p relation es is j = record {
  inputs = λ other gs eq.
      let name : relation ≡ other = (let both : IlPrem-F.Goal relation es ≡ IlPrem-F.Goal other gs = sym is ∙ eq in cc) in
      let same : es ≡ gs = (let both : IlPrem-F.Goal relation es ≡ IlPrem-F.Goal other gs = sym is ∙ eq in cc) in
      subst (λ z. all_known bound (vars_of (inputs_of il z gs)) ≡ true) name (subst (λ z. all_known bound (vars_of (inputs_of il relation z)) ≡ true) same j.known);
  outputs = λ other gs eq e among.
      let name : relation ≡ other = (let both : IlPrem-F.Goal relation es ≡ IlPrem-F.Goal other gs = sym is ∙ eq in cc) in
      let same : es ≡ gs = (let both : IlPrem-F.Goal relation es ≡ IlPrem-F.Goal other gs = sym is ∙ eq in cc) in
      All-contains (λ (e : IlExp). all_known bound (vars e) ≡ true) (computed (outputs_of il other gs)) e
      (subst (λ z. All (λ (e : IlExp). all_known bound (vars e) ≡ true) (computed (outputs_of il z gs))) name
      (subst (λ z. All (λ (e : IlExp). all_known bound (vars e) ≡ true) (computed (outputs_of il relation z))) same
      (computed_known bound (bound ++ bound_by (outputs_of il relation es)) (outputs_of il relation es) j.met))) among;
}

-- a premise that is no goal
no_goal_bound : (il : Il) (bound : List Name) (p : IlPrem) → ((relation : Name) (es : List IlExp) → out-IlPrem p ≡ IlPrem-F.Goal relation es → ⊥) → GoalIsBound il bound p
no_goal_bound il bound p never = record {
  inputs = λ relation es eq. absurd (never relation es eq);
  outputs = λ relation es eq e among. absurd (never relation es eq);
}

-- of a premise that can be run the inputs of a goal are bound, and its outputs that are no patterns
pub run_bound : {il : Il} {bound : List Name} {ls : List Listed} {p : IlPrem} {step : AlgoStep} → IsRunBy il bound ls p step → GoalIsBound il bound p
run_bound {il = il} {bound = bound} {p = p} (test e is stepped known formed) = no_goal_bound il bound p (λ relation es eq. (let bad : IlPrem-F.If e ≡ IlPrem-F.Goal relation es = sym is ∙ eq in cc))
run_bound {il = il} {bound = bound} {p = p} (binds e side pattern is stepped equation) = no_goal_bound il bound p (λ relation es eq. (let bad : IlPrem-F.If e ≡ IlPrem-F.Goal relation es = sym is ∙ eq in cc))
run_bound {il = il} {bound = bound} {ls = ls} {p = p} (goal relation es is stepped judged) = judged_bound il bound ls p relation es is judged
run_bound {il = il} {bound = bound} {p = p} (otherwise is stepped) = no_goal_bound il bound p (λ relation es eq. (let bad : IlPrem-F.Otherwise ≡ IlPrem-F.Goal relation es = sym is ∙ eq in cc))
run_bound {il = il} {bound = bound} {p = p} (each how xs body inner stepped iterated inside) =
    no_goal_bound il bound p (λ relation es eq. (let bad : IlPrem-F.Each how xs body ≡ IlPrem-F.Goal relation es = sym iterated.is ∙ eq in cc))

-- ---- goals that follow

-- how far a rule is met does not depend on what calls come to at n
pub Reached-at : (il : Il) (n m : ℕ) (g : Goal) (number : ℕ) (ls : List Listed) (heads : List IlExp) (vs : List Value) (before : List IlPrem) (env : Env)
    → Reached (at_goal il n g number) ls heads vs before env → Reached (at_goal il m g number) ls heads vs before env
Reached-at il n m g number ls heads vs before env r = record { typed = r.typed; heads_are = r.heads_are; hold = r.hold }

-- a goal follows another one where one of its rules asks it
pub follows_among : (il : Il) (g next : Goal) → Follows il g next
    → (number : ℕ) × (r : RuleAt il g number) × AsksAmong (at_goal il 0 g number) r.rule.variables (inputs_of_rule il r.rule) g.inputs (in_order r.rule.premises r.order) next
follows_among il g next f = (
  f.number,
  f.at,
  record {
    before = f.before;
    premise = f.premise;
    after = f.after;
    split = f.split;
    env = f.env;
    reached = f.reached;
    asks = record { one = f.one; goal = f.goal; inside = f.inside; holes = f.holes; is_goal = f.is_goal; values = f.values };
  },
)

pub among_follows : (il : Il) (g next : Goal) (number : ℕ) (r : RuleAt il g number) → AsksAmong (at_goal il 0 g number) r.rule.variables (inputs_of_rule il r.rule) g.inputs (in_order r.rule.premises r.order) next → Follows il g next
among_follows il g next number r a = record {
  number = number;
  at = r;
  before = a.before;
  premise = a.premise;
  after = a.after;
  split = a.split;
  env = a.env;
  reached = a.reached;
  one = a.asks.one;
  goal = a.asks.goal;
  inside = a.asks.inside;
  holes = a.asks.holes;
  is_goal = a.asks.is_goal;
  values = a.asks.values;
}

-- ---- numbers of premises

option_short : (o : Option IlPrem) → length (option_list o) ≤ 1
option_short None = omega arith
option_short (Some p) = omega arith

order_long : (ps : List IlPrem) (order : List ℕ) → length (in_order ps order) ≤ length order
order_long ps [] = omega arith
order_long ps (k ∷ ks) =
    let both : length (option_list (premise_at ps k) ++ in_order ps ks) ≡ length (option_list (premise_at ps k)) + length (in_order ps ks) = length-append (option_list (premise_at ps k)) (in_order ps ks) in
    let one = option_short (premise_at ps k) in
    let rest = order_long ps ks in
    omega (arith, both, one, rest)

got : {A : Type 0} (xs : List A) (k : ℕ) → k < length xs → (x : A) × (slice_get xs k ≡ Some x)
got [] k less = absurd (omega (arith, less))
got (x ∷ xs) zero less = (x, refl)
got (x ∷ xs) (suc k) less = got xs k (omega (arith, less))

-- a premise in order has a number
pub number_there : (ps : List IlPrem) (order : List ℕ) (before : List IlPrem) (p : IlPrem) (after : List IlPrem) → in_order ps order ≡ before ++ p ∷ after → (number : ℕ) × (slice_get order (length before) ≡ Some number)
number_there ps order before p after split =
    let long = order_long ps order in
    let both : length (before ++ p ∷ after) ≡ length before + length (p ∷ after) = length-append before (p ∷ after) in
    let same : length (in_order ps order) ≡ length (before ++ p ∷ after) = ap length split in
    got order (length before) (omega (arith, long, both, same))

-- a rule that meets Deep at one of its premises does so at its number
pub met_at : (il : Il) (n : ℕ) (g : Goal) (number : ℕ) (rule : RuleDef) (order : List ℕ) → MeetsAmong (at_goal il n g number) rule.variables (inputs_of_rule il rule) g.inputs (in_order rule.premises order)
    → (premise : ℕ) × MeetsDeep (at_goal il n g number) rule order g.inputs premise
met_at il n g number rule order meets =
    let there = number_there rule.premises order meets.before meets.premise meets.after meets.split in
    (there.0, at_premise meets there.1)
