-- What is found at the ends of the runs of a rule.
use Rattle.std.proofs.Common.{arith, Bool, true, nat_eq, ◌≡◌, refl, sym, ◌∙◌, ap, subst, ℕ, zero, suc, ◌+◌, ◌<◌, ◌≤◌, List, [], ◌∷◌, ◌++◌, length, take, get_or, All, Ok, append-nil}
use Rattle.std.specs.List.{AllByRecursion}
use Rattle.std.proofs.lemmas.Bool.{eqb-true}
use Rattle.st_il.specs.declared.definition.Il.{Il}
use Rattle.st_il.specs.declared.definition.RuleDef.{RuleDef}
use Rattle.st_il.specs.declared.tree.Tree.{Tree}
use Rattle.st_il.specs.declared.value.Env.{Env}
use Rattle.st_il.specs.declared.value.Value.{Value}
use Rattle.st_semantics.specs.declared.outcome.Outcome.TheVariants.{NoValue, Deep}
use Rattle.st_il.specs.Names.{Name}
use Rattle.st_il.specs.Definitions.{rules_in, IsRelation}
use Rattle.st_semantics.specs.Directions.{mask}
use Rattle.st_semantics.specs.Environments.{IsOrdered, value_in}
use Rattle.st_semantics.specs.Evaluation.{tasks}
use Rattle.st_semantics.specs.Variables.{vars_of}
use Rattle.st_semantics.specs.Holding.{HaveValues}
use Rattle.st_semantics.specs.Calls.{has_value_at}
use Rattle.st_semantics.specs.Laws.{IsStable, CallsAreSingle}
use Rattle.st_semantics.specs.Orders.{inputs_of_rule, outputs_of_rule, in_order}
use Rattle.st_semantics.specs.OrderOf.{order_of}
use Rattle.st_semantics.specs.Goals.{Goal}
use Rattle.st_semantics.specs.Reaching.{bound_behind}
use Rattle.st_semantics.proofs.Nodes.{rule_of}
use Rattle.st_eval.specs.Steps.{HasOnly}
use Rattle.st_search.specs.Searchable.{CanBeRun}
use Rattle.st_search.specs.declared.answer.Output.{Output}
use Rattle.st_search.specs.declared.found.Found.{Found}
use Rattle.st_search.specs.declared.found.Partial.{Partial}
use Rattle.st_search.specs.declared.tree.Place.{Place}
use Rattle.st_search.specs.inner.Holes.{SomeGives}
use Rattle.st_search.specs.inner.Rules.{IsPartial, run_seeks}
use Rattle.st_search.specs.inner.Running.{AllEndWith, end_seeks, IsRuleOf, IsPlace}
use Rattle.st_search.specs.inner.Sought.{Sought, Finds, sought_from}
use Rattle.st_search.specs.inner.Trees.{merged, arranged}
use Rattle.st_search.proofs.Finds.{Each-weaken, Finds-start, Finds-next}
use Rattle.st_search.proofs.RuleFinds.{end_none, end_found}
use Rattle.st_search.proofs.Sequences.{take_step, take_whole}
use Rattle.st_search.proofs.TreeOf.{tree_there}

each_at : {A : Type 0} (P : A → Type 0) (xs : List A) (i : ℕ) (x : A) → i < length xs → x ≡ get_or xs i x → AllByRecursion P xs → P x
each_at P [] i x h is all = absurd (omega (arith, h))
each_at P (y ∷ ys) zero x h is all = subst P (sym is) all.0
each_at P (y ∷ ys) (suc i) x h is all = each_at P ys i x (omega (arith, h)) is all.1

module _ (il : Il) (n : ℕ) (place : Place) (ins : List Value) where
  -- what is found at an end, whatever goal has these inputs
  abbrev pub AreAt : Partial → List Output → Type 0
  AreAt end found =
      (g : Goal) → g.inputs ≡ ins → IsPlace il g.relation place → IsPartial il n g place.number place.rule.now (in_order place.rule.now.premises place.order.now) end → Finds il n 0 (end_seeks il n g place.rule.now end) found

  -- where one of the outputs has no value
  pub at_none : IsStable il → CallsAreSingle il → (end : Partial) (found : List Output) → found ≡ [] → SomeGives il n end.env (outputs_of_rule il place.rule.now) NoValue → (SomeGives il n end.env (outputs_of_rule il place.rule.now) Deep → ⊥) → AreAt end found
  at_none stable single end found nothing none fine g same is partial = subst (Finds il n 0 (end_seeks il n g place.rule.now end)) (sym nothing) (end_none il stable single n g place.rule.now end none fine)

  -- the tree of the rule with these values
  abbrev pub IsTreeAt : Partial → List Value → Tree → Type 0
  IsTreeAt end vs tree =
      (env : Env) × IsOrdered env × ((x : Name) → value_in env x ≡ value_in end.env x)
      × (tree ≡ record { relation = place.relation; rule = place.number; env = env; values = merged place.holes.now ins vs; children = arranged place.order.now end.children (length place.rule.now.premises) })

  -- where all outputs have values
  pub at_found : IsStable il → CallsAreSingle il → (all_rules : All (CanBeRun il) (rules_in il.defs)) (end : Partial) (found : List Output) (vs : List Value) (tree : Tree) → HaveValues (has_value_at il n) (tasks end.env (outputs_of_rule il place.rule.now)) vs → IsTreeAt end vs tree → found ≡ record { values = vs; tree = tree } ∷ [] → AreAt end found
  at_found stable single all_rules end found vs tree have (env, ordered, alike, made) one g same is partial =
      subst (Finds il n 0 (end_seeks il n g place.rule.now end)) (sym (one ∙ ap (λ (z : Tree). record { values = vs; tree = z } ∷ []) (made ∙ moved)))
      (end_found il stable single all_rules n g place is end partial vs have env ordered alike)
    where
      moved : record { relation = place.relation; rule = place.number; env = env; values = merged place.holes.now ins vs; children = arranged place.order.now end.children (length place.rule.now.premises) } ≡ tree_there il all_rules n g place is end partial vs have env ordered alike
      moved = ap (λ (z : List Value). record { relation = place.relation; rule = place.number; env = env; values = merged place.holes.now z vs; children = arranged place.order.now end.children (length place.rule.now.premises) }) (sym same)

  -- ---- all ends, one after another

  abbrev pub AreFrom : List Partial → ℕ → List Output → Type 0
  AreFrom ends i found =
      (g : Goal) → g.inputs ≡ ins → IsPlace il g.relation place → AllByRecursion (IsPartial il n g place.number place.rule.now (in_order place.rule.now.premises place.order.now)) ends
      → Finds il n 0 (sought_from (end_seeks il n g place.rule.now) (take i ends)) found

  pub from_start : (ends : List Partial) (found : List Output) → found ≡ [] → AreFrom ends 0 found
  from_start ends found nothing g same is right = subst (Finds il n 0 (sought_from (end_seeks il n g place.rule.now) [])) (sym nothing) (Finds-start il n (end_seeks il n g place.rule.now) 0)

  pub from_step : (ends : List Partial) (i : ℕ) (end : Partial) → i < length ends → end ≡ get_or ends i end → (found others more : List Output) → AreFrom ends i found → AreAt end others → more ≡ found ++ others → AreFrom ends (i + 1) more
  from_step ends i end h at found others more so_far here is_more g same is right =
      subst (λ z. Finds il n 0 (sought_from (end_seeks il n g place.rule.now) z) more) (sym (take_step ends i end h at))
      (subst (Finds il n 0 (sought_from (end_seeks il n g place.rule.now) (take i ends ++ end ∷ []))) (sym is_more)
      (Finds-next il n (end_seeks il n g place.rule.now) 0 0 0 (take i ends) end found others (so_far g same is right)
      (here g same is (each_at (IsPartial il n g place.number place.rule.now (in_order place.rule.now.premises place.order.now)) ends i end h at right)) (omega arith) (omega arith)))

  abbrev pub AreAll : List Partial → List Output → Type 0
  AreAll ends found =
      (g : Goal) → g.inputs ≡ ins → IsPlace il g.relation place → AllByRecursion (IsPartial il n g place.number place.rule.now (in_order place.rule.now.premises place.order.now)) ends
      → Finds il n 0 (sought_from (end_seeks il n g place.rule.now) ends) found

  pub from_all : (ends : List Partial) (i : ℕ) (found : List Output) → length ends ≤ i → AreFrom ends i found → AreAll ends found
  from_all ends i found h f g same is right = subst (λ z. Finds il n 0 (sought_from (end_seeks il n g place.rule.now) z) found) (take_whole ends i h) (f g same is right)

-- ---- where a rule stands

-- the order of a rule is one
pub one_order : (il : Il) (rule : RuleDef) (a b : List ℕ) → order_of il rule ≡ Ok a → order_of il rule ≡ Ok b → a ≡ b
one_order il rule a b e f = let both : Ok a ≡ Ok b = sym e ∙ f in cc

-- a place with what is known of its rule
pub place_is : (il : Il) (g : Goal) (place : Place) (order : List ℕ) → IsRelation il place.relation g.relation → IsRuleOf il g.relation place.number place.rule.now order → order_of il place.rule.now ≡ Ok place.order.now → place.holes.now ≡ mask il place.rule.now.relation
    → IsPlace il g.relation place
place_is il g place order relation rule ordered holes = record {
  is_relation = relation;
  rule = record { is_rule = rule.is_rule; is_order = ordered };
  holes = holes ∙ ap (mask il) (sym (rule_of g.relation (rules_in il.defs) place.number place.rule.now rule.is_rule).0);
}

-- so it is where a rule stands
pub order_is : (il : Il) (relation : Name) (number : ℕ) (rule : RuleDef) (order other : List ℕ) → IsRuleOf il relation number rule order → order_of il rule ≡ Ok other → other ≡ order
order_is il relation number rule order other is ordered = one_order il rule other order ordered is.is_order

-- ---- where the run of a rule starts

-- these are found where the inputs have the values of a goal, whatever goal it is
abbrev pub AreStarts : Il → ℕ → RuleDef → List Value → List Partial → Type 0
AreStarts il n rule ins starts = (g : Goal) (number : ℕ) → g.inputs ≡ ins → Finds il n 0 (run_seeks il n g number rule []) starts

-- at each of them the variables of the inputs are bound
pub starts_only : (il : Il) (n : ℕ) (rule : RuleDef) (ins : List Value) (starts : List Partial) → AreStarts il n rule ins starts → AllEndWith il rule.variables (vars_of (inputs_of_rule il rule)) starts
starts_only il n rule ins starts finds =
    subst (λ z. AllEndWith il rule.variables z starts) (append-nil (vars_of (inputs_of_rule il rule)))
    (Each-weaken (IsPartial il n g 0 rule []) (λ (end : Partial). HasOnly il rule.variables (bound_behind (inputs_of_rule il rule) []) end.env) (λ end partial. partial.variables) starts (finds g 0 refl).sound)
  where
    g : Goal
    g = record { relation = []; inputs = ins }

-- where there is none
pub empty_ends : (ends : List Partial) (is : Bool) → is ≡ nat_eq (length ends) 0 → is ≡ true → ends ≡ []
empty_ends [] is e holds = refl
empty_ends (end ∷ ends) is e holds = let none : length (end ∷ ends) ≡ 0 = eqb-true (length (end ∷ ends)) 0 (sym e ∙ holds) in absurd (omega (arith, none))

-- where nothing is found
pub none_found : (il : Il) (n : ℕ) (q : Sought Output (List Value)) (found : Found Output) → found.items ≡ [] → found.longest ≡ 0 → Finds il n 0 q [] → Finds il n found.longest q found.items
none_found il n q found first second f = subst (λ z. Finds il n z q found.items) (sym second) (subst (Finds il n 0 q) (sym first) f)
