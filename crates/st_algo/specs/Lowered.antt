-- What an internal language is lowered to: the steps of each rule in its order, and of each clause.
use Rattle.std.specs.Prelude.{◌≡◌, ℕ, List, [], ◌∷◌, ◌++◌, map, Option, slice_get, unwrap_or, option_and_then, if◌then◌else◌}
use Rattle.std.specs.List.{enumerate_from}
use Rattle.std.specs.Option.{option_map}
use Rattle.st_il.specs.declared.definition.ClauseDef.{ClauseDef}
use Rattle.st_il.specs.declared.definition.FunDef.{FunDef}
use Rattle.st_il.specs.declared.definition.Il.{Il}
use Rattle.st_il.specs.declared.definition.RelationDef.{RelationDef}
use Rattle.st_il.specs.declared.definition.RuleDef.{RuleDef}
use Rattle.st_il.specs.declared.expression.IlExp.{IlExp, out-IlExp}
use Rattle.st_il.specs.declared.expression.IlExp.TheOpen.{IlExp-F}
use Rattle.st_il.specs.declared.expression.IlPrem.{IlPrem, fold-IlPrem}
use Rattle.st_il.specs.declared.expression.IlPrem.TheOpen.{IlPrem-F}
use Rattle.st_il.specs.declared.expression.Iteration.{Iteration}
use Rattle.st_il.specs.declared.expression.ListItem.{ListItem}
use Rattle.st_il.specs.declared.expression.PathSeg.{PathSeg}
use Rattle.st_il.specs.Names.{Name, all_known, without}
use Rattle.st_il.specs.Definitions.{relations, rules_of, funs_in, clauses_of}
use Rattle.st_semantics.specs.Directions.{inputs_of, outputs_of}
use Rattle.st_semantics.specs.Iterations.{index_of}
use Rattle.st_semantics.specs.Variables.{vars, vars_of, prem_vars, prem_vars_at}
use Rattle.st_semantics.specs.Executable.{is_matched, bound_inside}
use Rattle.st_semantics.specs.Orders.{inputs_of_rule, outputs_of_rule, in_order}
use Rattle.st_order.specs.declared.relation_modes.Modes.{Modes}
use Rattle.st_algo.specs.declared.algorithm.AlgoStep.{AlgoStep}
use Rattle.st_algo.specs.declared.algorithm.AlgoStep.TheVariants as step
use Rattle.st_algo.specs.declared.algorithm.Algorithm.{Algorithm}
use Rattle.st_algo.specs.declared.algorithm.Algos.{Algos}

-- ---- the step of a premise

-- The equation `left = right` with an unbound variable: the value of the side that is bound is
-- matched with the other one, a pattern. Where it cannot be run it stays a test.
abbrev pub step_of_sides : List Name → IlExp → IlExp → IlExp → AlgoStep
step_of_sides bound e left right =
    if is_matched bound left right then step.Let right left
    else if is_matched bound right left then step.Let left right else step.Test e

-- a condition with an unbound variable, which must be an equation to be run
abbrev pub step_of_equation : List Name → IlExp → IlExp-F IlExp Iteration ListItem PathSeg
    → AlgoStep
step_of_equation bound e (IlExp-F.Eq left right) = step_of_sides bound e left right
step_of_equation bound e _ = step.Test e

-- a condition: a test where all its variables are bound, else an equation
abbrev pub step_of_condition : List Name → IlExp → AlgoStep
step_of_condition bound e =
    if all_known bound (vars e) then step.Test e else step_of_equation bound e (out-IlExp e)

-- what is told of a premise: its variables, and its step where some are bound
pub record Lowering : Type 0 where
  pub vars : List Name
  pub lowered : List Name → AlgoStep

-- a loop over the names of the premise, with the step of its inner premise where the iterated
-- variables that are bound, those that are not iterated, and the index are bound
abbrev pub step_of_each : List Name → Iteration → List Name → Lowering → AlgoStep
step_of_each bound how xs body =
    let others : List Name = without xs (without (index_of how) body.vars) in
    step.Loop how xs (body.lowered (bound_inside bound how xs others))

-- what is told of a level of premises; of what an iterated premise repeats this is told
abbrev pub lowering_at : Il → IlPrem-F Lowering → Lowering
lowering_at il (IlPrem-F.If e) = record {
  vars = vars e;
  lowered = λ bound. step_of_condition bound e;
}
lowering_at il (IlPrem-F.Goal relation es) = record {
  vars = vars_of es;
  lowered = λ bound. step.Goal relation (inputs_of il relation es) (outputs_of il relation es);
}
lowering_at il IlPrem-F.Otherwise = record { vars = []; lowered = λ bound. step.Otherwise }
lowering_at il (IlPrem-F.Each how xs body) = record {
  vars = prem_vars_at (IlPrem-F.Each how xs body.vars);
  lowered = λ bound. step_of_each bound how xs body;
}

-- The step of a premise where these variables are bound.
abbrev pub step_of : Il → List Name → IlPrem → AlgoStep
step_of il bound p = (fold-IlPrem Lowering (lowering_at il) p).lowered bound

-- ---- algorithms

-- the steps of premises that are run one after another, where these variables are bound at first
abbrev pub steps_of : Il → List Name → List IlPrem → List AlgoStep
steps_of il bound [] = []
steps_of il bound (p ∷ ps) = step_of il bound p ∷ steps_of il (bound ++ prem_vars p) ps

-- What comes in is matched with the heads, the premises are run in this order, and the results are
-- given.
abbrev pub algorithm_of : Il → Name → List IlExp → List IlPrem → List IlExp → Algorithm
algorithm_of il name heads ps results = record {
  name = name;
  steps = step.Match heads ∷ (steps_of il (vars_of heads) ps ++ step.Give results ∷ []);
}

-- the algorithm of a rule whose premises are run in this order, by their numbers from 1
abbrev pub rule_algorithm : Il → RuleDef → List ℕ → Algorithm
rule_algorithm il rule order =
    algorithm_of il rule.name (inputs_of_rule il rule) (in_order rule.premises order)
    (outputs_of_rule il rule)

-- the algorithm of a clause, whose premises are run as they are written
abbrev pub clause_algorithm : Il → ClauseDef → Algorithm
clause_algorithm il c = algorithm_of il c.fun c.args c.premises (c.result ∷ [])

-- ---- all algorithms

-- the orders of the rules of a relation, by its number
abbrev pub orders_at : Modes → ℕ → List (Option (List ℕ))
orders_at modes number = unwrap_or (slice_get modes.orders number) []

-- the order of a rule, by its number, if it has one
abbrev pub order_at : List (Option (List ℕ)) → ℕ → Option (List ℕ)
order_at orders number =
    option_and_then (λ (order : Option (List ℕ)). order) (slice_get orders number)

-- the algorithms of these rules, which stand with their numbers: none for a rule without an order
abbrev pub rule_algorithms : Il → List (Option (List ℕ)) → List (ℕ × RuleDef)
    → List (Option Algorithm)
rule_algorithms il orders rules =
    map (λ (r : ℕ × RuleDef). option_map (rule_algorithm il r.1) (order_at orders r.0)) rules

-- the algorithms of the rules of a relation, by its number
abbrev pub relation_algorithms : Il → Modes → ℕ → RelationDef → List (Option Algorithm)
relation_algorithms il modes number relation =
    rule_algorithms il (orders_at modes number) (enumerate_from 0 (rules_of il relation.name))

-- the same of several relations, which stand with their numbers
abbrev pub all_relations : Il → Modes → List (ℕ × RelationDef) → List (List (Option Algorithm))
all_relations il modes rs =
    map (λ (r : ℕ × RelationDef). relation_algorithms il modes r.0 r.1) rs

-- the algorithms of the clauses of a function
abbrev pub fun_algorithms : Il → FunDef → List Algorithm
fun_algorithms il fun = map (clause_algorithm il) (clauses_of il fun.name)

-- These are the algorithms of all rules in the orders of these modes, and of all clauses.
pub record AreLowered (il : Il) (modes : Modes) (algos : Algos) : Type 0 where
  pub of_rules : algos.relations ≡ all_relations il modes (enumerate_from 0 (relations il))
  pub of_clauses : algos.funs ≡ map (fun_algorithms il) (funs_in il.defs)
