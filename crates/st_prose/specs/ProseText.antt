-- The prose of an internal language and its algorithms: headings, and steps with their numbers.
use Rattle.std.specs.Prelude.{ℕ, List, [], ◌++◌, flat_map, codes, Option, Some, None, slice_get, unwrap_or, option_and_then}
use Rattle.std.specs.Fmt.{decimal}
use Rattle.std.specs.List.{enumerate_from}
use Rattle.st_il.specs.declared.definition.Il.{Il}
use Rattle.st_il.specs.declared.definition.RelationDef.{RelationDef}
use Rattle.st_il.specs.declared.definition.RuleDef.{RuleDef}
use Rattle.st_il.specs.Definitions.{relations, rules_of}
use Rattle.st_semantics.specs.Marks.{full_name}
use Rattle.st_algo.specs.declared.algorithm.AlgoStep.{AlgoStep}
use Rattle.st_algo.specs.declared.algorithm.Algorithm.{Algorithm}
use Rattle.st_algo.specs.declared.algorithm.Algos.{Algos}
use Rattle.st_prose.specs.Sentences.{sentence}

-- the heading of a rule has its full name
abbrev pub rule_heading : RuleDef → List ℕ
rule_heading rule = codes "Rule " ++ full_name rule ++ codes ":\n"

-- the heading of a clause has its number and the name of its function
abbrev pub clause_heading : ℕ → List ℕ → List ℕ
clause_heading number fun = codes "Clause " ++ decimal number ++ codes " of $" ++ fun ++ codes ":\n"

-- the algorithms of the rules of a relation, by its number
abbrev pub algorithms_at : Algos → ℕ → List (Option Algorithm)
algorithms_at algos number = unwrap_or (slice_get algos.relations number) []

-- the algorithm of a rule, by its number, if it has one
abbrev pub algorithm_at : List (Option Algorithm) → ℕ → Option Algorithm
algorithm_at algorithms number =
    option_and_then (λ (algorithm : Option Algorithm). algorithm) (slice_get algorithms number)

module _ (il : Il) where
  -- a step stands on a line of its own, behind its number
  abbrev pub step_line : ℕ × AlgoStep → List ℕ
  step_line s = decimal s.0 ++ codes ". " ++ sentence il s.1 ++ codes "\n"

  -- steps, numbered from 1
  abbrev pub steps_text : List AlgoStep → List ℕ
  steps_text steps = flat_map step_line (enumerate_from 1 steps)

  -- what stands under the heading of a rule
  abbrev pub rule_steps : Option Algorithm → List ℕ
  rule_steps (Some algorithm) = steps_text algorithm.steps
  rule_steps None = codes "No algorithm.\n"

  -- a rule, by its number
  abbrev pub rule_text : List (Option Algorithm) → ℕ × RuleDef → List ℕ
  rule_text algorithms r = rule_heading r.1 ++ rule_steps (algorithm_at algorithms r.0)

  -- the rules of a relation, in order
  abbrev pub relation_text : Algos → ℕ × RelationDef → List ℕ
  relation_text algos r =
      flat_map (rule_text (algorithms_at algos r.0)) (enumerate_from 0 (rules_of il r.1.name))

  -- a clause, by its number
  abbrev pub clause_text : ℕ × Algorithm → List ℕ
  clause_text c = clause_heading c.0 c.1.name ++ steps_text c.1.steps

  -- the clauses of a function, numbered from 1
  abbrev pub function_text : List Algorithm → List ℕ
  function_text clauses = flat_map clause_text (enumerate_from 1 clauses)

  -- The prose: relations, and then functions, as they are declared.
  abbrev pub prose_text : Algos → List ℕ
  prose_text algos =
      flat_map (relation_text algos) (enumerate_from 0 (relations il))
      ++ flat_map function_text algos.funs
