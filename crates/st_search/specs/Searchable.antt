-- Of which languages relations can be searched, and which of their relations.
use Rattle.std.specs.Prelude.{◌≡◌, ◌⊎◌, true, false, List, ◌++◌, length, All, Some}
use Rattle.st_il.specs.declared.definition.Il.{Il}
use Rattle.st_il.specs.declared.definition.Listed.{Listed}
use Rattle.st_il.specs.declared.definition.RelationDef.{RelationDef}
use Rattle.st_il.specs.declared.definition.RuleDef.{RuleDef}
use Rattle.st_il.specs.declared.definition.SyntaxDef.{SyntaxDef}
use Rattle.st_il.specs.declared.expression.IlExp.{IlExp}
use Rattle.st_il.specs.declared.expression.Iteration.{Iteration}
use Rattle.st_il.specs.declared.expression.IlPrem.{IlPrem, out-IlPrem}
use Rattle.st_il.specs.declared.expression.IlPrem.TheOpen.{IlPrem-F}
use Rattle.st_il.specs.Names.{Name, all_known}
use Rattle.st_il.specs.Definitions.{rules_in, rules_of, relation_named}
use Rattle.st_semantics.specs.Directions.{mask}
use Rattle.st_semantics.specs.Environments.{listed_names, listed_as}
use Rattle.st_semantics.specs.Scopes.{listed_inside}
use Rattle.st_semantics.specs.Variables.{vars_of, prems_vars, have_otherwise}
use Rattle.st_semantics.specs.Formed.{RuleIsFormed}
use Rattle.st_semantics.specs.Typing.{ExpsHaveTypes, ResultsAreTyped}
use Rattle.st_semantics.specs.Kinds.{IsKinded, NamesOccurring}
use Rattle.st_semantics.specs.Marks.{NeedsRelation}
use Rattle.st_semantics.specs.Laws.{IsStable}
use Rattle.st_order.specs.declared.relation_modes.Modes.{Modes}
use Rattle.st_order.specs.Modes.{HasFew, AreModes}
use Rattle.st_algo.specs.declared.algorithm.Algos.{Algos}
use Rattle.st_algo.specs.Lowered.{AreLowered}
use Rattle.st_eval.specs.CanBeMet.{CountsAreApart}
use Rattle.st_eval.specs.Evaluable.{IsEvaluable}

-- ---- languages

-- A goal cites a declared relation, and has an expression for each of its holes, of its type.
pub record IsTypedGoal (il : Il) (ls : List Listed) (relation : Name) (es : List IlExp)
    : Type 0 where
  pub declared : RelationDef
  pub found : relation_named il relation ≡ Some declared
  pub types : ExpsHaveTypes il ls es declared.holes
  pub long : length es ≡ length (mask il relation)

-- A premise that is a goal, iterated or not, is such a goal.
pub data GoalsAreTyped (il : Il) : List Listed → IlPrem → Type 0 where
  condition : {ls : List Listed} {p : IlPrem} (e : IlExp) → out-IlPrem p ≡ IlPrem-F.If e
      → GoalsAreTyped il ls p
  goal : {ls : List Listed} {p : IlPrem} (relation : Name) (es : List IlExp)
      → out-IlPrem p ≡ IlPrem-F.Goal relation es → IsTypedGoal il ls relation es
      → GoalsAreTyped il ls p
  otherwise : {ls : List Listed} {p : IlPrem} → out-IlPrem p ≡ IlPrem-F.Otherwise
      → GoalsAreTyped il ls p
  each : {ls : List Listed} {p : IlPrem} (how : Iteration) (xs : List Name) (body : IlPrem)
      → out-IlPrem p ≡ IlPrem-F.Each how xs body → GoalsAreTyped il (listed_inside how xs ls) body
      → GoalsAreTyped il ls p

-- What typing says of a rule that is run: records and absent parts fit their types; it lists exactly
-- the variables that occur, each once; its iterations name listed variables of their kind that occur
-- inside, and not their counts; and its conclusion and its goals have an expression for each hole of
-- their relations.
pub record CanBeRun (il : Il) (r : RuleDef) : Type 0 where
  pub formed : RuleIsFormed il r
  pub once : All (λ (l : Listed). listed_as l.name r.variables ≡ Some l) r.variables
  pub listed :
      all_known (listed_names r.variables) (vars_of r.conclusion ++ prems_vars r.premises) ≡ true
  pub occurring :
      all_known (vars_of r.conclusion ++ prems_vars r.premises) (listed_names r.variables) ≡ true
  pub names_occurring : All NamesOccurring r.premises
  pub kinded : All (IsKinded r.variables) r.premises
  pub apart : All CountsAreApart r.premises
  pub goals : All (GoalsAreTyped il r.variables) r.premises
  pub long : length r.conclusion ≡ length (mask il r.relation)

-- A language whose calls can be run and have stable outcomes, whose values have the types of their
-- expressions, and each of whose rules can be run; with its types, and with the algorithms to which
-- it is lowered by its modes.
pub record IsSearchable (il : Il) (types : List SyntaxDef) (algos : Algos) : Type 0 where
  pub evaluable : IsEvaluable il types
  pub stable : IsStable il
  pub results : ResultsAreTyped il
  pub few : HasFew il
  pub rules : All (CanBeRun il) (rules_in il.defs)
  pub modes : Modes
  pub are_modes : AreModes il modes
  pub are_algorithms : AreLowered il modes algos

-- ---- relations

-- No rule of the relation has an `otherwise`, and none of a relation that it needs.
abbrev pub HasNoOtherwise : Il → Name → Type 0
HasNoOtherwise il relation =
    (other : Name) → (other ≡ relation) ⊎ NeedsRelation il relation other
    → All (λ (r : RuleDef). have_otherwise r.premises ≡ false) (rules_of il other)
