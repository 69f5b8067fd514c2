-- Goals that are reached: in a premise, and in one of several premises.
use Rattle.std.specs.Prelude.{◌≡◌, List, ◌∷◌, ◌++◌}
use Rattle.st_il.specs.declared.definition.Listed.{Listed}
use Rattle.st_il.specs.declared.expression.IlExp.{IlExp}
use Rattle.st_il.specs.declared.expression.IlPrem.{IlPrem, out-IlPrem}
use Rattle.st_il.specs.declared.expression.IlPrem.TheOpen.{IlPrem-F}
use Rattle.st_il.specs.declared.value.Env.{Env}
use Rattle.st_il.specs.declared.value.Value.{Value}
use Rattle.st_il.specs.Names.{Name}
use Rattle.st_semantics.specs.Directions.{inputs_of}
use Rattle.st_semantics.specs.Evaluation.{tasks}
use Rattle.st_semantics.specs.Holding.{HaveValues}
use Rattle.st_semantics.specs.Depth.{Setting}
use Rattle.st_semantics.specs.Reaching.{Reached, bound_behind, listed_behind}
use Rattle.st_semantics.specs.Goals.{Goal}
use Rattle.st_semantics.specs.Chains.{Reaches}

-- A premise that is met with these variables bound reaches a goal, by itself or inside of it, whose
-- inputs have the values of this one.
pub record AsksGoal (s : Setting) (bound : List Name) (ls : List Listed) (env : Env) (p : IlPrem)
    (next : Goal) : Type 0 where
  pub one : Env
  pub goal : IlPrem
  pub inside : Reaches s one goal bound ls env p
  pub holes : List IlExp
  pub is_goal : out-IlPrem goal ≡ IlPrem-F.Goal next.relation holes
  pub values : HaveValues s.meaning (tasks one (inputs_of s.il next.relation holes)) next.inputs

-- One of the premises is reached under the variables bound before it, and reaches that goal.
pub record AsksAmong (s : Setting) (ls : List Listed) (heads : List IlExp) (vs : List Value)
    (ps : List IlPrem) (next : Goal) : Type 0 where
  pub before : List IlPrem
  pub premise : IlPrem
  pub after : List IlPrem
  pub split : ps ≡ before ++ premise ∷ after
  pub env : Env
  pub reached : Reached s (listed_behind ls heads before) heads vs before env
  pub asks : AsksGoal s (bound_behind heads before) ls env premise next
