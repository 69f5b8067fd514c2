-- The laws of algorithms, as statements: each is a clause of `steps_can_be_taken`.
use Rattle.std.specs.Prelude.{◌≡◌, ℕ, Bool, true, nat_eq, List, [], length, All, Option, IfSome}
use Rattle.std.specs.List.{list_all}
use Rattle.st_il.specs.declared.definition.ClauseDef.{ClauseDef}
use Rattle.st_il.specs.declared.definition.Il.{Il}
use Rattle.st_il.specs.declared.definition.RuleDef.{RuleDef}
use Rattle.st_il.specs.declared.expression.IlPrem.{IlPrem, fold-IlPrem}
use Rattle.st_il.specs.declared.expression.IlPrem.TheOpen.{IlPrem-F}
use Rattle.st_il.specs.Definitions.{rules_in, clauses_in}
use Rattle.st_semantics.specs.Directions.{mask}
use Rattle.st_semantics.specs.ModeRules.{keeps_m3, keeps_m4, keeps_m6}
use Rattle.st_semantics.specs.Orders.{is_order}
use Rattle.st_semantics.specs.Breaches.{KeepModes}
use Rattle.st_order.specs.declared.relation_modes.Modes.{Modes}
use Rattle.st_order.specs.Modes.{AreModes}
use Rattle.st_algo.specs.declared.algorithm.Algorithm.{Algorithm}
use Rattle.st_algo.specs.declared.algorithm.Algos.{Algos}
use Rattle.st_algo.specs.Lowered.{rule_algorithm, clause_algorithm, AreLowered}
use Rattle.st_algo.specs.Taken.{can_take_all}

-- a goal in a level of premises has an expression for each hole of its relation
abbrev pub goal_fits_at : Il → IlPrem-F Bool → Bool
goal_fits_at il (IlPrem-F.If e) = true
goal_fits_at il (IlPrem-F.Goal relation es) = nat_eq (length es) (length (mask il relation))
goal_fits_at il IlPrem-F.Otherwise = true
goal_fits_at il (IlPrem-F.Each how xs body) = body

-- a premise that is a goal, iterated or not, has an expression for each hole of its relation
abbrev pub goal_fits : Il → IlPrem → Bool
goal_fits il = fold-IlPrem Bool (goal_fits_at il)

-- all goals of rules and clauses have, as typing asks
pub record GoalsFit (il : Il) : Type 0 where
  pub rules : All (λ (r : RuleDef). list_all (goal_fits il) r.premises ≡ true) (rules_in il.defs)
  pub clauses : All (λ (c : ClauseDef). list_all (goal_fits il) c.premises ≡ true)
      (clauses_in il.defs)

-- the steps of an algorithm can be taken one after another, where nothing is bound at first
abbrev pub CanBeTaken : Algorithm → Type 0
CanBeTaken algorithm = can_take_all [] algorithm.steps ≡ true

-- The steps of a rule in an executable order can be taken one after another.
abbrev pub LawOfRules : Type 0
LawOfRules =
    (il : Il) (rule : RuleDef) (order : List ℕ) → list_all (goal_fits il) rule.premises ≡ true
    → is_order il rule order ≡ true → CanBeTaken (rule_algorithm il rule order)

-- So can those of a clause that keeps the rules M3, M4 and M6.
abbrev pub LawOfClauses : Type 0
LawOfClauses =
    (il : Il) (c : ClauseDef) → list_all (goal_fits il) c.premises ≡ true → keeps_m3 il c ≡ true
    → keeps_m4 il c ≡ true → keeps_m6 c ≡ true → CanBeTaken (clause_algorithm il c)

-- Where the rules M1 to M7 are kept and all goals fit, the steps of all algorithms to which an
-- internal language is lowered by its modes can be taken one after another.
abbrev pub LawOfLowering : Type 0
LawOfLowering =
    (il : Il) (modes : Modes) (algos : Algos) → KeepModes il → GoalsFit il → AreModes il modes
    → AreLowered il modes algos
    → All (All (λ (a : Option Algorithm). IfSome a CanBeTaken)) algos.relations
    × All (All CanBeTaken) algos.funs
