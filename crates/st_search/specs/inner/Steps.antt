-- What a step is to find: the ways in which its premise holds where some variables are bound.
use Rattle.std.specs.Prelude.{ℕ, List, [], ◌∷◌, ◌++◌}
use Rattle.st_il.specs.declared.definition.Il.{Il}
use Rattle.st_il.specs.declared.definition.Listed.{Listed}
use Rattle.st_il.specs.declared.expression.IlPrem.{IlPrem}
use Rattle.st_il.specs.declared.tree.Child.{Child}
use Rattle.st_il.specs.declared.value.Env.{Env}
use Rattle.st_il.specs.Names.{Name, without}
use Rattle.st_il.specs.Definitions.{syntaxes}
use Rattle.st_semantics.specs.Environments.{AgreeOn, TypedIn}
use Rattle.st_semantics.specs.Variables.{prem_vars}
use Rattle.st_semantics.specs.Holding.{Holds}
use Rattle.st_semantics.specs.Depth.{Setting, Meets}
use Rattle.st_semantics.specs.Calls.{has_value, has_value_at}
use Rattle.st_semantics.specs.Derivation.{Root, Proved, derived, excluded}
use Rattle.st_semantics.specs.RuleDepth.{in_rule}
use Rattle.st_semantics.specs.Chains.{excluded_at}
use Rattle.st_eval.specs.Steps.{HasOnly}
use Rattle.st_eval.specs.inner.Beside.{beside}
use Rattle.st_search.specs.declared.found.Solution.{Solution}
use Rattle.st_search.specs.inner.Asking.{AsksGoal}
use Rattle.st_search.specs.inner.Sought.{Sought}

-- where a premise of a rule is met at n, with this root
abbrev pub at_root : Il → ℕ → Root → Setting
at_root il n root = in_rule il n (excluded il root)

-- children stand for a premise under an environment, every value taken at n
abbrev pub StandFor : Il → ℕ → Root → Env → IlPrem → List Child → Type 0
StandFor il n root env p children =
    Proved il (has_value_at il n) (excluded_at il n) root ((env, p) ∷ []) children

-- What is found binds the variables of a premise beside those that were bound, so that it holds, and
-- its children stand for it.
pub record IsSolution (il : Il) (n : ℕ) (root : Root) (bound : List Name) (ls : List Listed)
    (env : Env) (p : IlPrem) (x : Solution) : Type 0 where
  pub agrees : AgreeOn bound env (beside env x.env)
  pub variables : HasOnly il ls (bound ++ prem_vars p) (beside env x.env)
  pub proved : StandFor il n root (beside env x.env) p x.children

-- Under an environment that has what was bound, and typed values of its other variables, a premise
-- holds.
pub record IsSought (il : Il) (root : Root) (bound : List Name) (ls : List Listed) (env : Env)
    (p : IlPrem) (more : Env) : Type 0 where
  pub agrees : AgreeOn bound env more
  pub typed : TypedIn (syntaxes il) ls (without bound (prem_vars p)) more
  pub holds : Holds (has_value il) (excluded il root) (derived il) more p

-- what is sought where a premise is met with these variables bound
abbrev pub step_seeks : Il → ℕ → Root → List Name → List Listed → Env → IlPrem
    → Sought Solution Env
step_seeks il n root bound ls env p = record {
  Right = IsSolution il n root bound ls env p;
  Wanted = IsSought il root bound ls env p;
  Is = λ x more. AgreeOn (bound ++ prem_vars p) (beside env x.env) more;
  Asked = AsksGoal (at_root il 0 root) bound ls env p;
  Deep = Meets (at_root il n root) bound ls env p;
}
