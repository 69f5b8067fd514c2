-- Which steps can be taken where some variables are bound, and what is bound by them.
use Rattle.std.specs.Prelude.{Bool, true, ◌&&◌, List, [], ◌∷◌, ◌++◌}
use Rattle.std.specs.List.{list_all}
use Rattle.st_il.specs.declared.expression.Iteration.{Iteration}
use Rattle.st_il.specs.Names.{Name, all_known, without}
use Rattle.st_semantics.specs.Iterations.{count_of, index_of}
use Rattle.st_semantics.specs.Variables.{vars, vars_of}
use Rattle.st_semantics.specs.Patterns.{bound_by}
use Rattle.st_semantics.specs.Executable.{is_matched, is_met, is_anchored, is_countable}
use Rattle.st_semantics.specs.Orders.{are_inputs}
use Rattle.st_algo.specs.declared.algorithm.AlgoStep.{AlgoStep, fold-AlgoStep}
use Rattle.st_algo.specs.declared.algorithm.AlgoStep.TheOpen.{AlgoStep-F}

-- what is told of a step: its variables, all of which are bound once it is taken; and whether it
-- can be taken where some are bound
pub record Taking : Type 0 where
  pub vars : List Name
  pub can : List Name → Bool

-- The number of its elements is known, a count that is not bound is met by it, each variable inside
-- that is not iterated is bound, and the step inside can be taken with what is bound and the index.
abbrev pub can_loop : List Name → Iteration → List Name → Taking → Bool
can_loop bound how xs body =
    is_anchored bound how xs && list_all (is_countable bound) (count_of how)
    && all_known bound (without xs (without (index_of how) body.vars))
    && body.can (index_of how ++ bound)

-- The inputs are patterns that bind their variables, or closed. A test has its variables bound. The
-- second side of a `Let` has its variables bound, and the first one is a pattern that binds the
-- others. The inputs of a goal have theirs bound, and each of its outputs can be met. What is given
-- has its variables bound.
abbrev pub taking_at : AlgoStep-F Taking → Taking
taking_at (AlgoStep-F.Match ins) = record { vars = vars_of ins; can = λ bound. are_inputs ins }
taking_at (AlgoStep-F.Test e) = record { vars = vars e; can = λ bound. all_known bound (vars e) }
taking_at (AlgoStep-F.Let pattern e) = record {
  vars = vars pattern ++ vars e;
  can = λ bound. is_matched bound e pattern;
}
taking_at (AlgoStep-F.Goal relation ins outs) = record {
  vars = vars_of ins ++ vars_of outs;
  can = λ bound.
      all_known bound (vars_of ins) && list_all (is_met bound (bound ++ bound_by outs)) outs;
}
taking_at (AlgoStep-F.Loop how xs body) = record {
  vars = vars_of (count_of how) ++ xs ++ without (index_of how) body.vars;
  can = λ bound. can_loop bound how xs body;
}
taking_at AlgoStep-F.Otherwise = record { vars = []; can = λ bound. true }
taking_at (AlgoStep-F.Give outs) = record {
  vars = vars_of outs;
  can = λ bound. all_known bound (vars_of outs);
}

-- what is told of a step
abbrev pub taking_of : AlgoStep → Taking
taking_of = fold-AlgoStep Taking taking_at

-- the variables of a step
abbrev pub step_vars : AlgoStep → List Name
step_vars s = (taking_of s).vars

-- a step can be taken where these variables are bound
abbrev pub can_take : List Name → AlgoStep → Bool
can_take bound s = (taking_of s).can bound

-- The steps can be taken one after another, where these variables are bound at first.
abbrev pub can_take_all : List Name → List AlgoStep → Bool
can_take_all bound [] = true
can_take_all bound (s ∷ ss) = can_take bound s && can_take_all (bound ++ step_vars s) ss
