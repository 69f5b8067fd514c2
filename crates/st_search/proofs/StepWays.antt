-- A premise that can be run by a step, by the form of the step.
use Rattle.std.proofs.Common.{◌≡◌, ℕ, ◌+◌, All, sym, ◌∙◌, ap, subst, List, Bool, true, false}
use Rattle.st_il.specs.declared.definition.Il.{Il}
use Rattle.st_il.specs.declared.definition.Listed.{Listed}
use Rattle.st_il.specs.declared.expression.IlExp.{IlExp}
use Rattle.st_il.specs.declared.expression.IlPrem.{IlPrem, out-IlPrem, map-IlPrem, fold_out-IlPrem}
use Rattle.st_il.specs.declared.expression.IlPrem.TheOpen.{IlPrem-F}
use Rattle.st_il.specs.declared.expression.Iteration.{Iteration}
use Rattle.st_il.specs.Names.{Name, all_known}
use Rattle.st_il.specs.Definitions.{syntaxes}
use Rattle.st_semantics.specs.Directions.{inputs_of, outputs_of}
use Rattle.st_semantics.specs.Formed.{IsFormed}
use Rattle.st_semantics.specs.Variables.{vars, relations_cited, relations_cited_at, has_otherwise}
use Rattle.st_semantics.proofs.Acceptance.{otherwise-level}
use Rattle.st_algo.specs.declared.algorithm.AlgoStep.{AlgoStep, out-AlgoStep, map-AlgoStep, fold-AlgoStep, fold_out-AlgoStep}
use Rattle.st_algo.specs.declared.algorithm.AlgoStep.TheOpen.{AlgoStep-F}
use Rattle.st_eval.specs.Meeting.{IsEquation}
use Rattle.st_search.specs.inner.RunBy as run
use Rattle.st_search.specs.inner.RunBy.{IsJudged, IsRunBy, IsLoopOf}
use Rattle.st_search.specs.inner.Rules.{CanBeSearched, IsSearchedIn}
use Rattle.st_search.specs.inner.Contracts.{IsGoalOf}

module _ (il : Il) (bound : List Name) (ls : List Listed) (p : IlPrem) (step : AlgoStep) where
  -- a test
  abbrev pub IsTestOf : IlExp → Type 0
  IsTestOf e = (out-IlPrem p ≡ IlPrem-F.If e) × (all_known bound (vars e) ≡ true) × IsFormed (syntaxes il) e

  pub run_test : IsRunBy il bound ls p step → (e : IlExp) → out-AlgoStep step ≡ AlgoStep-F.Test e → IsTestOf e
  run_test (run.test g is stepped known formed) e out =
      let both : AlgoStep-F.Test g ≡ AlgoStep-F.Test e = sym stepped ∙ out in
      let same : g ≡ e = cc in
      subst IsTestOf same (is, known, formed)
  run_test (run.binds g side pattern is stepped equation) e out = let bad : AlgoStep-F.Let pattern side ≡ AlgoStep-F.Test e = sym stepped ∙ out in cc
  run_test (run.goal relation es is stepped judged) e out = let bad : AlgoStep-F.Goal relation (inputs_of il relation es) (outputs_of il relation es) ≡ AlgoStep-F.Test e = sym stepped ∙ out in cc
  run_test (run.otherwise is stepped) e out = let bad : AlgoStep-F.Otherwise ≡ AlgoStep-F.Test e = sym stepped ∙ out in cc
  run_test (run.each how xs body inner stepped iterated inside) e out = let bad : AlgoStep-F.Loop how xs inner ≡ AlgoStep-F.Test e = sym stepped ∙ out in cc

  -- an equation
  abbrev pub IsEquationOf : IlExp → IlExp → Type 0
  IsEquationOf pattern side = (e : IlExp) × (out-IlPrem p ≡ IlPrem-F.If e) × IsEquation il bound ls e side pattern

  pub run_let : IsRunBy il bound ls p step → (pattern side : IlExp) → out-AlgoStep step ≡ AlgoStep-F.Let pattern side → IsEquationOf pattern side
  run_let (run.test g is stepped known formed) pattern side out = let bad : AlgoStep-F.Test g ≡ AlgoStep-F.Let pattern side = sym stepped ∙ out in cc
  run_let (run.binds g side' pattern' is stepped equation) pattern side out =
      let both : AlgoStep-F.Let pattern' side' ≡ AlgoStep-F.Let pattern side = sym stepped ∙ out in
      let first : pattern' ≡ pattern = cc in
      let second : side' ≡ side = cc in
      subst (λ z. IsEquationOf z side) first (subst (λ z. IsEquationOf pattern' z) second (g, is, equation))
  run_let (run.goal relation es is stepped judged) pattern side out = let bad : AlgoStep-F.Goal relation (inputs_of il relation es) (outputs_of il relation es) ≡ AlgoStep-F.Let pattern side = sym stepped ∙ out in cc
  run_let (run.otherwise is stepped) pattern side out = let bad : AlgoStep-F.Otherwise ≡ AlgoStep-F.Let pattern side = sym stepped ∙ out in cc
  run_let (run.each how xs body inner stepped iterated inside) pattern side out = let bad : AlgoStep-F.Loop how xs inner ≡ AlgoStep-F.Let pattern side = sym stepped ∙ out in cc

  -- a goal
  pub run_goal : IsRunBy il bound ls p step → (relation : Name) (ins outs : List IlExp) → out-AlgoStep step ≡ AlgoStep-F.Goal relation ins outs → IsGoalOf il bound ls p relation ins outs
  run_goal (run.test g is stepped known formed) relation ins outs out = let bad : AlgoStep-F.Test g ≡ AlgoStep-F.Goal relation ins outs = sym stepped ∙ out in cc
  run_goal (run.binds g side pattern is stepped equation) relation ins outs out = let bad : AlgoStep-F.Let pattern side ≡ AlgoStep-F.Goal relation ins outs = sym stepped ∙ out in cc
  run_goal (run.goal name es is stepped judged) relation ins outs out =
      let both : AlgoStep-F.Goal name (inputs_of il name es) (outputs_of il name es) ≡ AlgoStep-F.Goal relation ins outs = sym stepped ∙ out in
      let one : name ≡ relation = cc in
      let two : inputs_of il name es ≡ ins = cc in
      let three : outputs_of il name es ≡ outs = cc in
      subst (λ z. IsGoalOf il bound ls p z ins outs) one (record { es = es; is = is; ins_are = sym two; outs_are = sym three; judged = judged })
  run_goal (run.otherwise is stepped) relation ins outs out = let bad : AlgoStep-F.Otherwise ≡ AlgoStep-F.Goal relation ins outs = sym stepped ∙ out in cc
  run_goal (run.each how xs body inner stepped iterated inside) relation ins outs out = let bad : AlgoStep-F.Loop how xs inner ≡ AlgoStep-F.Goal relation ins outs = sym stepped ∙ out in cc

  -- a loop
  abbrev pub IsLoopBy : Iteration → List Name → AlgoStep → Type 0
  IsLoopBy how xs inner = (body : IlPrem) × IsLoopOf il bound ls p how xs body inner

  pub run_loop : IsRunBy il bound ls p step → (how : Iteration) (xs : List Name) (inner : AlgoStep) → out-AlgoStep step ≡ AlgoStep-F.Loop how xs inner → IsLoopBy how xs inner
  run_loop (run.test g is stepped known formed) how xs inner out = let bad : AlgoStep-F.Test g ≡ AlgoStep-F.Loop how xs inner = sym stepped ∙ out in cc
  run_loop (run.binds g side pattern is stepped equation) how xs inner out = let bad : AlgoStep-F.Let pattern side ≡ AlgoStep-F.Loop how xs inner = sym stepped ∙ out in cc
  run_loop (run.goal relation es is stepped judged) how xs inner out = let bad : AlgoStep-F.Goal relation (inputs_of il relation es) (outputs_of il relation es) ≡ AlgoStep-F.Loop how xs inner = sym stepped ∙ out in cc
  run_loop (run.otherwise is stepped) how xs inner out = let bad : AlgoStep-F.Otherwise ≡ AlgoStep-F.Loop how xs inner = sym stepped ∙ out in cc
  run_loop (run.each how' xs' body inner' stepped iterated inside) how xs inner out =
      let both : AlgoStep-F.Loop how' xs' inner' ≡ AlgoStep-F.Loop how xs inner = sym stepped ∙ out in
      let one : how' ≡ how = cc in
      let two : xs' ≡ xs = cc in
      let three : inner' ≡ inner = cc in
      subst (λ z. IsLoopBy how xs z) three (subst (λ z. IsLoopBy how z inner') two (subst (λ z. IsLoopBy z xs' inner') one (body, record { each = iterated; inside = inside })))

  not_both : (b : Bool) → b ≡ true → b ≡ false → ⊥
  not_both true e f = cc
  not_both false e f = cc

  -- the first step of a rule and its last one run no premise
  pub run_match : IsRunBy il bound ls p step → (ins : List IlExp) → out-AlgoStep step ≡ AlgoStep-F.Match ins → ⊥
  run_match (run.test g is stepped known formed) ins out = let bad : AlgoStep-F.Test g ≡ AlgoStep-F.Match ins = sym stepped ∙ out in cc
  run_match (run.binds g side pattern is stepped equation) ins out = let bad : AlgoStep-F.Let pattern side ≡ AlgoStep-F.Match ins = sym stepped ∙ out in cc
  run_match (run.goal relation es is stepped judged) ins out = let bad : AlgoStep-F.Goal relation (inputs_of il relation es) (outputs_of il relation es) ≡ AlgoStep-F.Match ins = sym stepped ∙ out in cc
  run_match (run.otherwise is stepped) ins out = let bad : AlgoStep-F.Otherwise ≡ AlgoStep-F.Match ins = sym stepped ∙ out in cc
  run_match (run.each how xs body inner stepped iterated inside) ins out = let bad : AlgoStep-F.Loop how xs inner ≡ AlgoStep-F.Match ins = sym stepped ∙ out in cc

  pub run_give : IsRunBy il bound ls p step → (outs : List IlExp) → out-AlgoStep step ≡ AlgoStep-F.Give outs → ⊥
  run_give (run.test g is stepped known formed) outs out = let bad : AlgoStep-F.Test g ≡ AlgoStep-F.Give outs = sym stepped ∙ out in cc
  run_give (run.binds g side pattern is stepped equation) outs out = let bad : AlgoStep-F.Let pattern side ≡ AlgoStep-F.Give outs = sym stepped ∙ out in cc
  run_give (run.goal relation es is stepped judged) outs out = let bad : AlgoStep-F.Goal relation (inputs_of il relation es) (outputs_of il relation es) ≡ AlgoStep-F.Give outs = sym stepped ∙ out in cc
  run_give (run.otherwise is stepped) outs out = let bad : AlgoStep-F.Otherwise ≡ AlgoStep-F.Give outs = sym stepped ∙ out in cc
  run_give (run.each how xs body inner stepped iterated inside) outs out = let bad : AlgoStep-F.Loop how xs inner ≡ AlgoStep-F.Give outs = sym stepped ∙ out in cc

  -- no premise that is searched in is an `otherwise`
  pub run_otherwise : IsRunBy il bound ls p step → IsSearchedIn il p → out-AlgoStep step ≡ AlgoStep-F.Otherwise → ⊥
  run_otherwise (run.test g is stepped known formed) searched out = let bad : AlgoStep-F.Test g ≡ AlgoStep-F.Otherwise = sym stepped ∙ out in cc
  run_otherwise (run.binds g side pattern is stepped equation) searched out = let bad : AlgoStep-F.Let pattern side ≡ AlgoStep-F.Otherwise = sym stepped ∙ out in cc
  run_otherwise (run.goal relation es is stepped judged) searched out = let bad : AlgoStep-F.Goal relation (inputs_of il relation es) (outputs_of il relation es) ≡ AlgoStep-F.Otherwise = sym stepped ∙ out in cc
  run_otherwise (run.otherwise is stepped) searched out = not_both (has_otherwise p) (otherwise-level p IlPrem-F.Otherwise is) searched.plain
  run_otherwise (run.each how xs body inner stepped iterated inside) searched out = let bad : AlgoStep-F.Loop how xs inner ≡ AlgoStep-F.Otherwise = sym stepped ∙ out in cc

-- what is searched in an iterated premise is searched in what it repeats
pub searched_inside : (il : Il) (p : IlPrem) (how : Iteration) (xs : List Name) (body : IlPrem) → out-IlPrem p ≡ IlPrem-F.Each how xs body → IsSearchedIn il p → IsSearchedIn il body
searched_inside il p how xs body is searched =
    let cited : relations_cited p ≡ relations_cited body = fold_out-IlPrem (List Name) relations_cited_at p ∙ ap (λ z. relations_cited_at (map-IlPrem IlPrem (List Name) relations_cited z)) is in
    record { cited = subst (All (CanBeSearched il)) cited searched.cited; plain = sym (otherwise-level p (IlPrem-F.Each how xs body) is) ∙ searched.plain }

-- ---- how high a step is

-- the height of a level of steps, where what it repeats has this height
abbrev pub step_height_at : AlgoStep-F ℕ → ℕ
step_height_at (AlgoStep-F.Loop how xs h) = 3 + h
step_height_at _ = 0

-- how high a step is, by which the recursion over steps ends
abbrev pub step_height : AlgoStep → ℕ
step_height = fold-AlgoStep ℕ step_height_at

pub step_height-loop : (step : AlgoStep) (how : Iteration) (xs : List Name) (inner : AlgoStep) → out-AlgoStep step ≡ AlgoStep-F.Loop how xs inner → step_height step ≡ 3 + step_height inner
step_height-loop step how xs inner is = fold_out-AlgoStep ℕ step_height_at step ∙ ap (λ z. step_height_at (map-AlgoStep AlgoStep ℕ step_height z)) is
